-- The doacross nests of a kernel that has passed, line by line.
use Rattle.std.specs.Prelude.{ℕ, Bool, true, false, ◌≡◌, ◌==◌, if◌then◌else◌, List, [], ◌∷◌, flat_map, Some}
use Rattle.std.specs.List.{list_all}
use Rattle.std.proofs.Common.{refl, sym, ◌∙◌, subst}
use Rattle.std.proofs.lemmas.Bool.{true≢false}
use Rattle.std.proofs.lemmas.Option.{same_Some}
use Rattle.semantics.specs.Tree.{Variable, Stmt, Items, Kernel}
use Rattle.semantics.specs.Loops.Nest.{Loop}
use Rattle.semantics.specs.Directives.Directive.{Clause, DefaultShared, DefaultNone, Shared, Private, Firstprivate, Lastprivate, LastConditional, Reduction, Inscan, ScheduledBy, Collapse, Ordered, OrderedLoops, Nowait}
use Rattle.semantics.specs.Directives.Clauses.{last_of, reduction_of, inscan_of}
use Rattle.pragma_named.specs.Known.{Lines}
use Rattle.flow.specs.Roles.{LineData, line_data, ItemsHaveBy}
use Rattle.flow_doacross.specs.Lines.{suits_doacross}
use Rattle.flow_doacross.specs.Nests.{counts_up}
use Rattle.flow_doacross.specs.Listed.{NestPart, nest_at, doacross_of}
use Rattle.flow_doacross.specs.Laws.{NestThere}
use Rattle.deptest_verdict.specs.Sinks.{sinks_at}
use Rattle.law_independence.specs.Said.{LinesInside, listed}
use Rattle.law_doacross.specs.Covering.{CountUpBy}
use Rattle.law_doacross.specs.Waving.{SuitBy}
use Rattle.deptest.proofs.Phased.{items_both}

-- what is told of a line's sinks
pub sinks_said : (parts : List NestPart) (line : ℕ) → sinks_at parts line ≡ listed (nest_at parts line)
sinks_said [] line = refl
sinks_said (p ∷ ps) line = at (p.line == line) (sinks_said ps line)
  where
    at : (b : Bool) → sinks_at ps line ≡ listed (nest_at ps line) → (if b then p.distances else sinks_at ps line) ≡ listed (if b then Some p.distances else nest_at ps line)
    at true rest = refl
    at false rest = rest

-- ---- clauses

-- clauses that go with `ordered(n)` reduce nothing, carry nothing and give no last value
record HaveNoRoles (cs : List (Clause Variable)) : Type 0 where
  lasts : flat_map last_of cs ≡ []
  reductions : flat_map reduction_of cs ≡ []
  carried : flat_map inscan_of cs ≡ []

no_roles : (cs : List (Clause Variable)) → list_all suits_doacross cs ≡ true → HaveNoRoles cs
no_roles [] h = record { lasts = refl; reductions = refl; carried = refl }
no_roles (DefaultShared ∷ cs) h = let r = no_roles cs h in record { lasts = r.lasts; reductions = r.reductions; carried = r.carried }
no_roles (DefaultNone ∷ cs) h = let r = no_roles cs h in record { lasts = r.lasts; reductions = r.reductions; carried = r.carried }
no_roles (Shared xs ∷ cs) h = let r = no_roles cs h in record { lasts = r.lasts; reductions = r.reductions; carried = r.carried }
no_roles (Private xs ∷ cs) h = let r = no_roles cs h in record { lasts = r.lasts; reductions = r.reductions; carried = r.carried }
no_roles (Firstprivate xs ∷ cs) h = let r = no_roles cs h in record { lasts = r.lasts; reductions = r.reductions; carried = r.carried }
no_roles (Lastprivate xs ∷ cs) h = absurd (true≢false (sym h))
no_roles (LastConditional xs ∷ cs) h = absurd (true≢false (sym h))
no_roles (Reduction op xs ∷ cs) h = absurd (true≢false (sym h))
no_roles (Inscan op x ∷ cs) h = absurd (true≢false (sym h))
no_roles (ScheduledBy k ∷ cs) h = let r = no_roles cs h in record { lasts = r.lasts; reductions = r.reductions; carried = r.carried }
no_roles (Collapse c ∷ cs) h = absurd (true≢false (sym h))
no_roles (Ordered ∷ cs) h = let r = no_roles cs h in record { lasts = r.lasts; reductions = r.reductions; carried = r.carried }
no_roles (OrderedLoops n ∷ cs) h = let r = no_roles cs h in record { lasts = r.lasts; reductions = r.reductions; carried = r.carried }
no_roles (Nowait ∷ cs) h = let r = no_roles cs h in record { lasts = r.lasts; reductions = r.reductions; carried = r.carried }

-- ---- nests

module _ (text : List ℕ) (lines : Lines) (tree : Kernel) (P : LinesInside) (said : (line : ℕ) → (P line).sinks ≡ nest_at (doacross_of text lines tree) line) where
  module _ (files : ℕ) where
    abbrev R : LineData
    R line = line_data files (lines line)

    suits : (line : ℕ) (serial : List Loop) (n : ℕ) (s : Stmt) → NestThere text lines tree line serial n s → SuitBy R P line serial n s
    suits line serial n s there sinks told =
        let its = there sinks (sym (said line) ∙ told) in
        let none = no_roles (lines line) its.suits in
        record { loops = its.loops; body = its.body; nest = its.nest; up = its.count_up; silent = its.silent; ahead = its.ahead; no_lasts = none.lasts; no_reductions = none.reductions; none_carried = none.carried }

    all_suit_so : (items : Items) → ItemsHaveBy text (NestThere text lines tree) [] items → ItemsHaveBy text (SuitBy R P) [] items
    all_suit_so items there = items_both text (NestThere text lines tree) (NestThere text lines tree) (SuitBy R P) (λ line serial n s a b. suits line serial n s a) [] items there there

  counts : (line : ℕ) (serial : List Loop) (n : ℕ) (s : Stmt) → NestThere text lines tree line serial n s → CountUpBy P line serial n s
  counts line serial n s there sinks told loops body nest =
      let its = there sinks (sym (said line) ∙ told) in
      subst (λ (p : List Loop × Stmt). list_all counts_up p.0 ≡ true) (same_Some (its.loops, its.body) (loops, body) (sym its.nest ∙ nest)) its.count_up

  pub all_count_up : (items : Items) → ItemsHaveBy text (NestThere text lines tree) [] items → ItemsHaveBy text (CountUpBy P) [] items
  all_count_up items there = items_both text (NestThere text lines tree) (NestThere text lines tree) (CountUpBy P) (λ line serial n s a b. counts line serial n s a) [] items there there

pub all_suit : (text : List ℕ) (lines : Lines) (files : ℕ) (tree : Kernel) (P : LinesInside) → ((line : ℕ) → (P line).sinks ≡ nest_at (doacross_of text lines tree) line) → (items : Items)
    → ItemsHaveBy text (NestThere text lines tree) [] items → ItemsHaveBy text (SuitBy (λ line. line_data files (lines line)) P) [] items
all_suit text lines files tree P said items there = all_suit_so text lines tree P said files items there
