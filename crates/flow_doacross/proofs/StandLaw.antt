-- Doacross nests where they stand, in the tree from which their lines are left out.
use Rattle.std.specs.Prelude.{ℕ, Bool, true, not, ◌≡◌, List, [], ◌∷◌, ◌++◌, Option, Some, None}
use Rattle.std.specs.List.{list_all}
use Rattle.std.proofs.Common.{sym, ap, ◌∙◌, subst}
use Rattle.semantics.specs.Tree.{Stmt, Assign, Update, If, IfElse, For, Block, Print, Items, no_items, mark, local, stmt, Kernel}
use Rattle.semantics.specs.Source.Text.{line_at}
use Rattle.semantics.specs.Loops.Nest.{Loop}
use Rattle.semantics.specs.Loops.Order.{Distance, is_ahead}
use Rattle.semantics.specs.Directives.Directive.{Schedule}
use Rattle.law_commute.proofs.Values.{first_of, second_of}
use Rattle.law_lines.specs.Without.{without_in, without_among}
use Rattle.pragma.specs.Clauses.{ReadsLoop}
use Rattle.pragma.specs.Parallel.{associated, LoopsHave}
use Rattle.pragma.specs.Plain.{IsPlainLoop}
use Rattle.pragma_named.specs.Known.{Lines}
use Rattle.pragma_region.specs.Regions.{is_doacross_line, is_left_out, alone}
use Rattle.flow.specs.Roles.{AskedByLine, LoopsHaveBy}
use Rattle.flow.proofs.AskedLaw.{AskedBehind, Stand, all_stand, end_stands, line_stands, local_stands, statement_stands, loop_stands}
use Rattle.nest_lines.specs.Lines.{line_before}
use Rattle.flow_doacross.specs.Nests.{is_doacross_nest, nest_by, nest_behind, nests_in, nests_among}
use Rattle.flow_doacross.specs.Listed.{nest_at, doacross_of}
use Rattle.flow_doacross.specs.Laws.{HasNest, NestThere, NestsStandAlone}
use Rattle.flow_doacross.proofs.WithoutLaw.{nest_kept, silent_kept}
use Rattle.flow_doacross.proofs.NestIs.{as_many, nest_is}
use Rattle.flow_doacross.proofs.AheadLaw.{IsTold, are_told}

module _ (text : List ℕ) (lines : Lines) (k : Kernel) where
  abbrev out : ℕ → Bool
  out n = is_left_out text n

  abbrev left : Items → Items
  left items = without_among out items

  abbrev there : AskedByLine
  there = NestThere text lines k

  -- a nest
  nest_there : (n d : ℕ) (j : Option Schedule) (c : Option ℕ) (s : Stmt) (sinks : List Distance) → is_doacross_nest text n d (lines n) s ≡ true → ReadsLoop (line_at text n) j c
      → list_all is_ahead sinks ≡ true → HasNest lines n sinks (associated c) (without_in out s)
  nest_there n d j c s sinks h r ahead =
      let found = nest_is text n d (lines n) s h in
      subst (λ m. HasNest lines n sinks m (without_in out s)) (sym (as_many text n d j c r found.many))
      (record {
        suits = found.suits;
        loops = found.loops;
        body = without_in out (Block found.items);
        nest = nest_kept out d s found.loops (Block found.items) found.nest;
        count_up = found.count_up;
        silent = silent_kept out (Block found.items) ∙ found.silent;
        ahead = ahead;
      })

  -- a loop behind a line
  asked_loop : (n : ℕ) (serial : List Loop) (s : Stmt) (told : (sinks : List Distance) → nest_at (doacross_of text lines k) n ≡ Some sinks → IsTold lines n sinks)
      → nest_behind text lines (Some n) s (nests_in text lines s) ≡ true → AskedBehind text there n serial (without_in out s)
  asked_loop n serial s told h j c r sinks e =
      let is = told sinks e in
      nest_there n is.loops j c s sinks (sym (ap (λ o. nest_by text n o (lines n) s (nests_in text lines s)) is.ordered) ∙ h) r is.ahead

  -- what is told of a line is so
  abbrev AllTold : Type 0
  AllTold = (n : ℕ) (sinks : List Distance) → nest_at (doacross_of text lines k) n ≡ Some sinks → IsTold lines n sinks

  module _ (told : AllTold) where
    mutual
      stand_in : (serial : List Loop) (s : Stmt) → nests_in text lines s ≡ true → LoopsHave text IsPlainLoop serial (without_in out s) → LoopsHaveBy text there serial (without_in out s)
      stand_in serial (Assign x is e) h p = tt
      stand_in serial (Update x is op e) h p = tt
      stand_in serial (If c a) h p = stand_in serial a h p
      stand_in serial (IfElse c a b) h p = (
        stand_in serial a (first_of (nests_in text lines a) (nests_in text lines b) h) p.0,
        stand_in serial b (second_of (nests_in text lines a) (nests_in text lines b) h) p.1,
      )
      stand_in serial (For x name start test step body) h p = stand_in (serial ++ record { variable = x; start = start; test = test; step = step } ∷ []) body h p
      stand_in serial (Block items) h p = all_stand text there serial (left items) (stand_among serial None items h) p
      stand_in serial (Print parts) h p = tt

      stand_among : (serial : List Loop) (before : Option ℕ) (items : Items) → nests_among text lines before items ≡ true → Stand text there serial before (left items)
      stand_among serial before no_items h = end_stands text there serial before
      stand_among serial before (mark n rest) h =
          let next = line_before text before n in
          line_stands text there serial before n (left rest) (out n) (stand_among serial next rest (second_of (not (is_doacross_line text n)) (nests_among text lines next rest) h))
      stand_among serial before (local x name start rest) h = local_stands text there serial before x name start (left rest) (stand_among serial None rest h)
      stand_among serial None (stmt s rest) h =
          let mine = nests_in text lines s in
          let others = nests_among text lines None rest in
          statement_stands text there serial (without_in out s) (left rest) (stand_in serial s (first_of mine others h)) (stand_among serial None rest (second_of mine others h))
      stand_among serial (Some n) (stmt s rest) h =
          let mine = nest_behind text lines (Some n) s (nests_in text lines s) in
          let others = nests_among text lines None rest in
          loop_stands text there n serial (without_in out s) (left rest) (asked_loop n serial s (told n) (first_of mine others h)) (stand_among serial None rest (second_of mine others h))

pub stand_alone : NestsStandAlone
stand_alone text lines k h p = all_stand text (NestThere text lines k) [] (alone text k).body (stand_among text lines k (are_told text lines k h) [] None k.body h) p
