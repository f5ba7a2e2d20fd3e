-- The parallel loops of a kernel in order of place, up to the one that is refused: those before it are independent, or ordered by their sinks.
use Rattle.std.specs.Prelude.{ℕ, ◌≤◌, List, [], ◌∷◌, ◌++◌, Option}
use Rattle.std.proofs.Common.{refl, sym, inl, inr, subst}
use Rattle.semantics.specs.Tree.{Stmt, Assign, Update, If, IfElse, For, Block, Print, Items, no_items, mark, local, stmt, Declaration}
use Rattle.semantics.specs.Source.Text.{line_at}
use Rattle.semantics.specs.Loops.Nest.{Loop}
use Rattle.law_lines.proofs.Kept.{kept_lines_are_read}
use Rattle.ktree.specs.declared.refusal.Refusal.{Refusal}
use Rattle.affine.specs.declared.interval.Interval.{Interval}
use Rattle.nest_loop.specs.Loops.{inside}
use Rattle.nest_loop.proofs.Laws.{loop_is_unique}
use Rattle.pairtest_counter.specs.Levels.{Nesting}
use Rattle.nest.specs.Nests.{Has, Have, StaysInside}
use Rattle.nest.specs.Perfect.{RightNestFirst, LineNests, Nests, ItemsNest}
use Rattle.pragma.specs.Parallel.{associated, FirstHas, LineHas}
use Rattle.pragma.proofs.LoopLaw.{read_once}
use Rattle.deptest_verdict.specs.Shown.{no_loops}
use Rattle.deptest_verdict.specs.Refused.{RefusedFirst, LineRefused, LoopsRefused, ItemsRefused}
use Rattle.law_turns.specs.Turns.{AreEntered}
use Rattle.law_turns.proofs.Laws.{entered_join}
use Rattle.flow.specs.Roles.{LoopsHaveBy, ItemsHaveBy}
use Rattle.law_independence.specs.Inside.{LoopsAreRead, ItemsAreRead, HaveShort}
use Rattle.law_independence.specs.Said.{LinesInside, sinks_in}
use Rattle.law_independence.proofs.Links.{one_entered}
use Rattle.law_independence.proofs.Associated.{at_most_four}
use Rattle.law_independence.proofs.IndependentNests.{body_there}
use Rattle.law_independence.proofs.Grammar.{decls_small, decls_short, items_read}
use Rattle.law_independence.specs.Parallel.{FirstLoopHasBy, FirstItemHasBy}
use Rattle.law_independence.proofs.RefusedNests.{loop_is_told}
use Rattle.law_doacross.specs.Covering.{CountUpBy, OrderedBy}
use Rattle.law_doacross.specs.Telling.{ToldBy, RefusalsAreTold}
use Rattle.law_doacross.proofs.CoveredKernels.{line_ordered, loops_ordered}

module _ (text : List ℕ) (ds : List Declaration) (P : LinesInside) (r : Refusal) (short : HaveShort ds) where
  first_told : (round : Nesting) (serial : List Loop) (line n : ℕ) (items : Items) → n ≤ 4 → AreEntered no_loops serial round → ItemsAreRead round.box items → Have (StaysInside ds) round.box items
      → RightNestFirst round.box n items → RefusedFirst ds round (sinks_in P line) n items r → FirstHas (ToldBy ds P r line) serial n items
  first_told round serial line n no_items four entered read has right refused = right
  first_told round serial line n (mark m rest) four entered read has right refused = right
  first_told round serial line n (local x name start rest) four entered read has right refused = right
  first_told round serial line n (stmt s rest) four entered read has right refused = loop_is_told ds short r (sinks_in P line) serial round n s four entered read.0 has.0 right refused

  line_told : (round : Nesting) (serial : List Loop) (line : ℕ) (items : Items) → AreEntered no_loops serial round → ItemsAreRead round.box items → Have (StaysInside ds) round.box items
      → LineNests text round.box line items → LineRefused text (sinks_in P) ds round line items r → LineHas text (ToldBy ds P r line) serial line items
  line_told round serial line items entered read has (m, d, reads', right) (inl (names, none)) = absurd (none m d reads')
  line_told round serial line items entered read has (m, d, reads', right) (inr (k, e, reads, refused)) =
      let same = (read_once (line_at text line) m d k e reads' reads).1 in
      (k, e, reads, first_told round serial line (associated e) items (at_most_four (line_at text line) k e reads) entered read has (subst (λ (o : Option ℕ). RightNestFirst round.box (associated o) items) same right) refused)

  mutual
    loops_told : (s : Stmt) (round : Nesting) (serial : List Loop) → AreEntered no_loops serial round → LoopsAreRead round.box s → Has (StaysInside ds) round.box s → Nests text round.box s
        → LoopsHaveBy text (CountUpBy P) serial s → LoopsRefused text (sinks_in P) ds round s r → FirstLoopHasBy text (OrderedBy P) (ToldBy ds P r) serial s
    loops_told (Assign x is e) round serial entered read has right up refused = refused
    loops_told (Update x is op e) round serial entered read has right up refused = refused
    loops_told (If t a) round serial entered read has right up refused = loops_told a round serial entered read has.1 right up refused
    loops_told (IfElse t a b) round serial entered read has right up (inl refused) = inl (loops_told a round serial entered read.0 has.1 right.0 up.0 refused)
    loops_told (IfElse t a b) round serial entered read has right up (inr (shown, refused)) =
        inr (loops_ordered text ds short P a round serial entered shown up.0 read.0 has.1, loops_told b round serial entered read.1 has.2 right.1 up.1 refused)
    loops_told (For x name start test step body) round serial entered read has (l, i, loop, right) up (inner, into, refused) =
        let h : Loop = record { variable = x; start = start; test = test; step = step } in
        let same = (loop_is_unique round.box x start test step body l into.level.canonical i into.numbers loop into.is).1 in
        let there = body_there ds round inner h body into (record { read = read.0; each = read.1; loop = has.0; numbers = has.1; is = has.2; stays = has.3 }) in
        loops_told body inner (serial ++ (h ∷ []))
        (entered_join no_loops round inner serial (h ∷ []) entered (one_entered round inner x start test step body into read.0)) there.read there.stays
        (subst (λ (m : Nesting). Nests text m.box body) (sym into.now) (subst (λ (j : Interval). Nests text (inside round.box x j) body) same right)) up refused
    loops_told (Block items) round serial entered read has right up refused = items_told items round serial entered read has right up refused
    loops_told (Print parts) round serial entered read has right up refused = refused

    items_told : (items : Items) (round : Nesting) (serial : List Loop) → AreEntered no_loops serial round → ItemsAreRead round.box items → Have (StaysInside ds) round.box items
        → ItemsNest text round.box items → ItemsHaveBy text (CountUpBy P) serial items → ItemsRefused text (sinks_in P) ds round items r → FirstItemHasBy text (OrderedBy P) (ToldBy ds P r) serial items
    items_told no_items round serial entered read has right up refused = refused
    items_told (mark line rest) round serial entered read has right up (inl refused) = inl (line_told round serial line rest entered read has right.0 refused)
    items_told (mark line rest) round serial entered read has right up (inr (shown, refused)) =
        inr (line_ordered text ds short P round serial line rest entered shown up.0 read has, items_told rest round serial entered read has right.1 up.1 refused)
    items_told (local x name start rest) round serial entered read has right up refused = items_told rest round serial entered read has.1 right up refused
    items_told (stmt s rest) round serial entered read has right up (inl refused) = inl (loops_told s round serial entered read.0 has.0 right.0 up.0 refused)
    items_told (stmt s rest) round serial entered read has right up (inr (shown, refused)) =
        inr (loops_ordered text ds short P s round serial entered shown up.0 read.0 has.0, items_told rest round serial entered read.1 has.1 right.1 up.1 refused)

pub refusals_are_told : RefusalsAreTold
refusals_are_told text k r P reads in_range right up (inl e) = inl e
refusals_are_told text k r P reads in_range right up (inr refused) =
    let read = (kept_lines_are_read text k reads).reads in
    inr (items_told text k.variables P r (decls_short read.declared tt) k.body no_loops [] refl (items_read [] read.items (decls_small read.declared tt) (λ y c. absurd cc)) in_range right up refused)
