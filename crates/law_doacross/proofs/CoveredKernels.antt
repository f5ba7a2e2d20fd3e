-- The parallel loops of a kernel, one after another: independent where a loop is no doacross nest, and ordered by its sinks where it is one.
use Rattle.std.specs.Prelude.{ℕ, List, [], ◌∷◌, ◌++◌}
use Rattle.std.proofs.Common.{refl, subst}
use Rattle.semantics.specs.Tree.{Stmt, Assign, Update, If, IfElse, For, Block, Print, Items, no_items, mark, local, stmt, Declaration}
use Rattle.semantics.specs.Source.Text.{line_at}
use Rattle.semantics.specs.Loops.Nest.{Loop}
use Rattle.semantics.specs.Loops.Order.{Distance}
use Rattle.law_lines.proofs.Kept.{kept_lines_are_read}
use Rattle.pairtest_counter.specs.Levels.{Nesting}
use Rattle.nest.specs.Nests.{Has, Have, StaysInside}
use Rattle.pragma.specs.Parallel.{associated, FirstHas, LineHas}
use Rattle.pragma.proofs.LoopLaw.{read_once}
use Rattle.flow.specs.Roles.{LoopsHaveBy, ItemsHaveBy}
use Rattle.deptest_verdict.specs.Shown.{IsShownLoop, ShownFirst, LineShown, LoopsShown, ItemsShown, no_loops}
use Rattle.law_turns.specs.Turns.{AreEntered}
use Rattle.law_turns.proofs.Laws.{entered_join}
use Rattle.law_independence.specs.Inside.{LoopsAreRead, ItemsAreRead, HaveShort}
use Rattle.law_independence.specs.Said.{LinesInside, listed, sinks_in}
use Rattle.law_independence.proofs.Links.{one_entered}
use Rattle.law_independence.proofs.IndependentNests.{body_there, shown_loops_are_independent}
use Rattle.law_independence.proofs.Grammar.{decls_small, decls_short, items_read}
use Rattle.law_doacross.specs.Covering.{CountsUpAll, IsCoveredNest, CountUpBy, OrderedBy, ShownKernelsAreCovered}
use Rattle.law_doacross.proofs.Covered.{shown_nests_are_covered, shown_nest_is_there}

module _ (text : List ℕ) (ds : List Declaration) (short : HaveShort ds) (P : LinesInside) where
  first_ordered : (round : Nesting) (serial : List Loop) (line n : ℕ) (items : Items) → AreEntered no_loops serial round → ShownFirst round (sinks_in P line) n items → FirstHas (CountUpBy P line) serial n items → ItemsAreRead round.box items
      → Have (StaysInside ds) round.box items → FirstHas (OrderedBy P line) serial n items
  first_ordered round serial line n no_items entered shown up read has = shown
  first_ordered round serial line n (mark m rest) entered shown up read has = shown
  first_ordered round serial line n (local x name start rest) entered shown up read has = shown
  first_ordered round serial line n (stmt s rest) entered shown up read has = (
    λ none. shown_loops_are_independent ds serial round n s short entered read.0 has.0 (subst (λ o. IsShownLoop round (listed o) n s) none shown),
    λ sinks doacross. ordered sinks (subst (λ o. IsShownLoop round (listed o) n s) doacross shown) (up sinks doacross),
  )
    where
      ordered : (sinks : List Distance) → IsShownLoop round sinks n s → CountsUpAll n s → IsCoveredNest sinks serial n s
      ordered sinks shown up = (shown_nest_is_there ds round sinks n s read.0 has.0 shown, shown_nests_are_covered ds serial round sinks n s short entered read.0 has.0 shown up)

  pub line_ordered : (round : Nesting) (serial : List Loop) (line : ℕ) (items : Items) → AreEntered no_loops serial round → LineShown text (sinks_in P) round line items → LineHas text (CountUpBy P line) serial line items → ItemsAreRead round.box items
      → Have (StaysInside ds) round.box items → LineHas text (OrderedBy P line) serial line items
  line_ordered round serial line items entered (k, c, reads, first) (k', c', reads', up) read has =
      let same = (read_once (line_at text line) k' c' k c reads' reads).1 in
      (k, c, reads, first_ordered round serial line (associated c) items entered first (subst (λ o. FirstHas (CountUpBy P line) serial (associated o) items) same up) read has)

  mutual
    pub loops_ordered : (s : Stmt) (round : Nesting) (serial : List Loop) → AreEntered no_loops serial round → LoopsShown text (sinks_in P) round s → LoopsHaveBy text (CountUpBy P) serial s → LoopsAreRead round.box s → Has (StaysInside ds) round.box s
        → LoopsHaveBy text (OrderedBy P) serial s
    loops_ordered (Assign x is e) round serial entered shown up read has = tt
    loops_ordered (Update x is op e) round serial entered shown up read has = tt
    loops_ordered (If c a) round serial entered shown up read has = loops_ordered a round serial entered shown up read has.1
    loops_ordered (IfElse c a b) round serial entered shown up read has =
        (loops_ordered a round serial entered shown.0 up.0 read.0 has.1, loops_ordered b round serial entered shown.1 up.1 read.1 has.2)
    loops_ordered (For x name start test step body) round serial entered (inner, into, shown) up read has =
        let h : Loop = record { variable = x; start = start; test = test; step = step } in
        let there = body_there ds round inner h body into (record { read = read.0; each = read.1; loop = has.0; numbers = has.1; is = has.2; stays = has.3 }) in
        loops_ordered body inner (serial ++ (h ∷ []))
        (entered_join no_loops round inner serial (h ∷ []) entered (one_entered round inner x start test step body into read.0)) shown up there.read there.stays
    loops_ordered (Block items) round serial entered shown up read has = items_ordered items round serial entered shown up read has
    loops_ordered (Print parts) round serial entered shown up read has = tt

    items_ordered : (items : Items) (round : Nesting) (serial : List Loop) → AreEntered no_loops serial round → ItemsShown text (sinks_in P) round items → ItemsHaveBy text (CountUpBy P) serial items → ItemsAreRead round.box items
        → Have (StaysInside ds) round.box items → ItemsHaveBy text (OrderedBy P) serial items
    items_ordered no_items round serial entered shown up read has = tt
    items_ordered (mark line rest) round serial entered shown up read has =
        (line_ordered round serial line rest entered shown.0 up.0 read has, items_ordered rest round serial entered shown.1 up.1 read has)
    items_ordered (local x name start rest) round serial entered shown up read has = items_ordered rest round serial entered shown up read has.1
    items_ordered (stmt s rest) round serial entered shown up read has =
        (loops_ordered s round serial entered shown.0 up.0 read.0 has.0, items_ordered rest round serial entered shown.1 up.1 read.1 has.1)

pub shown_kernels_are_covered : ShownKernelsAreCovered
shown_kernels_are_covered text k P reads in_range up shown =
    let read = (kept_lines_are_read text k reads).reads in
    items_ordered text k.variables (decls_short read.declared tt) P k.body no_loops [] refl shown up
    (items_read [] read.items (decls_small read.declared tt) (λ y c. absurd cc)) in_range
