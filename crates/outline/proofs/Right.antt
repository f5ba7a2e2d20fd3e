-- The parts of statements whose loops are right.
use Rattle.std.specs.Prelude.{ℕ, ◌≡◌, ◌+◌, ◌<◌, List, length, get_or, drop, Option, Some, None}
use Rattle.std.proofs.Common.{sym, ap, ◌∙◌, subst}
use Rattle.semantics.specs.Tree.{Stmt, Items}
use Rattle.ktree.specs.View.{source_of, cond_of, increment_of, items_of, with_item}
use Rattle.ktree.specs.declared.place.Place.{Place}
use Rattle.ktree.specs.declared.statement.Head.{Head}
use Rattle.ktree.specs.declared.statement.Item.{Item, Directive, Local, Statement'}
use Rattle.ktree.proofs.Trees.{next_item}
use Rattle.affine.specs.declared.interval.Interval.{Interval}
use Rattle.affine.specs.declared.interval.Side.{Side}
use Rattle.nest_loop.specs.declared.entered.LoopFacts.{LoopFacts}
use Rattle.nest_loop.specs.Facts.{AreFactsOf}
use Rattle.nest_loop.specs.Loops.{inside}
use Rattle.nest_loop.proofs.Laws.{loop_is_unique}
use Rattle.flow.specs.declared.environment.ParallelLoop.{ParallelLoop}
use Rattle.lower_code.specs.declared.laid.Laid.{Laid}
use Rattle.outline.specs.Accepted.{HasRightLoops, ItemIsRight, ItemsAreRight}
use Rattle.outline.specs.Made.{line_of, loop_with}

-- ---- items

next_right : (layout : List Laid) (mark : ℕ) (loops : List ParallelLoop) (box : List Side) (d : Option Place) (i : Item) (rest : Items) → ItemsAreRight layout mark loops box d (with_item i rest) → ItemIsRight layout mark loops box d i × ItemsAreRight layout mark loops box (line_of i) rest
next_right layout mark loops box None (Directive place) rest h = (tt, h)
next_right layout mark loops box None (Local l) rest h = (tt, h)
next_right layout mark loops box None (Statement' p s) rest h = (h.0, h.1)
next_right layout mark loops box (Some line) (Directive place) rest h = absurd h.0
next_right layout mark loops box (Some line) (Local l) rest h = absurd h.0
next_right layout mark loops box (Some line) (Statement' p s) rest h = (h.0, h.1.1)

-- the item of this number, and those behind it
pub item_right : (layout : List Laid) (mark : ℕ) (loops : List ParallelLoop) (box : List Side) (d : Option Place) (items : List Item) (n : ℕ) (i : Item) → n < length items → i ≡ get_or items n i → ItemsAreRight layout mark loops box d (items_of (drop n items))
    → ItemIsRight layout mark loops box d i × ItemsAreRight layout mark loops box (line_of i) (items_of (drop (n + 1) items))
item_right layout mark loops box d items n i lt is h = next_right layout mark loops box d i (items_of (drop (n + 1) items)) (subst (ItemsAreRight layout mark loops box d) (next_item items n i lt is) h)

-- ---- loops

-- a loop with these facts was entered
pub loop_right : (layout : List Laid) (mark : ℕ) (loops : List ParallelLoop) (before after : List Side) (head : Head) (body : Stmt) (facts : LoopFacts) → AreFactsOf before head body facts → after ≡ inside before head.variable.0 facts.numbers
    → HasRightLoops layout mark loops before (loop_with head body) → HasRightLoops layout mark loops after body
loop_right layout mark loops before after head body facts are is (l, i, loop, right) =
    let same = loop_is_unique before head.variable.0 (source_of head.start) (cond_of head.test) (increment_of head.step) body l facts.canonical i facts.numbers loop are.loop in
    subst (λ (box : List Side). HasRightLoops layout mark loops box body) (ap (λ (j : Interval). inside before head.variable.0 j) same.1 ∙ sym is) right
