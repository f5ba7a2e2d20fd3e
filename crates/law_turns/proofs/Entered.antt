-- Loops entered one after another, and turns of all of them and of some.
use Rattle.std.specs.Prelude.{ℕ, ◌≡◌, ◌≤◌, ◌↔◌, ◌++◌, ℤ, List, [], ◌∷◌, length, Some}
use Rattle.std.proofs.Common.{sym, subst, arith}
use Rattle.semantics.specs.Tree.{Stmt}
use Rattle.semantics.specs.Loops.Nest.{Loop}
use Rattle.nest_loop.specs.declared.head.Canonical.{Canonical}
use Rattle.nest_loop.specs.Canonical.{canonical}
use Rattle.affine.specs.Box.{side}
use Rattle.ktree.specs.View.{source_of, cond_of, increment_of}
use Rattle.ktree.specs.declared.statement.Head.{Head}
use Rattle.nest_space.specs.Heads.{IsHeadOf}
use Rattle.pairtest_counter.specs.declared.level.EnclosingLoop.{EnclosingLoop}
use Rattle.pairtest_counter.specs.Levels.{Nesting, AreLevels, Enters, IsTurn}
use Rattle.law_turns.specs.Turns.{AreEntered, loop_of, EachInside, IsWithin, IsTurnInside}
use Rattle.law_turns.proofs.Iterating.{nested}

pub entered_join : (hs gs : List Loop) (first second third : Nesting) → AreEntered first hs second → AreEntered second gs third → AreEntered first (hs ++ gs) third
entered_join [] gs first second third p q = subst (λ (n : Nesting). AreEntered n gs third) (sym p) q
entered_join (h ∷ hs) gs first second third (s, v, is, level, rest) q = (s, v, is, level, entered_join hs gs (nested first s v) second third rest q)

pub entered_levels : (hs : List Loop) (before after : Nesting) → AreEntered before hs after → AreLevels before.box before.levels → AreLevels after.box after.levels
entered_levels [] before after entered are = subst (λ (n : Nesting). AreLevels n.box n.levels) entered are
entered_levels (h ∷ hs) before after (s, v, is, level, rest) are = entered_levels hs (nested before s v) after rest (level, are)

-- a loop that a chain enters
pub chain_enters : (before after : Nesting) (head : Head) (body : Stmt) → Enters before after head body → AreLevels after.box after.levels
    → ((l : Canonical) → canonical before.box head.variable.0 (source_of head.start) (cond_of head.test) (increment_of head.step) ≡ Some l → IsHeadOf before.box (loop_of head) l)
    → AreEntered before (loop_of head ∷ []) after
chain_enters before after head body (v, i, loop, is) are heads =
    (side head.variable.0 i.least i.greatest, v, heads v.canonical loop.form, (subst (λ (n : Nesting). AreLevels n.box n.levels) is are).0, sym is)

-- ---- turns of all loops, and of some

-- what holds of each loop inside some holds of each inside those before
pub inside_before : (P : EnclosingLoop → List EnclosingLoop → Type 0) (n : ℕ) (hs : List Loop) (before after : Nesting) → AreEntered before hs after → EachInside P n after.levels → EachInside P n before.levels
inside_before P n [] before after entered each = subst (λ (m : Nesting). EachInside P n m.levels) (sym entered) each
inside_before P n (h ∷ hs) before after (s, v, is, level, rest) each = (inside_before P n hs (nested before s v) after rest each).1

further_inside : (P : EnclosingLoop → List EnclosingLoop → Type 0) (m n : ℕ) (levels : List EnclosingLoop) → m ≤ n → EachInside P m levels → EachInside P n levels
further_inside P m n [] le each = tt
further_inside P m n (v ∷ vs) le each = (λ more. each.0 (omega arith), further_inside P m n vs le each.1)

turn_before : (hs : List Loop) (before after : Nesting) (steps : ℕ → ℤ) → AreEntered before hs after → IsTurn after.levels steps → IsTurn before.levels steps
turn_before [] before after steps entered turn = subst (λ (n : Nesting). IsTurn n.levels steps) (sym entered) turn
turn_before (h ∷ hs) before after steps (s, v, is, level, rest) turn = (turn_before hs (nested before s v) after steps rest turn).2

each_within : (n : ℕ) (levels : List EnclosingLoop) (steps : ℕ → ℤ) → IsTurn levels steps → IsTurnInside n levels steps
each_within n [] steps turn = tt
each_within n (v ∷ vs) steps turn = (λ le. (turn.0, turn.1), each_within n vs steps turn.2)

pub turn_joined : (hs : List Loop) (before after : Nesting) (steps : ℕ → ℤ) → AreEntered before hs after → IsTurn before.levels steps → IsTurnInside (length before.levels) after.levels steps
    → IsTurn after.levels steps
turn_joined [] before after steps entered turn inner = subst (λ (n : Nesting). IsTurn n.levels steps) entered turn
turn_joined (h ∷ hs) before after steps (s, v, is, level, rest) turn inner =
    let own = (inside_before (IsWithin steps) (length before.levels) hs (nested before s v) after rest inner).0 (omega arith) in
    turn_joined hs (nested before s v) after steps rest (own.0, own.1, turn)
    (further_inside (IsWithin steps) (length before.levels) (length (v ∷ before.levels)) after.levels (omega arith) inner)

pub turns_join : (before after : Nesting) (hs : List Loop) (steps : ℕ → ℤ) → AreEntered before hs after
    → IsTurn after.levels steps ↔ (IsTurn before.levels steps × IsTurnInside (length before.levels) after.levels steps)
turns_join before after hs steps entered = (
  λ (turn : IsTurn after.levels steps). (turn_before hs before after steps entered turn, each_within (length before.levels) after.levels steps turn),
  λ (both : IsTurn before.levels steps × IsTurnInside (length before.levels) after.levels steps). turn_joined hs before after steps entered both.0 both.1,
)
