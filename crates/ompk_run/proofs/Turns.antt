-- The parts of an outline, as they are run over registers and a store.
use Rattle.std.proofs.Common.{◌≡◌, ℕ, ◌+◌, ◌-◌, ◌<◌, ◌≤◌, Bool, true, false, List, [], ◌∷◌, ◌++◌, zero, suc, drop, length, get_or, Vec, Global, Bor, Box, Option, Some, None, IsSome, refl, sym, ap, ◌∙◌, subst, arith}
use Rattle.std.proofs.lemmas.List.{drop_all}
use Rattle.semantics.specs.Meaning.State.{State}
use Rattle.semantics.specs.Meaning.Value.{holds}
use Rattle.semantics.specs.Meaning.Runs.{Effect, nothing, then_from, declared, incremented, turns, greatest_trip_count}
use Rattle.semantics.specs.Loops.Nest.{Loop}
use Rattle.ktree.specs.declared.expression.Cond.{Cond}
use Rattle.ktree.specs.declared.statement.Head.{Head}
use Rattle.ktree.specs.View.{source_of, cond_of, increment_of}
use Rattle.flow.specs.Roles.{LineData}
use Rattle.nest.specs.Heads.{head_of}
use Rattle.store.specs.Flat.{values_of}
use Rattle.seqrun.proofs.RunLemmas.{turns_on, turns_over, turns_last}
use Rattle.lower_code.specs.declared.laid.Laid.{Laid}
use Rattle.lower_machine.specs.declared.term.Test.{Test}
use Rattle.lower_machine.specs.Machine.{machine, truth}
use Rattle.lower_block.specs.declared.tree.Compiled.{Compiled}
use Rattle.lower_run.specs.Walk.{Stage, Performs, Walks, Begins}
use Rattle.outline.specs.declared.shape.LoweredHead.{LoweredHead}
use Rattle.outline.specs.declared.shape.Outline.{Outline, If, For, For', Block}
use Rattle.outline.specs.declared.shape.OutlineItem.{OutlineItem}
use Rattle.outline.specs.Fit.{Fits, ItemFits, AllFit, EntryPerforms, StepPerforms}
use Rattle.outline.specs.View.{performed, item_performed, items_performed}
use Rattle.outline.proofs.Blocks.{block_performed, items_fit}
use Rattle.ompk_run.proofs.Going.{next_on}
use Rattle.ompk_run.proofs.Steps.{Fit, Step, AreWalked, AreBegun, AreComing, AreSameAt, same_walked, same_begun, comes, comes_over, comes_stops, comes_on, comes_begun, branch_is, turn_found}

abbrev pub OfOutline : Outline → Fit
OfOutline o layout mark R serial = Fits layout mark R serial o

abbrev pub OfItems : List OutlineItem → Fit
OfItems os layout mark R serial = AllFit layout mark R serial os

abbrev pub OfItem : OutlineItem → Fit
OfItem o layout mark R serial = ItemFits layout mark R serial o

-- what they do
abbrev pub outline_step : Outline → Step
outline_step o R serial = performed R serial o

abbrev pub items_step : List OutlineItem → Step
items_step os R serial = items_performed R serial os

abbrev pub item_step : OutlineItem → Step
item_step o R serial = item_performed R serial o

-- what any code that performs a step walks
abbrev pub CodeWalks : Compiled → Stage → Stage → Type 0
CodeWalks code a b = (layout : List Laid) (mark : ℕ) (f : State → Option Effect) → Performs layout mark f code → Walks layout mark f a b

abbrev pub CodeBegins : Compiled → Stage → List ℕ → Type 0
CodeBegins code a text = (layout : List Laid) (mark : ℕ) (f : State → Option Effect) → Performs layout mark f code → Begins layout mark f a text

-- a block
module _ (items : Vec OutlineItem Global) (os : List OutlineItem) (is : os ≡ items.items) (a : Stage) where
  abbrev block : Outline
  block = Block items

  inside : (layout : List Laid) (mark : ℕ) (R : LineData) (serial : List Loop) → Fits layout mark R serial block → AllFit layout mark R serial os
  inside layout mark R serial h = subst (AllFit layout mark R serial) (sym is) (items_fit layout mark R serial items h)

  same_items : AreSameAt (OfOutline block) (outline_step block) (items_step os) a
  same_items layout mark R serial h s stand some = ap (λ (f : State → Option Effect). f s) (block_performed R serial items) ∙ ap (λ xs. items_performed R serial xs s) (sym is)

  pub block_walked : (b : Stage) → AreWalked (OfItems os) (items_step os) a b → AreWalked (OfOutline block) (outline_step block) a b
  block_walked b = same_walked (OfOutline block) (outline_step block) (OfItems os) (items_step os) a b inside same_items

  pub block_begun : (text : List ℕ) → AreBegun (OfItems os) (items_step os) a text → AreBegun (OfOutline block) (outline_step block) a text
  block_begun text = same_begun (OfOutline block) (outline_step block) (OfItems os) (items_step os) a text inside same_items

-- the items of one, in their order
module _ (os : List OutlineItem) (i : ℕ) (o : OutlineItem) (lt : i < length os) (is : o ≡ get_or os i o) (a b : Stage) (coming : AreComing (OfItems os) (items_step os) (items_step (drop i os)) a b) where
  item_of : (os : List OutlineItem) (i : ℕ) → i < length os → o ≡ get_or os i o → (layout : List Laid) (mark : ℕ) (R : LineData) (serial : List Loop) → AllFit layout mark R serial os → ItemFits layout mark R serial o
  item_of [] i lt is layout mark R serial h = absurd (omega arith)
  item_of (x ∷ os) zero lt is layout mark R serial h = subst (ItemFits layout mark R serial) (sym is) h.0
  item_of (x ∷ os) (suc i) lt is layout mark R serial h = item_of os i (omega arith) is layout mark R serial h.1

  abbrev others : Step
  others = items_step (drop (i + 1) os)

  same_next : AreSameAt (OfItems os) (items_step (drop i os)) (λ R serial s. then_from s (item_step o R serial s) (others R serial)) b
  same_next layout mark R serial h s stand some = next_on os i o lt is R serial s

  pub item_walked : (d : Stage) → AreWalked (OfItem o) (item_step o) b d → AreComing (OfItems os) (items_step os) others a d
  item_walked d = comes_on (OfItems os) (items_step os) (items_step (drop i os)) a b coming (OfItem o) (item_step o) others (item_of os i lt is) same_next d

  pub item_begun : (text : List ℕ) → AreBegun (OfItem o) (item_step o) b text → AreBegun (OfItems os) (items_step os) a text
  item_begun text = comes_begun (OfItems os) (items_step os) (items_step (drop i os)) a b coming (OfItem o) (item_step o) others (item_of os i lt is) same_next text

pub items_end : (os : List OutlineItem) (i : ℕ) (a b : Stage) → length os ≤ i → AreComing (OfItems os) (items_step os) (items_step (drop i os)) a b → AreWalked (OfItems os) (items_step os) a b
items_end os i a b le coming =
    comes_over (OfItems os) (items_step os) (items_step (drop i os)) a b coming (λ layout mark R serial h s stand some. ap (λ xs. items_performed R serial xs s) (drop_all i os le))

-- the turns of a loop that are left after so many
abbrev pub turns_left : Outline → ℕ → Step
turns_left (For' lowered head p body) n =
    λ R serial. turns (greatest_trip_count - n) (λ t. holds t (cond_of head.now.test)) (performed R (serial ++ head_of head.now ∷ []) body) (λ t. incremented t (increment_of head.now.step))
turns_left o n = λ R serial s. None

-- a loop
module _ (lowered : LoweredHead) (head : Bor Head) (body : Box Outline Global) where
  abbrev loop : Outline
  loop = For lowered head body

  abbrev all : Step
  all = outline_step loop

  abbrev test : State → Option Bool
  test t = holds t (cond_of head.now.test)

  -- its body stands inside it too
  abbrev within : List Loop → List Loop
  within serial = serial ++ head_of head.now ∷ []

  abbrev OfBody : Fit
  OfBody layout mark R serial = Fits layout mark R (within serial) body.value

  abbrev turn : Step
  turn R serial = performed R (within serial) body.value

  abbrev step : State → Option Effect
  step t = incremented t (increment_of head.now.step)

  abbrev left_turns : ℕ → Step
  left_turns n R serial = turns (greatest_trip_count - n) test (turn R serial) step

  abbrev pub behind_turn : ℕ → Step
  behind_turn n R serial u = then_from u (step u) (left_turns (n + 1) R serial)

  abbrev entered : Step
  entered R serial s = declared s head.now.variable.0 (Some (source_of head.now.start))

  abbrev all_turns : Step
  all_turns R serial = turns greatest_trip_count test (turn R serial) step

  pub loop_entered : (a b : Stage) → CodeWalks lowered.entry a b → AreComing (OfOutline loop) all (left_turns 0) a b
  unfolding greatest_trip_count
  loop_entered a b walked =
      comes_on (OfOutline loop) all all a a (comes (OfOutline loop) all a) (λ layout mark R serial. EntryPerforms layout mark head.now lowered.entry) entered all_turns (λ layout mark R serial h. h.0.entry) (λ layout mark R serial h s stand some. refl) b
      (λ layout mark R serial h. walked layout mark _ h)

  pub entry_begun : (a : Stage) (text : List ℕ) → CodeBegins lowered.entry a text → AreBegun (OfOutline loop) all a text
  unfolding greatest_trip_count
  entry_begun a text begun =
      comes_begun (OfOutline loop) all all a a (comes (OfOutline loop) all a) (λ layout mark R serial. EntryPerforms layout mark head.now lowered.entry) entered all_turns (λ layout mark R serial h. h.0.entry) (λ layout mark R serial h s stand some. refl) text
      (λ layout mark R serial h. begun layout mark _ h)

  module _ (n : ℕ) (a b : Stage) where
    pub turns_stop : AreComing (OfOutline loop) all (left_turns n) a b → AreBegun (OfOutline loop) all a b.text
    turns_stop coming = comes_stops (OfOutline loop) all (left_turns n) a b coming

    pub turns_end : 18446744073709551615 ≤ n → AreComing (OfOutline loop) all (left_turns n) a b → AreWalked (OfOutline loop) all a b
    turns_end le coming = comes_over (OfOutline loop) all (left_turns n) a b coming (λ layout mark R serial h s stand some. turns_last test (turn R serial) step n s le some)

    module _ (t : Bool) (is : t ≡ truth lowered.test (machine b.registers (values_of b.store))) (coming : AreComing (OfOutline loop) all (left_turns n) a b) where
      pub turns_done : t ≡ false → AreWalked (OfOutline loop) all a b
      turns_done e =
          comes_over (OfOutline loop) all (left_turns n) a b coming
          (λ layout mark R serial h s stand some. turns_over test (turn R serial) step (greatest_trip_count - n) s (turn_found (cond_of head.now.test) lowered.test layout mark h.0.test s b stand false (sym is ∙ e) (turn R serial) step n some))

      one_more : n < 18446744073709551615 → t ≡ true → AreSameAt (OfOutline loop) (left_turns n) (λ R serial s. then_from s (turn R serial s) (behind_turn n R serial)) b
      one_more lt e layout mark R serial h s stand some = turns_on test (turn R serial) step n s lt (turn_found (cond_of head.now.test) lowered.test layout mark h.0.test s b stand true (sym is ∙ e) (turn R serial) step n some)

      -- a walk of the body in any serial loops
      pub body_walked : n < 18446744073709551615 → t ≡ true → (d : Stage) → AreWalked (OfOutline body.value) (outline_step body.value) b d → AreComing (OfOutline loop) all (behind_turn n) a d
      body_walked lt e d walked = comes_on (OfOutline loop) all (left_turns n) a b coming OfBody turn (behind_turn n) (λ layout mark R serial h. h.1) (one_more lt e) d (λ layout mark R serial h. walked layout mark R (within serial) h)

      pub body_begun : n < 18446744073709551615 → t ≡ true → (text : List ℕ) → AreBegun (OfOutline body.value) (outline_step body.value) b text → AreBegun (OfOutline loop) all a text
      body_begun lt e text begun = comes_begun (OfOutline loop) all (left_turns n) a b coming OfBody turn (behind_turn n) (λ layout mark R serial h. h.1) (one_more lt e) text (λ layout mark R serial h. begun layout mark R (within serial) h)

    module _ (coming : AreComing (OfOutline loop) all (behind_turn n) a b) where
      abbrev stepped : Step
      stepped R serial = step

      pub step_walked : (d : Stage) → CodeWalks lowered.step b d → AreComing (OfOutline loop) all (left_turns (n + 1)) a d
      step_walked d walked =
          comes_on (OfOutline loop) all (behind_turn n) a b coming (λ layout mark R serial. StepPerforms layout mark head.now lowered.step) stepped (left_turns (n + 1)) (λ layout mark R serial h. h.0.step) (λ layout mark R serial h s stand some. refl) d
          (λ layout mark R serial h. walked layout mark _ h)

      pub step_begun : (text : List ℕ) → CodeBegins lowered.step b text → AreBegun (OfOutline loop) all a text
      step_begun text begun =
          comes_begun (OfOutline loop) all (behind_turn n) a b coming (λ layout mark R serial. StepPerforms layout mark head.now lowered.step) stepped (left_turns (n + 1)) (λ layout mark R serial h. h.0.step) (λ layout mark R serial h s stand some. refl) text
          (λ layout mark R serial h. begun layout mark _ h)

-- a branch
module _ (z : Test) (c : Bor Cond) (first : Box Outline Global) (a : Stage) (t : Bool) (is : t ≡ truth z (machine a.registers (values_of a.store))) where
  module _ (other : Option (Box Outline Global)) where
    abbrev either : Outline
    either = If z c first other

    same_first : t ≡ true → AreSameAt (OfOutline either) (outline_step either) (outline_step first.value) a
    same_first e layout mark R serial h s stand some = go other h some
      where
        go : (other : Option (Box Outline Global)) → Fits layout mark R serial (If z c first other) → IsSome (performed R serial (If z c first other) s) → performed R serial (If z c first other) s ≡ performed R serial first.value s
        go None h some = branch_is (cond_of c.now) z layout mark h.0 s a stand true (sym is ∙ e) (performed R serial first.value s) (Some nothing) some
        go (Some b) h some = branch_is (cond_of c.now) z layout mark h.0 s a stand true (sym is ∙ e) (performed R serial first.value s) (performed R serial b.value s) some

    first_of : (layout : List Laid) (mark : ℕ) (R : LineData) (serial : List Loop) → Fits layout mark R serial either → Fits layout mark R serial first.value
    first_of layout mark R serial h = h.1

    pub first_walked : t ≡ true → (b : Stage) → AreWalked (OfOutline first.value) (outline_step first.value) a b → AreWalked (OfOutline either) (outline_step either) a b
    first_walked e b = same_walked (OfOutline either) (outline_step either) (OfOutline first.value) (outline_step first.value) a b first_of (same_first e)

    pub first_begun : t ≡ true → (text : List ℕ) → AreBegun (OfOutline first.value) (outline_step first.value) a text → AreBegun (OfOutline either) (outline_step either) a text
    first_begun e text = same_begun (OfOutline either) (outline_step either) (OfOutline first.value) (outline_step first.value) a text first_of (same_first e)

  module _ (second : Box Outline Global) where
    abbrev both : Outline
    both = If z c first (Some second)

    same_second : t ≡ false → AreSameAt (OfOutline both) (outline_step both) (outline_step second.value) a
    same_second e layout mark R serial h s stand some = branch_is (cond_of c.now) z layout mark h.0 s a stand false (sym is ∙ e) (performed R serial first.value s) (performed R serial second.value s) some

    second_of : (layout : List Laid) (mark : ℕ) (R : LineData) (serial : List Loop) → Fits layout mark R serial both → Fits layout mark R serial second.value
    second_of layout mark R serial h = h.2

    pub second_walked : t ≡ false → (b : Stage) → AreWalked (OfOutline second.value) (outline_step second.value) a b → AreWalked (OfOutline both) (outline_step both) a b
    second_walked e b = same_walked (OfOutline both) (outline_step both) (OfOutline second.value) (outline_step second.value) a b second_of (same_second e)

    pub second_begun : t ≡ false → (text : List ℕ) → AreBegun (OfOutline second.value) (outline_step second.value) a text → AreBegun (OfOutline both) (outline_step both) a text
    second_begun e text = same_begun (OfOutline both) (outline_step both) (OfOutline second.value) (outline_step second.value) a text second_of (same_second e)

  -- with nothing to do
  abbrev alone : Outline
  alone = If z c first None

  pub nothing_walked : t ≡ false → AreWalked (OfOutline alone) (outline_step alone) a a
  nothing_walked e =
      comes_over (OfOutline alone) (outline_step alone) (outline_step alone) a a (comes (OfOutline alone) (outline_step alone) a)
      (λ layout mark R serial h s stand some. branch_is (cond_of c.now) z layout mark h.0 s a stand false (sym is ∙ e) (performed R serial first.value s) (Some nothing) some)
