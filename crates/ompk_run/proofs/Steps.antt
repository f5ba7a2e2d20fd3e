-- How a run over registers and a store goes on, for each layout, mark, roles of lines and serial loops that its code fits.
use Rattle.std.proofs.Common.{◌≡◌, ℕ, ◌-◌, Bool, List, Option, Some, None, IsSome, refl, sym, ap, ◌∙◌, subst}
use Rattle.semantics.specs.Tree
use Rattle.semantics.specs.Meaning.State.{State}
use Rattle.semantics.specs.Meaning.Value.{holds, by_test}
use Rattle.semantics.specs.Meaning.Runs.{Effect, nothing, then_from, turns, greatest_trip_count}
use Rattle.semantics.specs.Loops.Nest.{Loop}
use Rattle.flow.specs.Roles.{LineData}
use Rattle.seqrun_io.specs.Told.{AddsBeginning}
use Rattle.seqrun.specs.Ran.{text_of}
use Rattle.seqrun.proofs.RunLemmas.{rest_some, test_some}
use Rattle.lower_code.specs.declared.laid.Laid.{Laid}
use Rattle.lower_machine.specs.declared.term.Test.{Test}
use Rattle.lower_machine.specs.Machine.{machine, truth}
use Rattle.lower_code.specs.Meaning.{MeansTest}
use Rattle.store.specs.Flat.{values_of}
use Rattle.lower_run.specs.Walk.{StandFor, Arrives, Stage, Walks, Begins}
use Rattle.lower_run.proofs.Coming.{Coming, coming_from, coming_on, next_some, coming_over, coming_stops, coming_begun}

abbrev pub Fit : Type 1
Fit = List Laid → ℕ → LineData → List Loop → Type 0

-- what is done by the roles of lines, inside serial loops
abbrev pub Step : Type 0
Step = LineData → List Loop → State → Option Effect

-- wherever the code fits, a step is walked from stage to stage, or a beginning of its text put
abbrev pub AreWalked : Fit → Step → Stage → Stage → Type 0
AreWalked fit f a b = (layout : List Laid) (mark : ℕ) (R : LineData) (serial : List Loop) → fit layout mark R serial → Walks layout mark (f R serial) a b

abbrev pub AreBegun : Fit → Step → Stage → List ℕ → Type 0
AreBegun fit f a text = (layout : List Laid) (mark : ℕ) (R : LineData) (serial : List Loop) → fit layout mark R serial → Begins layout mark (f R serial) a text

-- and has come so far, with a rest
abbrev pub AreComing : Fit → Step → Step → Stage → Stage → Type 0
AreComing fit all rest a b =
    (layout : List Laid) (mark : ℕ) (R : LineData) (serial : List Loop) → fit layout mark R serial → (s : State) → StandFor layout mark s a.registers a.store → IsSome (all R serial s)
    → Coming layout mark (all R serial s) (rest R serial) s b.registers b.store a.text b.text

-- two steps are the same wherever registers and store stand for a state
abbrev pub AreSameAt : Fit → Step → Step → Stage → Type 0
AreSameAt fit f g b =
    (layout : List Laid) (mark : ℕ) (R : LineData) (serial : List Loop) → fit layout mark R serial → (s : State) → StandFor layout mark s b.registers b.store → IsSome (f R serial s)
    → f R serial s ≡ g R serial s

abbrev pub Gives : Fit → Fit → Type 0
Gives fit fit' = (layout : List Laid) (mark : ℕ) (R : LineData) (serial : List Loop) → fit layout mark R serial → fit' layout mark R serial

module _ (fit : Fit) (all : Step) where
  pub same_walked : (fit' : Fit) (f : Step) (a b : Stage) → Gives fit fit' → AreSameAt fit all f a → AreWalked fit' f a b → AreWalked fit all a b
  same_walked fit' f a b gives same walked layout mark R serial h s stand some =
      let e = same layout mark R serial h s stand some in
      subst (λ o. Arrives layout mark o s b.registers b.store a.text b.text) (sym e) (walked layout mark R serial (gives layout mark R serial h) s stand (subst IsSome e some))

  pub same_begun : (fit' : Fit) (f : Step) (a : Stage) (text : List ℕ) → Gives fit fit' → AreSameAt fit all f a → AreBegun fit' f a text → AreBegun fit all a text
  same_begun fit' f a text gives same begun layout mark R serial h s stand some =
      let e = same layout mark R serial h s stand some in
      subst (λ o. AddsBeginning a.text text (text_of o)) (sym e) (begun layout mark R serial (gives layout mark R serial h) s stand (subst IsSome e some))

  pub comes : (a : Stage) → AreComing fit all all a a
  comes a layout mark R serial h s stand some = coming_from layout mark (all R serial) s a.registers a.store a.text stand

  module _ (rest : Step) (a b : Stage) (coming : AreComing fit all rest a b) where
    -- over
    pub comes_over : AreSameAt fit rest (λ R serial s. Some nothing) b → AreWalked fit all a b
    comes_over same layout mark R serial h s stand some =
        let c = coming layout mark R serial h s stand some in
        coming_over layout mark (all R serial s) (rest R serial) s b.registers b.store a.text b.text c
        (same layout mark R serial h c.state c.stand (rest_some (all R serial s) (rest R serial c.state) s c.state a.text b.text c.going some))

    -- it stops here
    pub comes_stops : AreBegun fit all a b.text
    comes_stops layout mark R serial h s stand some =
        coming_stops layout mark (all R serial s) (rest R serial) s b.registers b.store a.text b.text (coming layout mark R serial h s stand some) some

    module _ (fit' : Fit) (first next : Step) (gives : Gives fit fit') (same : AreSameAt fit rest (λ R serial s. then_from s (first R serial s) (next R serial)) b) where
      -- one step more
      pub comes_on : (d : Stage) → AreWalked fit' first b d → AreComing fit all next a d
      comes_on d walked layout mark R serial h s stand some =
          let c = coming layout mark R serial h s stand some in
          let e = same layout mark R serial h c.state c.stand (rest_some (all R serial s) (rest R serial c.state) s c.state a.text b.text c.going some) in
          coming_on layout mark (all R serial s) (rest R serial) (first R serial) (next R serial) s b.registers b.store a.text b.text c e d.registers d.store d.text
          (walked layout mark R serial (gives layout mark R serial h) c.state c.stand
          (next_some layout mark (all R serial s) (rest R serial) (first R serial) (next R serial) s b.registers b.store a.text b.text c e some))

      -- which stops inside
      pub comes_begun : (text : List ℕ) → AreBegun fit' first b text → AreBegun fit all a text
      comes_begun text begun layout mark R serial h s stand some =
          let c = coming layout mark R serial h s stand some in
          let e = same layout mark R serial h c.state c.stand (rest_some (all R serial s) (rest R serial c.state) s c.state a.text b.text c.going some) in
          coming_begun layout mark (all R serial s) (rest R serial) (first R serial) (next R serial) s b.registers b.store a.text b.text text c e some
          (begun layout mark R serial (gives layout mark R serial h) c.state c.stand
          (next_some layout mark (all R serial s) (rest R serial) (first R serial) (next R serial) s b.registers b.store a.text b.text c e some))

-- the truth of a test is that of its condition
module _ (c : Tree.Cond) (z : Test) (layout : List Laid) (mark : ℕ) (means : MeansTest layout c z) (s : State) (b : Stage) (stand : StandFor layout mark s b.registers b.store) (t : Bool) (is : truth z (machine b.registers (values_of b.store)) ≡ t) where
  found : IsSome (holds s c) → holds s c ≡ Some t
  found some = go (holds s c) refl some
    where
      go : (o : Option Bool) → holds s c ≡ o → IsSome o → holds s c ≡ Some t
      go None e h = absurd (cc h)
      go (Some d) e h = e ∙ ap Some (sym (means mark s (machine b.registers (values_of b.store)) d stand.machine e) ∙ is)

  -- a branch
  module _ (x y : Option Effect) where
    tested : (o : Option Bool) → IsSome (by_test o x y) → IsSome o
    tested None some = absurd (cc some)
    tested (Some d) some = refl

    pub branch_is : IsSome (by_test (holds s c) x y) → by_test (holds s c) x y ≡ by_test (Some t) x y
    branch_is some = ap (λ o. by_test o x y) (found (tested (holds s c) some))

  -- a turn
  pub turn_found : (body step : State → Option Effect) (n : ℕ) → IsSome (turns (greatest_trip_count - n) (λ u. holds u c) body step s) → holds s c ≡ Some t
  turn_found body step n some = found (test_some (λ u. holds u c) body step (greatest_trip_count - n) s some)
