-- The state in which a loop begins at the first turns of the serial loops round it.
use Rattle.std.specs.Prelude.{ℕ, ◌≡◌, ℤ, pos, List, [], Contains, Option, Some, None, IsSome, slice_get}
use Rattle.std.proofs.Common.{refl, subst, arith}
use Rattle.std.proofs.lemmas.Int.{ints}
use Rattle.std.proofs.lemmas.List.Elements.{Contains-get_or}
use Rattle.std.proofs.lemmas.Option.{slice_get_within, get_or_from_slice_get}
use Rattle.semantics.specs.Meaning.State.{State}
use Rattle.semantics.specs.Loops.Nest.{Loop, at_vector, iterations}
use Rattle.nest_loop.specs.Turn.{AtTurn}
use Rattle.pairtest_counter.specs.Levels.{Nesting, values_at}
use Rattle.nest_space.specs.declared.bounds.Value.{Value}
use Rattle.deptest_witness.specs.Touching.{FirstTurns}
use Rattle.deptest_verdict.specs.Shown.{no_loops}
use Rattle.law_turns.specs.Turns.{AreEntered}
use Rattle.law_turns.proofs.Laws.{iterations_are_there, iterations_are_turns, outside_is_a_turn}
use Rattle.law_independence.specs.ConflictLaws.{first_turns}
use Rattle.law_independence.proofs.Entered.{entered_loops}
use Rattle.law_independence.proofs.Values.{IsAt, outside_at, first_there}

pub there_is : {A : Type 0} (o : Option A) → IsSome o → (a : A) × (o ≡ Some a)
there_is None h = absurd cc
there_is (Some a) h = (a, refl)

-- what stands in a list
pub contains_at : {A : Type 0} (xs : List A) (k : ℕ) (x : A) → slice_get xs k ≡ Some x → Contains xs x
contains_at xs k x e = subst (Contains xs) (get_or_from_slice_get xs k x x e) (Contains-get_or xs k x (slice_get_within xs k x e))

pub pos_same : (a b : ℕ) → pos a ≡ pos b → a ≡ b
pos_same a b e = omega (arith, ints)

-- ---- the first turns of the serial loops

-- the state at the first turns of loops from this state on, at which their variables have these values
pub record Begins (serial : List Loop) (round : Nesting) (values : List Value) (outside : State) : Type 0 where
  pub outer : State
  pub begins : first_turns serial outside ≡ Some outer
  pub at : IsAt round.box values outer
  pub steps : ℕ → ℤ
  pub turn : AtTurn round.box (values_at round.levels steps) outer

pub begins_there : (serial : List Loop) (round : Nesting) (values : List Value) (outside : State) (entered : AreEntered no_loops serial round)
    → FirstTurns (entered_loops serial no_loops round entered) [] values → Begins serial round values outside
begins_there serial round values outside entered first =
    let steps : ℕ → ℤ = λ j. pos 0 in
    let all = there_is (iterations serial outside) (iterations_are_there no_loops round serial steps outside entered (outside_is_a_turn steps outside)) in
    let there = first_there serial no_loops round entered [] values outside all.0 first (outside_at outside) all.1 in
    let it = iterations_are_turns no_loops round serial steps outside all.0 there.turn entered (outside_is_a_turn steps outside) all.1 (contains_at all.0 0 there.turn there.first) in
    record { outer = at_vector serial there.turn outside; begins = there.begins; at = there.at; steps = it.0; turn = it.1.at }
