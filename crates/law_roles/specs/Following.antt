-- A nest of loops and a walk over its iterations. (C11 6.8.5.3)
use Rattle.std.specs.Prelude.{ℕ, false, ◌≡◌, List, map, Some}
use Rattle.semantics.specs.Tree.{Variable, Stmt}
use Rattle.semantics.specs.Meaning.State.{State, overwritten}
use Rattle.semantics.specs.Meaning.Runs.{Effect, run}
use Rattle.semantics.specs.Meaning.Agrees.{is_among}
use Rattle.semantics.specs.Loops.Nest.{Loop, Vector, nest_of, iterations}
use Rattle.law_commute.specs.Targets.{KeepsApart}
use Rattle.law_nests.specs.Walks.{walk}

-- the variables of loops
abbrev pub variables_of : List Loop → List Variable
variables_of ls = map (λ l. l.variable) ls

-- a walk has a run, which prints what the nest prints and leaves what the nest leaves, but for the loops' variables
pub record IsWalked (loops : List Loop) (body : Stmt) (us : List Vector) (outer : State) (e : Effect) : Type 0 where
  pub effect : Effect
  pub ran : walk loops body us outer ≡ Some effect
  pub text : e.text ≡ effect.text
  pub cells : (x : Variable) (is : List ℕ) → (overwritten outer e.writes).cells x is ≡ (overwritten outer effect.writes).cells x is
  pub locals : (x : Variable) → is_among (variables_of loops) x ≡ false
      → (overwritten outer e.writes).locals x ≡ (overwritten outer effect.writes).locals x

-- a nest whose loops' bounds and steps nothing in it assigns does what a walk over its iterations does
abbrev pub NestsAreWalks : Type 0
NestsAreWalks =
    (n : ℕ) (s : Stmt) (loops : List Loop) (body : Stmt) (xs : List Variable) (outer : State) (us : List Vector) (e : Effect)
    → nest_of n s ≡ Some (loops, body) → KeepsApart xs s → iterations loops outer ≡ Some us → run s outer ≡ Some e
    → IsWalked loops body us outer e
