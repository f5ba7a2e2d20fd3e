-- Chunks put together by what each of them changed. (OpenMP 5.2, 11.5.3)
use Rattle.std.specs.Prelude.{ℕ, true, false, ◌≡◌, ◌≢◌, ◌⊎◌, List, map, flat_map, Option, Some, Contains, slice_get}
use Rattle.std.specs.List.{AllPairs}
use Rattle.semantics.specs.Tree.{Variable, Stmt}
use Rattle.semantics.specs.Meaning.State.{State, overwritten}
use Rattle.semantics.specs.Meaning.Runs.{Effect, run}
use Rattle.semantics.specs.Meaning.Agrees.{is_among, visible_behind}
use Rattle.semantics.specs.Loops.Nest.{Loop, Vector, nest_of, iterations}
use Rattle.semantics.specs.Loops.Access.{Conflict}
use Rattle.law_commute.specs.Targets.{targets_outside}
use Rattle.law_commute.specs.Commuting.{KeepsToItself, InnerLoopsTurn}
use Rattle.law_commute.specs.Joining.{DeclaresLocals}
use Rattle.law_nests.specs.Walks.{walk}

-- what objects at file scope hold
abbrev pub Cells : Type 0
Cells = Variable → List ℕ → Option ℕ

-- what they hold behind an effect
abbrev pub left_by : State → Effect → Cells
left_by s e = (overwritten s e.writes).cells

-- none of these effects changes an object
abbrev pub NoneChanges : State → List Effect → Variable → List ℕ → Type 0
NoneChanges outer es x is = (k : ℕ) (e : Effect) → slice_get es k ≡ Some e → left_by outer e x is ≡ outer.cells x is

-- one of them does, and the object holds what that one leaves
pub record OneChanges (outer : State) (es : List Effect) (after : Cells) (x : Variable) (is : List ℕ) : Type 0 where
  pub number : ℕ
  pub effect : Effect
  pub among : slice_get es number ≡ Some effect
  pub changes : left_by outer effect x is ≡ outer.cells x is → ⊥
  pub leaves : after x is ≡ left_by outer effect x is

-- each object is as before where none of these effects changes it, and else as one of them leaves it that does
abbrev pub Merges : State → List Effect → Cells → Type 0
Merges outer es after =
    (x : Variable) (is : List ℕ) → (NoneChanges outer es x is × (after x is ≡ outer.cells x is)) ⊎ OneChanges outer es after x is

-- chunks of a nest's iterations, each from the state before the nest, have a run each, and what they change, put together, is what the nest leaves; it leaves what is visible round it as it was, but for the scalars that it assigns there, and prints what the chunks print, one after another in their order (OpenMP 5.2, 15.10.2)
pub record WalkApart (s : Stmt) (loops : List Loop) (body : Stmt) (chunks : List (List Vector)) (outer : State) (e : Effect) : Type 0 where
  pub effects : List Effect
  pub each : map (λ us. walk loops body us outer) chunks ≡ map Some effects
  pub merge : (after : Cells) → Merges outer effects after → (x : Variable) (is : List ℕ) → after x is ≡ left_by outer e x is
  pub locals : (x : Variable) → visible_behind s x ≡ true → is_among (targets_outside s) x ≡ false
      → (overwritten outer e.writes).locals x ≡ outer.locals x
  pub text : e.text ≡ flat_map (λ (f : Effect). f.text) effects

-- so do chunks of iterations that are all different and of which no two conflict: which of them comes last is of no matter
abbrev pub IndependentChunksMerge : Type 0
IndependentChunksMerge =
    (n : ℕ) (s : Stmt) (loops : List Loop) (body : Stmt) (outer : State) (us : List Vector) (chunks : List (List Vector)) (e : Effect)
    → nest_of n s ≡ Some (loops, body) → KeepsToItself s → KeepsToItself body → DeclaresLocals s outer → iterations loops outer ≡ Some us
    → AllPairs (λ u v. u ≢ v) us → ((u : Vector) → Contains us u → InnerLoopsTurn loops body outer u)
    → ((u v : Vector) → Contains us u → Contains us v → Conflict loops body outer u v → ⊥)
    → flat_map (λ vs. vs) chunks ≡ us → run s outer ≡ Some e → WalkApart s loops body chunks outer e
