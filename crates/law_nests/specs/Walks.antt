-- Iterations run one after another in one memory: what the body leaves of its own variables still stands at the next. (C11 6.2.4 and 6.8.5.3)
use Rattle.std.specs.Prelude.{ℕ, ◌≡◌, List, [], ◌∷◌, length, Option, Some, Contains}
use Rattle.semantics.specs.Tree.{Variable, Stmt}
use Rattle.semantics.specs.Meaning.State.{State, Write, Declared, overwritten}
use Rattle.semantics.specs.Meaning.Runs.{Effect, nothing, then_from, run}
use Rattle.semantics.specs.Loops.Nest.{Loop, Vector, nest_of}
use Rattle.semantics.specs.Loops.Piece.{run_iterations}
use Rattle.law_commute.specs.Commuting.{KeepsToItself, InnerLoopsTurn}
use Rattle.law_commute.specs.Joining.{DeclaresLocals}

-- the loops' variables take an iteration's values
abbrev pub entered : List Loop → Vector → List Write
entered [] vs = []
entered (l ∷ ls) [] = []
entered (l ∷ ls) (v ∷ vs) = Declared l.variable (Some v) ∷ entered ls vs

abbrev pub enters : List Loop → Vector → Effect
enters ls u = record { writes = entered ls u; text = [] }

-- iterations, each from where the one before it ended
abbrev pub walk : List Loop → Stmt → List Vector → State → Option Effect
walk loops body [] s = Some nothing
walk loops body (u ∷ us) s = then_from s (Some (enters loops u)) (λ t. then_from t (run body t) (walk loops body us))

-- a walk has a run, which prints what this effect prints and leaves the objects at file scope as it does
pub record WalksTo (loops : List Loop) (body : Stmt) (us : List Vector) (s : State) (e : Effect) : Type 0 where
  pub effect : Effect
  pub ran : walk loops body us s ≡ Some effect
  pub text : effect.text ≡ e.text
  pub cells : (x : Variable) (is : List ℕ) → (overwritten s effect.writes).cells x is ≡ (overwritten s e.writes).cells x is

-- a walk over iterations of a nest that keeps to itself prints and leaves what they do
abbrev pub WalksLeaveTheSame : Type 0
WalksLeaveTheSame =
    (n : ℕ) (s : Stmt) (loops : List Loop) (body : Stmt) (outer : State) (us : List Vector) (e : Effect) → nest_of n s ≡ Some (loops, body)
    → KeepsToItself s → KeepsToItself body → DeclaresLocals s outer
    → ((u : Vector) → Contains us u → (length u ≡ length loops) × InnerLoopsTurn loops body outer u)
    → run_iterations loops body us outer ≡ Some e → WalksTo loops body us outer e
