-- What a statement does to its reduction variables. (OpenMP 5.2, 5.5)
use Rattle.std.specs.Prelude.{ℕ, Bool, true, false, ◌≡◌, ◌==◌, ◌&&◌, not, if◌then◌else◌, List, [], ◌∷◌, Option, Some, None, IsSome}
use Rattle.std.specs.List.{list_all}
use Rattle.semantics.specs.Tree.{Variable, Stmt}
use Rattle.semantics.specs.Meaning.State.{State, Write, Declared, Assigned, overwritten, look}
use Rattle.semantics.specs.Meaning.Runs.{Effect, run}
use Rattle.semantics.specs.Loops.Operator.{ReduceOp, apply, combined}
use Rattle.semantics.specs.Loops.Piece.{is_outside}
use Rattle.law_roles.specs.Updates.{operator_of, is_plain, is_and_also, is_or_else, reduces, operands}

-- two states are the same but for reduction variables
pub record AgreesBut (rs : List (Variable × ReduceOp)) (s t : State) : Type 0 where
  pub locals : (x : Variable) → is_plain rs x ≡ true → s.locals x ≡ t.locals x
  pub cells : (x : Variable) (is : List ℕ) → is_plain rs x ≡ true → s.cells x is ≡ t.cells x is

-- each reduction variable holds a number
abbrev pub AreHeld : List (Variable × ReduceOp) → State → Type 0
AreHeld rs s = (x : Variable) (op : ReduceOp) → operator_of rs x ≡ Some op → IsSome (look s x [])

-- each is a local
abbrev pub AreLocal : List (Variable × ReduceOp) → State → Type 0
AreLocal rs s = (x : Variable) (op : ReduceOp) → operator_of rs x ≡ Some op → is_outside (s.locals x) ≡ false

-- a partial and one number more
abbrev pub joined_with : ReduceOp → Option ℕ → ℕ → Option ℕ
joined_with op None v = Some v
joined_with op (Some p) v = Some (apply op p v)

-- what is assigned to a variable, combined in order
abbrev pub partial_of : ReduceOp → Variable → Option ℕ → List Write → Option ℕ
partial_of op x p [] = p
partial_of op x p (Declared y v ∷ ws) = partial_of op x p ws
partial_of op x p (Assigned y is v ∷ ws) = partial_of op x (if y == x then joined_with op p v else p) ws

-- behind the statement each holds what it held before, combined with this
abbrev pub AreShifted : List (Variable × ReduceOp) → (ReduceOp → Variable → Option ℕ) → State → State → Type 0
AreShifted rs partial s after =
    (x : Variable) (op : ReduceOp) (v : ℕ) → operator_of rs x ≡ Some op → look s x [] ≡ Some v
    → look after x [] ≡ Some (combined op v (partial op x))

-- the run of a statement beside that of its operands
pub record IsTold (rs : List (Variable × ReduceOp)) (s t : State) (o : Option Effect) (f : Effect) : Type 0 where
  pub effect : Effect
  pub is : o ≡ Some effect
  pub text : effect.text ≡ f.text
  pub agrees : AgreesBut rs (overwritten s effect.writes) (overwritten t f.writes)
  pub shifted : AreShifted rs (λ op x. partial_of op x None f.writes) s (overwritten s effect.writes)

-- where the operands have a run, with the reduction variables as locals that may hold anything, so has the statement, and it combines them
abbrev pub OperandsTell : Type 0
OperandsTell =
    (rs : List (Variable × ReduceOp)) (a : Stmt) (s t : State) (f : Effect) → reduces rs a ≡ true → AgreesBut rs s t → AreHeld rs s
    → AreLocal rs t → run (operands rs a) t ≡ Some f → IsTold rs s t (run a s) f

-- no reduction is by && or ||, which leave an operand out where the variable decides (C11 6.5.13 and 6.5.14)
abbrev pub takes_all : List (Variable × ReduceOp) → Bool
takes_all rs = list_all (λ r. not (is_and_also r.1) && not (is_or_else r.1)) rs

-- then the operands have a run wherever the statement has one
abbrev pub OperandsRun : Type 0
OperandsRun =
    (rs : List (Variable × ReduceOp)) (a : Stmt) (s t : State) (e : Effect) → reduces rs a ≡ true → takes_all rs ≡ true → AgreesBut rs s t
    → AreHeld rs s → AreLocal rs t → run a s ≡ Some e → IsSome (run (operands rs a) t)

-- one partial for each variable, the same from all states that agree with this one but for reduction variables: the statement prints the same and leaves the same but for these
pub record IsShift (rs : List (Variable × ReduceOp)) (a : Stmt) (s : State) (e : Effect) : Type 0 where
  pub partial : ReduceOp → Variable → Option ℕ
  pub shifted : AreShifted rs partial s (overwritten s e.writes)
  pub others : (t : State) → AgreesBut rs s t → AreHeld rs t
      → (f : Effect) × (run a t ≡ Some f) × (f.text ≡ e.text) × AgreesBut rs (overwritten s e.writes) (overwritten t f.writes)
      × AreShifted rs partial t (overwritten t f.writes)

-- a statement that uses reduction variables in updates alone, none by && or ||, does the same whatever these hold
abbrev pub ReductionsShift : Type 0
ReductionsShift =
    (rs : List (Variable × ReduceOp)) (a : Stmt) (s : State) (e : Effect) → reduces rs a ≡ true → takes_all rs ≡ true → AreHeld rs s
    → run a s ≡ Some e → IsShift rs a s e
