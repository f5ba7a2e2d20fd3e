-- How the nests of a kernel run where they are reached. (OpenMP 5.2, 4.4.2)
use Rattle.std.specs.Prelude.{ℕ, ◌≡◌, ◌≤◌, ◌^◌, true, ℤ, List, [], map, Contains, Some}
use Rattle.semantics.specs.Tree.{Variable, Stmt, Kernel}
use Rattle.semantics.specs.Meaning.State.{State, Holds}
use Rattle.semantics.specs.Loops.Nest.{Loop, nest_of}
use Rattle.semantics.specs.Theorems.{IsTurn}
use Rattle.law_lines.specs.Without.{IsTreeOf}
use Rattle.affine.specs.declared.interval.Side.{Side}
use Rattle.affine_expr.specs.Forms.{is_counter}
use Rattle.nest_loop.specs.declared.head.Canonical.{Canonical}
use Rattle.nest_loop.specs.Turn.{HoldCounters}
use Rattle.nest_space.specs.Space.{Turns, product}
use Rattle.nest_space.specs.Heads.{AreHeadsOf}
use Rattle.nest_space.specs.Reached.{AreRunsReached}
use Rattle.nest.specs.Perfect.{AreRightNests}
use Rattle.flow.specs.Roles.{ItemsHaveBy}

-- loops run so where the variables of those round them have these values: each stays, up to the first that never turns, and they make at most 2^24 vectors
pub record RunFew (values : Variable → ℤ) (ls : List Canonical) : Type 0 where
  pub turns : List Turns
  pub runs : AreRunsReached ls values turns
  pub few : product turns ≤ 2 ^ 24

-- in this state a nest inside serial loops runs so, whatever box its loops' bounds are read in that has no variables but theirs; and these hold small numbers
pub record RunsFew (serial loops : List Loop) (outer : State) : Type 0 where
  pub small : (x : Variable) (n : ℕ) → Contains (map (λ h. h.variable) serial) x → outer.locals x ≡ Holds n → n ≤ 2 ^ 33
  pub runs : (box : List Side) (values : Variable → ℤ) (ls : List Canonical) → ((x : Variable) → is_counter box x ≡ true → Contains (map (λ h. h.variable) serial) x)
      → HoldCounters box values outer → AreHeadsOf box loops ls → RunFew values ls

-- so it does at each turn of the serial loops
abbrev pub RunsFewAtTurns : List Loop → ℕ → Stmt → Type 0
RunsFewAtTurns serial n s = (loops : List Loop) (body : Stmt) (outer : State) → nest_of n s ≡ Some (loops, body) → IsTurn serial outer → RunsFew serial loops outer

-- each parallel loop of a kernel with right nests runs so
abbrev pub RightNestsRunFew : Type 0
RightNestsRunFew = (text : List ℕ) (k : Kernel) → IsTreeOf text k → AreRightNests text k → ItemsHaveBy text (λ line. RunsFewAtTurns) [] k.body
