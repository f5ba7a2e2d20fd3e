-- Loops whose bodies have two phases, by what their lines say. (OpenMP 5.2, 5.6)
use Rattle.std.specs.Prelude.{ℕ, suc, Bool, true, false, ◌≡◌, ◌⊎◌, List, [], ◌∷◌, Option, Some}
use Rattle.semantics.specs.Tree.{Variable, Stmt, Block, Items, no_items, mark, local, stmt}
use Rattle.semantics.specs.Meaning.Agrees.{is_among}
use Rattle.semantics.specs.Loops.Nest.{Loop, nest_of}
use Rattle.semantics.specs.Loops.Operator.{ReduceOp}
use Rattle.law_roles.specs.Sharing.{assigned_first}
use Rattle.law_scans.specs.Phases.{joined_items, keeps_phases}
use Rattle.flow.specs.Roles.{LoopData, LineData, AskedByLine}

-- whether the input phase comes first, and how many items stand in the first phase
abbrev pub PhasesSaid : Type 0
PhasesSaid = Bool × ℕ

-- those of the loop behind each line, if it is that of a scan
abbrev pub LinePhases : Type 0
LinePhases = ℕ → Option PhasesSaid

-- how many declarations and statements these are
abbrev pub item_count : Items → ℕ
item_count no_items = 0
item_count (mark line rest) = item_count rest
item_count (local x name start rest) = suc (item_count rest)
item_count (stmt s rest) = suc (item_count rest)

-- a nest whose body has these two phases, which carries one variable, by one operator, and reduces no other; no clause gives it a role
pub record HasPhases (d : LoopData) (said : Option PhasesSaid) (n : ℕ) (s : Stmt) : Type 0 where
  pub variable : Variable
  pub operator : ReduceOp
  pub sole : d.carried ≡ (variable, operator) ∷ []
  pub alone : d.roles.reductions ≡ []
  pub plain : is_among (assigned_first d.roles) variable ≡ false
  pub inclusive : Bool
  pub front : Items
  pub back : Items
  pub told : said ≡ Some (inclusive, item_count front)
  pub loops : List Loop
  pub nest : nest_of n s ≡ Some (loops, Block (joined_items front back))
  pub keeps : keeps_phases variable operator inclusive front back ≡ true

-- so is each loop that carries something
abbrev pub PhasesBy : LineData → LinePhases → AskedByLine
PhasesBy R P line serial n s = ((R line).carried ≡ []) ⊎ HasPhases (R line) (P line) n s
