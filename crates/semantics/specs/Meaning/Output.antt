-- What a C program writes for an input: its printed text, and then each file-scope variable.
use Rattle.std.specs.Prelude.{ℕ, suc, ◌==◌, ◌≡◌, ◌≢◌, ◌<◌, ◌^◌, if◌then◌else◌, List, [], ◌∷◌, ◌++◌, length, flat_map, Option, Some, None, slice_get, All}
use Rattle.std.specs.Fmt.{decimal}
use Rattle.semantics.specs.Tree.{Variable, Declaration, Kernel}
use Rattle.semantics.specs.Meaning.State.{State, Outside, overwritten}
use Rattle.semantics.specs.Meaning.Value.{map_option}
use Rattle.semantics.specs.Meaning.Runs.{run_items}
use Rattle.semantics.specs.Meaning.Places.{within, place, size, all_indexes}

-- what the input says of the variables: at each that it names, the values row by row
abbrev pub Given : Type 0
Given = List (Variable × List ℕ)

-- a line of the input: the name, and a space and the decimal for each value
abbrev pub name_of : Option Declaration → List ℕ
name_of None = []
name_of (Some d) = d.name

-- the line for a variable
abbrev pub input_line : List Declaration → Variable × List ℕ → List ℕ
input_line ds given = name_of (slice_get ds given.0) ++ flat_map (λ v. 32 ∷ decimal v) given.1 ++ 10 ∷ []

-- all lines, in any order of the variables
abbrev pub input_text : List Declaration → Given → List ℕ
input_text ds given = flat_map (input_line ds) given

-- a variable that is there, with as many values as elements, each below 2^64
abbrev pub IsGiven : List Declaration → Variable × List ℕ → Type 0
IsGiven ds given = (d : Declaration) × (slice_get ds given.0 ≡ Some d) × (length given.1 ≡ size d.lengths) × All (λ v. v < 2 ^ 64) given.1

-- no variable has two lines
abbrev pub NotAmong : Variable → Given → Type 0
NotAmong x [] = Unit {0}
NotAmong x (g ∷ gs) = (x ≢ g.0) × NotAmong x gs

-- each line is right, and no variable has two
abbrev pub AreGiven : List Declaration → Given → Type 0
AreGiven ds [] = Unit {0}
AreGiven ds (g ∷ gs) = IsGiven ds g × NotAmong g.0 gs × AreGiven ds gs

-- the bytes are an input, and say this
pub record IsInput (ds : List Declaration) (bytes : List ℕ) (given : Given) : Type 0 where
  pub text : bytes ≡ input_text ds given
  pub each : AreGiven ds given

-- the values of a variable that has a line
abbrev pub values_at : Given → Variable → Option (List ℕ)
values_at [] x = None
values_at (g ∷ gs) x = if g.0 == x then Some g.1 else values_at gs x

-- an element's first value: the input's, or 0
abbrev pub first_value : Option (List ℕ) → ℕ → Option ℕ
first_value None k = Some 0
first_value (Some vs) k = slice_get vs k

-- an object that is declared, and no other
abbrev pub first_cell : Option Declaration → Option (List ℕ) → List ℕ → Option ℕ
first_cell None vs is = None
first_cell (Some d) vs is = if within d.lengths is then first_value vs (place d.lengths is) else None

-- the state that a program starts from: file-scope objects at the input's values, else at 0 (C11 6.7.9, 10)
abbrev pub start : List Declaration → Given → State
start ds given = record { cells = λ x is. first_cell (slice_get ds x) (values_at given x) is; locals = λ x. Outside }

-- a line for a variable: its name, " =", and a space and the decimal for each element row by row
abbrev pub cell_text : Option ℕ → List ℕ
cell_text None = []
cell_text (Some v) = 32 ∷ decimal v

-- a variable's line
abbrev pub dump_line : State → Variable → Declaration → List ℕ
dump_line s x d = d.name ++ 32 ∷ 61 ∷ flat_map (λ is. cell_text (s.cells x is)) (all_indexes d.lengths) ++ 10 ∷ []

-- from a variable on
abbrev pub dump_from : State → Variable → List Declaration → List ℕ
dump_from s x [] = []
dump_from s x (d ∷ ds) = dump_line s x d ++ dump_from s (suc x) ds

-- all the file-scope variables, in order of declaration
abbrev pub dump : List Declaration → State → List ℕ
dump ds s = dump_from s 0 ds

-- what a program without directive lines writes for an input: the printed text, and the variables as it leaves them (C11 5.1.2.3, 6)
abbrev pub output : Kernel → Given → Option (List ℕ)
output k given =
    map_option
    (λ e. e.text ++ dump k.variables (overwritten (start k.variables given) e.writes))
    (run_items k.body (start k.variables given))

-- the bytes that are written for the bytes of an input; tree is that of the erased text
pub record Outputs (tree : Kernel) (input : List ℕ) (out : List ℕ) : Type 0 where
  pub given : Given
  pub read : IsInput tree.variables input given
  pub is : output tree given ≡ Some out
