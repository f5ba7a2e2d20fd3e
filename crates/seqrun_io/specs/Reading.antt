-- What an input is read for, and what is known of the variables that it may name.
use Rattle.std.specs.Prelude.{ℕ, suc, Bool, true, false, not, ◌≡◌, ◌≢◌, ◌⊎◌, ◌≤◌, ◌<◌, ◌==◌, ◌^◌, nat_eq, if◌then◌else◌, List, [], ◌∷◌, ◌++◌, length, take, Option, Some, None, option_map, slice_index_or, replicate, flat_map, All}
use Rattle.std.specs.BTreeMap.{BTreeMap, get_by}
use Rattle.std.specs.Cmp.Lexicographic.{slice_cmp}
use Rattle.std.specs.Ordering.{nat_cmp}
use denote.Ref.{Bor}
use Rattle.std.specs.List.{list_any, list_all}
use Rattle.semantics.specs.Tree.{Name, Declaration}
use Rattle.semantics.specs.Source.Cuts.{is_name, decimal_from}
use Rattle.semantics.specs.Meaning.Places.{size}
use Rattle.semantics.specs.Meaning.Output.{Given, IsInput, IsGiven, input_line, values_at, start}
use Rattle.semantics.specs.Meaning.InputFault as fault
use Rattle.semantics.specs.Meaning.InputFault.{is_value, split_from, declared_from, first_fault, fault_from, judged}
use Rattle.store.specs.Kept.{Kept, state_of}
use Rattle.ktree.specs.declared.refusal.Cause.{Cause}
use Rattle.ktree.specs.declared.refusal.Cause.TheVariants as cause
use Rattle.ktree.specs.declared.refusal.InputFault.{InputFault}
use Rattle.ktree.specs.declared.refusal.Refusal.{Refusal}
use Rattle.ktree.specs.declared.refusal.Refusal.TheVariants as refusal
use Rattle.seqrun_io.specs.declared.reading.Fault.{Fault}
use Rattle.seqrun_io.specs.declared.reading.Fault.TheVariants.{Line, Memory}
use Rattle.seqrun_io.specs.Lines.{HasLengths, value_text}

-- no declaration has this name
abbrev pub IsOther : Name → List Declaration → Type 0
IsOther name [] = Unit {0}
IsOther name (d ∷ ds) = (name ≢ d.name) × IsOther name ds

-- each length is at least 1 (C11 6.7.6.2, 1)
abbrev pub ArePositive : List ℕ → Type 0
ArePositive [] = Unit {0}
ArePositive (n ∷ ns) = (1 ≤ n) × ArePositive ns

-- names of C, no two the same, and no empty array (C11 6.4.2.1, 6.7, 3 and 6.7.6.2)
abbrev pub AreVariables : List Declaration → Type 0
AreVariables [] = Unit {0}
AreVariables (d ∷ ds) = (is_name d.name ≡ true) × IsOther d.name ds × ArePositive d.lengths × AreVariables ds

-- a line's first cause
abbrev pub cause_of : Cause → fault.Cause
cause_of cause.Form = fault.WrongForm
cause_of cause.Name = fault.UnknownName
cause_of cause.Twice = fault.NamedTwice
cause_of cause.Count = fault.WrongCount
cause_of cause.Number = fault.WrongNumber

-- the words behind a space
abbrev pub words_behind : List ℕ → List (List ℕ)
words_behind [] = []
words_behind (b ∷ bs) = split_from [] bs

-- there is no such byte
abbrev pub has_none : ℕ → List ℕ → Bool
has_none mark w = list_all (λ b. not (b == mark)) w

-- up to the first such byte, or to the end
pub record IsBefore (mark : ℕ) (bytes : List ℕ) (n : ℕ) : Type 0 where
  pub within : n ≤ length bytes
  pub none : has_none mark (take n bytes) ≡ true
  pub there : n < length bytes → slice_index_or bytes n 0 ≡ mark

-- nothing, or a space in front
abbrev pub StartsWithSpace : List ℕ → Type 0
StartsWithSpace [] = Unit {0}
StartsWithSpace (b ∷ bs) = b ≡ 32

-- the number that a word is
abbrev pub value_of_word : List ℕ → Option ℕ
value_of_word w = if is_value w then Some (decimal_from 0 w) else None

-- these are the values behind a name
pub record AreRead (text values : List ℕ) : Type 0 where
  pub bytes : text ≡ flat_map value_text values
  pub right : list_all is_value (words_behind text) ≡ true
  pub count : length (words_behind text) ≡ length values
  pub small : All (λ v. v < 2 ^ 64) values

-- a map has the place of the first declaration of each name
abbrev pub ArePlaces : List Declaration → BTreeMap (Bor (List ℕ)) ℕ → Type 0
ArePlaces ds places = (name : Name) → get_by (λ k. slice_cmp nat_cmp name k.now) places ≡ option_map (λ found. found.0) (declared_from 0 ds name)

-- whether a variable had a line, for each
pub record Marks (seen : List Bool) (marked : List ℕ) : Type 0 where
  pub each : (x : ℕ) → list_any (nat_eq x) marked ≡ slice_index_or seen x false

-- a right line for a variable that had none, and what it gives
pub record IsRight (ds : List Declaration) (seen : List Bool) (line : List ℕ) (x : ℕ) (values : List ℕ) : Type 0 where
  pub judges : (marked : List ℕ) → Marks seen marked → judged ds marked line ≡ fault.Right x
  pub text : line ++ 10 ∷ [] ≡ input_line ds (x, values)
  pub given : IsGiven ds (x, values)
  pub new : slice_index_or seen x false ≡ false

-- a faulty line with its first cause, or memory was refused
abbrev pub IsFault : List Declaration → List Bool → List ℕ → Fault → Type 0
IsFault ds seen line (Line cause) = (marked : List ℕ) → Marks seen marked → judged ds marked line ≡ fault.Faulty (cause_of cause)
IsFault ds seen line Memory = Unit {0}

-- the values of a variable, or zeros where it has no line
abbrev pub row_of : Option (List ℕ) → ℕ → List ℕ
row_of None n = replicate n 0
row_of (Some values) n = values

-- the variables from one on as an input leaves them
abbrev pub kept_from : ℕ → List Declaration → Given → List Kept
kept_from x [] given = []
kept_from x (d ∷ ds) given = record { lengths = d.lengths; values = row_of (values_at given x) (size d.lengths) } ∷ kept_from (suc x) ds given

-- the bytes are an input, and the variables, each with all its values, are those that a program starts with for it
pub record IsStart (ds : List Declaration) (bytes : List ℕ) (ks : List Kept) : Type 0 where
  pub given : Given
  pub read : IsInput ds bytes given
  pub kept : ks ≡ kept_from 0 ds given
  pub state : state_of ks ≡ start ds given
  pub lengths : HasLengths ds ks

-- the first faulty line and its first cause, of bytes that are no input
pub record IsFirstFault (ds : List Declaration) (bytes : List ℕ) (f : InputFault) : Type 0 where
  pub first : first_fault ds bytes ≡ Some (f.line, cause_of f.cause)
  pub none : (given : Given) → IsInput ds bytes given → ⊥

-- memory was refused, or the bytes are no input
abbrev pub RefusesInput : List Declaration → List ℕ → Refusal → Type 0
RefusesInput ds bytes r = (r ≡ refusal.OutOfMemory) ⊎ ((f : InputFault) × (r ≡ refusal.Input f) × IsFirstFault ds bytes f)

-- what a fault of the line of this number is refused by
abbrev pub refused : Fault → ℕ → Refusal
refused (Line cause) n = refusal.Input (record { line = n; cause = cause })
refused Memory n = refusal.OutOfMemory
