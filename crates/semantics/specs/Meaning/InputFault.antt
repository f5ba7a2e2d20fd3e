-- The first faulty line of an input, and what is wrong with it.
use Rattle.std.specs.Prelude.{ℕ, suc, Bool, true, false, not, ◌==◌, ◌&&◌, ◌^◌, nat_eq, nat_lt, if◌then◌else◌, List, [], ◌∷◌, ◌++◌, length, Option, Some, None}
use Rattle.std.specs.List.{list_any, list_all}
use Rattle.semantics.specs.Tree.{Name, Variable, Declaration}
use Rattle.semantics.specs.Source.Scope.{same_name}
use Rattle.semantics.specs.Source.Cuts.{is_printable, is_decimal, decimal_from}
use Rattle.semantics.specs.Meaning.Places.{size}

-- in the order in which they are looked for: the line's form, its name, a second line for a variable, the number of values, a value
pub data Cause : Type 0 where
  WrongForm UnknownName NamedTwice WrongCount WrongNumber : Cause

-- a line is right, and for this variable, or it is faulty
pub data Judged : Type 0 where
  Right : Variable → Judged
  Faulty : Cause → Judged

-- the words between single spaces, some perhaps empty; word: what was passed of one
abbrev pub split_from : List ℕ → List ℕ → List (List ℕ)
split_from word [] = word ∷ []
split_from word (b ∷ bs) = if b == 32 then word ∷ split_from [] bs else split_from (word ++ b ∷ []) bs

-- no byte
abbrev pub is_empty : List ℕ → Bool
is_empty [] = true
is_empty (b ∷ bs) = false

-- printable bytes alone, and no word empty: so no empty line, no space at an end, no two spaces together
abbrev pub is_formed : List ℕ → Bool
is_formed line = list_all is_printable line && list_all (λ w. not (is_empty w)) (split_from [] line)

-- a file-scope variable by its name, with its number of elements
abbrev pub declared_from : Variable → List Declaration → Name → Option (Variable × ℕ)
declared_from x [] name = None
declared_from x (d ∷ ds) name = if same_name d.name name then Some (x, size d.lengths) else declared_from (suc x) ds name

-- `0` or a decimal without leading zeros, below 2^64
abbrev pub is_value : List ℕ → Bool
is_value w = is_decimal w && nat_lt (decimal_from 0 w) (2 ^ 64)

-- seen: the variables of the lines in front
abbrev pub judged_values : List Variable → Variable × ℕ → List (List ℕ) → Judged
judged_values seen found values =
    if list_any (nat_eq found.0) seen then Faulty NamedTwice
    else (if not (length values == found.1) then Faulty WrongCount
    else (if list_all is_value values then Right found.0 else Faulty WrongNumber))

-- a name that no file-scope variable has
abbrev pub judged_at : List Variable → Option (Variable × ℕ) → List (List ℕ) → Judged
judged_at seen None values = Faulty UnknownName
judged_at seen (Some found) values = judged_values seen found values

-- the first word is the name
abbrev pub judged_words : List Declaration → List Variable → List (List ℕ) → Judged
judged_words ds seen [] = Faulty WrongForm
judged_words ds seen (name ∷ values) = judged_at seen (declared_from 0 ds name) values

-- a line, without its end
abbrev pub judged : List Declaration → List Variable → List ℕ → Judged
judged ds seen line = if is_formed line then judged_words ds seen (split_from [] line) else Faulty WrongForm

-- where a line is faulty the answer is its number and cause, and else what the lines behind it give
abbrev pub by_judged : ℕ → Judged → (Variable → Option (ℕ × Cause)) → Option (ℕ × Cause)
by_judged n (Right x) further = further x
by_judged n (Faulty cause) further = Some (n, cause)

-- from line n on; line: what was passed of it. Bytes without a line end are a line of wrong form
abbrev pub fault_from : List Declaration → ℕ → List Variable → List ℕ → List ℕ → Option (ℕ × Cause)
fault_from ds n seen line [] = if is_empty line then None else Some (n, WrongForm)
fault_from ds n seen line (b ∷ bs) =
    if b == 10
    then by_judged n (judged ds seen line) (λ x. fault_from ds (suc n) (x ∷ seen) [] bs)
    else fault_from ds n seen (line ++ b ∷ []) bs

-- the first faulty line, from 1, and its first cause
abbrev pub first_fault : List Declaration → List ℕ → Option (ℕ × Cause)
first_fault ds bytes = fault_from ds 1 [] [] bytes
