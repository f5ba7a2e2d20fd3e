-- What is said of a refusal, and a program's exit status for it.
use Rattle.std.specs.Prelude.{ℕ, ◌+◌, ◌/◌, ◌%◌, ◌==◌, ◌||◌, if◌then◌else◌, List, [], ◌∷◌, ◌++◌, map, flat_map, codes, Option, Some, None, string_bytes}
use Rattle.std.specs.Fmt.{decimal}
use Rattle.ktree.specs.Numbers.{number_of}
use Rattle.ktree.specs.Places.{place_of}
use Rattle.ktree.specs.Words.{words_of, cause_words}
use Rattle.ktree.specs.declared.place.Place.{Place}
use Rattle.ktree.specs.declared.refusal.NotShown as accesses
use Rattle.ktree.specs.declared.refusal.Conflict as conflict
use Rattle.ktree.specs.declared.refusal.Refusal.{Refusal}
use Rattle.ktree.specs.declared.refusal.Refusal.TheVariants.{Conflict, NotShown, Input}

-- words one behind another
abbrev pub joined : List (List ℕ) → List ℕ
joined parts = flat_map (λ part. part) parts

-- words one behind another, and the end of the line
abbrev pub line_text : List (List ℕ) → List ℕ
line_text parts = joined (parts ++ codes "\n" ∷ [])

-- `K`, two digits and a space
abbrev pub head_text : ℕ → List ℕ
head_text number = 75 ∷ (48 + number / 10) ∷ (48 + number % 10) ∷ 32 ∷ []

-- `line:column`
abbrev pub place_parts : Place → List (List ℕ)
place_parts p = decimal p.line ∷ codes ":" ∷ decimal p.column ∷ []

-- the place with a space behind it, if there is one
abbrev pub start_parts : Option Place → List (List ℕ)
start_parts None = []
start_parts (Some p) = place_parts p ++ codes " " ∷ []

-- an array, and where its two accesses stand
abbrev pub access_parts : accesses.NotShown → List (List ℕ)
access_parts a = codes ": " ∷ string_bytes a.array ∷ codes " at " ∷ place_parts a.first ++ codes " and " ∷ place_parts a.second

-- two iterations, and the array of an element that both touch
abbrev pub iteration_parts : conflict.Conflict → List (List ℕ)
iteration_parts c =
    codes ", iterations " ∷ decimal c.earlier ∷ codes " and " ∷ decimal c.later ∷ codes ", element " ∷ string_bytes c.accesses.array ∷ []

-- an element's index
abbrev pub index_text : ℕ → List ℕ
index_text index = codes "[" ++ decimal index ++ codes "]"

-- two accesses, and the iterations and the element at which they conflict
abbrev pub conflict_parts : conflict.Conflict → List (List ℕ)
conflict_parts c = access_parts c.accesses ++ (iteration_parts c ++ map index_text c.indexes.items)

-- what is said further, of accesses and of an input's line
abbrev pub detail_parts : Refusal → List (List ℕ)
detail_parts (Conflict c) = conflict_parts c
detail_parts (NotShown a) = access_parts a
detail_parts (Input f) = decimal f.line ∷ codes ": " ∷ cause_words f.cause ∷ []
detail_parts _ = []

-- the line that is written for a refusal
abbrev pub message_of : Refusal → List ℕ
message_of r = joined ((head_text (number_of r) ∷ start_parts (place_of r)) ++ (words_of r ∷ (detail_parts r ++ codes "\n" ∷ [])))

-- the exit status: 1 for a faulty input or output, 4 for want of memory, 3 for a text
abbrev pub status_of : ℕ → ℕ
status_of number = if (number == 22) || (number == 24) then 1 else (if number == 23 then 4 else 3)
