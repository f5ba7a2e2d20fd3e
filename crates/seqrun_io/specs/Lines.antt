-- The lines of a dump, from the values as they are kept.
use Rattle.std.specs.Prelude.{ℕ, ◌≡◌, List, [], ◌∷◌, ◌++◌, Some, map, flat_map}
use Rattle.std.specs.Fmt.{decimal}
use Rattle.semantics.specs.Tree.{Declaration}
use Rattle.semantics.specs.Meaning.Places.{all_indexes}
use Rattle.semantics.specs.Meaning.Output.{cell_text}
use Rattle.store.specs.Kept.{Kept, cell_of}

-- a variable for each declaration, with its lengths
abbrev pub HasLengths : List Declaration → List Kept → Type 0
HasLengths ds ks = map (λ k. k.lengths) ks ≡ map (λ d. d.lengths) ds

-- a space and the decimal
abbrev pub value_text : ℕ → List ℕ
value_text v = 32 ∷ decimal v

-- the line of a variable that is kept like this
abbrev pub line_of : Declaration → Kept → List ℕ
line_of d k = d.name ++ 32 ∷ 61 ∷ flat_map (λ is. cell_text (cell_of (Some k) is)) (all_indexes d.lengths) ++ 10 ∷ []
