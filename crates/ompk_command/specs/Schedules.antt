-- Words for a schedule. (OpenMP 5.2, 11.5.3)
use Rattle.std.specs.Prelude.{ℕ, true, ◌≡◌, ◌≤◌, ◌^◌, ◌⊎◌, List, Option, Some, None, codes}
use Rattle.semantics.specs.Source.Text.{starts_with, behind}
use Rattle.semantics.specs.Source.Cuts.{is_decimal, decimal_from}
use Rattle.semantics.specs.Loops.Chunk.{Kind, PlainStatic, Static, Dynamic, Guided}

-- a kind with its comma stands in front, and the rest is the size, 1 to 2^24, without leading zeros
abbrev pub IsSized : List ℕ → List ℕ → ℕ → Type 0
IsSized kind word size =
    (starts_with kind word ≡ true) × (is_decimal (behind kind word) ≡ true) × (decimal_from 0 (behind kind word) ≡ size)
    × (1 ≤ size) × (size ≤ 2 ^ 24)

-- a word names this kind with its size
abbrev pub IsNamedInFull : List ℕ → Kind → Type 0
IsNamedInFull word PlainStatic = ⊥
IsNamedInFull word (Static size) = IsSized (codes "static,") word size
IsNamedInFull word (Dynamic size) = IsSized (codes "dynamic,") word size
IsNamedInFull word (Guided size) = IsSized (codes "guided,") word size

-- a word alone names this kind; `auto` is plain static, and a size that is left out is 1
abbrev pub IsNamedInShort : List ℕ → Kind → Type 0
IsNamedInShort word PlainStatic = (word ≡ codes "static") ⊎ (word ≡ codes "auto")
IsNamedInShort word (Static size) = ⊥
IsNamedInShort word (Dynamic size) = (word ≡ codes "dynamic") × (size ≡ 1)
IsNamedInShort word (Guided size) = (word ≡ codes "guided") × (size ≡ 1)

-- a word names this kind
abbrev pub IsNamed : List ℕ → Kind → Type 0
IsNamed word kind = IsNamedInShort word kind ⊎ IsNamedInFull word kind

-- what is found is so, and where nothing is found nothing is so
abbrev pub Finds : {X : Type 0} → (X → Type 0) → Option X → Type 0
Finds IsSo (Some x) = IsSo x
Finds {X} IsSo None = (x : X) → IsSo x → ⊥
