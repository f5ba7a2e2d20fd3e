-- Where the lines of a text begin.
use Rattle.std.specs.Prelude.{ℕ, suc, ◌≡◌, ◌==◌, if◌then◌else◌, List, [], ◌∷◌}

-- behind each line end, of a text that begins at a position
abbrev pub starts_from : ℕ → List ℕ → List ℕ
starts_from at [] = []
starts_from at (b ∷ bs) = if b == 10 then suc at ∷ starts_from (suc at) bs else starts_from (suc at) bs

-- of the whole text: the first line begins where it does
abbrev pub line_starts : List ℕ → List ℕ
line_starts text = 0 ∷ starts_from 0 text

-- a list of them
pub record AreStarts (text : List ℕ) (starts : List ℕ) : Type 0 where
  pub all : starts ≡ line_starts text
