-- Where tokens stand in a text (C11 5.1.1.2, 6.4): each is the text at its span, and spans follow one another.
use Rattle.std.specs.Prelude.{ℕ, suc, ◌≡◌, ◌≤◌, ◌+◌, ◌==◌, true, not, if◌then◌else◌, List, [], ◌∷◌, length, take, drop, Some}
use Rattle.semantics.specs.Source.Text.{starts_with, is_directive_line}
use Rattle.semantics.specs.Source.Token.{Token, Header, Line}
use Rattle.semantics.specs.Source.Cuts.{Stands, stops, is_line, header_of}

-- a token's first byte in its text, from 0, and how many bytes it has
pub record Span : Type 0 where
  pub first : ℕ
  pub count : ℕ

-- how many lines end in these bytes
abbrev pub line_ends : List ℕ → ℕ
line_ends [] = 0
line_ends (b ∷ bs) = if b == 10 then suc (line_ends bs) else line_ends bs

-- the bytes of a span, and those behind it
abbrev pub spanned : List ℕ → Span → List ℕ
spanned text s = take s.count (drop s.first text)

-- the bytes behind it
abbrev pub behind_span : List ℕ → Span → List ℕ
behind_span text s = drop (s.first + s.count) text

-- a span is all that its line has, from the `#` on
pub record IsWholeLine (text : List ℕ) (s : Span) : Type 0 where
  pub begins : starts_with (35 ∷ []) (spanned text s) ≡ true
  pub ends : stops (λ b. not (b == 10)) (behind_span text s) ≡ true

-- a token is the text at a span; an include or directive line is so from its `#` to its end, and a directive line by its number
abbrev pub IsAt : List ℕ → Span → Token → Type 0
IsAt text s (Header h) = (is_line (spanned text s) ≡ true) × (header_of (spanned text s) ≡ Some h) × IsWholeLine text s
IsAt text s (Line n) =
    (is_line (spanned text s) ≡ true) × (is_directive_line (spanned text s) ≡ true) × (n ≡ suc (line_ends (take s.first text)))
    × IsWholeLine text s
IsAt text s t = Stands (spanned text s) (behind_span text s) t

-- tokens stand at these spans, one behind another from here on
abbrev pub AreAt : List ℕ → ℕ → List Span → List Token → Type 0
AreAt text from [] [] = Unit {0}
AreAt text from (s ∷ ss) (t ∷ ts) =
    (from ≤ s.first) × (s.first + s.count ≤ length text) × IsAt text s t × AreAt text (s.first + s.count) ss ts
AreAt text from [] (t ∷ ts) = ⊥
AreAt text from (s ∷ ss) [] = ⊥
