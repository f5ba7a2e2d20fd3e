-- Each number taken as 1, whatever its size.
use Rattle.std.specs.Prelude.{ℕ, Bool, ◌&&◌, nat_le, if◌then◌else◌, List, map, codes}
use Rattle.semantics.specs.Source.Token.{Token, Word}
use Rattle.semantics.specs.Source.Cuts.{is_decimal, decimal_from}

-- a bare literal from 1 on
abbrev pub is_number : List ℕ → Bool
is_number w = is_decimal w && nat_le 1 (decimal_from 0 w)

-- a word, where each number stands as 1
abbrev pub one : List ℕ → List ℕ
one w = if is_number w then codes "1" else w

-- a token
abbrev pub with_one : Token → Token
with_one (Word w) = Word (one w)
with_one t = t

-- tokens
abbrev pub ones : List Token → List Token
ones ts = map with_one ts
