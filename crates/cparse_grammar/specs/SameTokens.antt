-- Tokens that are the same but for literals that are too great, whose value nobody keeps.
use Rattle.std.specs.Prelude.{◌≡◌, ◌⊎◌, ◌≤◌, ◌^◌, List, [], ◌∷◌}
use Rattle.semantics.specs.Source.Token.{Token, IntegerConstant}

-- two literals of one value, or of values past 2^64
abbrev pub IsSame : Token → Token → Type 0
IsSame (IntegerConstant m s) (IntegerConstant n u) = (s ≡ u) × ((m ≡ n) ⊎ ((2 ^ 64 ≤ m) × (2 ^ 64 ≤ n)))
IsSame t u = t ≡ u

-- one by one
abbrev pub AreSame : List Token → List Token → Type 0
AreSame [] [] = Unit {0}
AreSame (t ∷ ts) (u ∷ us) = IsSame t u × AreSame ts us
AreSame [] (u ∷ us) = ⊥
AreSame (t ∷ ts) [] = ⊥
