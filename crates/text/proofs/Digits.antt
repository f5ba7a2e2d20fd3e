-- The value of digits.
use Rattle.std.specs.Prelude.{ℕ, ◌+◌, ◌*◌, ◌-◌, ◌≤◌, ◌<◌, List, [], ◌∷◌, length, drop}
use Rattle.std.proofs.Common.{get_or, arith}
use Rattle.std.proofs.lemmas.List.{at_drop_more}
use Rattle.semantics.specs.Source.Cuts.{decimal_from}

-- further digits make no number smaller
pub decimal_from-least : (n : ℕ) (ds : List ℕ) → n ≤ decimal_from n ds
decimal_from-least n [] = omega arith
decimal_from-least n (d ∷ ds) = let ih : n * 10 + (d - 48) ≤ decimal_from (n * 10 + (d - 48)) ds = decimal_from-least (n * 10 + (d - 48)) ds in omega arith

-- one more digit
pub decimal_from-step : (n i : ℕ) (ds : List ℕ) → i < length ds → n * 10 + (get_or ds i 0 - 48) ≤ decimal_from n (drop i ds)
decimal_from-step n i ds h =
    let next = at_drop_more (decimal_from n) ds i 0 h in
    let least = decimal_from-least (n * 10 + (get_or ds i 0 - 48)) (drop (i + 1) ds) in
    omega arith
