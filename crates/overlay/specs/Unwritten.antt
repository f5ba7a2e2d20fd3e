-- Cells of a worker's own, where they are at hand.
use Rattle.std.specs.Prelude.{ℕ, ◌≡◌, List, length, replicate, Option, Some, None}

-- how many these are
abbrev pub count_of : Option (List (Option ℕ)) → ℕ
count_of None = 0
count_of (Some own) = length own

-- they are at hand, and none is written
abbrev pub AreUnwritten : Option (List (Option ℕ)) → Type 0
AreUnwritten own = own ≡ Some (replicate (count_of own) None)
