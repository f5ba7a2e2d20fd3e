-- Variables in a set.
use Rattle.std.specs.Prelude.{ℕ, Bool, nat_eq}
use Rattle.std.specs.HashSet.{HashSet, contains}

-- a variable is among them
abbrev pub holds : {S : Type 0} → HashSet ℕ S → ℕ → Bool
holds set x = contains nat_eq set x
