-- What a partial stands for.
use Rattle.std.specs.Prelude.{ℕ, Option, Some, None}
use Rattle.reduce.specs.declared.partial.Partial.{Partial}
use Rattle.reduce.specs.declared.partial.Partial.TheVariants.{Untouched, Updated}

-- the value to which it was updated, if it was
abbrev pub partial_of : Partial → Option ℕ
partial_of Untouched = None
partial_of (Updated value) = Some value
