-- The line that an item stands behind. (OpenMP 5.2, 3.1)
use Rattle.std.specs.Prelude.{ℕ, if◌then◌else◌, List, Option, Some, None}
use Rattle.ktree.specs.declared.statement.Item.{Item, Directive}
use Rattle.pragma_region.specs.Regions.{is_left_out}

-- the line before the next item: those that stand before no loop are passed
abbrev pub line_before : List ℕ → Option ℕ → ℕ → Option ℕ
line_before text before n = if is_left_out text n then before else Some n

-- the line behind which the item behind this one stands
abbrev pub next_line : List ℕ → Option ℕ → Item → Option ℕ
next_line text before (Directive place) = line_before text before place.line
next_line text before _ = None
