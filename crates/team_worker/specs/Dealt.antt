-- Which chunks a worker runs of a loop whose schedule fixes that. (OpenMP 5.2, 11.5.3)
use Rattle.std.specs.Prelude.{ℕ, List, Option}
use Rattle.semantics.specs.Teams.Machine.{own_chunks}
use Rattle.schedule.specs.Part.{static_kind}

-- the numbers of a worker's own chunks, of so many of a size, or of plain static
abbrev pub own_numbers : Option ℕ → ℕ → ℕ → ℕ → List ℕ
own_numbers size count workers worker = own_chunks (static_kind size) count workers worker
