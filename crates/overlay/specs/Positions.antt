-- The iterations of a loop by the positions at which they are taken. (OpenMP 5.2, 11.5 and 15.9.6)
use Rattle.std.specs.Prelude.{Bool, false, ◌+◌, ◌<◌, ◌==◌, List, [], map, length, get_or, All}
use Rattle.semantics.specs.Loops.Nest.{Vector}
use Rattle.overlay.specs.declared.positions.Order.{Order}
use Rattle.overlay.specs.declared.positions.Order.TheVariants.{Sequential, Listed}
use Rattle.overlay.specs.declared.worker.Work.{Work}

-- these iterations in an order: as C runs them, or those of the numbers listed
abbrev pub ordered : Order → List Vector → List Vector
ordered Sequential us = us
ordered (Listed numbers) us = map (λ k. get_or us k []) numbers.now

-- each number that is listed is that of one of them
abbrev pub AreNumbersOf : Order → List Vector → Type 0
AreNumbersOf Sequential us = Unit {0}
AreNumbersOf (Listed numbers) us = All (λ k. k < length us) numbers.now

-- whether a chunk counts as the one with the last of them: of iterations that are listed none does
abbrev pub has_last : Order → List Vector → Work → Bool
has_last Sequential us work = work.first + work.count == length us
has_last (Listed numbers) us work = false
