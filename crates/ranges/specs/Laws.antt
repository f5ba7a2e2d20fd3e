-- Laws of ranges. (C11 6.5.6, 8)
use Rattle.semantics.specs.Tree.{Kernel}
use Rattle.nest.specs.Nests.{IsInRange}
use Rattle.nest.specs.Leaves.{LeavesSomewhere}

-- where a subscript leaves its array, not all stay inside theirs
abbrev pub LeavingIsNotInRange : Type 0
LeavingIsNotInRange = (k : Kernel) → LeavesSomewhere k → IsInRange k → ⊥
