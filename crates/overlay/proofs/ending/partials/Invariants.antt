use Rattle.std.proofs.Common.{◌≡◌, map, take}
use Rattle.store.specs.Flat.{values_of}
use Rattle.reduce.specs.Partial.{partial_of}
use Rattle.lower_machine.specs.Machine.{machine}
use Rattle.overlay_pages.specs.Seen.{cells_of}
use Rattle.overlay.specs.Spots.{partial_at}
use Rattle.overlay.proofs.ending.partials.Given as goal

abbrev pub invariant-loop-reduction : goal.invariant-loop-reduction
invariant-loop-reduction l =
    map partial_of l.partials.items ≡ map (partial_at l.start (machine l.before (values_of l.cells.store)) (machine l.registers (cells_of l.cells))) (take l.reduction-index l.reductions)
