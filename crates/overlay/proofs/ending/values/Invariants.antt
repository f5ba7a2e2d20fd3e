use Rattle.std.proofs.Common.{◌≡◌, map, take}
use Rattle.lower_machine.specs.Machine.{machine}
use Rattle.overlay_pages.specs.Seen.{cells_of}
use Rattle.overlay.specs.Spots.{held_at}
use Rattle.overlay.proofs.ending.values.Given as goal

abbrev pub invariant-loop-spot : goal.invariant-loop-spot
invariant-loop-spot l = l.values.items ≡ map (λ at. held_at at (machine l.registers (cells_of l.cells))) (take l.spot-index l.spots)
