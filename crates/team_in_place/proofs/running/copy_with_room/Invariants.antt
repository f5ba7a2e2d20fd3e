use Rattle.std.proofs.Common.{◌≡◌, ℕ, ◌≤◌, ◌-◌, length}
use Rattle.std.specs.Prelude.{slice_index}
use Rattle.team_in_place.proofs.running.copy_with_room.Given as goal

abbrev pub invariant-loop-own : goal.invariant-loop-own
invariant-loop-own l = ((x : ℕ) → slice_index l.own.items x ≡ slice_index l.registers x) × (length l.registers ≤ length l.own.items)

abbrev pub decreases-loop-own : goal.decreases-loop-own
decreases-loop-own l = l.count - length l.own.items
