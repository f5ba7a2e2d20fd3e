use Rattle.std.proofs.Common.{◌≡◌, ◌-◌, ◌<◌, ℕ, List, length, take, drop, slice_get, Some}
use Rattle.lower_machine.specs.Machine.{Running, machine, running}
use Rattle.nest_space.specs.Space.{vectors}
use Rattle.overlay_pages.specs.Seen.{cells_of}
use Rattle.overlay.specs.Walking.{WalksOver}
use Rattle.overlay.proofs.walking.run_each.Given as goal

-- whatever the iterations that are left lead to, all of them lead to
abbrev pub invariant-row : goal.invariant-row
invariant-row l = record {
  all : (text : List ℕ) (r : Running) → WalksOver l.lowered (take (l.end - l.number) (drop l.number (vectors l.space))) (running (machine l.registers (cells_of l.cells)) text) r
      → WalksOver l.lowered (take l.fn.work.count (drop l.fn.work.first (vectors l.space))) (running (machine l.initial.registers (cells_of l.initial.cells)) text) r;
  store : l.cells.store ≡ l.initial.cells.store;
  values : length l.values ≡ length l.space;
  at : l.number < l.end → slice_get (vectors l.space) l.number ≡ Some l.values;
}
