use Rattle.std.proofs.Common.{suc, ◌*◌}
use Rattle.store.specs.Flat.{values_of}
use Rattle.overlay_pages.specs.Table.{table_of, Gathers}
use Rattle.overlay_pages.proofs.gathering.gather.Given as goal

abbrev pub invariant-loop-k : goal.invariant-loop-k
invariant-loop-k l = Gathers (values_of l.store) (table_of l.pages) (64 * suc l.k) l.changes
