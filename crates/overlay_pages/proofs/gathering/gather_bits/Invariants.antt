use Rattle.store.specs.Flat.{values_of}
use Rattle.overlay_pages.specs.Table.{table_of}
use Rattle.overlay_pages.proofs.Gathered.{Gathering}
use Rattle.overlay_pages.proofs.gathering.gather_bits.Given as goal

abbrev pub invariant-loop-turn : goal.invariant-loop-turn
invariant-loop-turn l = Gathering (values_of l.store) (table_of l.pages) l.k l._turn l.rest l.changes
