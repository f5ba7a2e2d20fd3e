use Rattle.std.proofs.Common.{◌≡◌, List, length, drop}
use Rattle.store.specs.Kept.{Kept}
use Rattle.store.specs.Flat.{values_of, filled}
use Rattle.overlay_pages.specs.Over.{written_over, writes_of}
use Rattle.overlay_pages.specs.Runs.{cells_in, changes_in}
use Rattle.overlay_pages.proofs.changes.Changes.apply.Given as goal

-- there is a value for each cell of the runs that are left, and whatever these lead to, all runs lead to
abbrev pub invariant-loop-head : goal.invariant-loop-head
invariant-loop-head l = record {
  cells : length l.values ≡ cells_in (drop l.head-index l.head-items);
  all : (later : List Kept) → later ≡ filled (written_over (writes_of (changes_in (drop l.head-index l.head-items) l.values)) (values_of l.store)) l.store
      → later ≡ filled (written_over (writes_of l.self) (values_of l.initial.store)) l.initial.store;
}
