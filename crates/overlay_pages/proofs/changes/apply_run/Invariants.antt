use Rattle.std.proofs.Common.{◌≡◌, ◌+◌, List, drop}
use Rattle.store.specs.Kept.{Kept}
use Rattle.store.specs.Flat.{values_of, filled}
use Rattle.overlay_pages.specs.Over.{written_over, writes_of}
use Rattle.overlay_pages.specs.Runs.{row}
use Rattle.overlay_pages.proofs.changes.apply_run.Given as goal

-- whatever the values that are left lead to, all of them lead to
abbrev pub invariant-loop-k : goal.invariant-loop-k
invariant-loop-k l =
    (later : List Kept) → later ≡ filled (written_over (writes_of (row (l.place + l.k) (drop l.k l.values))) (values_of l.store)) l.store
    → later ≡ filled (written_over (writes_of (row l.place l.values)) (values_of l.initial.store)) l.initial.store
