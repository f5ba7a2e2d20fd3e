use Rattle.std.proofs.Common.{◌≡◌, ◌≤◌, [], replicate}
use Rattle.std.specs.Vec.{vec_capacity}
use Rattle.overlay_pages.proofs.sparse.rows.Given as goal

abbrev pub invariant-loop-row : goal.invariant-loop-row
invariant-loop-row l =
    record {
      items : l.rows.items ≡ replicate l._row [];
      capacity : l.count ≤ vec_capacity l.rows;
    }
