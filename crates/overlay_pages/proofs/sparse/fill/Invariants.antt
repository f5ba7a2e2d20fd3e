use Rattle.std.proofs.Common.{◌≡◌, ◌++◌, replicate}
use Rattle.std.specs.Vec.{vec_capacity}
use Rattle.overlay_pages.proofs.sparse.fill.Given as goal

abbrev pub invariant-loop-zero : goal.invariant-loop-zero
invariant-loop-zero l =
    record {
      items : l.numbers.items ≡ l.initial.numbers.items ++ replicate l._zero 0;
      capacity : vec_capacity l.numbers ≡ vec_capacity l.initial.numbers;
    }
