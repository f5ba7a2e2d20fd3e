use Rattle.std.proofs.Common.{◌≡◌, ◌+◌, ◌*◌, ◌≤◌, ◌^◌, take, unsigned_abs}
use Rattle.affine.specs.Box.{least_end, greatest_end}
use Rattle.affine.proofs.Ranges.{sum_so_far}
use Rattle.affine.proofs.form.Form.range.Given as goal

abbrev pub invariant-loop-term : goal.invariant-loop-term
invariant-loop-term l =
    record {
      least : l.least ≡ sum_so_far least_end l.bounds l.self.constant (take l.term-index l.term-items);
      greatest : l.greatest ≡ sum_so_far greatest_end l.bounds l.self.constant (take l.term-index l.term-items);
      least_within : unsigned_abs l.least ≤ 2 ^ 62 + l.term-index * 2 ^ 95;
      greatest_within : unsigned_abs l.greatest ≤ 2 ^ 62 + l.term-index * 2 ^ 95;
    }
