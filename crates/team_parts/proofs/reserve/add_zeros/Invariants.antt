use Rattle.std.proofs.Common.{◌≡◌, ◌++◌, replicate}
use Rattle.std.specs.Vec.{vec_capacity}
use Rattle.team_parts.proofs.reserve.add_zeros.Given as goal

abbrev pub invariant-add : goal.invariant-add
invariant-add l = record {
  items : l.all.items ≡ l.initial.all.items ++ replicate l._zero 0;
  capacity : vec_capacity l.all ≡ vec_capacity l.initial.all;
}
