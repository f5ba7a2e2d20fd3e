use Rattle.std.proofs.Common.{◌≡◌, ◌++◌, take}
use Rattle.std.specs.Vec.{vec_capacity}
use Rattle.team_parts.proofs.reserve.add.Given as goal

abbrev pub invariant-add : goal.invariant-add
invariant-add l = record {
  items : l.all.items ≡ l.initial.all.items ++ take l.at l.numbers;
  capacity : vec_capacity l.all ≡ vec_capacity l.initial.all;
}
