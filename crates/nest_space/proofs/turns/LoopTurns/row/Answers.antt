use Rattle.std.specs.Prelude.{◌≡◌, ◌<◌, ◌≤◌, ◌+◌, ◌*◌, ◌%◌, ◌^◌, slice_get}
use Rattle.std.proofs.Common.{sym, subst, Some, arith}
use Rattle.nest_space.specs.Space.{Turns, values_of}
use Rattle.nest_space.proofs.Counted.{found_at}
use Rattle.nest_space.proofs.Along.{value_grown}
use Rattle.nest_space.proofs.turns.LoopTurns.row.Goals as goal

pub returns-clause-values : goal.returns-clause-values
returns-clause-values c k lt =
    let t : Turns = record { first = c.self.inside.first; stride = c.self.inside.stride; count = c.self.inside.count } in
    let here = subst (λ (t : Turns). slice_get (values_of t) c.args.turn ≡ Some c.value.result) (sym c.self.view_is) c.value.ensures in
    let begins = (found_at t c.args.turn c.value.result here).is in
    let most : c.self.inside.stride.by ≤ 2 ^ 64 = omega arith in
    let small : c.self.inside.first < 2 ^ 64 = omega arith in
    let there : c.args.turn + k < c.self.inside.count = omega arith in
    subst (λ (t : Turns). slice_get (values_of t) (c.args.turn + k) ≡ Some ((c.value.result + k * c.growth.result) % 2 ^ 64)) c.self.view_is
    (value_grown t c.args.turn k c.value.result c.growth.result c.self.invariant most small there begins c.growth.ensures)
