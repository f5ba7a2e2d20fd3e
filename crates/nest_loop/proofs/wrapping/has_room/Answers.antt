use Rattle.std.proofs.Common.{◌≡◌, pos, ◌-ℤ◌, to_z, of_z, ◌↔◌, IsTrue, rules}
use Rattle.std.proofs.lemmas.Int.{ints}
use Rattle.std.proofs.lemmas.Result.{IfOk-weaker}
use mir.Syntax.{w128}
use Rattle.nest_loop.specs.Whole.{IsBelow, HasRoom}
use Rattle.nest_loop.proofs.Boxes.{room_rising, room_falling, room_strict}
use Rattle.nest_loop.proofs.wrapping.has_room.Goals as goal

pub returns-in-Rising-Unequal-clause-ok : goal.returns-in-Rising-Unequal-clause-ok
returns-in-Rising-Unequal-clause-ok c =
    let l = c.args.canonical.now in
    let box = c.args.bounds.now in
    IfOk-weaker c.is_least.result (λ least. IsTrue least ↔ IsBelow l.start l.limit box) (λ room. IsTrue room ↔ HasRoom box l)
    (λ r h. room_rising box l r c.in-Rising-Unequal.is-0 c.in-Rising-Unequal.is-1 h) c.is_least.ensures.ok

pub returns-in-Falling-Unequal-clause-ok : goal.returns-in-Falling-Unequal-clause-ok
returns-in-Falling-Unequal-clause-ok c =
    let l = c.args.canonical.now in
    let box = c.args.bounds.now in
    IfOk-weaker c.is_least-in-Falling-Unequal.result (λ least. IsTrue least ↔ IsBelow l.limit l.start box) (λ room. IsTrue room ↔ HasRoom box l)
    (λ r h. room_falling box l r c.in-Falling-Unequal.is-0 c.in-Falling-Unequal.is-1 h) c.is_least-in-Falling-Unequal.ensures.ok

pub returns-in-Falling-Strict-clause-ok : goal.returns-in-Falling-Strict-clause-ok
returns-in-Falling-Strict-clause-ok c =
    let l = c.args.canonical.now in
    let by = c.from-by.result in
    let n : to_z w128 (of_z w128 (to_z w128 (of_z w128 by) -ℤ pos 1)) ≡ pos l.stride.by -ℤ pos 1 = search (rules, ints) in
    room_strict c.args.bounds.now l c.is_at_least.result _ c.in-Falling-Strict.is-0 c.in-Falling-Strict.is-1 n c.is_at_least.ensures
