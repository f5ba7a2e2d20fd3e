use Rattle.std.specs.Prelude.{◌≡◌, ◌<◌, ◌*◌, slice_get}
use Rattle.std.proofs.Common.{sym, ap, ◌∙◌, subst, Some}
use Rattle.nest_space.specs.Space.{Turns, moved, values_of}
use Rattle.nest_space.proofs.Counted.{value_there}
use Rattle.nest_space.proofs.turns.LoopTurns.value.Goals as goal

pub returns : goal.returns
returns c =
    let t : Turns = record { first = c.self.inside.first; stride = c.self.inside.stride; count = c.self.inside.count } in
    let lt = subst (λ (t : Turns). c.args.turn < t.count) (sym c.self.view_is) c.requires in
    let same = ap (λ by. moved t.stride.direction t.first (by * c.args.turn)) (sym c.from.ensures) ∙ sym c.move_by.ensures in
    subst (λ (t : Turns). slice_get (values_of t) c.args.turn ≡ Some c.move_by.result) c.self.view_is
    (value_there t.stride t.first t.count c.args.turn lt ∙ ap Some same)
