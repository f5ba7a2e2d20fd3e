use Rattle.std.proofs.Common.{ap, ◌∙◌, if◌then◌else◌, rules, arith}
use Rattle.draw.proofs.Keeps.{draws}
use Rattle.draw.proofs.drawing.Drawing.next.Goals as goal

pub fetch_add-found-requires : goal.fetch_add-found-requires
fetch_add-found-requires c =
    let none_yet = c.seat.invariant.2 ∙ ap (λ b. if b then 1 else 0) c.if-seat.false in
    let one = c.seat.invariant.1 in
    (search rules, search rules, draws _ _ _ _ c.seat.invariant.0 (omega arith))
