use Rattle.std.proofs.Common.{List, sym, ap, ◌∙◌}
use Rattle.std.proofs.lemmas.Bool.{ne_eqb}
use Rattle.lower_op.specs.declared.op.Op.{Op}
use Rattle.law_lanes.specs.Reading.{is_written}
use Rattle.lane_part.proofs.Marking.{not_true}
use Rattle.team_in_place.proofs.Planned.{unwritten}
use Rattle.team_in_place.proofs.nest_planning.is_unwritten.Goals as goal

pub returns : goal.returns
returns c h =
    let x = c.args.nesting.now in
    let r = c.args.r in
    unwritten x r (ne_eqb x.counted.now.variable.at r c.if-nesting-r.false)
    (sym c.is_written.ensures ∙ c.if-is_written.false)
    (ap (λ (l : List Op). is_written l r) (sym c.deref.ensures.value) ∙ sym c.is_written-2.ensures ∙ c.if-is_written-2.false)
    (sym c.is_written-3.ensures ∙ not_true c.is_written-3.result h)
