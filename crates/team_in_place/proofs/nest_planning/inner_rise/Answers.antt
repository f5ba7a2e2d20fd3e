use Rattle.std.proofs.Common.{◌+◌, ◌*◌, ◌<◌, sym, ◌∙◌, subst, arith}
use Rattle.lane_rows.specs.Lanes.{stepped}
use Rattle.team_in_place.proofs.nest_planning.inner_rise.Goals as goal

pub returns : goal.returns
returns c =
    let t = c.in_ok-rise.rise in
    let rise = c.in_ok-rise.ensures in
    let end_left = c.is_left.ensures c.if-not-is_left.false in
    let by_left = c.is_left-2.ensures c.if-not-is_left-2.false in
    let end = c.register_value-end.ensures in
    let by = c.register_value-by.ensures in
    record {
      inner = record {
        steady = c.requires.steady;
        there = c.requires.there;
        small = omega (arith, rise.first);
        step_small = omega (arith, rise.by);
        begins = λ rs cells kept. c.in_ok-first.ensures (stepped t.first t.by) t.count t.next rs cells kept ∙ sym rise.first;
        end_left = end_left.unwritten (stepped t.first t.by) t.count t.next;
        end_other = end_left.other;
        by_left = by_left.unwritten (stepped t.first t.by) t.count t.next;
        by_other = by_left.other;
        by_step = sym by ∙ sym rise.by;
        end_small = omega (arith, end);
        below = λ k lt. subst (λ n. t.first + k * t.by < n) end (rise.below k lt);
        goes_to = rise.next;
        ends = omega (arith, end, rise.ends);
        few = omega arith;
      };
      some = omega arith;
      few = omega arith;
    }
