use Rattle.std.proofs.Common.{arith, sym, ap, ◌∙◌, subst, length}
use Rattle.deptest_witness.specs.Elements.{access_of, region_of, AreElements}
use Rattle.deptest_witness.proofs.Meetings.{in_law}
use Rattle.deptest_witness.proofs.meeting.meeting_in.Goals as goal

pub returns : goal.returns
returns c =
    let region = region_of c.args.region.now in
    let first = c.deref.ensures.value in
    let second = c.deref-2.ensures.value in
    in_law region (access_of c.args.x.now) (access_of c.args.y.now) c.deref.result.now c.deref-2.result.now c.min-count.result c.first_met.result
    (ap length first ∙ c.in_ok-firsts.ensures.length) (ap length second ∙ c.in_ok-seconds.ensures.length)
    (subst (AreElements region (access_of c.args.x.now)) (sym first) c.in_ok-firsts.ensures.elements)
    (subst (AreElements region (access_of c.args.y.now)) (sym second) c.in_ok-seconds.ensures.elements)
    (λ k searched inside. grind arith)
    c.first_met.ensures.never c.first_met.ensures.below c.first_met.ensures.first
