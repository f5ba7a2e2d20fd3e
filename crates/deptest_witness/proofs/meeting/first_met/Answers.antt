use Rattle.std.proofs.Common.{ℕ, List, ◌<◌, arith}
use Rattle.std.proofs.lemmas.Option.{MatchOption-at_none, MatchOption-at_some}
use Rattle.deptest_witness.specs.declared.meeting.Meeting.{Meeting}
use Rattle.deptest_witness.specs.Pairs.{Meet, IsLeastAt}
use Rattle.deptest_witness.specs.Elements.{NamesAt}
use Rattle.deptest_witness.proofs.Meetings.{later_more, first_law}
use Rattle.deptest_witness.proofs.meeting.first_met.Goals as goal

pub returns-in-Some-clause-first : goal.returns-in-Some-clause-first
returns-in-Some-clause-first c =
    let X = NamesAt c.args.firsts.now in
    let Y = NamesAt c.args.seconds.now in
    let v = c.loop-later.later in
    let m = c.in-Some.meeting in
    let few = c.requires.few in
    first_law X Y v m.earlier m.later m.indexes.items
    (MatchOption-at_some ((u : ℕ) (is : List ℕ) → u < v → Meet X Y u v is → ⊥) (λ (w : Meeting). IsLeastAt X Y v w.earlier w.later w.indexes.items) m c.in-Some.is c.in_ok-meeting.ensures)
    (omega arith) c.loop-later.invariant

pub loop-later-preserved : goal.loop-later-preserved
loop-later-preserved c =
    let X = NamesAt c.args.firsts.now in
    let Y = NamesAt c.args.seconds.now in
    let v = c.loop-later.later in
    later_more X Y v c.loop-later.invariant
    (MatchOption-at_none ((u : ℕ) (is : List ℕ) → u < v → Meet X Y u v is → ⊥) (λ (w : Meeting). IsLeastAt X Y v w.earlier w.later w.indexes.items) c.in_default.is c.in_ok-meeting.ensures)

pub returns-clause-never : goal.returns-clause-never
returns-clause-never c = λ u v is order lt m. c.loop-later.invariant u v is order (omega arith) m
