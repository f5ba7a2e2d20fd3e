use Rattle.std.proofs.Common.{ℕ, List}
use Rattle.std.proofs.lemmas.Option.{MatchOption-at_none}
use Rattle.std.specs.Global.{Vec}
use Rattle.deptest_witness.specs.Pairs.{Share}
use Rattle.deptest_witness.specs.Elements.{NamesAt}
use Rattle.deptest_witness.proofs.Meetings.{taken_step}
use Rattle.deptest_witness.proofs.meeting.conflicting_element.Goals as goal

pub returns-in-None : goal.returns-in-None
returns-in-None c =
    let X = NamesAt c.args.firsts.now in
    let Y = NamesAt c.args.seconds.now in
    let u = c.args.earlier in
    let v = c.args.later in
    taken_step X Y u v c.shared_element-in-None.result
    (MatchOption-at_none ((is : List ℕ) → Share X Y u v is → ⊥) (λ (is : Vec ℕ). Share X Y u v is.items) c.in-None.is c.in_ok-indexes.ensures)
    c.shared_element-in-None.ensures
