use Rattle.std.proofs.Common.{ℕ, List, arith}
use Rattle.std.proofs.lemmas.Option.{MatchOption-at_none}
use Rattle.std.specs.Global.{Vec}
use Rattle.deptest_witness.specs.Pairs.{Meet, IsTaken}
use Rattle.deptest_witness.specs.Elements.{NamesAt}
use Rattle.deptest_witness.proofs.Meetings.{none_more}
use Rattle.deptest_witness.proofs.meeting.met_at.Goals as goal

pub loop-earlier-preserved : goal.loop-earlier-preserved
loop-earlier-preserved c =
    let X = NamesAt c.args.firsts.now in
    let Y = NamesAt c.args.seconds.now in
    let u = c.loop-earlier.earlier in
    let v = c.args.later in
    none_more (λ k is. Meet X Y k v is) u c.loop-earlier.invariant
    (MatchOption-at_none ((is : List ℕ) → Meet X Y u v is → ⊥) (λ (is : Vec ℕ). IsTaken X Y u v is.items) c.in_default.is c.in_ok-indexes.ensures)

pub returns : goal.returns
returns c = λ u is lt m. c.loop-earlier.invariant u is (omega arith) m
