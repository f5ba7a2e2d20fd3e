use Rattle.std.proofs.lemmas.Result.{IfErr-weaker}
use Rattle.pairtest.specs.DirectionVectors.{AllWithin}
use Rattle.deptest_verdict.specs.Sinks.{distances_of}
use Rattle.deptest_verdict.specs.Pairs.{IsPair}
use Rattle.deptest_verdict.proofs.Showing.{shown_of_pair}
use Rattle.deptest_verdict.proofs.pairs.is_shown.Goals as goal

pub returns-then-is_pair-clause-ok : goal.returns-then-is_pair-clause-ok
returns-then-is_pair-clause-ok c = shown_of_pair c.args.nest.now (distances_of c.args.sinks.now) c.args.x.now c.args.y.now c.are_ordered.result (c.is_pair.ensures.0 c.if-is_pair.true) c.are_ordered.ensures.ok

pub returns-then-is_pair-clause-pair : goal.returns-then-is_pair-clause-pair
returns-then-is_pair-clause-pair c =
    IfErr-weaker c.are_ordered.result (λ e. AllWithin c.args.nest.now c.args.x.now c.args.y.now → ⊥) (λ e. IsPair c.args.x.now c.args.y.now)
    (λ e h. c.is_pair.ensures.0 c.if-is_pair.true) c.are_ordered.ensures.err
