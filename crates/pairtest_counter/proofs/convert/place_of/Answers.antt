use Rattle.pairtest_counter.proofs.Converted.{stepped_made}
use Rattle.pairtest_counter.proofs.convert.place_of.Goals as goal

pub returns : goal.returns
returns c =
    stepped_made c.args.counter.0 c.args.stride c.args.start.now c.in_ok-steps.steps c.args.place c.add.result c.in_ok-steps.ensures.ok c.add.ensures.ok c.add.ensures.fits c.add.ensures.refusal
