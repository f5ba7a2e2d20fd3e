use Rattle.ktree.specs.DirectiveView.{schedule_of}
use Rattle.listing.proofs.Texts.{pass_ok}
use Rattle.listing.proofs.calls.add_pass.Goals as goal

pub returns-clause-added : goal.returns-clause-added
returns-clause-added c =
    pass_ok c.add_barrier.result c.args.region c.args.number _ _ _ _ (schedule_of c.args.schedule.now) c.in_ok-add_begin.ensures.added c.in_ok-add_end.ensures.added c.add_barrier.ensures.added
