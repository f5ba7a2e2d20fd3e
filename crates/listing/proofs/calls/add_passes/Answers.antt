use Rattle.ktree.specs.DirectiveView.{schedule_of}
use Rattle.pragma_region.specs.Listed.{loop_said}
use Rattle.listing.specs.Regions.{listed_loop}
use Rattle.listing.proofs.Texts.{passes_ok}
use Rattle.listing.proofs.calls.add_passes.Goals as goal

pub returns-clause-added : goal.returns-clause-added
returns-clause-added c =
    passes_ok c.add_pass-2.result c.args.region c.args.number _ _ _ (listed_loop (loop_said c.args.region_loop.now)) (schedule_of c.schedule_for-schedule.result) c.requires c.schedule_for-schedule.ensures
    c.in_ok-add_pass.ensures.added c.add_pass-2.ensures.added
