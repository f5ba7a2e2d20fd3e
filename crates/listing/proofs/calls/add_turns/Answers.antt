use Rattle.ktree.specs.DirectiveView.{schedule_of}
use Rattle.pragma_region.specs.Listed.{loop_said}
use Rattle.listing.specs.Regions.{listed_loop}
use Rattle.listing.proofs.Texts.{turns_ok}
use Rattle.listing.proofs.calls.add_turns.Goals as goal

pub returns-clause-added : goal.returns-clause-added
returns-clause-added c =
    turns_ok c.add_nest_end.result c.args.region c.args.number (listed_loop (loop_said c.args.region_loop.now)) (schedule_of c.schedule_for-schedule.result) _ _ _ _ _ _ c.schedule_for-schedule.ensures
    c.in_ok-add_nest_begin.ensures.added c.in_ok-add_begin.ensures.added c.in_ok-add_nest_calls.ensures.added c.in_ok-add_end.ensures.added c.add_nest_end.ensures.added
