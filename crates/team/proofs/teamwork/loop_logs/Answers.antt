use Rattle.std.proofs.Common.{◌≡◌, [], ap}
use Rattle.team_log.specs.Logged.{joined}
use Rattle.team_worker.proofs.Ending.{all_of_none}
use Rattle.team.proofs.teamwork.loop_logs.Goals as goal

pub returns-then-is_empty-clause-all : goal.returns-then-is_empty-clause-all
returns-then-is_empty-clause-all g c =
    let grounds = c.args.grounds in
    let none : grounds.chunks ≡ [] = c.is_empty.ensures.0 c.if-is_empty.true in
    all_of_none c.args.lowered.now grounds.registers.items c.args.store.now grounds.pass grounds.chunks (joined c.new.result.items) none (ap joined c.new.ensures.items)
