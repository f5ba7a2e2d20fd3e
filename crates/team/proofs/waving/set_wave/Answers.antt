use Rattle.std.proofs.Common.{length, refl}
use Rattle.schedule.specs.Sched.{kind_of}
use Rattle.team_worker.proofs.Cutting.{is_cut}
use Rattle.team.proofs.waving.set_wave.Goals as goal

pub returns-clause-wave : goal.returns-clause-wave
returns-clause-wave c =
    let count = length c.args.numbers.now in
    record {
      registers = refl;
      space = refl;
      pass = c.in_ok-numbers.ensures;
      chunks = c.in_ok-chunks.ensures.chunks;
      cut_is = is_cut (kind_of c.args.sched.now) count c.args.workers c.in_ok-chunks.chunks c.in_ok-chunks.ensures.chunks c.in_ok-chunks.ensures.joined;
    }
