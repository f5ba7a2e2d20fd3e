use Rattle.std.proofs.Common.{arith}
use Rattle.schedule.proofs.Shares.{length_shares}
use Rattle.schedule.proofs.chunk.share_count.Goals as goal

pub returns : goal.returns
returns c = let r = length_shares c.args.iterations c.args.workers c.args.workers (omega arith) in omega arith
