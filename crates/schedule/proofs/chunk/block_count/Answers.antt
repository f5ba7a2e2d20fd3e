use Rattle.std.proofs.Common.{arith}
use Rattle.schedule.proofs.Blocks.{length_blocks, ceiling-div_ceil}
use Rattle.schedule.proofs.chunk.block_count.Goals as goal

pub returns : goal.returns
returns c =
    let r = length_blocks c.args.size c.args.iterations c.args.iterations 0 c.requires (omega arith) in
    let q = ceiling-div_ceil c.args.iterations c.args.size c.requires in
    omega arith
