use Rattle.std.proofs.Common.{arith, ap, ◌∙◌, Some}
use Rattle.std.proofs.Math.Path.{ap₂}
use Rattle.schedule.proofs.Blocks.{length_blocks, blocks_at, within}
use Rattle.schedule.proofs.Sized.{chunk_with}
use Rattle.schedule.proofs.chunk.block_at.Goals as goal

pub overflow_sub-iterations : goal.overflow_sub-iterations
overflow_sub-iterations c =
    let r = length_blocks c.args.size c.args.iterations c.args.iterations 0 c.requires.some (omega arith) in
    let q = within c.args.iterations c.args.size c.args.number c.requires.some (omega arith) in
    omega arith

pub overflow_mul-first : goal.overflow_mul-first
overflow_mul-first c =
    let r = length_blocks c.args.size c.args.iterations c.args.iterations 0 c.requires.some (omega arith) in
    let q = within c.args.iterations c.args.size c.args.number c.requires.some (omega arith) in
    omega arith

pub returns : goal.returns
returns c =
    let r = length_blocks c.args.size c.args.iterations c.args.iterations 0 c.requires.some (omega arith) in
    let q = within c.args.iterations c.args.size c.args.number c.requires.some (omega arith) in
    blocks_at c.args.size c.args.iterations c.args.iterations 0 c.args.number c.requires.some (omega arith) q
    ∙ ap Some (ap₂ chunk_with (omega arith) (omega arith))
