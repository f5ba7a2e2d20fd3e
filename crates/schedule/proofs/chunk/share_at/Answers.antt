use Rattle.std.proofs.Common.{◌+◌, ◌/◌, cond, arith, ap, ◌∙◌, Some}
use Rattle.std.proofs.Math.Nat.{mod-le}
use Rattle.std.proofs.lemmas.Bool.{lt-ltb, le-ltb}
use Rattle.std.proofs.Math.Path.{ap₂}
use Rattle.schedule.proofs.Shares.{share_at, share_start, length_shares}
use Rattle.schedule.proofs.Sized.{chunk_with}
use Rattle.schedule.proofs.chunk.share_at.Goals as goal

pub overflow_mul-result : goal.overflow_mul-result
overflow_mul-result c =
    let r = length_shares c.args.iterations c.args.workers c.args.workers (omega arith) in
    let q = share_start c.args.iterations c.args.workers c.args.number (omega arith) in
    omega arith

pub overflow_add-result : goal.overflow_add-result
overflow_add-result c =
    let r = length_shares c.args.iterations c.args.workers c.args.workers (omega arith) in
    let q = share_start c.args.iterations c.args.workers c.args.number (omega arith) in
    let m = mod-le c.args.iterations c.args.workers in
    omega arith

pub returns-then-number-longer : goal.returns-then-number-longer
returns-then-number-longer c =
    let r = length_shares c.args.iterations c.args.workers c.args.workers (omega arith) in
    share_at c.args.iterations c.args.workers c.args.workers c.args.number (omega arith) (omega arith)
    ∙ ap Some (ap₂ chunk_with (omega arith) (ap (λ b. cond b (c.args.iterations / c.args.workers + 1) (c.args.iterations / c.args.workers)) (lt-ltb _ _ c.if-number-longer.true)))

pub returns-else-number-longer : goal.returns-else-number-longer
returns-else-number-longer c =
    let r = length_shares c.args.iterations c.args.workers c.args.workers (omega arith) in
    share_at c.args.iterations c.args.workers c.args.workers c.args.number (omega arith) (omega arith)
    ∙ ap Some (ap₂ chunk_with (omega arith) (ap (λ b. cond b (c.args.iterations / c.args.workers + 1) (c.args.iterations / c.args.workers)) (le-ltb _ _ c.if-number-longer.false)))
