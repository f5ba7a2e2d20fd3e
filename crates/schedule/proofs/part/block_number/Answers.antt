use Rattle.std.proofs.Common.{◌≡◌, ℕ, ◌+◌, ◌*◌, arith, ap, ◌∙◌, sym, length}
use Rattle.semantics.specs.Loops.Chunk.{cut, Static}
use Rattle.schedule.proofs.Owned.{own_in_turn, if_below, past-if}
use Rattle.schedule.proofs.part.block_number.Goals as goal

pub returns-in_err-checked_mul-clause-number : goal.returns-in_err-checked_mul-clause-number
returns-in_err-checked_mul-clause-number c =
    let n : ℕ = length (cut (Static c.args.size) c.args.iterations c.args.workers) in
    c.from_residual.ensures
    ∙ sym (past-if (c.args.workers * c.args.j + c.args.worker) n (let a = c.in_err-checked_mul.ensures in let b = c.block_count-count.type_inv in let d = c.block_count-count.ensures in omega arith))
    ∙ sym (own_in_turn c.args.workers c.args.worker n c.args.j c.requires.worker)

pub returns-in_err-number-clause-number : goal.returns-in_err-number-clause-number
returns-in_err-number-clause-number c =
    let n : ℕ = length (cut (Static c.args.size) c.args.iterations c.args.workers) in
    c.from_residual-in_err-number.ensures
    ∙ sym (past-if (c.args.workers * c.args.j + c.args.worker) n (let a = c.in_err-number.ensures in let o = c.in_ok-checked_mul.ensures in let b = c.block_count-count.type_inv in let d = c.block_count-count.ensures in omega arith))
    ∙ sym (own_in_turn c.args.workers c.args.worker n c.args.j c.requires.worker)

pub returns-clause-number : goal.returns-clause-number
returns-clause-number c =
    let n : ℕ = length (cut (Static c.args.size) c.args.iterations c.args.workers) in
    let o = c.in_ok-checked_mul.ensures in
    let q = c.in_ok-number.ensures in
    let number : c.in_ok-number.number ≡ c.args.workers * c.args.j + c.args.worker = omega arith in
    c.then_some.ensures
    ∙ ap (λ k. if_below k c.block_count-count.result) number
    ∙ ap (λ k. if_below (c.args.workers * c.args.j + c.args.worker) k) c.block_count-count.ensures
    ∙ sym (own_in_turn c.args.workers c.args.worker n c.args.j c.requires.worker)
