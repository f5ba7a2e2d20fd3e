use Rattle.std.specs.Prelude.{List, ℕ}
use Rattle.std.proofs.Common.{arith, Bor}
use Rattle.std.proofs.lemmas.Result.{err_from_is_err_and}
use Rattle.ompk_message.proofs.Parts.{part_put}
use Rattle.ompk_message.proofs.telling.put_parts.Goals as goal

pub returns-in_err-put_text : goal.returns-in_err-put_text
returns-in_err-put_text g c =
    let p = err_from_is_err_and c.from_residual.result c.from_residual.ensures.1 in
    rw (p.1, p.2) (part_put (λ (part : Bor (List ℕ)). part.now) c.args.parts.now c.loop-part.part-index _ (omega arith) c.loop-part.invariant.0 c.loop-part.invariant.1 c.in_err-put_text.ensures)
