use Rattle.std.proofs.Common.{arith}
use Rattle.std.proofs.lemmas.Result.{err_from_is_err_and}
use Rattle.ompk_message.specs.Message.{index_text}
use Rattle.ompk_message.proofs.Parts.{part_put}
use Rattle.ompk_message.proofs.telling.put_indexes.Goals as goal

pub returns-in_err-put_index : goal.returns-in_err-put_index
returns-in_err-put_index g c =
    let p = err_from_is_err_and c.from_residual.result c.from_residual.ensures.1 in
    rw (p.1, p.2) (part_put index_text c.args.indexes.now c.loop-index.index-index 0 (omega arith) c.loop-index.invariant.0 c.loop-index.invariant.1 c.in_err-put_index.ensures)
