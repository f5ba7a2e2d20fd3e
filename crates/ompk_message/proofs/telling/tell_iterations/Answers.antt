use Rattle.std.specs.Prelude.{[], ◌∷◌, ◌++◌, map, codes}
use Rattle.ompk_message.specs.Message.{iteration_parts, index_text}
use Rattle.std.proofs.lemmas.Result.{err_from_is_err_and}
use Rattle.ompk_message.proofs.Parts.{both_put, front_put}
use Rattle.ompk_message.proofs.telling.tell_iterations.Goals as goal

pub returns-in_err-put_iterations : goal.returns-in_err-put_iterations
returns-in_err-put_iterations g c =
    let p = err_from_is_err_and c.from_residual.result c.from_residual.ensures.1 in
    rw (p.1, p.2) (front_put (iteration_parts c.args.conflict.now) (map index_text c.args.conflict.now.indexes.items ++ codes "\n" ∷ []) c.in_err-put_iterations.ensures)

pub returns : goal.returns
returns g c = both_put (iteration_parts c.args.conflict.now) (map index_text c.args.conflict.now.indexes.items ++ codes "\n" ∷ []) c.tell_indexes.result c.in_ok-put_iterations.ensures (rw c.as_slice.ensures.value at c.tell_indexes.ensures)
