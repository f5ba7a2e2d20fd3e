use Rattle.std.specs.Prelude.{[], ◌∷◌, ◌++◌, map, codes}
use Rattle.ompk_message.specs.Message.{access_parts, iteration_parts, index_text}
use Rattle.std.proofs.lemmas.Result.{err_from_is_err_and}
use Rattle.ompk_message.proofs.Parts.{both_put, front_put}
use Rattle.ompk_message.proofs.telling.tell_conflict.Goals as goal

pub returns-in_err-put_accesses : goal.returns-in_err-put_accesses
returns-in_err-put_accesses g c =
    let p = err_from_is_err_and c.from_residual.result c.from_residual.ensures.1 in
    rw (p.1, p.2) (front_put (access_parts c.args.conflict.now.accesses) (iteration_parts c.args.conflict.now ++ (map index_text c.args.conflict.now.indexes.items ++ codes "\n" ∷ [])) c.in_err-put_accesses.ensures)

pub returns : goal.returns
returns g c = both_put (access_parts c.args.conflict.now.accesses) (iteration_parts c.args.conflict.now ++ (map index_text c.args.conflict.now.indexes.items ++ codes "\n" ∷ [])) c.tell_iterations.result c.in_ok-put_accesses.ensures c.tell_iterations.ensures
