use Rattle.std.specs.Prelude.{[], ◌∷◌, map, codes}
use Rattle.ompk_message.specs.Message.{index_text}
use Rattle.std.proofs.lemmas.Result.{err_from_is_err_and}
use Rattle.ompk_message.proofs.Parts.{both_put, front_put}
use Rattle.ompk_message.proofs.telling.tell_indexes.Goals as goal

pub returns-in_err-put_indexes : goal.returns-in_err-put_indexes
returns-in_err-put_indexes g c =
    let p = err_from_is_err_and c.from_residual.result c.from_residual.ensures.1 in
    rw (p.1, p.2) (front_put (map index_text c.args.indexes.now) (codes "\n" ∷ []) c.in_err-put_indexes.ensures)

pub returns : goal.returns
returns g c = both_put (map index_text c.args.indexes.now) (codes "\n" ∷ []) c.put_text.result c.in_ok-put_indexes.ensures c.put_text.ensures
