use Rattle.std.specs.Prelude.{[], ◌∷◌, codes}
use Rattle.ompk_message.specs.Message.{access_parts}
use Rattle.std.proofs.lemmas.Result.{err_from_is_err_and}
use Rattle.ompk_message.proofs.Parts.{both_put, front_put}
use Rattle.ompk_message.proofs.telling.tell_accesses.Goals as goal

pub returns-in_err-put_accesses : goal.returns-in_err-put_accesses
returns-in_err-put_accesses g c =
    let p = err_from_is_err_and c.from_residual.result c.from_residual.ensures.1 in
    rw (p.1, p.2) (front_put (access_parts c.args.accesses.now) (codes "\n" ∷ []) c.in_err-put_accesses.ensures)

pub returns : goal.returns
returns g c = both_put (access_parts c.args.accesses.now) (codes "\n" ∷ []) c.put_text.result c.in_ok-put_accesses.ensures c.put_text.ensures
