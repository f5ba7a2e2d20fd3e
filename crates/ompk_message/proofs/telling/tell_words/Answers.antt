use Rattle.std.specs.Prelude.{[], ◌∷◌, ◌++◌, codes}
use Rattle.ktree.specs.Words.{words_of}
use Rattle.ompk_message.specs.Message.{detail_parts}
use Rattle.std.proofs.lemmas.Result.{err_from_is_err_and}
use Rattle.ompk_message.proofs.Parts.{both_put, front_put}
use Rattle.ompk_message.proofs.telling.tell_words.Goals as goal

pub returns-in_err-put_words : goal.returns-in_err-put_words
returns-in_err-put_words g c =
    let p = err_from_is_err_and c.from_residual.result c.from_residual.ensures.1 in
    rw (p.1, p.2) (front_put (words_of c.args.refusal.now ∷ []) (detail_parts c.args.refusal.now ++ codes "\n" ∷ []) c.in_err-put_words.ensures)

pub returns : goal.returns
returns g c = both_put (words_of c.args.refusal.now ∷ []) (detail_parts c.args.refusal.now ++ codes "\n" ∷ []) c.tell_details.result c.in_ok-put_words.ensures c.tell_details.ensures
