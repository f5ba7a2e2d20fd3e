use Rattle.std.specs.Prelude.{[], ◌∷◌, ◌++◌, codes}
use Rattle.ktree.specs.Words.{words_of}
use Rattle.ktree.specs.Numbers.{number_of}
use Rattle.ktree.specs.Places.{place_of}
use Rattle.ompk_message.specs.Message.{head_text, start_parts, detail_parts}
use Rattle.std.proofs.lemmas.Result.{err_from_is_err_and}
use Rattle.ompk_message.proofs.Parts.{both_put, front_put}
use Rattle.ompk_message.proofs.telling.tell.Goals as goal

pub returns-in_err-put_start : goal.returns-in_err-put_start
returns-in_err-put_start g c =
    let p = err_from_is_err_and c.from_residual.result c.from_residual.ensures.1 in
    rw (p.1, p.2) (front_put (head_text (number_of c.args.refusal.now) ∷ start_parts (place_of c.args.refusal.now)) (words_of c.args.refusal.now ∷ (detail_parts c.args.refusal.now ++ codes "\n" ∷ [])) c.in_err-put_start.ensures)

pub returns : goal.returns
returns g c = both_put (head_text (number_of c.args.refusal.now) ∷ start_parts (place_of c.args.refusal.now)) (words_of c.args.refusal.now ∷ (detail_parts c.args.refusal.now ++ codes "\n" ∷ [])) c.tell_words.result c.in_ok-put_start.ensures c.tell_words.ensures
