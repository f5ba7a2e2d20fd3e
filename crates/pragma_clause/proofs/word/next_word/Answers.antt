use Rattle.std.proofs.Common.{◌∙◌, sym, ap, option_map}
use Rattle.pragma_clause.specs.Words.{symbol_of}
use Rattle.pragma_clause.proofs.WordLaw.{no_word, sign_word, run_word}
use Rattle.pragma_clause.proofs.word.next_word.Goals as goal

pub returns-in_default : goal.returns-in_default
returns-in_default c = no_word c.args.text.now _ c.skip_blanks-text.ensures c.in_default.ensures.cases

pub returns-in-Some-sign_at : goal.returns-in-Some-sign_at
returns-in-Some-sign_at c =
    sign_word c.args.text.now c.skip_blanks-text.result.now _ _ (symbol_of c.in-Some-sign_at.sign) c.skip_blanks-text.ensures c.in-Some.ensures.cases.0
    (sym c.sign_at.ensures ∙ ap (option_map symbol_of) c.in-Some-sign_at.is)

pub returns : goal.returns
returns c =
    run_word c.args.text.now c.skip_blanks-text.result.now _ _ c.split_at.result.0.now c.split_at.result.1.now c.run_length.result c.skip_blanks-text.ensures c.in-Some.ensures.cases.0
    (sym c.sign_at.ensures ∙ ap (option_map symbol_of) c.in_default-sign_at.is) c.run_length.ensures.exact c.split_at.ensures.front c.split_at.ensures.back
