use Rattle.std.proofs.Common.{ap}
use Rattle.std.specs.Prelude.{is_none}
use Rattle.cparse.specs.DeclarationViews.{whole_of}
use Rattle.cparse.proofs.ParseLaw.{lexed, few_lexed, text_reads, nothing_read, wrong_read}
use Rattle.cparse.proofs.parsing.tree.Goals as goal

pub returns-in-None-clause-ok : goal.returns-in-None-clause-ok
returns-in-None-clause-ok c = text_reads c.args.text.now c.args.tokens.now c.deref.result.now (whole_of c.in-Ok.whole) c.requires.tokens c.requires.length (lexed c.args.text.now c.args.tokens.now c.deref.ensures.value c.in_ok-lexemes.ensures) c.in-Ok.ensures.whole (ap is_none c.in-None.is)

pub returns-in-Ok-clause-err : goal.returns-in-Ok-clause-err
returns-in-Ok-clause-err c = c.refusal_by_fault.ensures c.args.text.now (wrong_read c.args.text.now c.args.tokens.now c.deref.result.now (whole_of c.in-Ok.whole) c.requires.tokens c.requires.length (lexed c.args.text.now c.args.tokens.now c.deref.ensures.value c.in_ok-lexemes.ensures) c.in-Ok.ensures.whole (ap is_none c.in-Some.is))

pub returns-clause-err : goal.returns-clause-err
returns-clause-err c = c.refusal_by_stop.ensures c.args.text.now (nothing_read c.args.text.now c.args.tokens.now c.deref.result.now c.in-Err.stop c.requires.tokens c.requires.length (lexed c.args.text.now c.args.tokens.now c.deref.ensures.value c.in_ok-lexemes.ensures) c.in-Err.ensures.whole)

pub kernel-requires : goal.kernel-requires
kernel-requires c = few_lexed c.args.text.now c.args.tokens.now c.in_ok-lexemes.lexemes.items c.deref.ensures.value c.in_ok-lexemes.ensures c.requires.lie c.requires.length
