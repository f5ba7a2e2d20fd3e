use Rattle.cparse.proofs.ParseLaw.{few_lexed}
use Rattle.cparse.proofs.parsing.first_stop.Goals as goal

pub kernel-requires : goal.kernel-requires
kernel-requires c = few_lexed c.args.text.now c.args.tokens.now c.in-Ok.lexemes.items c.deref.ensures.value c.in-Ok.ensures c.requires.lie c.requires.length
