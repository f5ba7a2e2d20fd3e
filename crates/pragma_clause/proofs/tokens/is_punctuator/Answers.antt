use Rattle.std.proofs.Common.{◌∙◌}
use Rattle.pragma_clause.proofs.PunctuatorLemmas.{same_text}
use Rattle.pragma_clause.proofs.tokens.is_punctuator.Goals as goal

pub returns : goal.returns
returns c = c.eq.ensures ∙ same_text c.args.one c.args.other
