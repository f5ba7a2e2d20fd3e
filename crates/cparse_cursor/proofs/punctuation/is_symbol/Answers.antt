use Rattle.std.proofs.Common.{◌∙◌}
use Rattle.cparse_cursor.proofs.SymbolLemmas.{same_text}
use Rattle.cparse_cursor.proofs.punctuation.is_symbol.Goals as goal

pub returns : goal.returns
returns c = c.eq.ensures ∙ same_text c.args.symbol c.args.other
