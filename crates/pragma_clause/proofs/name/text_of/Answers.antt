use Rattle.std.proofs.lemmas.Str.{IsUtf8-from_ascii}
use Rattle.pragma_clause.proofs.NameLemmas.{name_is_ascii}
use Rattle.pragma_clause.proofs.name.text_of.Goals as goal

pub unreachable-requires : goal.unreachable-requires
unreachable-requires c = c.in_default.ensures.cases.0 (IsUtf8-from_ascii c.args.word.now (name_is_ascii c.args.word.now c.requires))
