use Rattle.std.proofs.Common.{◌≡◌, ◌-◌}
use Rattle.semantics.specs.Directives.DirectiveGrammar.{words}
use Rattle.pragma_clause.specs.ClauseReader.{name, names}
use Rattle.pragma_clause.specs.Views.{names_of}
use Rattle.pragma_clause.proofs.Loops.{listed_run}
use Rattle.pragma_clause.proofs.name.names.Given as goal

-- what is left is read as the whole is
abbrev pub invariant-loop-turn : goal.invariant-loop-turn
invariant-loop-turn l = listed_run name (l.setting.length - l._turn) (names_of l.names, words l.rest) ≡ names l.setting.length (words l.text)
