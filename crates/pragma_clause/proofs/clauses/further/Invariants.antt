use Rattle.std.proofs.Common.{◌≡◌, ◌-◌, []}
use Rattle.semantics.specs.Directives.DirectiveGrammar.{words}
use Rattle.pragma_clause.specs.ClauseReader.{further}
use Rattle.pragma_clause.specs.Views.{clauses_of}
use Rattle.pragma_clause.proofs.Loops.{clauses_run}
use Rattle.pragma_clause.proofs.clauses.further.Given as goal

-- what is left is read as the whole is
abbrev pub invariant-loop-turn : goal.invariant-loop-turn
invariant-loop-turn l =
    clauses_run l.setting.exact l.setting.length (l.setting.length - l._turn) (clauses_of l.clauses, words l.rest)
    ≡ further l.setting.exact l.setting.length l.setting.length [] (words l.text)
