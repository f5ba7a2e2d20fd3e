use Rattle.std.proofs.Common.{◌≡◌, ◌-◌}
use Rattle.semantics.specs.Directives.DirectiveGrammar.{words}
use Rattle.pragma_clause.specs.DirectiveReader.{element, vector}
use Rattle.pragma_clause.specs.Views.{elements_of}
use Rattle.pragma_clause.proofs.Loops.{listed_run}
use Rattle.pragma_clause.proofs.element.vector.Given as goal

-- what is left is read as the whole is
abbrev pub invariant-loop-turn : goal.invariant-loop-turn
invariant-loop-turn l = listed_run element (l.setting.length - l._turn) (elements_of l.elements, words l.rest) ≡ vector l.setting.length (words l.text)
