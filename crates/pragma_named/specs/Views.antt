-- What resolved names stand for.
use Rattle.std.specs.Prelude.{List, map}
use Rattle.std.specs.Global.{Vec}
use Rattle.semantics.specs.Tree.{Variable}
use Rattle.semantics.specs.Directives.Directive as meant
use Rattle.ktree.specs.declared.directive.Clause.{Clause}
use Rattle.ktree.specs.DirectiveView.{clause_of}
use Rattle.pragma_named.specs.declared.named.Named.{Named}

-- the variable that is named
abbrev pub variable_named : Named → Variable
variable_named n = n.variable.0

-- those of a list
abbrev pub variables_named : Vec Named → List Variable
variables_named v = map variable_named v.items

-- a clause over variables
abbrev pub resolved_clause : Clause Named → meant.Clause Variable
resolved_clause c = clause_of variable_named c

-- clauses over variables
abbrev pub resolved_clauses : Vec (Clause Named) → List (meant.Clause Variable)
resolved_clauses v = map resolved_clause v.items
