-- What the code's declarations stand for.
use Rattle.std.specs.Prelude.{ℕ, Vec, List, map, Option, is_none, string_bytes}
use Rattle.semantics.specs.Tree.{Name, Declaration}
use Rattle.semantics.specs.Source.Scope.{Scope}
use Rattle.ktree.specs.View.{declaration_of}
use Rattle.ktree.specs.declared.statement.Enumerator.{Enumerator}
use Rattle.cparse.specs.declared.constants.Constant.{Constant}
use Rattle.cparse.specs.declared.constants.Valued.{Valued}
use Rattle.cparse.specs.declared.declarations.FileScope.{FileScope}
use Rattle.cparse.specs.declared.declarations.Named.{Named}
use Rattle.cparse_cursor.specs.Lexemes.{tokens_of}
use Rattle.cparse.specs.declared.kernel.Whole as code
use Rattle.ktree.specs.View.{kernel_of}
use Rattle.cparse_grammar.specs.TextReader.{Decls, Whole}

-- the value of a constant expression
abbrev pub value_in : Constant → Option ℕ
value_in c = c.value

-- an enumeration constant
abbrev pub valued_of : Valued → Name × ℕ
valued_of v = (v.name.now, v.value)

abbrev pub enumerator_of : Enumerator → Name × ℕ
enumerator_of e = (string_bytes e.name, e.value)

abbrev pub enumerators_of : {A : Type 0} → Vec Enumerator A → List (Name × ℕ)
enumerators_of cs = map enumerator_of cs.items

-- a variable as it is declared
abbrev pub named_of : Named → Declaration
named_of d = record { name = d.name.now; lengths = d.lengths.items }

-- what is declared, with the names that are visible behind it
abbrev pub decls_of : Scope → FileScope → Decls
decls_of scope d = record { constants = enumerators_of d.constants; variables = map declaration_of d.variables.items; scope = scope; sound = is_none d.fault; rest = tokens_of d.rest.now }

-- a text's tree, and whether its names and sorts are right
abbrev pub whole_of : code.Whole → Whole
whole_of w = record { tree = kernel_of w.kernel; sound = is_none w.fault }
