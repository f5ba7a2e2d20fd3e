-- What the code's clauses stand for.
use Rattle.std.specs.Prelude.{ℕ, ℤ, List, map}
use denote.Ref.{Bor}
use Rattle.std.specs.Global.{Vec}
use Rattle.semantics.specs.Tree.{Name}
use Rattle.semantics.specs.Source.Token.{Token}
use Rattle.semantics.specs.Directives.Directive as meaning
use Rattle.semantics.specs.Directives.DirectiveGrammar.{words}
use Rattle.ktree.specs.declared.directive.Written.{Written}
use Rattle.ktree.specs.declared.directive.Clause.{Clause}
use Rattle.ktree.specs.declared.directive.SinkElement.{SinkElement}
use Rattle.ktree.specs.declared.directive.Directive.{Directive}
use Rattle.ktree.specs.DirectiveView.{name_of, clause_of, element_of, directive_of}

-- a part of a directive, and the tokens behind it
abbrev pub with_rest : {X A : Type 0} → (X → A) → X × Bor (List ℕ) → A × List Token
with_rest view read = (view read.0, words read.1.now)

-- names as they are written
abbrev pub names_of : Vec Written → List Name
names_of v = map name_of v.items

-- a clause over names
abbrev pub written_clause : Clause Written → meaning.Clause Name
written_clause c = clause_of name_of c

-- clauses over names
abbrev pub clauses_of : Vec (Clause Written) → List (meaning.Clause Name)
clauses_of v = map written_clause v.items

-- an element of a sink over names
abbrev pub written_element : SinkElement Written → Name × ℤ
written_element e = element_of name_of e

-- elements over names
abbrev pub elements_of : Vec (SinkElement Written) → List (Name × ℤ)
elements_of v = map written_element v.items

-- a directive over names
abbrev pub written_directive : Directive Written → meaning.Directive Name
written_directive d = directive_of name_of d
