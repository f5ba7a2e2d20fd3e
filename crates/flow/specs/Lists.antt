-- The variables in the lists of clauses. (OpenMP 5.2, 5.4.3 to 5.4.5, 5.5.8 and 5.6)
use Rattle.std.specs.Prelude.{List, map}
use Rattle.semantics.specs.Tree.{Variable}
use Rattle.semantics.specs.Directives.Directive.{Clause}
use Rattle.semantics.specs.Directives.Clauses.{private_of, first_of, last_of, reduction_of, inscan_of}
use Rattle.flow.specs.declared.name_lists.ListKind.{ListKind}
use Rattle.flow.specs.declared.name_lists.ListKind.TheVariants.{Private, Firstprivate, Lastprivate, Reduction, Inscan}

-- those that a clause lists in this way
abbrev pub listed : ListKind → Clause Variable → List Variable
listed Private = private_of
listed Firstprivate = first_of
listed Lastprivate = last_of
listed Reduction = λ c. map (λ r. r.0) (reduction_of c)
listed Inscan = λ c. map (λ r. r.0) (inscan_of c)
