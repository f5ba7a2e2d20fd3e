use Rattle.std.proofs.Common.{◌≡◌, ◌++◌, drop}
use Rattle.std.specs.Prelude.{map, flat_map}
use Rattle.semantics.specs.Directives.Naming.{variables_in}
use Rattle.pragma_named.specs.Views.{variable_named, resolved_clause}
use Rattle.pragma_attach.proofs.once.listed_names.Given as goal

-- those of the clauses so far
abbrev pub invariant-loop-clause : goal.invariant-loop-clause
invariant-loop-clause l =
    map variable_named l.list.items ++ flat_map variables_in (map resolved_clause (drop l.clause-index l.clauses)) ≡ flat_map variables_in (map resolved_clause l.clauses)
