use Rattle.std.proofs.Common.{◌≡◌, drop}
use Rattle.std.specs.Prelude.{map, flat_map}
use Rattle.semantics.specs.Directives.Naming.{variables_in}
use Rattle.pragma_mention.specs.Sets.{holds}
use Rattle.pragma_named.specs.Views.{resolved_clause}
use Rattle.pragma_attach.specs.Rightly.{are_wanted}
use Rattle.pragma_attach.proofs.wanted.clause_fault.Given as goal

-- those of the clauses that are left decide
abbrev pub invariant-loop-clause : goal.invariant-loop-clause
invariant-loop-clause l =
    are_wanted l.wanted (holds l.set) (flat_map variables_in (map resolved_clause (drop l.clause-index l.clauses)))
    ≡ are_wanted l.wanted (holds l.set) (flat_map variables_in (map resolved_clause l.clauses))
