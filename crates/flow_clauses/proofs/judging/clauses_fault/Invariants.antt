use Rattle.std.proofs.Common.{◌≡◌, map, drop}
use Rattle.std.specs.List.{list_all}
use Rattle.ktree.specs.View.{declaration_of}
use Rattle.pragma_mention.specs.Sets.{holds}
use Rattle.pragma_named.specs.Views.{resolved_clause}
use Rattle.flow_clauses.specs.Fitting.{fits}
use Rattle.flow_clauses.proofs.judging.clauses_fault.Given as goal

-- the clauses that are left decide
abbrev pub invariant-loop-clause : goal.invariant-loop-clause
invariant-loop-clause l =
    list_all (fits (map declaration_of l.files) (holds l.loops)) (map resolved_clause (drop l.clause-index l.clauses))
    ≡ list_all (fits (map declaration_of l.files) (holds l.loops)) (map resolved_clause l.clauses)
