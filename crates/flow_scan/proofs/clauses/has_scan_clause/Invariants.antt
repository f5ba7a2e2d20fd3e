use Rattle.std.proofs.Common.{◌≡◌, map, drop}
use Rattle.semantics.specs.Directives.Clauses.{is_scan}
use Rattle.pragma_named.specs.Views.{resolved_clause}
use Rattle.flow_scan.proofs.clauses.has_scan_clause.Given as goal

-- the clauses that are left decide
abbrev pub invariant-loop-clause : goal.invariant-loop-clause
invariant-loop-clause l = is_scan (map resolved_clause (drop l.clause-index l.clauses)) ≡ is_scan (map resolved_clause l.clauses)
