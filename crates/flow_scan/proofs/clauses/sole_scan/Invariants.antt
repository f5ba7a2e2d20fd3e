use Rattle.std.proofs.Common.{◌≡◌, ◌++◌, map, drop}
use Rattle.pragma_named.specs.Views.{resolved_clause}
use Rattle.flow_scan.specs.Lines.{scanned}
use Rattle.flow_scan.specs.Views.{reduced_there}
use Rattle.flow_scan.proofs.clauses.sole_scan.Given as goal

-- the one that was found, and those among the clauses that are left
abbrev pub invariant-loop-clause : goal.invariant-loop-clause
invariant-loop-clause l = reduced_there l.sole ++ scanned (map resolved_clause (drop l.clause-index l.clauses)) ≡ scanned (map resolved_clause l.clauses)
