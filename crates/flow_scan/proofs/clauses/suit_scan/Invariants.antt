use Rattle.std.proofs.Common.{◌≡◌, map, drop}
use Rattle.std.specs.List.{list_all}
use Rattle.pragma_named.specs.Views.{resolved_clause}
use Rattle.flow_scan.specs.Lines.{suits_scan}
use Rattle.flow_scan.proofs.clauses.suit_scan.Given as goal

-- the clauses that are left decide
abbrev pub invariant-loop-clause : goal.invariant-loop-clause
invariant-loop-clause l = list_all suits_scan (map resolved_clause (drop l.clause-index l.clauses)) ≡ list_all suits_scan (map resolved_clause l.clauses)
