use Rattle.std.proofs.Common.{◌≡◌, map, drop}
use Rattle.semantics.specs.Directives.Clauses.{is_scan}
use Rattle.pragma_clause.specs.Views.{written_clause}
use Rattle.pragma_region.proofs.listing.has_scan.Given as goal

-- the clauses that are left decide
abbrev pub invariant-loop-clause : goal.invariant-loop-clause
invariant-loop-clause l = is_scan (map written_clause (drop l.clause-index l.clauses)) ≡ is_scan (map written_clause l.clauses)
