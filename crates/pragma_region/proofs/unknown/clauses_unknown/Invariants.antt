use Rattle.std.proofs.Common.{◌≡◌, map, drop}
use Rattle.pragma_clause.specs.Views.{written_clause}
use Rattle.pragma_region.specs.NotKnown.{first_number}
use Rattle.pragma_region.proofs.unknown.clauses_unknown.Given as goal

-- the clauses that are left decide
abbrev pub invariant-loop-clause : goal.invariant-loop-clause
invariant-loop-clause l = first_number (map written_clause (drop l.clause-index l.clauses)) ≡ first_number (map written_clause l.clauses)
