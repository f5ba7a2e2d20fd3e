use Rattle.std.proofs.Common.{◌≡◌, map, drop}
use Rattle.semantics.specs.Directives.Clauses.{doacross_of}
use Rattle.pragma_named.specs.Views.{resolved_clause}
use Rattle.flow_doacross.proofs.clauses.doacross_of.Given as goal

-- the clauses that are left decide
abbrev pub invariant-loop-clause : goal.invariant-loop-clause
invariant-loop-clause l = doacross_of (map resolved_clause (drop l.clause-index l.clauses)) ≡ doacross_of (map resolved_clause l.clauses)
