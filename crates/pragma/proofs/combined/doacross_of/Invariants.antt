use Rattle.std.proofs.Common.{◌≡◌, map, drop}
use Rattle.semantics.specs.Directives.Clauses.{doacross_of}
use Rattle.pragma_clause.specs.Views.{written_clause}
use Rattle.pragma.proofs.combined.doacross_of.Given as goal

-- the clauses that are left decide
abbrev pub invariant-loop-clause : goal.invariant-loop-clause
invariant-loop-clause l = doacross_of (map written_clause (drop l.clause-index l.clauses)) ≡ doacross_of (map written_clause l.clauses)
