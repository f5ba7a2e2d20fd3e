use Rattle.std.proofs.Common.{◌≡◌, ◌++◌, map, drop}
use Rattle.pragma_named.specs.Views.{resolved_clause}
use Rattle.pragma_region.proofs.counting.add_copies.Given as goal

-- what is added so far, and what is left
abbrev pub invariant-loop-clause : goal.invariant-loop-clause
invariant-loop-clause l = map resolved_clause l.clauses.items ++ map resolved_clause (drop l.clause-index l.list) ≡ map resolved_clause l.fn.clauses.items ++ map resolved_clause l.list
