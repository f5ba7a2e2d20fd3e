use Rattle.std.specs.Prelude.{◌≡◌, map, drop}
use Rattle.pragma_clause.specs.Views.{written_clause}
use Rattle.flow_ordered.specs.Ordered.{any_orders}
use Rattle.flow_ordered.proofs.loops.any_orders.Given as goal

-- the clauses that are left decide
abbrev pub invariant-loop-clause : goal.invariant-loop-clause
invariant-loop-clause l = any_orders (map written_clause (drop l.clause-index l.clauses)) ≡ any_orders (map written_clause l.clauses)
