use Rattle.std.proofs.Common.{◌≡◌, map, drop}
use Rattle.std.specs.List.{list_all}
use Rattle.pragma_named.specs.Views.{resolved_clause}
use Rattle.flow_doacross.specs.Lines.{suits_doacross}
use Rattle.flow_doacross.proofs.clauses.suit_doacross.Given as goal

-- the clauses that are left decide
abbrev pub invariant-loop-clause : goal.invariant-loop-clause
invariant-loop-clause l = list_all suits_doacross (map resolved_clause (drop l.clause-index l.clauses)) ≡ list_all suits_doacross (map resolved_clause l.clauses)
