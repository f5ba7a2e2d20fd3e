use Rattle.std.proofs.Common.{◌≡◌, map, drop}
use Rattle.std.specs.Prelude.{flat_map}
use Rattle.semantics.specs.Meaning.Agrees.{is_among}
use Rattle.pragma_named.specs.Views.{resolved_clause}
use Rattle.flow.specs.Lists.{listed}
use Rattle.flow.proofs.name_lists.one_lists.Given as goal

-- the clauses that are left decide
abbrev pub invariant-loop-clause : goal.invariant-loop-clause
invariant-loop-clause l = is_among (flat_map (listed l.kind) (map resolved_clause (drop l.clause-index l.clauses))) l.variable.0 ≡ is_among (flat_map (listed l.kind) (map resolved_clause l.clauses)) l.variable.0
