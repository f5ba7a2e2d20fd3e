use Rattle.std.proofs.Common.{◌≡◌, ◌++◌, map, drop}
use Rattle.std.specs.Prelude.{flat_map}
use Rattle.semantics.specs.Directives.Clauses.{inscan_of}
use Rattle.pragma_named.specs.Views.{resolved_clause}
use Rattle.pragma_named.specs.Known.{kept, lines_known}
use Rattle.flow_reduction.specs.Reduced.{reduced}
use Rattle.flow.proofs.role_lists.line_carried.Given as goal

-- with those of the clauses that are left they are all
abbrev pub invariant-loop-clause : goal.invariant-loop-clause
invariant-loop-clause l = reduced l.found.items ++ flat_map inscan_of (map resolved_clause (drop l.clause-index l.clause-items)) ≡ flat_map inscan_of (lines_known (kept l.lines) l.line)
