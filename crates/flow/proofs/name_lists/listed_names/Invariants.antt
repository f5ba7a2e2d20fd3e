use Rattle.std.proofs.Common.{◌≡◌, ◌++◌, map, drop}
use Rattle.std.specs.Prelude.{flat_map}
use Rattle.pragma_named.specs.Views.{variable_named, resolved_clause}
use Rattle.pragma_named.specs.Known.{kept, lines_known}
use Rattle.flow.specs.Lists.{listed}
use Rattle.flow.proofs.name_lists.listed_names.Given as goal

-- with those of the clauses that are left they are all
abbrev pub invariant-loop-clause : goal.invariant-loop-clause
invariant-loop-clause l = map variable_named l.found.items ++ flat_map (listed l.kind) (map resolved_clause (drop l.clause-index l.clause-items)) ≡ flat_map (listed l.kind) (lines_known (kept l.lines) l.line)
