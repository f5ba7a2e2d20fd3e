use Rattle.std.proofs.Common.{◌≡◌, map, filter, drop}
use Rattle.std.specs.Prelude.{flat_map}
use Rattle.semantics.specs.Directives.Clauses.{private_of}
use Rattle.semantics.specs.Meaning.Definite.{without}
use Rattle.pragma_named.specs.Known.{kept}
use Rattle.pragma_named.specs.Views.{resolved_clause}
use Rattle.flow_definite.specs.Judged.{is_local, private_locals, known_of}
use Rattle.flow_definite.proofs.privates.forget_line.Given as goal

-- all are forgotten with those that are left
abbrev pub invariant-loop-clause : goal.invariant-loop-clause
invariant-loop-clause l =
    without (known_of l.fn.known) (private_locals (kept l.lines) l.files l.line)
    ≡ without (known_of l.known) (filter (is_local l.files) (flat_map private_of (map resolved_clause (drop l.clause-index l.clause-items))))
