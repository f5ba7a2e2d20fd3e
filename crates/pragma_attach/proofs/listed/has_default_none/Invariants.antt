use Rattle.std.proofs.Common.{◌≡◌, drop}
use Rattle.std.specs.Prelude.{map}
use Rattle.std.specs.List.{list_any}
use Rattle.semantics.specs.Directives.Naming.{is_none}
use Rattle.pragma_named.specs.Views.{resolved_clause}
use Rattle.pragma_attach.proofs.listed.has_default_none.Given as goal

-- those that are left decide
abbrev pub invariant-loop-clause : goal.invariant-loop-clause
invariant-loop-clause l = list_any is_none (map resolved_clause (drop l.clause-index l.clauses)) ≡ list_any is_none (map resolved_clause l.clauses)
