use Rattle.std.proofs.Common.{◌≡◌, ℕ, drop}
use Rattle.std.specs.Prelude.{◌||◌, map, flat_map}
use Rattle.semantics.specs.Meaning.Agrees.{is_among}
use Rattle.semantics.specs.Directives.Naming.{variables_in}
use Rattle.pragma_mention.specs.Sets.{holds}
use Rattle.pragma_named.specs.Views.{resolved_clause}
use Rattle.pragma_attach.proofs.listed.listed_variables.Given as goal

-- those so far, with those of the clauses that are left
abbrev pub invariant-loop-clause : goal.invariant-loop-clause
invariant-loop-clause l =
    (q : ℕ)
    → (holds l.set q || is_among (flat_map variables_in (map resolved_clause (drop l.clause-index l.clauses))) q) ≡ is_among (flat_map variables_in (map resolved_clause l.clauses)) q
