use Rattle.std.proofs.Common.{refl}
use Rattle.semantics.specs.Directives.Annotated.{resolve_clause, resolve_clauses}
use Rattle.pragma_clause.specs.Views.{written_clause}
use Rattle.cparse_cursor.specs.Names.{names_of}
use Rattle.pragma_named.specs.Views.{resolved_clause}
use Rattle.pragma_attach.proofs.EachLaw.{Left}
use Rattle.pragma_attach.proofs.resolved.resolve_clauses.Given as goal

-- the clauses so far
abbrev pub invariant-loop-clause : goal.invariant-loop-clause
invariant-loop-clause l =
    Left (resolve_clause (names_of l.scope)) (resolve_clauses (names_of l.scope)) refl (λ c cs. refl) written_clause resolved_clause l.clauses l.clause-index l.resolved.items
