use Rattle.std.specs.Prelude.{List, ℕ, ◌∷◌}
use Rattle.std.proofs.Common.{sym, ◌∙◌, subst}
use Rattle.semantics.specs.Directives.Annotated.{resolve_clauses}
use Rattle.cparse_cursor.specs.Names.{names_of}
use Rattle.pragma_attach.specs.Resolved.{Fails}
use Rattle.pragma_named.specs.Known.{kept}
use Rattle.semantics.specs.Source.Scope.{Scope}
use Rattle.pragma_attach.specs.Told.{unless_twice, Misses}
use Rattle.pragma_attach.proofs.NamesLaw.{not_kept, missed, err_too}
use Rattle.pragma_attach.proofs.names.line_names.Goals as goal

pub returns-in-Err-clause-err : goal.returns-in-Err-clause-err
returns-in-Err-clause-err c =
    let scope = names_of c.args.scope.now in
    err_too c.refuse_line.result c.in-Err.stop ((rest : List (ℕ × Scope)) → Misses c.args.directives.now (kept c.args.table.now) ((c.args.place.line, scope) ∷ rest))
    (missed c.args.directives.now c.args.place.line scope (kept c.args.table.now) c.in-Err.stop
    (not_kept c.args.table.now c.args.place.line (sym c.contains_key.ensures ∙ c.if-contains_key.false))
    (subst (λ cs. Fails c.in-Err.stop (unless_twice (resolve_clauses scope cs))) c.clauses_on-clauses.ensures c.in-Err.ensures))
    c.refuse_line.ensures.err
