use Rattle.std.specs.Prelude.{◌≡◌, []}
use Rattle.std.proofs.Common.{ap, ◌∙◌}
use Rattle.semantics.specs.Directives.Annotated.{lines_among, lines_of, file_scope}
use Rattle.ktree.specs.View.{items_of, kernel_of}
use Rattle.cparse_cursor.specs.Names.{names_of}
use Rattle.pragma_named.specs.Known.{kept}
use Rattle.std.proofs.lemmas.Result.{on_ok_weaker}
use Rattle.pragma_attach.proofs.NamesLaw.{err_weaker, all_told, one_missed}
use Rattle.pragma_attach.proofs.names.kernel_names.Goals as goal

pub returns-clause-ok : goal.returns-clause-ok
returns-clause-ok c =
    let tree = kernel_of c.args.kernel.now in
    let scope = names_of c.in-Ok.scope in
    let items = items_of c.as_slice.result.now in
    let lines : lines_among scope items ≡ lines_of tree = ap (λ s. lines_among s items) c.in-Ok.ensures ∙ ap (λ is. lines_among (file_scope tree) (items_of is)) c.as_slice.ensures.value in
    on_ok_weaker c.items_names.result (λ h. all_told c.args.directives.now (kept c.args.table.now) (kept c.items_names.new.table) (lines_among scope items) (lines_of tree) c.requires.empty lines (h [])) c.items_names.ensures.ok

pub returns-clause-err : goal.returns-clause-err
returns-clause-err c =
    let tree = kernel_of c.args.kernel.now in
    let scope = names_of c.in-Ok.scope in
    let items = items_of c.as_slice.result.now in
    let lines : lines_among scope items ≡ lines_of tree = ap (λ s. lines_among s items) c.in-Ok.ensures ∙ ap (λ is. lines_among (file_scope tree) (items_of is)) c.as_slice.ensures.value in
    err_weaker c.items_names.result (one_missed c.args.directives.now (kept c.args.table.now) (lines_among scope items) (lines_of tree) c.requires.empty lines) c.items_names.ensures.err
