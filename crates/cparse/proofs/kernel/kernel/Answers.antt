use Rattle.std.specs.Prelude.{◌&&◌, nat_le, is_none, map, Some}
use Rattle.semantics.specs.Source.Grammar.{elements}
use Rattle.std.proofs.Common.{◌≡◌, [], length, vec_len, rules, sym, ap, ◌∙◌}
use Rattle.std.proofs.lemmas.Result.{err_from_is_err_and}
use Rattle.std.proofs.lemmas.List.{length-map}
use Rattle.ktree.specs.View.{declaration_of}
use Rattle.cparse.specs.DeclarationViews.{decls_of}
use Rattle.cparse_cursor.specs.Names.{names_of, seen}
use Rattle.cparse_cursor.specs.Lexemes.{tokens_of}
use Rattle.cparse_stmt.specs.Rows.{items_in}
use Rattle.cparse_phrase.specs.Tallies.{told_of}
use Rattle.cparse.proofs.KernelLemmas.{whole, kernel_items, body_fails, brace_fails, end_fails, kernel_done}
use Rattle.cparse.proofs.kernel.kernel.Goals as goal

pub returns-in_err-body-clause-whole : goal.returns-in_err-body-clause-whole
returns-in_err-body-clause-whole c =
    let ts = tokens_of c.args.tokens.now in
    let ds = decls_of (names_of c.declarations.new.scope) c.in_ok-declared.declared in
    let inner = tokens_of c.in_ok-inner.inner.now in
    let many : vec_len c.in_ok-declared.declared.variables ≡ length c.in_ok-declared.declared.variables.items = search rules in
    let h = kernel_items ts (tokens_of c.behind_headers.result.now) inner (names_of c.empty-scope.result) ds c.len.result c.behind_headers.ensures.rest (ap (seen []) c.empty-scope.ensures) c.in_ok-declared.ensures.declared c.in_ok-inner.ensures.rest
    (c.len.ensures ∙ many ∙ sym (length-map c.in_ok-declared.declared.variables.items declaration_of)) in
    let p = err_from_is_err_and c.from_residual-in_err-body.result c.from_residual-in_err-body.ensures.1 in
    rw (p.1, p.2) (body_fails _ ts inner ds c.len.result h c.in_err-body.ensures.items)

pub returns-in_err-behind-clause-whole : goal.returns-in_err-behind-clause-whole
returns-in_err-behind-clause-whole c =
    let ts = tokens_of c.args.tokens.now in
    let ds = decls_of (names_of c.declarations.new.scope) c.in_ok-declared.declared in
    let inner = tokens_of c.in_ok-inner.inner.now in
    let many : vec_len c.in_ok-declared.declared.variables ≡ length c.in_ok-declared.declared.variables.items = search rules in
    let h = kernel_items ts (tokens_of c.behind_headers.result.now) inner (names_of c.empty-scope.result) ds c.len.result c.behind_headers.ensures.rest (ap (seen []) c.empty-scope.ensures) c.in_ok-declared.ensures.declared c.in_ok-inner.ensures.rest
    (c.len.ensures ∙ many ∙ sym (length-map c.in_ok-declared.declared.variables.items declaration_of)) in
    let p = err_from_is_err_and c.from_residual-in_err-behind.result c.from_residual-in_err-behind.ensures.1 in
    rw (p.1, p.2) (brace_fails _ ts inner ds c.len.result (told_of items_in c.in_ok-body.field-0) h c.in_ok-body.ensures.items c.in_err-behind.ensures)

pub returns-in_err-at_end-clause-whole : goal.returns-in_err-at_end-clause-whole
returns-in_err-at_end-clause-whole c =
    let ts = tokens_of c.args.tokens.now in
    let ds = decls_of (names_of c.declarations.new.scope) c.in_ok-declared.declared in
    let inner = tokens_of c.in_ok-inner.inner.now in
    let many : vec_len c.in_ok-declared.declared.variables ≡ length c.in_ok-declared.declared.variables.items = search rules in
    let h = kernel_items ts (tokens_of c.behind_headers.result.now) inner (names_of c.empty-scope.result) ds c.len.result c.behind_headers.ensures.rest (ap (seen []) c.empty-scope.ensures) c.in_ok-declared.ensures.declared c.in_ok-inner.ensures.rest
    (c.len.ensures ∙ many ∙ sym (length-map c.in_ok-declared.declared.variables.items declaration_of)) in
    let p = err_from_is_err_and c.from_residual-in_err-at_end.result c.from_residual-in_err-at_end.ensures.1 in
    rw (p.1, p.2) (end_fails _ ts inner ds c.len.result (told_of items_in c.in_ok-body.field-0) (tokens_of c.in_ok-behind.behind.now) h c.in_ok-body.ensures.items c.in_ok-behind.ensures c.in_err-at_end.ensures)

pub returns-clause-whole : goal.returns-clause-whole
returns-clause-whole c =
    let ts = tokens_of c.args.tokens.now in
    let ds = decls_of (names_of c.declarations.new.scope) c.in_ok-declared.declared in
    let inner = tokens_of c.in_ok-inner.inner.now in
    let is = told_of items_in c.in_ok-body.field-0 in
    let many : vec_len c.in_ok-declared.declared.variables ≡ length c.in_ok-declared.declared.variables.items = search rules in
    let h = kernel_items ts (tokens_of c.behind_headers.result.now) inner (names_of c.empty-scope.result) ds c.len.result c.behind_headers.ensures.rest (ap (seen []) c.empty-scope.ensures) c.in_ok-declared.ensures.declared c.in_ok-inner.ensures.rest
    (c.len.ensures ∙ many ∙ sym (length-map c.in_ok-declared.declared.variables.items declaration_of)) in
    kernel_done ts inner ds c.len.result is (tokens_of c.in_ok-behind.behind.now) _ h c.in_ok-body.ensures.items c.in_ok-behind.ensures c.in_ok-at_end.ensures
    ∙ ap (λ b. Some (record { tree = (whole ds is).tree; sound = b }))
    (sym (c.earlier-fault.ensures ∙ ap (λ b. is_none c.in_ok-declared.declared.fault && b)
    (c.earlier.ensures ∙ ap (λ b. is_none c.in_ok-body.field-0.fault && b) (c.too_many.ensures ∙ ap (λ vs. nat_le (elements (map declaration_of vs)) 16777216) c.deref.ensures.value))))
