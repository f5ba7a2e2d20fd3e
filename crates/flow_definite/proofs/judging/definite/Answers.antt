use Rattle.std.proofs.Common.{◌≡◌, [], Some, length, map, refl, sym, ap, ◌∙◌, arith}
use Rattle.std.proofs.lemmas.List.{length-map}
use Rattle.std.proofs.lemmas.Result.{err_from_is_err_and}
use Rattle.semantics.specs.Meaning.Definite.{definite_items, known_at_start}
use Rattle.ktree.specs.View.{declaration_of, items_of}
use Rattle.pragma_named.specs.Known.{kept}
use Rattle.flow_definite.specs.Judged.{known_of, private_locals}
use Rattle.flow_definite.proofs.JudgeLemmas.{begins, text_judged, text_refused}
use Rattle.flow_definite.proofs.judging.definite.Goals as goal

pub returns-clause-ok : goal.returns-clause-ok
returns-clause-ok c =
    let n = c.args.kernel.now in
    let count : c.len-files.result ≡ length n.variables.items = omega arith in
    let start = ap known_of c.in_ok-known.ensures ∙ begins n.variables.items c.len-files.result count in
    let known = kept c.args.lines.now in
    let begun = known_at_start (map declaration_of n.variables.items) in
    let same =
    ap (λ is. definite_items (private_locals known (length (map declaration_of n.variables.items))) [] (items_of is) begun) (sym c.deref.ensures.value)
    ∙ ap (λ m. definite_items (private_locals known m) [] (items_of c.deref.result.now) begun) (length-map n.variables.items declaration_of ∙ sym count)
    ∙ ap (definite_items (private_locals known c.len-files.result) [] (items_of c.deref.result.now)) (sym start) in
    text_judged (private_locals known (length (map declaration_of n.variables.items))) n (Some (known_of c.block.new.known)) (same ∙ c.in_ok-block.ensures.after) refl

pub returns-in_err-block-clause-err : goal.returns-in_err-block-clause-err
returns-in_err-block-clause-err c =
    let n = c.args.kernel.now in
    let count : c.len-files.result ≡ length n.variables.items = omega arith in
    let start = ap known_of c.in_ok-known.ensures ∙ begins n.variables.items c.len-files.result count in
    let known = kept c.args.lines.now in
    let begun = known_at_start (map declaration_of n.variables.items) in
    let P = private_locals known (length (map declaration_of n.variables.items)) in
    let same =
    ap (λ is. definite_items P [] (items_of is) begun) (sym c.deref.ensures.value)
    ∙ ap (λ m. definite_items (private_locals known m) [] (items_of c.deref.result.now) begun) (length-map n.variables.items declaration_of ∙ sym count)
    ∙ ap (definite_items (private_locals known c.len-files.result) [] (items_of c.deref.result.now)) (sym start) in
    let p = err_from_is_err_and c.from_residual-in_err-block.result c.from_residual-in_err-block.ensures.1 in
    rw (p.1, p.2) (text_refused P n _ same c.in_err-block.field-0.0 c.in_err-block.ensures.refused)
