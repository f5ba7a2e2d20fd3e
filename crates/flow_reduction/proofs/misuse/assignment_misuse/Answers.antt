use Rattle.std.specs.Prelude.{◌≡◌, ◌≢◌, ◌<◌, ◌&&◌, length, vec_len, is_none}
use Rattle.std.proofs.Common.{rules, sym, ◌∙◌, arith}
use Rattle.std.proofs.lemmas.Bool.{eqb-false}
use Rattle.semantics.specs.Meaning.Agrees.{names_exprs, names_source}
use Rattle.law_roles.specs.Updates.{is_plain}
use Rattle.ktree.specs.View.{exprs_of, source_of}
use Rattle.flow_reduction.specs.Reduced.{reduced}
use Rattle.flow_reduction.proofs.UpdateLemmas.{element_plain}
use Rattle.flow_reduction.proofs.misuse.assignment_misuse.Goals as goal

pub returns : goal.returns
returns c =
    let target = c.args.target.now in
    let rs = reduced c.args.reductions.now in
    let V = is_plain rs in
    let some : vec_len target.subscripts ≢ 0 = eqb-false (vec_len target.subscripts) 0 (sym c.is_empty.ensures ∙ c.if-is_empty.false) in
    let above : 0 < length target.subscripts.items = omega arith in
    let parts : is_none c.or.result ≡ (V target.variable.0 && names_exprs V (exprs_of target.subscripts.items) && names_source V (source_of c.args.value.now)) = search rules in
    parts ∙ sym (element_plain rs target.variable.0 target.subscripts.items (source_of c.args.value.now) above)
