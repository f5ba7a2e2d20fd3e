use Rattle.std.specs.Prelude.{◌≢◌, ◌<◌, length, vec_len}
use Rattle.std.proofs.Common.{sym, ◌∙◌, arith}
use Rattle.std.proofs.lemmas.Bool.{eqb-false}
use Rattle.ktree.specs.View.{expr_of, source_of}
use Rattle.flow_reduction.proofs.UpdateLemmas.{element_assigned}
use Rattle.flow_reduction.proofs.choices.is_assignment.Goals as goal

pub returns-then-not-is_empty : goal.returns-then-not-is_empty
returns-then-not-is_empty c =
    let target = c.args.target.now in
    let some : vec_len target.subscripts ≢ 0 = eqb-false (vec_len target.subscripts) 0 (sym c.is_empty.ensures ∙ c.if-not-is_empty.true) in
    let above : 0 < length target.subscripts.items = omega arith in
    element_assigned c.args.variable.0 target.variable.0 (expr_of c.args.value.now) target.subscripts.items (source_of c.args.source.now) above
