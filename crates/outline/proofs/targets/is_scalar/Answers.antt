use Rattle.std.specs.Prelude.{◌≢◌, ◌<◌, length, vec_len}
use Rattle.std.proofs.Common.{sym, ◌∙◌, arith}
use Rattle.std.proofs.lemmas.Bool.{eqb-false}
use Rattle.outline.proofs.Assigned.{element}
use Rattle.outline.proofs.targets.is_scalar.Goals as goal

pub returns-else-is_empty : goal.returns-else-is_empty
returns-else-is_empty c =
    let subscripts = c.args.target.now.subscripts in
    let some : vec_len subscripts ≢ 0 = eqb-false (vec_len subscripts) 0 (sym c.is_empty.ensures ∙ c.if-is_empty.false) in
    let above : 0 < length subscripts.items = omega arith in
    element c.args.target.now.variable.0 c.args.variable.0 subscripts.items above
