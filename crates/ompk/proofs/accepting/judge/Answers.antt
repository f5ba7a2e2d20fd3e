use Rattle.std.specs.Prelude.{length, IfErr}
use Rattle.std.proofs.Common.{rules}
use Rattle.std.proofs.lemmas.Result.{IfErr-weaker}
use Rattle.ktree.specs.View.{kernel_of}
use Rattle.pragma_named.specs.Known.{kept, lines_known}
use Rattle.flow.specs.Roles.{data_known}
use Rattle.ompk.specs.Judged.{whole_of}
use Rattle.ompk.specs.Refused.{IsNestedRightly, RefusesData, RefusesPasses}
use Rattle.ompk.proofs.Telling.{data_refused}
use Rattle.ompk.proofs.accepting.judge.Goals as goal

pub returns-in_err-loops-clause-refusal : goal.returns-in_err-loops-clause-refusal
returns-in_err-loops-clause-refusal c =
    let text = c.args.directives.now in
    let k = kernel_of c.args.kernel.now in
    let R = data_known (kept c.args.lines.now) (length k.variables) in
    let lines = lines_known (kept c.args.lines.now) in
    let whole = whole_of c.args.faults in
    let right : IsNestedRightly text k whole = search rules in
    let refused : IfErr c.from_residual-in_err-loops.result (RefusesData text k R lines whole) = search rules in
    IfErr-weaker c.from_residual-in_err-loops.result (RefusesData text k R lines whole) (RefusesPasses text k R lines whole) (λ r h. data_refused text k R lines whole r right h) refused
