use Rattle.std.specs.Prelude.{length}
use Rattle.std.proofs.Common.{rules}
use Rattle.ktree.specs.View.{kernel_of}
use Rattle.pragma_named.specs.Known.{kept, lines_known}
use Rattle.flow.specs.Roles.{data_known}
use Rattle.ompk.specs.Judged.{whole_of}
use Rattle.ompk.specs.Refused.{RefusesWhole}
use Rattle.ompk.proofs.Judging.{either_refused}
use Rattle.ompk.proofs.accepting.judge_data.Goals as goal

pub returns-in-Err-Some-clause-refusal : goal.returns-in-Err-Some-clause-refusal
returns-in-Err-Some-clause-refusal c =
    let k = kernel_of c.args.kernel.now in
    let known = kept c.args.lines.now in
    let told : RefusesWhole (whole_of c.args.faults) c.in-Err-Some.whole = search rules in
    either_refused c.args.directives.now k (data_known known (length k.variables)) (lines_known known) (whole_of c.args.faults) c.in-Err-Some.whole c.in-Err-Some.refusal c.first_of.result
    told c.in-Err-Some.ensures.refusal c.first_of.ensures
