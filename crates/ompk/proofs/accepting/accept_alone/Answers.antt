use Rattle.std.specs.Prelude.{ℕ, List, IfErr}
use Rattle.std.proofs.Common.{inl, inr, subst, length, rules}
use Rattle.std.proofs.lemmas.Result.{IfErr-weaker}
use Rattle.ktree.specs.View.{kernel_of}
use Rattle.pragma_named.specs.Known.{kept, lines_known}
use Rattle.flow.specs.Roles.{data_known}
use Rattle.flow.specs.Parallel.{AreParallelLoops}
use Rattle.deptest.specs.Refused.{RefusesLoops}
use Rattle.ompk.specs.Judged.{whole_of}
use Rattle.ompk.specs.Refused.{IsJudged, RefusesPasses, RefusesAlone}
use Rattle.ompk.proofs.Judging.{has_loops}
use Rattle.ompk.proofs.accepting.accept_alone.Goals as goal

pub accept-requires-clause-passed : goal.accept-requires-clause-passed
accept-requires-clause-passed c =
    let k = kernel_of c.args.kernel in
    let known = kept c.args.lines.now in
    let R = data_known known (length k.variables) in
    let loops = c.in_ok-table.field-0.loops.items in
    let whole = whole_of c.args.whole.faults in
    has_loops c.args.text.now k known whole loops c.args.whole.told c.requires.stands (subst (λ (text : List ℕ). IsJudged text k R (lines_known known) whole) c.requires.lines c.in_ok-table.ensures.judged)
    (subst (λ (text : List ℕ). AreParallelLoops text R k loops) c.requires.lines c.in_ok-table.ensures.listed)

pub returns-clause-refusal : goal.returns-clause-refusal
returns-clause-refusal c =
    let k = kernel_of c.args.kernel in
    let known = kept c.args.lines.now in
    let whole = whole_of c.args.whole.faults in
    IfErr-weaker c.accept.result (RefusesLoops c.args.text.now k) (RefusesAlone c.args.text.now k (data_known known (length k.variables)) (lines_known known) whole) (λ r h. inr h) c.accept.ensures.err

pub returns-in_err-table-clause-refusal : goal.returns-in_err-table-clause-refusal
returns-in_err-table-clause-refusal c =
    let k = kernel_of c.args.kernel in
    let known = kept c.args.lines.now in
    let R = data_known known (length k.variables) in
    let whole = whole_of c.args.whole.faults in
    let refused : IfErr c.from_residual.result (RefusesPasses c.args.directives.now k R (lines_known known) whole) = search rules in
    IfErr-weaker c.from_residual.result (RefusesPasses c.args.directives.now k R (lines_known known) whole) (RefusesAlone c.args.text.now k R (lines_known known) whole)
    (λ r h. inl (subst (λ (text : List ℕ). RefusesPasses text k R (lines_known known) whole r) c.requires.lines h)) refused
