use Rattle.std.proofs.Common.{ap, ◌∙◌, inr}
use Rattle.ktree.specs.View.{stmt_of, items_of}
use Rattle.pragma.specs.Parallel.{associated}
use Rattle.pragma.specs.Views.{scheduled}
use Rattle.pragma_named.specs.Known.{kept}
use Rattle.flow.specs.Roles.{data_known}
use Rattle.flow.specs.Private.{nest_body_of}
use Rattle.flow.proofs.PrivateLemmas.{not_kept, not_nested, nest_judged}
use Rattle.flow.proofs.FaultLemmas.{nest_told}
use Rattle.flow.proofs.classifying.loop_fault.Goals as goal

pub returns-in_default-clause-judged : goal.returns-in_default-clause-judged
returns-in_default-clause-judged c = inr (λ h. c.in_default.ensures.err.1 h.0 h.1 h.2)

pub returns-in_default-clause-cause : goal.returns-in_default-clause-cause
returns-in_default-clause-cause c = inr (λ h. c.in_default.ensures.err.1 h.0 h.1 h.2)

pub returns-in_default-nest_body-clause-judged : goal.returns-in_default-nest_body-clause-judged
returns-in_default-nest_body-clause-judged c =
    let line = c.in-Ok.said in
    let statement = stmt_of c.in-Some.statement.now in
    inr (not_kept c.args.directives.now c.args.place.line (items_of c.args.rest.now) (scheduled line) line.collapse c.in-Ok.ensures.ok statement c.in-Some.ensures
    (data_known (kept c.args.lines.now) c.args.files c.args.place.line) (c.in_default-nest_body.ensures ∙ ap (λ n. nest_body_of n statement) c.associated_loops.ensures))

pub returns-in_default-nest_body-clause-cause : goal.returns-in_default-nest_body-clause-cause
returns-in_default-nest_body-clause-cause c =
    let line = c.in-Ok.said in
    let statement = stmt_of c.in-Some.statement.now in
    inr (not_nested c.args.directives.now c.args.place.line (items_of c.args.rest.now) (scheduled line) line.collapse c.in-Ok.ensures.ok statement c.in-Some.ensures
    (c.in_default-nest_body.ensures ∙ ap (λ n. nest_body_of n statement) c.associated_loops.ensures))

pub returns-clause-judged : goal.returns-clause-judged
returns-clause-judged c =
    let line = c.in-Ok.said in
    let statement = stmt_of c.in-Some.statement.now in
    nest_judged c.args.directives.now c.args.place.line (items_of c.args.rest.now) (scheduled line) line.collapse c.in-Ok.ensures.ok statement c.in-Some.ensures
    (data_known (kept c.args.lines.now) c.args.files c.args.place.line) c.nest_fault.result
    (c.nest_fault.ensures.judged (associated line.collapse) (c.in-Some-nest_body.ensures ∙ ap (λ n. nest_body_of n statement) c.associated_loops.ensures))

pub returns-clause-cause : goal.returns-clause-cause
returns-clause-cause c =
    let line = c.in-Ok.said in
    let statement = stmt_of c.in-Some.statement.now in
    nest_told c.args.directives.now (data_known (kept c.args.lines.now) c.args.files) c.args.place.line (items_of c.args.rest.now) (scheduled line) line.collapse c.in-Ok.ensures.ok statement c.in-Some.ensures
    c.nest_fault.result (stmt_of c.in-Some-nest_body.body.now) (c.in-Some-nest_body.ensures ∙ ap (λ n. nest_body_of n statement) c.associated_loops.ensures) c.nest_fault.ensures.cause
