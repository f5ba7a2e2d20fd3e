use Rattle.std.specs.Prelude.{◌≡◌, false, Some, None}
use Rattle.std.proofs.Common.{ap, ◌∙◌}
use Rattle.std.proofs.lemmas.Result.{IfOk-weaker, IfErr-weaker}
use Rattle.ktree.specs.View.{stmt_of, items_of}
use Rattle.ktree.proofs.Trees.{block_is}
use Rattle.flow_ordered.specs.Ordered.{met_in, met_among}
use Rattle.flow_ordered.proofs.regions.+meeting.Goals as goal

pub meet-returns-in-Block-clause-ok : goal.meet-returns-in-Block-clause-ok
meet-returns-in-Block-clause-ok t c =
    let text = c.args.directives.now in
    let is = block_is c.args.statement.now c.in-Block.items c.deref-in-Block.result.now c.in-Block.is c.deref-in-Block.ensures.value in
    IfOk-weaker c.meet_items.result (λ now. met_among text c.args.may false c.args.met (items_of c.deref-in-Block.result.now) ≡ Some now) (λ now. met_in text c.args.may c.args.met (stmt_of c.args.statement.now) ≡ Some now)
    (λ now h. ap (met_in text c.args.may c.args.met) is ∙ h) c.meet_items.ensures.ok

pub meet-returns-in-Block-clause-err : goal.meet-returns-in-Block-clause-err
meet-returns-in-Block-clause-err t c =
    let text = c.args.directives.now in
    let is = block_is c.args.statement.now c.in-Block.items c.deref-in-Block.result.now c.in-Block.is c.deref-in-Block.ensures.value in
    IfErr-weaker c.meet_items.result (λ x. met_among text c.args.may false c.args.met (items_of c.deref-in-Block.result.now) ≡ None) (λ x. met_in text c.args.may c.args.met (stmt_of c.args.statement.now) ≡ None)
    (λ x h. ap (met_in text c.args.may c.args.met) is ∙ h) c.meet_items.ensures.err
