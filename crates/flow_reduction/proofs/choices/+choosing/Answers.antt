use Rattle.std.proofs.Common.{sym, ap, ◌∙◌, arith}
use Rattle.law_roles.specs.Updates.{assigns, sole}
use Rattle.ktree.specs.View.{expr_of}
use Rattle.ktree.proofs.Trees.{block_is}
use Rattle.flow_reduction.proofs.UpdateLemmas.{no_sole}
use Rattle.flow_reduction.proofs.choices.+choosing.Goals as goal

pub takes_value-returns-in-Block : goal.takes_value-returns-in-Block
takes_value-returns-in-Block t c =
    c.items_take.ensures
    ∙ sym (ap (λ s. assigns c.args.variable.0 (expr_of c.args.value.now) (sole s)) (block_is c.args.statement.now c.in-Block.items c.deref.result.now c.in-Block.is c.deref.ensures.value))

pub items_take-returns-in-len2-up : goal.items_take-returns-in-len2-up
items_take-returns-in-len2-up t c = no_sole c.args.variable.0 (expr_of c.args.value.now) c.args.items.now (omega arith)
