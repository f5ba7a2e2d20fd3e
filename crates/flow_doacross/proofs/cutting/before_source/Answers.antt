use Rattle.std.proofs.Common.{sym, ◌∙◌}
use Rattle.flow_doacross.proofs.LastLaw.{source_last, no_source_last}
use Rattle.flow_doacross.proofs.cutting.before_source.Goals as goal

pub returns-then-is_source_item : goal.returns-then-is_source_item
returns-then-is_source_item c =
    source_last c.args.directives.now c.args.items.now c.in-Some.inner.now c.in-Some.last.now c.in-Some.ensures.cases.0 (sym c.is_source_item.ensures ∙ c.if-is_source_item.true)

pub returns-else-is_source_item : goal.returns-else-is_source_item
returns-else-is_source_item c =
    no_source_last c.args.directives.now c.args.items.now c.in-Some.inner.now c.in-Some.last.now c.in-Some.ensures.cases.0 (sym c.is_source_item.ensures ∙ c.if-is_source_item.false)
