use Rattle.std.specs.Prelude.{◌≡◌, take, drop, if◌then◌else◌}
use Rattle.std.proofs.Common.{sym, ap, ◌∙◌}
use Rattle.ktree.specs.View.{stmt_of, items_of}
use Rattle.ktree.proofs.Trees.{block_is}
use Rattle.outline.specs.Handed.{IsInputOf}
use Rattle.outline.proofs.Nested.{some_weaker}
use Rattle.outline.proofs.Phased.{is_input}
use Rattle.outline.proofs.scanning.input_among.Goals as goal

pub returns-in-Block : goal.returns-in-Block
returns-in-Block c =
    let scan = c.args.scan.now in
    let body = stmt_of c.args.body.now in
    let items = c.deref.result.now in
    some_weaker c.input_part.result (λ part. part.now ≡ (if scan.inclusive then take scan.front items else drop scan.front items)) (λ part. IsInputOf scan.inclusive scan.front body (items_of part.now))
    (λ part is. is_input scan.inclusive scan.front items body (items_of part.now) (block_is c.args.body.now c.in-Block.items _ c.in-Block.is c.deref.ensures.value) (sym c.has_line.ensures ∙ c.if-has_line.false) (ap items_of is))
    c.input_part.ensures
