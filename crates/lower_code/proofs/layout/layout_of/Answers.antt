use Rattle.std.proofs.Common.{rules, ◌≡◌, ◌∙◌, refl, ap, ◌%◌, ◌^◌}
use Rattle.semantics.specs.Meaning.Places.{size}
use Rattle.lower_code.proofs.Laying.{laying_from, laying_on, laying_over}
use Rattle.lower_code.proofs.layout.layout_of.Goals as goal

pub loop-declaration-init : goal.loop-declaration-init
loop-declaration-init c = rw c.new-layout.ensures.items (laying_from c.args.declarations.now)

pub loop-declaration-preserved : goal.loop-declaration-preserved
loop-declaration-preserved c =
    let same : c.in_ok-lengths.lengths.items ≡ c.declaration-item.result.lengths.items = search rules in
    rw c.in_ok-push.ensures.items
    (laying_on c.args.declarations.now c.loop-declaration.declaration-index c.loop-declaration.layout.items c.loop-declaration.first c.elements-count.result _ c.declaration-item.result (record { first = c.loop-declaration.first; lengths = c.in_ok-lengths.lengths }) c.loop-declaration-test.true c.declaration-item.is c.loop-declaration.invariant refl same
    (c.elements-count.ensures ∙ ap (λ ns. size ns % 2 ^ 64) c.deref.ensures.value) refl)

pub returns-clause-laid : goal.returns-clause-laid
returns-clause-laid c = c.loop-declaration.invariant.laid

pub returns-clause-shapes : goal.returns-clause-shapes
returns-clause-shapes c = laying_over c.args.declarations.now c.loop-declaration.declaration-index c.loop-declaration.layout.items c.loop-declaration.first c.loop-declaration-test.false c.loop-declaration.invariant
