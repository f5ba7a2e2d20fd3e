use Rattle.std.proofs.Common.{◌+◌, arith, sym, ◌∙◌, subst}
use Rattle.outline.specs.Handed.{ListsLocals}
use Rattle.outline.proofs.Nested.{none_listed, listed_more, listed_same}
use Rattle.outline.proofs.handing.variables_of.Goals.{then-has+in_ok-push, else-has}
use Rattle.outline.proofs.handing.variables_of.Goals as goal

pub loop-number-init : goal.loop-number-init
loop-number-init c = none_listed c.args.bounds.now c.new-variables.result.items c.new-variables.ensures.items

pub loop-number-preserved : goal.loop-number-preserved
loop-number-preserved c =
    let n = c.loop-number.number in
    let box = c.args.bounds.now in
    elim c.if-has.branch [
      | then-has+in_ok-push w ↦ subst (λ vs. ListsLocals (n + 1) box vs.items) (sym w.variables-is) (subst (ListsLocals (n + 1) box) (sym w.in_ok-push.ensures.items) (listed_more n box c.loop-number.variables.items (sym c.has.ensures ∙ w.if-has.true) c.loop-number.invariant))
      | else-has w ↦ subst (λ vs. ListsLocals (n + 1) box vs.items) (sym w.variables-is) (listed_same n box c.loop-number.variables.items (sym c.has.ensures ∙ w.if-has.false) c.loop-number.invariant)
    ]

pub returns : goal.returns
returns c = let le = c.loop-number-test.false in record { each = λ x lt k. c.loop-number.invariant.each x (omega (arith, lt, le)) k; only = c.loop-number.invariant.only }
