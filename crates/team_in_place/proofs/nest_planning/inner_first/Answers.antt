use Rattle.std.proofs.Common.{◌++◌, ◌∷◌, [], sym, ap, ◌∙◌, subst}
use Rattle.lower_op.specs.declared.op.Op.{Op}
use Rattle.team_in_place.specs.Begun.{BeginsWith}
use Rattle.team_in_place.proofs.Planned.{constant_begins, move_begins}
use Rattle.team_in_place.proofs.nest_planning.inner_first.Goals as goal

pub returns-in-Constant : goal.returns-in-Constant
returns-in-Constant c =
    let front = c.in_ok-last.field-0-1.now in
    let is = c.in_ok-last.ensures.cases.0 ∙ ap (λ (op : Op). front ++ op ∷ []) c.in-Constant.is in
    constant_begins c.args.nesting.now c.args.registers.now c.requires front c.in-Constant.to c.if-to-variable.true c.in-Constant.n is

pub returns-in-Move : goal.returns-in-Move
returns-in-Move c =
    let x = c.args.nesting.now in
    let registers = c.args.registers.now in
    let front = c.in_ok-last.field-0-1.now in
    let is = c.in_ok-last.ensures.cases.0 ∙ ap (λ (op : Op). front ++ op ∷ []) c.in-Move.is in
    let left = c.is_left.ensures c.if-is_left.true in
    subst (BeginsWith x registers) (sym c.register_value.ensures) (move_begins x registers c.requires front c.in-Move.to c.if-to-variable-2.true c.in-Move.a left is)
