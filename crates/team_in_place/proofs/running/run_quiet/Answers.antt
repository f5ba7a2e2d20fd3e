-- The cells that are put back are those that were taken.
use Rattle.std.proofs.Common.{◌≡◌, ◌++◌, length, take, drop, ◌∙◌, ap, sym, subst, refl, rules}
use Rattle.store.specs.Flat.{filled, values_of}
use Rattle.lower_machine.specs.Machine.{machine}
use Rattle.lower_op.specs.Steps.{steps}
use Rattle.lower_run.proofs.Restored.{put_back}
use Rattle.lower_runner.specs.Turning.{ConstantsStand}
use Rattle.team_in_place.proofs.Cells.{values_before}
use Rattle.team_in_place.proofs.running.run_quiet.Goals as goal

pub with_cells-requires : goal.with_cells-requires
with_cells-requires c = ap length c.run_front-ran.ensures.kept ∙ c.into_cells-frame.ensures.count

pub returns-clause-does : goal.returns-clause-does
returns-clause-does c ran =
    let front = c.args.front in
    let old = c.args.registers.now.items in
    let new = c.run_front-ran.new.registers in
    let frame = c.into_cells-frame.result.0 in
    let cells = c.into_cells-frame.result.1.items in
    let ks = c.args.store.now in
    let held : c.as_mut_slice.result.now ≡ old = search rules in
    let back : take c.args.registers.now.len (new ++ drop (length new) old) ≡ new = put_back c.args.registers.now.len new old (search rules) (search rules) in
    let before : filled cells frame ≡ ks = c.into_cells-frame.ensures.cells ∙ c.replace.ensures.value in
    let values : values_of ks ≡ cells = values_before cells cells frame ks (filled cells frame) c.into_cells-frame.ensures.count refl before refl in
    ap (λ rs. machine rs (values_of ks)) back
    ∙ ap (λ cs. machine new cs) values
    ∙ c.run_front-ran.ensures.does ran
    ∙ ap (λ rs. steps front.ops.now (machine rs cells)) held
    ∙ ap (λ cs. steps front.ops.now (machine old cs)) (sym values)

pub returns-clause-stand : goal.returns-clause-stand
returns-clause-stand c ran =
    let old = c.args.registers.now.items in
    let new = c.run_front-ran.new.registers in
    let back : take c.args.registers.now.len (new ++ drop (length new) old) ≡ new = put_back c.args.registers.now.len new old (search rules) (search rules) in
    subst (ConstantsStand c.args.front.compiled.now) (sym back) (c.run_front-ran.ensures.stand ran)

pub returns-clause-kept : goal.returns-clause-kept
returns-clause-kept c =
    let frame = c.into_cells-frame.result.0 in
    c.with_cells.ensures
    ∙ ap (λ l. filled l frame) c.run_front-ran.ensures.kept
    ∙ c.into_cells-frame.ensures.cells ∙ c.replace.ensures.value
