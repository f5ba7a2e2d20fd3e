-- The cells that are put back are what all turns leave.
use Rattle.std.proofs.Common.{◌≡◌, ◌++◌, length, take, drop, ◌∙◌, refl, sym, ap, arith, rules}
use Rattle.store.specs.Flat.{filled, values_of}
use Rattle.lower_machine.specs.Machine.{machine}
use Rattle.law_lanes.specs.Lanes.{turns}
use Rattle.lane_rows.specs.Lanes.{stepped}
use Rattle.lower_run.proofs.Restored.{put_back}
use Rattle.team_in_place.proofs.Cells.{same_lengths, values_after, values_before}
use Rattle.team_in_place.proofs.scan_running.scan_over_store.Goals as goal

pub scan_over_cells-end-requires-clause-within : goal.scan_over_cells-end-requires-clause-within
scan_over_cells-end-requires-clause-within g c κs within =
    let ks = c.args.store.now in
    let frame = c.into_cells-frame.result.0 in
    let cells = c.into_cells-frame.result.1.items in
    let before : filled cells frame ≡ ks = c.into_cells-frame.ensures.cells ∙ c.replace.ensures.value in
    let values : values_of ks ≡ cells = values_before cells cells frame ks (filled cells frame) c.into_cells-frame.ensures.count refl before refl in
    let size : length (values_of ks) ≡ length cells = ap length values in
    let held : length c.as_mut_slice.result.now ≡ length cells = ap length c.as_mut_slice.ensures.value in
    omega (arith, c.requires.within, size, held)

pub returns-in_err-registers-clause-shape : goal.returns-in_err-registers-clause-shape
returns-in_err-registers-clause-shape g c =
    let frame = c.into_cells-frame.result.0 in
    let size = c.into_cells-frame.result.1.len in
    let cells = c.into_cells-frame.result.1.items in
    let new = c.scan_over_cells-end.new.cells in
    let back : take size (new ++ drop (length new) cells) ≡ new = put_back size new cells (search rules) (search rules) in
    let long : length new ≡ length cells = search rules in
    let before : filled cells frame ≡ c.args.store.now = c.into_cells-frame.ensures.cells ∙ c.replace.ensures.value in
    let after : c.with_cells.result ≡ filled new frame = c.with_cells.ensures ∙ ap (λ l. filled l frame) back in
    same_lengths cells new frame c.args.store.now c.with_cells.result c.into_cells-frame.ensures.count long before after

pub returns-clause-does : goal.returns-clause-does
returns-clause-does g c =
    let p = c.args.plan in
    let frame = c.into_cells-frame.result.0 in
    let size = c.into_cells-frame.result.1.len in
    let cells = c.into_cells-frame.result.1.items in
    let new = c.scan_over_cells-end.new.cells in
    let rs = c.in_ok-registers.registers.items in
    let back : take size (new ++ drop (length new) cells) ≡ new = put_back size new cells (search rules) (search rules) in
    let long : length new ≡ length cells = search rules in
    let before : filled cells frame ≡ c.args.store.now = c.into_cells-frame.ensures.cells ∙ c.replace.ensures.value in
    let after : c.with_cells.result ≡ filled new frame = c.with_cells.ensures ∙ ap (λ l. filled l frame) back in
    let values : values_of c.args.store.now ≡ cells = values_before cells new frame c.args.store.now c.with_cells.result c.into_cells-frame.ensures.count long before after in
    let values' : values_of c.with_cells.result ≡ new = values_after cells new frame c.args.store.now c.with_cells.result c.into_cells-frame.ensures.count long before after in
    ap (λ cs. machine rs cs) values'
    ∙ c.in_ok-registers.ensures.does
    ∙ ap (λ cs. turns p.scanned.laned.variable.at (stepped p.rise.first p.rise.by) p.scanned.ops.now p.rise.count (machine c.args.registers.now cs)) (c.as_mut_slice.ensures.value ∙ sym values)

pub returns-clause-shape : goal.returns-clause-shape
returns-clause-shape g c =
    let frame = c.into_cells-frame.result.0 in
    let size = c.into_cells-frame.result.1.len in
    let cells = c.into_cells-frame.result.1.items in
    let new = c.scan_over_cells-end.new.cells in
    let back : take size (new ++ drop (length new) cells) ≡ new = put_back size new cells (search rules) (search rules) in
    let long : length new ≡ length cells = search rules in
    let before : filled cells frame ≡ c.args.store.now = c.into_cells-frame.ensures.cells ∙ c.replace.ensures.value in
    let after : c.with_cells.result ≡ filled new frame = c.with_cells.ensures ∙ ap (λ l. filled l frame) back in
    same_lengths cells new frame c.args.store.now c.with_cells.result c.into_cells-frame.ensures.count long before after
