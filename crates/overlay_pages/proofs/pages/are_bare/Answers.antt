use Rattle.std.proofs.Common.{◌≡◌, ◌+◌, ◌-◌, ◌/◌, ◌%◌, ◌^◌, sym, ◌∙◌, arith}
use Rattle.std.specs.Prelude.{slice_index, bit_and}
use Rattle.overlay_pages.specs.Table.{table_of}
use Rattle.overlay_pages.proofs.Beside.{bits_clear, clear_on}
use Rattle.overlay_pages.proofs.pages.are_bare.Goals as goal

pub loop-done-preserved : goal.loop-done-preserved
loop-done-preserved c =
    let t = table_of c.args.pages.now in
    let place = c.args.first + c.loop-done.done in
    let part = c.on_page-part.result in
    let none : bit_and c.mask_of.result c.ones-run.result ≡ 0 = omega arith in
    let is : bit_and c.mask_of.result c.ones-run.result ≡ bit_and (slice_index t.masks (place / 64)) (2 ^ (place % 64 + part) - 2 ^ (place % 64)) = (λ i. bit_and (c.mask_of.ensures i) (c.ones-run.ensures i)) in
    record {
      within = omega arith;
      clear = clear_on t c.args.first c.loop-done.done part c.loop-done.invariant.clear (bits_clear t place part (omega arith) (sym is ∙ none));
    }
