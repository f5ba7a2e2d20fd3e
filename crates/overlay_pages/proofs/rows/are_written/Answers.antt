use Rattle.std.proofs.Common.{◌≡◌, ◌+◌, ◌-◌, ◌/◌, ◌%◌, ◌^◌, sym, ◌∙◌}
use Rattle.std.specs.Prelude.{slice_index, bit_and}
use Rattle.std.proofs.lemmas.Bool.{eq-eqb, eqb-true}
use Rattle.overlay_pages.specs.Table.{table_of}
use Rattle.overlay_pages.proofs.Beside.{bits_set, mask_set}
use Rattle.overlay_pages.proofs.rows.are_written.Goals as goal

pub returns : goal.returns
returns c =
    let t = table_of c.args.pages.now in
    let both = bit_and c.mask_of.result c.ones-needed.result in
    let mask = slice_index c.args.pages.now.masks (c.args.first / 64) in
    let needed = 2 ^ (c.args.first % 64 + c.args.count) - 2 ^ (c.args.first % 64) in
    let is : both ≡ bit_and mask needed = (λ i. bit_and (c.mask_of.ensures i) (c.ones-needed.ensures i)) in (
      λ e. bits_set t c.args.first c.args.count c.requires.few (sym is ∙ eqb-true both c.ones-needed.result e ∙ c.ones-needed.ensures),
      λ all. eq-eqb both c.ones-needed.result (is ∙ mask_set t c.args.first c.args.count c.requires.few all ∙ sym c.ones-needed.ensures),
    )
