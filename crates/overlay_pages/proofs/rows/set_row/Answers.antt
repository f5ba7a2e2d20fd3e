use Rattle.std.proofs.Common.{ℕ, ◌+◌, ◌*◌, ◌/◌, ◌%◌, sym, ap, ◌∙◌, subst, refl, arith}
use Rattle.std.specs.Prelude.{slice_set, bit_or}
use Rattle.store.specs.Kept.{overlaid}
use Rattle.overlay_pages.specs.Table.{table_of, IsSound}
use Rattle.overlay_pages.proofs.Beside.{row_by_parts, row_settled}
use Rattle.overlay_pages.proofs.rows.set_row.Goals as goal

pub returns-clause-roomy : goal.returns-clause-roomy
returns-clause-roomy c =
    let old = c.args.pages.now in
    let first = c.args.first in
    let ns = c.args.numbers.now in
    let capacity = c.overwrite.ensures.capacity in
    let room = c.requires.roomy.values in
    record {
      sound =
          subst IsSound
          (sym (row_by_parts (table_of old) _ first ns refl
          (c.set.ensures ∙ (λ i. slice_set old.masks (first / 64) (bit_or (c.get-mask.ensures i) (c.ones-bits.ensures i))))
          refl refl
          (c.overwrite.ensures.items ∙ ap (λ (m : ℕ). overlaid old.values.items (64 * m + first % 64) ns) c.get-number.ensures)))
          (row_settled (table_of old) first ns c.requires.roomy.sound c.requires.there c.requires.few c.requires.entered).0;
      entered = c.requires.roomy.entered;
      values = omega arith;
    }
