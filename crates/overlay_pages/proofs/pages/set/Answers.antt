use Rattle.std.proofs.Common.{ℕ, ◌+◌, ◌*◌, ◌/◌, ◌%◌, ◌^◌, sym, ap, ◌∙◌, subst, refl}
use Rattle.std.specs.Prelude.{slice_set, bit_or}
use Rattle.overlay_pages.specs.Table.{table_of, IsSound}
use Rattle.overlay_pages.proofs.Tables.{sound_setting, setting_is}
use Rattle.overlay_pages.proofs.pages.set.Goals as goal

pub returns-clause-roomy : goal.returns-clause-roomy
returns-clause-roomy c =
    let old = c.args.pages.now in
    let p = c.args.place in
    record {
      sound =
          subst IsSound
          (sym (setting_is (table_of old) _ p c.args.n refl
          (c.set.ensures ∙ ap (λ (m : ℕ). slice_set old.masks (p / 64) (bit_or m (1 * 2 ^ (p % 64) % 2 ^ 64))) c.get-mask.ensures)
          refl refl
          (ap (λ (m : ℕ). slice_set old.values.items (64 * m + p % 64) c.args.n) c.get-number.ensures)))
          (sound_setting (table_of old) c.requires.roomy.sound p c.args.n c.requires.there c.requires.entered);
      entered = c.requires.roomy.entered;
      values = c.requires.roomy.values;
    }
