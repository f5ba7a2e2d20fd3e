-- Cells that are taken out of a store, and others that are put back in their place.
use Rattle.std.proofs.Common.{◌≡◌, ℕ, List, length, sym, ap, ◌∙◌}
use Rattle.std.specs.Prelude.{map}
use Rattle.store.specs.Kept.{Kept}
use Rattle.store.specs.Flat.{filled, values_of}
use Rattle.lower_op.proofs.Refilled.{filled_lengths, filled_values}

module _ (cells new : List ℕ) (frame ks ks' : List Kept) (count : length cells ≡ length (values_of frame)) (long : length new ≡ length cells) (before : filled cells frame ≡ ks) (after : ks' ≡ filled new frame) where
  pub values_before : values_of ks ≡ cells
  values_before = ap values_of (sym before) ∙ filled_values cells frame count

  pub values_after : values_of ks' ≡ new
  values_after = ap values_of after ∙ filled_values new frame (long ∙ count)

  pub same_lengths : map (λ (k : Kept). k.lengths) ks' ≡ map (λ (k : Kept). k.lengths) ks
  same_lengths =
      ap (λ (l : List Kept). map (λ (k : Kept). k.lengths) l) after
      ∙ filled_lengths new frame ∙ sym (filled_lengths cells frame)
      ∙ ap (λ (l : List Kept). map (λ (k : Kept). k.lengths) l) before
