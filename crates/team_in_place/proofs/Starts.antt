-- One number more takes the place of what is added behind it.
use Rattle.std.proofs.Common.{◌≡◌, ℕ, suc, ◌+◌, ◌%◌, ◌^◌, ◌<◌, ◌≤◌, Bool, true, false, List, length, refl, sym, ap, ◌∙◌, arith}
use Rattle.std.specs.Prelude.{slice_index, slice_set, ◌==◌}
use Rattle.std.proofs.lemmas.Bool.{eqb-true, eqb-false}
use Rattle.std.proofs.lemmas.List.{get_or-set_other}
use Rattle.law_lanes.proofs.Folds.{set_there}
use Rattle.team_in_place.specs.Scanning.{start_of}

module _ (first : ℕ) (old sums : List ℕ) (at start : ℕ) (within : at < length sums) (is : start ≡ start_of first old at)
    (before : (k : ℕ) → k < at → slice_index sums k ≡ start_of first old k) (behind : (k : ℕ) → at ≤ k → slice_index sums k ≡ slice_index old k) where
  pub next_start : (start + slice_index sums at) % 2 ^ 64 ≡ start_of first old (suc at)
  next_start = ap (λ n. (n + slice_index sums at) % 2 ^ 64) is ∙ ap (λ n. (start_of first old at + n) % 2 ^ 64) (behind at (omega arith))

  pub next_before : (k : ℕ) → k < suc at → slice_index (slice_set sums at start) k ≡ start_of first old k
  next_before k lt = go (k == at) refl
    where
      go : (b : Bool) → (k == at) ≡ b → slice_index (slice_set sums at start) k ≡ start_of first old k
      go true e =
          let same = eqb-true k at e in
          ap (slice_index (slice_set sums at start)) same ∙ set_there sums at start within ∙ is ∙ ap (start_of first old) (sym same)
      go false e =
          let ne = eqb-false k at e in
          get_or-set_other sums at k start 0 ne ∙ before k (omega (arith, lt, ne))

  pub next_behind : (k : ℕ) → suc at ≤ k → slice_index (slice_set sums at start) k ≡ slice_index old k
  next_behind k le = get_or-set_other sums at k start 0 (λ e. absurd (omega (arith, le, e))) ∙ behind k (omega (arith, le))
