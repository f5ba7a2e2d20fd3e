-- Cells in parts, place by place.
use Rattle.std.proofs.Common.{◌≡◌, ℕ, ◌+◌, ◌-◌, ◌<◌, ◌≤◌, List, [], ◌∷◌, ◌++◌, length, replicate, take, drop, min, refl, sym, ap, ◌∙◌, subst, arith}
use Rattle.std.specs.Prelude.{slice_index, slice_set, ◌^◌}
use Rattle.std.proofs.lemmas.List.{get_or_append_left, get_or-append-add, get_or-take, get_or-drop, length-append, length-replicate, length-take, length-drop, set-append_left, set-append_right, length-set}
use Rattle.lower_op.specs.Stretches.{IsStretch, written}
use Rattle.team_parts.specs.Parted.{parted, cells_held}

-- ---- numbers written side by side

pub written_right : (xs ys ns : List ℕ) (k : ℕ) → written (length xs + k) ns (xs ++ ys) ≡ xs ++ written k ns ys
written_right xs ys [] k = refl
written_right xs ys (n ∷ ns) k =
    ap (written (length xs + k + 1) ns) (set-append_right xs ys (length xs) (length xs + k) n refl (omega arith))
    ∙ ap (λ i. written (length xs + k + 1) ns (xs ++ slice_set ys i n)) (let e : length xs + k - length xs ≡ k = omega arith in e)
    ∙ ap (λ i. written i ns (xs ++ slice_set ys k n)) (let e : length xs + k + 1 ≡ length xs + (k + 1) = omega arith in e)
    ∙ written_right xs (slice_set ys k n) ns (k + 1)

pub written_left : (ys zs ns : List ℕ) (k : ℕ) → k + length ns ≤ length ys → written k ns (ys ++ zs) ≡ written k ns ys ++ zs
written_left ys zs [] k le = refl
written_left ys zs (n ∷ ns) k le =
    ap (written (k + 1) ns) (set-append_left ys zs k n (omega arith))
    ∙ written_left (slice_set ys k n) zs ns (k + 1) (omega (arith, length-set ys k n))

-- ---- the parts

module _ (before : List ℕ) (left : ℕ) (own : List ℕ) (right : ℕ) (behind : List ℕ) where
  pub parted_length : length (parted before left own right behind) ≡ length before + left + length own + right + length behind
  parted_length =
      let a = length-append before (replicate left 0 ++ (own ++ (replicate right 0 ++ behind))) in
      let b = length-append (replicate left 0) (own ++ (replicate right 0 ++ behind)) in
      let c = length-append own (replicate right 0 ++ behind) in
      let d = length-append (replicate right 0) behind in
      let e = length-replicate {A = ℕ} left 0 in
      let f = length-replicate {A = ℕ} right 0 in
      omega (arith, a, b, c, d, e, f)

  pub before_at : (k : ℕ) → k < length before → slice_index (parted before left own right behind) k ≡ slice_index before k
  before_at k lt = get_or_append_left before (replicate left 0 ++ (own ++ (replicate right 0 ++ behind))) 0 k lt

  past_left : (k : ℕ) → slice_index (parted before left own right behind) (length before + left + k) ≡ slice_index (own ++ (replicate right 0 ++ behind)) k
  past_left k =
      ap (slice_index (parted before left own right behind)) (let e : length before + left + k ≡ length before + (left + k) = omega arith in e)
      ∙ get_or-append-add before (replicate left 0 ++ (own ++ (replicate right 0 ++ behind))) (left + k) 0
      ∙ ap (λ i. slice_index (replicate left 0 ++ (own ++ (replicate right 0 ++ behind))) (i + k)) (sym (length-replicate left 0))
      ∙ get_or-append-add (replicate left 0) (own ++ (replicate right 0 ++ behind)) k 0

  pub own_at : (k : ℕ) → k < length own → slice_index (parted before left own right behind) (length before + left + k) ≡ slice_index own k
  own_at k lt = past_left k ∙ get_or_append_left own (replicate right 0 ++ behind) 0 k lt

  pub behind_at : (k : ℕ) → slice_index (parted before left own right behind) (length before + left + length own + right + k) ≡ slice_index behind k
  behind_at k =
      ap (slice_index (parted before left own right behind)) (let e : length before + left + length own + right + k ≡ length before + left + (length own + (right + k)) = omega arith in e)
      ∙ past_left (length own + (right + k))
      ∙ get_or-append-add own (replicate right 0 ++ behind) (right + k) 0
      ∙ ap (λ i. slice_index (replicate right 0 ++ behind) (i + k)) (sym (length-replicate right 0))
      ∙ get_or-append-add (replicate right 0) behind k 0

  -- numbers that are written among its own
  pub written_own : (ns : List ℕ) (k : ℕ) → k + length ns ≤ length own
      → written (length before + left + k) ns (parted before left own right behind) ≡ parted before left (written k ns own) right behind
  written_own ns k le =
      ap (λ i. written i ns (parted before left own right behind)) (let e : length before + left + k ≡ length before + (left + k) = omega arith in e)
      ∙ written_right before (replicate left 0 ++ (own ++ (replicate right 0 ++ behind))) ns (left + k)
      ∙ ap (λ l. before ++ l)
      (ap (λ i. written (i + k) ns (replicate left 0 ++ (own ++ (replicate right 0 ++ behind)))) (sym (length-replicate left 0))
      ∙ written_right (replicate left 0) (own ++ (replicate right 0 ++ behind)) ns k
      ∙ ap (λ l. replicate left 0 ++ l) (written_left own (replicate right 0 ++ behind) ns k le))

  -- so many of one of the parts
  stretch_at : (cells : List ℕ) (start first count : ℕ) → start ≤ first → first + count ≤ start + length cells → start + length cells ≤ length (parted before left own right behind)
      → length (parted before left own right behind) < 2 ^ 63 → ((k : ℕ) → k < length cells → slice_index (parted before left own right behind) (start + k) ≡ slice_index cells k)
      → IsStretch first count (parted before left own right behind) (take count (drop (first - start) cells))
  stretch_at cells start first count low high inside few each =
      let long : length (drop (first - start) cells) ≡ length cells - (first - start) = length-drop (first - start) cells in
      record {
        small = omega (arith, high, inside, few);
        inside = omega (arith, high, inside);
        long = length-take count (drop (first - start) cells) ∙ (let e : min count (length (drop (first - start) cells)) ≡ count = omega (arith, long, high, low) in e);
        each = λ k lt.
            get_or-take count (drop (first - start) cells) k 0 lt
            ∙ get_or-drop (first - start) cells k 0
            ∙ sym (each (first - start + k) (omega (arith, lt, high, low)))
            ∙ ap (slice_index (parted before left own right behind)) (let e : start + (first - start + k) ≡ first + k = omega (arith, low) in e);
      }

  pub own_stretch : (first count : ℕ) → length before + left ≤ first → first + count ≤ length before + left + length own → length (parted before left own right behind) < 2 ^ 63
      → IsStretch first count (parted before left own right behind) (take count (drop (first - (length before + left)) own))
  own_stretch first count low high few = stretch_at own (length before + left) first count low high (omega (arith, parted_length)) few own_at

  pub before_stretch : (first count : ℕ) → first + count ≤ length before → length (parted before left own right behind) < 2 ^ 63
      → IsStretch first count (parted before left own right behind) (take count (drop first before))
  before_stretch first count high few =
      subst (λ (n : ℕ). IsStretch first count (parted before left own right behind) (take count (drop n before))) (let e : first - 0 ≡ first = omega arith in e)
      (stretch_at before 0 first count (omega arith) (omega (arith, high)) (omega (arith, parted_length)) few
      (λ k lt. ap (slice_index (parted before left own right behind)) (let e : 0 + k ≡ k = omega arith in e) ∙ before_at k lt))

  pub behind_stretch : (first count : ℕ) → length before + left + length own + right ≤ first → first + count ≤ length before + left + length own + right + length behind → length (parted before left own right behind) < 2 ^ 63
      → IsStretch first count (parted before left own right behind) (take count (drop (first - (length before + left + length own + right)) behind))
  behind_stretch first count low high few = stretch_at behind (length before + left + length own + right) first count low high (omega (arith, parted_length)) few (λ k lt. behind_at k)

-- ---- all in one list

pub held_none : (all parts : List ℕ) → all ≡ [] → cells_held all parts ≡ parts
held_none [] parts e = refl
held_none (x ∷ xs) parts e = absurd cc
