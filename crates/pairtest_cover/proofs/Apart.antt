-- Covered accesses meet only in iterations that lie some steps of a sink apart.
use Rattle.std.proofs.Common.{◌≡◌, ◌≢◌, ◌⊎◌, inl, inr, ℕ, ℤ, pos, negsuc, neg_ℤ, zero, suc, ◌+◌, ◌-◌, ◌<◌, ◌≤◌, ◌+ℤ◌, ◌-ℤ◌, ◌*ℤ◌, List, [], ◌∷◌, ◌++◌, length, get_or, slice_index_or, Any, refl, sym, ap, ◌∙◌, subst, arith}
use Rattle.std.proofs.lemmas.Int.{ints}
use Rattle.std.proofs.lemmas.Bool.{cases_order}
use Rattle.std.proofs.lemmas.List.{get_or_append_left, get_or-append-add, length-map}
use Rattle.semantics.specs.Loops.Order.{Distance}
use Rattle.pairtest.specs.declared.access.Subscript.{Subscript}
use Rattle.pairtest.specs.declared.access.Nest.{Nest}
use Rattle.pairtest.specs.DirectionVectors.{coefficient, place_of, dimensions}
use Rattle.pairtest.specs.Meetings.{Turn, counter_sum, value_at, AreBelow}
use Rattle.pairtest.proofs.Solutions.{sum-times, zero-times}
use Rattle.pairtest_cover.specs.Covered.{StandsIn, IsUniform, IsEqualAt, steps}
use Rattle.pairtest_cover.specs.Behind.{LiesBehind, CoveredPairsLieApart}
use Rattle.pairtest_cover.proofs.Products.{same-factor}
use Rattle.pairtest_cover.proofs.Sums.{same_coefficients, AreAlikeAt, moved_sum}
use Rattle.pairtest_cover.proofs.Covering.{step_at}

pub below_long : (ks ns : List ℕ) → AreBelow ks ns → length ks ≡ length ns
below_long [] [] h = refl
below_long [] (n ∷ ns) h = absurd h
below_long (k ∷ ks) [] h = absurd h
below_long (k ∷ ks) (n ∷ ns) h = ap suc (below_long ks ns h.1)

-- the counters of a turn, one after another
abbrev all_of : Turn → List ℕ
all_of t = t.serial ++ (t.nest ++ t.inner)

-- those of the nest stand behind the serial ones
nest_at : (t : Turn) (n k : ℕ) → length t.serial ≡ n → k < length t.nest → get_or (all_of t) (n + k) 0 ≡ get_or t.nest k 0
nest_at t n k e l =
    ap (λ (m : ℕ). get_or (all_of t) (m + k) 0) (sym e) ∙ get_or-append-add t.serial (t.nest ++ t.inner) k 0 ∙ get_or_append_left t.nest t.inner 0 k l

serial_at : (t : Turn) (i : ℕ) → i < length t.serial → get_or (all_of t) i 0 ≡ get_or t.serial i 0
serial_at t i l = get_or_append_left t.serial (t.nest ++ t.inner) 0 i l

is_zero : (z : ℤ) → (z ≡ pos 0) ⊎ (z ≢ pos 0)
is_zero (pos zero) = inl refl
is_zero (pos (suc n)) = inr (λ (e : pos (suc n) ≡ pos 0). absurd cc)
is_zero (negsuc n) = inr (λ (e : negsuc n ≡ pos 0). absurd cc)

-- one dimension in which the counter of the nest's k-th loop stands
module _ (nest : Nest) (s t : Turn) (a b : Subscript) (k : ℕ) (far : ℤ) (serial_s : length s.serial ≡ length nest.serial.items) (serial_t : length t.serial ≡ length nest.serial.items)
    (nest_s : length s.nest ≡ length nest.loops.items) (nest_t : length t.nest ≡ length nest.loops.items) (together : s.serial ≡ t.serial) (below : k < length nest.loops.items)
    (uniform : IsUniform nest a b) (stands : StandsIn nest k a) (equal : IsEqualAt nest k far a b) (same : value_at a s ≡ value_at b t) where
  abbrev cs : List ℤ
  cs = a.coefficients.items

  abbrev p : ℕ
  p = place_of nest k

  alike : (i : ℕ) → i ≢ p → AreAlikeAt cs (all_of s) (all_of t) i
  alike i n = at (cases_order i (length nest.serial.items))
    where
      behind : length nest.serial.items ≤ i → AreAlikeAt cs (all_of s) (all_of t) i
      behind l = zero_or (is_zero (coefficient cs i))
        where
          zero_or : (coefficient cs i ≡ pos 0) ⊎ (coefficient cs i ≢ pos 0) → AreAlikeAt cs (all_of s) (all_of t) i
          zero_or (inl e) = inl e
          zero_or (inr m) =
              let place : length nest.serial.items + (i - length nest.serial.items) ≡ i = omega (arith, l) in
              let one : i - length nest.serial.items ≡ k = uniform.simple.one (i - length nest.serial.items) k (λ e. m (sym (ap (coefficient cs) place) ∙ e)) stands in
              absurd (n (omega (arith, l, one)))

      at : (i ≡ length nest.serial.items) ⊎ ((i < length nest.serial.items) ⊎ (length nest.serial.items < i)) → AreAlikeAt cs (all_of s) (all_of t) i
      at (inl e) = behind (omega (arith, e))
      at (inr (inl l)) =
          inr (serial_at s i (omega (arith, l, serial_s)) ∙ ap (λ (ks : List ℕ). get_or ks i 0) together ∙ sym (serial_at t i (omega (arith, l, serial_t))))
      at (inr (inr g)) = behind (omega (arith, g))

  pub apart_at : pos (get_or t.nest k 0) -ℤ pos (get_or s.nest k 0) ≡ far
  apart_at =
      same-factor (coefficient cs p) (pos (get_or t.nest k 0) -ℤ pos (get_or s.nest k 0)) far stands (moved ∙ sym equal)
    where
      there : pos (get_or (all_of t) p 0) -ℤ pos (get_or (all_of s) p 0) ≡ pos (get_or t.nest k 0) -ℤ pos (get_or s.nest k 0)
      there =
          ap (λ (m : ℕ). pos m -ℤ pos (get_or (all_of s) p 0)) (nest_at t (length nest.serial.items) k serial_t (omega (arith, below, nest_t)))
          ∙ ap (λ (m : ℕ). pos (get_or t.nest k 0) -ℤ pos m) (nest_at s (length nest.serial.items) k serial_s (omega (arith, below, nest_s)))

      sums : counter_sum cs (all_of t) ≡ counter_sum cs (all_of s) +ℤ coefficient cs p *ℤ (pos (get_or t.nest k 0) -ℤ pos (get_or s.nest k 0))
      sums = moved_sum cs (all_of s) (all_of t) p alike ∙ ap (λ (z : ℤ). counter_sum cs (all_of s) +ℤ coefficient cs p *ℤ z) there

      joined : (x y u v w c : ℤ) → x +ℤ u ≡ y +ℤ v → v ≡ w → w ≡ u +ℤ c → c ≡ x -ℤ y
      joined x y u v w c e f g = omega (arith, ints, e, f, g)

      moved : coefficient cs p *ℤ (pos (get_or t.nest k 0) -ℤ pos (get_or s.nest k 0)) ≡ a.constant -ℤ b.constant
      moved =
          joined a.constant b.constant (counter_sum cs (all_of s)) (counter_sum b.coefficients.items (all_of t)) (counter_sum cs (all_of t))
          (coefficient cs p *ℤ (pos (get_or t.nest k 0) -ℤ pos (get_or s.nest k 0))) same (sym (same_coefficients cs b.coefficients.items (all_of t) uniform.same)) sums

-- a distance in each loop
pub behind_from_each : (m : ℕ) (ds : Distance) (us vs : List ℕ) → length ds ≡ length us → length vs ≡ length us
    → ((k : ℕ) → k < length us → pos (get_or vs k 0) ≡ pos (get_or us k 0) +ℤ pos m *ℤ slice_index_or ds k (pos 0)) → LiesBehind m ds us vs
behind_from_each m [] [] [] e f h = tt
behind_from_each m [] [] (v ∷ vs) e f h = absurd (omega (arith, f))
behind_from_each m [] (u ∷ us) vs e f h = absurd (omega (arith, e))
behind_from_each m (d ∷ ds) [] vs e f h = absurd (omega (arith, e))
behind_from_each m (d ∷ ds) (u ∷ us) [] e f h = absurd (omega (arith, f))
behind_from_each m (d ∷ ds) (u ∷ us) (v ∷ vs) e f h =
    (h 0 (omega arith), behind_from_each m ds us vs (omega (arith, e)) (omega (arith, f)) (λ k l. h (suc k) (omega (arith, l))))

-- a distance in opposite direction
opposite_times : (m : ℕ) (d : ℤ) → neg_ℤ (pos m) *ℤ d +ℤ pos m *ℤ d ≡ pos 0
opposite_times m d = sym (sum-times (neg_ℤ (pos m)) (pos m) d) ∙ ap (λ (z : ℤ). z *ℤ d) (none m) ∙ zero-times d
  where
    none : (m : ℕ) → neg_ℤ (pos m) +ℤ pos m ≡ pos 0
    none m = omega (arith, ints)

pub covered_apart : CoveredPairsLieApart
covered_apart nest ds x y s t covered meet =
    record { sink = covered.sink; named = covered.named; times = covered.times; once = covered.once; behind = either covered.multiple }
  where
    serial_s : length s.serial ≡ length nest.serial.items
    serial_s = below_long s.serial nest.serial.items meet.first.serial

    serial_t : length t.serial ≡ length nest.serial.items
    serial_t = below_long t.serial nest.serial.items meet.second.serial

    nest_s : length s.nest ≡ length nest.loops.items
    nest_s = below_long s.nest nest.loops.items meet.first.nest_loops

    nest_t : length t.nest ≡ length nest.loops.items
    nest_t = below_long t.nest nest.loops.items meet.second.nest_loops

    apart : (k : ℕ) → k < length nest.loops.items → pos (get_or t.nest k 0) -ℤ pos (get_or s.nest k 0) ≡ slice_index_or covered.far k (pos 0)
    apart k l = go (covered.apart k l).stands
      where
        go : Any (λ d. StandsIn nest k d.0) (dimensions x y) → pos (get_or t.nest k 0) -ℤ pos (get_or s.nest k 0) ≡ slice_index_or covered.far k (pos 0)
        go (j, d, small, e, stands) =
            apart_at nest s t d.0 d.1 k (slice_index_or covered.far k (pos 0)) serial_s serial_t nest_s nest_t meet.together l
            (subst (λ (d : Subscript × Subscript). IsUniform nest d.0 d.1) e (covered.uniform j d small)) stands
            (subst (λ (d : Subscript × Subscript). StandsIn nest k d.0 → IsEqualAt nest k (slice_index_or covered.far k (pos 0)) d.0 d.1) e ((covered.apart k l).equal j d small) stands)
            (subst (λ (d : Subscript × Subscript). value_at d.0 s ≡ value_at d.1 t) e (meet.same_element j d small))

    long : (m : ℤ) → covered.far ≡ steps m covered.sink → length covered.sink ≡ length nest.loops.items
    long m e = sym (length-map covered.sink (λ (d : ℤ). m *ℤ d)) ∙ sym (ap length e) ∙ covered.loops

    far_at : (m : ℤ) → covered.far ≡ steps m covered.sink → (k : ℕ) → k < length nest.loops.items
        → pos (get_or t.nest k 0) -ℤ pos (get_or s.nest k 0) ≡ m *ℤ slice_index_or covered.sink k (pos 0)
    far_at m e k l = apart k l ∙ ap (λ (far : Distance). slice_index_or far k (pos 0)) e ∙ step_at m covered.sink k

    forwards : (u v d : ℤ) → v -ℤ u ≡ d → v ≡ u +ℤ d
    forwards u v d e = omega (arith, ints, e)

    backwards : (u v c d : ℤ) → v -ℤ u ≡ c → c +ℤ d ≡ pos 0 → u ≡ v +ℤ d
    backwards u v c d e f = omega (arith, ints, e, f)

    either : (covered.far ≡ steps (pos covered.times) covered.sink) ⊎ (covered.far ≡ steps (neg_ℤ (pos covered.times)) covered.sink)
        → LiesBehind covered.times covered.sink s.nest t.nest ⊎ LiesBehind covered.times covered.sink t.nest s.nest
    either (inl e) =
        inl (behind_from_each covered.times covered.sink s.nest t.nest (long (pos covered.times) e ∙ sym nest_s) (nest_t ∙ sym nest_s)
        (λ k l. forwards (pos (get_or s.nest k 0)) (pos (get_or t.nest k 0)) (pos covered.times *ℤ slice_index_or covered.sink k (pos 0)) (far_at (pos covered.times) e k (omega (arith, l, nest_s)))))
    either (inr e) =
        inr (behind_from_each covered.times covered.sink t.nest s.nest (long (neg_ℤ (pos covered.times)) e ∙ sym nest_t) (nest_s ∙ sym nest_t)
        (λ k l. backwards (pos (get_or s.nest k 0)) (pos (get_or t.nest k 0)) (neg_ℤ (pos covered.times) *ℤ slice_index_or covered.sink k (pos 0)) (pos covered.times *ℤ slice_index_or covered.sink k (pos 0))
        (far_at (neg_ℤ (pos covered.times)) e k (omega (arith, l, nest_t))) (opposite_times covered.times (slice_index_or covered.sink k (pos 0)))))
