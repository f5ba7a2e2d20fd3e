-- Turns between two numbers.
use Rattle.std.specs.Prelude.{Bool, true, false, nat_lt, ℕ, ◌≡◌, ◌≤◌, ◌<◌, ◌+◌, ◌-◌, ◌*◌, ◌/◌, ◌%◌, ◌↔◌, unsigned_abs, ℤ, pos, negsuc, ◌+ℤ◌, ◌-ℤ◌, ◌≤ℤ◌}
use Rattle.std.proofs.Common.{refl, sym, ap, ◌∙◌, subst, arith, mul-le-mul_left}
use Rattle.std.proofs.lemmas.Int.{ints}
use Rattle.std.proofs.lemmas.Bool.Decides.{Decides-ltb, nat_tests}
use Rattle.affine.specs.declared.interval.Interval.{Interval}
use Rattle.nest_loop.specs.declared.stride.Direction.{Direction}
use Rattle.nest_loop.specs.declared.stride.Direction.TheVariants.{Rising, Falling}
use Rattle.nest_loop.specs.declared.stride.Stride.{Stride}
use Rattle.nest_loop.specs.Sides.{IsCount}
use Rattle.nest_loop.specs.Whole.{IsSpan, IsWalked}

-- as many steps reach so far as the quotient says, and the first one
pub counts : (by d k : ℕ) → 1 ≤ by → (k < d / by + 1) ↔ (by * k ≤ d)
counts by d k one = (
  λ (h : k < d / by + 1). let scaled : by * k ≤ by * (d / by) = mul-le-mul_left by (omega arith) in omega arith,
  λ (h : by * k ≤ d). by_order k (d / by + 1) (λ l. l) (λ (far : d / by + 1 ≤ k).
      let scaled : by * (d / by + 1) ≤ by * k = mul-le-mul_left by far in
      let apart : by * (d / by + 1) ≡ by * (d / by) + by = omega arith in
      absurd (omega arith)),
)
  where
    by_order : {P : Type 0} (a b : ℕ) → (a < b → P) → (b ≤ a → P) → P
    by_order {P} a b f g = go (nat_lt a b) refl
      where
        go : (t : Bool) → nat_lt a b ≡ t → P
        go true e = f ((Decides-ltb a b).0 e)
        go false e = g (grind (arith, nat_tests))

-- from 0 on the quotient counts them
pub some_span : (by d : ℕ) (s : ℤ) → 1 ≤ by → s ≡ pos (d - d % by) → IsSpan by (pos d) s
some_span by d s one is =
    record {
      turns = d / by + 1;
      counts = λ k. let c = counts by d k one in (λ (h : k < d / by + 1). within (by * k) (c.0 h), λ (h : pos (by * k) ≤ℤ pos d). c.1 (below (by * k) h));
      is = is ∙ taken (d - d % by) (by * (d / by + 1)) last;
    }
  where
    within : (n : ℕ) → n ≤ d → pos n ≤ℤ pos d
    within n h = omega (arith, ints)

    below : (n : ℕ) → pos n ≤ℤ pos d → n ≤ d
    below n h = omega (arith, ints)

    last : (d - d % by) + by ≡ by * (d / by + 1)
    last = let apart : by * (d / by + 1) ≡ by * (d / by) + by = omega arith in omega arith

    taken : (a b : ℕ) → a + by ≡ b → pos a ≡ pos b -ℤ pos by
    taken a b e = omega (arith, ints)

-- a rising loop goes up from its first number
pub count_rising : (by : ℕ) (first end span : ℤ) (h : IsSpan by (end -ℤ first) span) → IsCount (record { direction = Rising; by = by }) first end h.turns
count_rising by first end span h =
    record { counts = λ k. (λ (l : k < h.turns). up (by * k) ((h.counts k).0 l), λ (l : (first +ℤ pos (by * k)) ≤ℤ end). (h.counts k).1 (down (by * k) l)) }
  where
    up : (n : ℕ) → pos n ≤ℤ (end -ℤ first) → (first +ℤ pos n) ≤ℤ end
    up n l = omega (arith, ints)

    down : (n : ℕ) → (first +ℤ pos n) ≤ℤ end → pos n ≤ℤ (end -ℤ first)
    down n l = omega (arith, ints)

pub walked_rising : (by : ℕ) (first end span greatest : ℤ) → IsSpan by (end -ℤ first) span → greatest ≡ first +ℤ span
    → IsWalked (record { direction = Rising; by = by }) first end (record { least = first; greatest = greatest })
walked_rising by first end span greatest h is =
    record { turns = h.turns; counts = count_rising by first end span h; is = ap (λ (n : ℤ). record { least = first; greatest = n }) (is ∙ regrouped (pos (by * h.turns)) (pos by) span h.is) }
  where
    regrouped : (a b c : ℤ) → c ≡ a -ℤ b → first +ℤ c ≡ (first +ℤ a) -ℤ b
    regrouped a b c e = omega (arith, ints)

-- a falling loop goes down
pub count_falling : (by : ℕ) (first end span : ℤ) (h : IsSpan by (first -ℤ end) span) → IsCount (record { direction = Falling; by = by }) first end h.turns
count_falling by first end span h =
    record { counts = λ k. (λ (l : k < h.turns). up (by * k) ((h.counts k).0 l), λ (l : end ≤ℤ (first -ℤ pos (by * k))). (h.counts k).1 (down (by * k) l)) }
  where
    up : (n : ℕ) → pos n ≤ℤ (first -ℤ end) → end ≤ℤ (first -ℤ pos n)
    up n l = omega (arith, ints)

    down : (n : ℕ) → end ≤ℤ (first -ℤ pos n) → pos n ≤ℤ (first -ℤ end)
    down n l = omega (arith, ints)

pub walked_falling : (by : ℕ) (first end span least : ℤ) → IsSpan by (first -ℤ end) span → least ≡ first -ℤ span
    → IsWalked (record { direction = Falling; by = by }) first end (record { least = least; greatest = first })
walked_falling by first end span least h is =
    record { turns = h.turns; counts = count_falling by first end span h; is = ap (λ (n : ℤ). record { least = n; greatest = first }) (is ∙ regrouped (pos (by * h.turns)) (pos by) span h.is) }
  where
    regrouped : (a b c : ℤ) → c ≡ a -ℤ b → first -ℤ c ≡ (first -ℤ a) +ℤ b
    regrouped a b c e = omega (arith, ints)

-- the same of a step and an interval by their parts
pub walked_up : (s : Stride) (first end span : ℤ) (i : Interval) → s.direction ≡ Rising → IsSpan s.by (end -ℤ first) span → i.least ≡ first → i.greatest ≡ first +ℤ span → IsWalked s first end i
walked_up s first end span i p h low high =
    subst (λ (d : Direction). IsWalked (record { direction = d; by = s.by }) first end i) (sym p)
    (subst (λ (n : ℤ). IsWalked (record { direction = Rising; by = s.by }) first end (record { least = n; greatest = i.greatest })) (sym low) (walked_rising s.by first end span i.greatest h high))

pub walked_down : (s : Stride) (first end span : ℤ) (i : Interval) → s.direction ≡ Falling → IsSpan s.by (first -ℤ end) span → i.least ≡ first -ℤ span → i.greatest ≡ first → IsWalked s first end i
walked_down s first end span i p h low high =
    subst (λ (d : Direction). IsWalked (record { direction = d; by = s.by }) first end i) (sym p)
    (subst (λ (n : ℤ). IsWalked (record { direction = Falling; by = s.by }) first end (record { least = i.least; greatest = n })) (sym high) (walked_falling s.by first end span i.least h low))

pub span_from : (by : ℕ) (d s : ℤ) → 1 ≤ by → pos 0 ≤ℤ d → s ≡ pos (unsigned_abs d - unsigned_abs d % by) → IsSpan by d s
span_from by (pos n) s one h is = some_span by n s one is
span_from by (negsuc n) s one h is = absurd (omega (arith, ints))
