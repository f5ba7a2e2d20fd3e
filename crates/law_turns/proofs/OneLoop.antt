-- One loop: the values of its variable by the number of its steps.
use Rattle.std.specs.Prelude.{ℕ, zero, suc, ◌≡◌, ◌<◌, ◌≤◌, ◌*◌, ◌/◌, ◌+◌, ◌^◌, ℤ, pos, negsuc, ◌+ℤ◌, ◌-ℤ◌, ◌*ℤ◌, ◌≤ℤ◌, unsigned_abs, List}
use Rattle.std.proofs.Common.{refl, sym, ap, ◌∙◌, subst, arith, mul-le-mul_left, ⊎_elim}
use Rattle.std.proofs.lemmas.Bool.{cases_order}
use Rattle.std.proofs.lemmas.Int.{ints}
use Rattle.semantics.specs.Tree.{Variable}
use Rattle.affine.specs.declared.interval.Interval.{Interval}
use Rattle.affine.specs.declared.interval.Side.{Side}
use Rattle.affine.specs.Affine.{term_sum, value}
use Rattle.affine.specs.Box.{Holds, IsInside}
use Rattle.affine.proofs.Ranges.{not_empty_inside}
use Rattle.nest_loop.specs.declared.stride.Direction.{Direction}
use Rattle.nest_loop.specs.declared.stride.Direction.TheVariants.{Rising, Falling}
use Rattle.nest_loop.specs.declared.stride.Bound.{Bound}
use Rattle.nest_loop.specs.declared.stride.Bound.TheVariants.{Strict, Inclusive, Unequal}
use Rattle.nest_loop.specs.declared.head.Canonical.{Canonical}
use Rattle.nest_loop.specs.Sides.{after_steps, end_shift, end_of, walked, spanned, IsSide, exact, by_range, never, Stays}
use Rattle.nest_loop.specs.Most.{way, distance, AreWithin, IsMost, somewhere, nowhere}
use Rattle.nest_loop.proofs.Numbers.{number_value}
use Rattle.nest_loop.proofs.Turning.{some_within, none_within, count_of, within_of}
use Rattle.pairtest_counter.specs.Counters.{step_by}
use Rattle.nest_space.specs.Space.{Turns, moved}
use Rattle.nest_space.specs.Nests.{IsRunOf}

-- so many steps from a start
negated : (s n : ℕ) → (pos 0 -ℤ pos s) *ℤ pos n ≡ pos 0 -ℤ pos (s * n)
negated zero n = omega (arith, ints)
negated (suc s) n =
    let below : pos 0 -ℤ pos (suc s) ≡ negsuc s = omega (arith, ints) in
    ap (λ (z : ℤ). z *ℤ pos n) below ∙ product
  where
    product : negsuc s *ℤ pos n ≡ pos 0 -ℤ pos (suc s * n)
    product = omega (arith, ints)

less : (a b : ℤ) → a +ℤ (pos 0 -ℤ b) ≡ a -ℤ b
less a b = omega (arith, ints)

pub by_steps : (d : Direction) (by n : ℕ) (first : ℤ) → first +ℤ step_by d by *ℤ pos n ≡ after_steps (record { direction = d; by = by }) first n
by_steps Rising s n first = omega (arith, ints)
by_steps Falling s n first = ap (λ (z : ℤ). first +ℤ z) (negated s n) ∙ less first (pos (s * n))

-- a number of 0 and more
pub natural : (z : ℤ) → pos 0 ≤ℤ z → z ≡ pos (unsigned_abs z)
natural z low = omega (arith, ints)

-- the turns within a distance
pub all_within : (by : ℕ) (d : ℤ) → 1 ≤ by → (n : ℕ) × AreWithin by d n
all_within s (pos n) one = (n / s + 1, some_within s n one)
all_within s (negsuc n) one = (0, none_within s (negsuc n) (omega (arith, ints)))

-- ---- the numbers of a loop's variable

walked_there : (d : Direction) (by n m : ℕ) (first : ℤ) → n < m → Holds (walked d by first m) (after_steps (record { direction = d; by = by }) first n)
walked_there Rising s n m first lt =
    let so_far = mul-le-mul_left s lt in
    record { above = omega (arith, ints); below = omega (arith, ints) }
walked_there Falling s n m first lt =
    let so_far = mul-le-mul_left s lt in
    record { above = omega (arith, ints); below = omega (arith, ints) }

spanned_there : (d : Direction) (by n : ℕ) (first end a b c e : ℤ) → (a ≤ℤ first) × (first ≤ℤ b) → (c ≤ℤ end) × (end ≤ℤ e) → pos (by * n) ≤ℤ way d first end
    → Holds (spanned d a b c e) (after_steps (record { direction = d; by = by }) first n)
spanned_there Rising s n first end a b c e start stop within =
    let low = start.0 in let high = stop.1 in
    record { above = omega (arith, ints); below = omega (arith, ints) }
spanned_there Falling s n first end a b c e start stop within =
    let low = stop.0 in let high = start.1 in
    record { above = omega (arith, ints); below = omega (arith, ints) }

-- a value that is reached by steps that stay within the distance
pub side_there : (box : List Side) (values : Variable → ℤ) (l : Canonical) (i : Interval) (n : ℕ) → IsSide box l i → IsInside box values → pos (l.stride.by * n) ≤ℤ distance l values
    → Holds i (after_steps l.stride (value l.start values) n)
side_there box values l i n (exact {n = m} numbers count) inside within =
    let start = number_value l.start values numbers.start in
    let end = number_value (end_of l) values numbers.limit in
    let within' : pos (l.stride.by * n) ≤ℤ way l.stride.direction l.start.constant (end_of l).constant =
    subst (λ (z : ℤ). pos (l.stride.by * n) ≤ℤ z) (ap (λ (z : ℤ). way l.stride.direction z (value (end_of l) values)) start ∙ ap (λ (z : ℤ). way l.stride.direction l.start.constant z) end) within in
    subst (λ (z : ℤ). Holds (walked l.stride.direction l.stride.by l.start.constant m) (after_steps l.stride z n)) (sym start)
    (walked_there l.stride.direction l.stride.by n m l.start.constant ((within_of l.stride l.start.constant (end_of l).constant m count n).1 within'))
side_there box values l i n (by_range {a = a} {b = b} {c = c} {d = d} other starts ends) inside within =
    spanned_there l.stride.direction l.stride.by n (value l.start values) (value (end_of l) values) a b c d (starts.within values inside) (ends.within values inside) within
side_there box values l i n (never other empty) inside within = absurd (not_empty_inside box values inside empty)

-- it is one of the turns at most
pub most_there : (box : List Side) (values : Variable → ℤ) (l : Canonical) (most n : ℕ) → IsMost box l most → IsInside box values → 1 ≤ l.stride.by → pos (l.stride.by * n) ≤ℤ distance l values → n < most
most_there box values l most n (somewhere others inside' turns no_more) inside one within =
    let all = all_within l.stride.by (distance l values) one in
    let few = no_more values all.0 inside (count_of l.stride (value l.start values) (value (end_of l) values) all.0 all.1) in
    let lt : n < all.0 = (all.1 n).1 within in
    omega arith
most_there box values l most n (nowhere empty) inside one within = absurd (not_empty_inside box values inside empty)

-- ---- the values of a run, in order

-- a loop that stays has a run
pub run_there : (l : Canonical) (values : Variable → ℤ) → Stays l values → 1 ≤ l.stride.by → (t : Turns) × IsRunOf l values t
run_there l values stays one =
    let all = all_within l.stride.by (distance l values) one in (
      record { first = unsigned_abs (value l.start values); stride = l.stride; count = all.0 },
      record {
        stays = stays;
        least = one;
        stride = refl;
        first = natural (value l.start values) stays.start.above;
        count = count_of l.stride (value l.start values) (value (end_of l) values) all.0 all.1;
      },
    )

pub record IsValue (first : ℤ) (d : Direction) (by k x : ℕ) : Type 0 where
  pub is : pos x ≡ after_steps (record { direction = d; by = by }) first k
  pub below : x < 2 ^ 64

turn_value : (d : Direction) (bound : Bound) (by k first x : ℕ) (c t : ℤ) → first ≤ 2 ^ 32 → pos 0 ≤ℤ (c +ℤ t) → (c +ℤ t) ≤ℤ pos (2 ^ 32)
    → pos (by * k) ≤ℤ way d (pos first) ((c +ℤ end_shift d bound) +ℤ t) → x ≡ moved d first (by * k) → IsValue (pos first) d by k x
turn_value Rising Strict s k first x c t small low high within is = record { is = omega (arith, ints); below = omega (arith, ints) }
turn_value Rising Inclusive s k first x c t small low high within is = record { is = omega (arith, ints); below = omega (arith, ints) }
turn_value Rising Unequal s k first x c t small low high within is = record { is = omega (arith, ints); below = omega (arith, ints) }
turn_value Falling Strict s k first x c t small low high within is = record { is = omega (arith, ints); below = omega (arith, ints) }
turn_value Falling Inclusive s k first x c t small low high within is = record { is = omega (arith, ints); below = omega (arith, ints) }
turn_value Falling Unequal s k first x c t small low high within is = record { is = omega (arith, ints); below = omega (arith, ints) }

small_number : (z : ℤ) (n : ℕ) → z ≡ pos n → z ≤ℤ pos (2 ^ 32) → n ≤ 2 ^ 32
small_number z n e h = omega (arith, ints)

-- so many steps stay within the distance
pub run_within : (l : Canonical) (values : Variable → ℤ) (t : Turns) (k : ℕ) → IsRunOf l values t → k < t.count → pos (l.stride.by * k) ≤ℤ distance l values
run_within l values t k run lt = (within_of l.stride (value l.start values) (value (end_of l) values) t.count run.count k).0 lt

-- what stands in a run after so many steps
pub run_value : (l : Canonical) (values : Variable → ℤ) (t : Turns) (k x : ℕ) → IsRunOf l values t → k < t.count → x ≡ moved t.stride.direction t.first (t.stride.by * k)
    → IsValue (value l.start values) l.stride.direction l.stride.by k x
run_value l values t k x run lt is =
    subst (λ (z : ℤ). IsValue z l.stride.direction l.stride.by k x) (sym run.first)
    (turn_value l.stride.direction l.bound l.stride.by k t.first x l.limit.constant (term_sum l.limit.terms values)
    (small_number (value l.start values) t.first run.first run.stays.start.below) run.stays.limit.above run.stays.limit.below
    (subst (λ (z : ℤ). pos (l.stride.by * k) ≤ℤ way l.stride.direction z (value (end_of l) values)) run.first (run_within l values t k run lt))
    (is ∙ ap (λ st. moved st.direction t.first (st.by * k)) run.stride))

-- different numbers of steps have different values
less_differs : (d : Direction) (by j k : ℕ) (first : ℤ) → 1 ≤ by → j < k → after_steps (record { direction = d; by = by }) first j ≡ after_steps (record { direction = d; by = by }) first k → ⊥
less_differs Rising s j k first one lt e = let far = mul-le-mul_left s lt in absurd (omega (arith, ints))
less_differs Falling s j k first one lt e = let far = mul-le-mul_left s lt in absurd (omega (arith, ints))

pub same_steps : (d : Direction) (by j k : ℕ) (first : ℤ) → 1 ≤ by → after_steps (record { direction = d; by = by }) first j ≡ after_steps (record { direction = d; by = by }) first k → j ≡ k
same_steps d s j k first one e =
    ⊎_elim (λ same. same) (λ o. ⊎_elim (λ lt. absurd (less_differs d s j k first one lt e)) (λ gt. absurd (less_differs d s k j first one gt (sym e))) o) (cases_order j k)
