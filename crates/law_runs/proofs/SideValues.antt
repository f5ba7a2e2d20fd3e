-- The interval of a loop's variable has its values.
use Rattle.std.specs.Prelude.{ℕ, ◌≡◌, ◌<◌, ◌*◌, ◌+ℤ◌, ◌-ℤ◌, ◌≤ℤ◌, ℤ, pos, List}
use Rattle.std.proofs.Common.{sym, ap, ◌∙◌, subst, arith, mul-le-mul_left}
use Rattle.std.proofs.lemmas.Int.{ints}
use Rattle.semantics.specs.Tree.{Variable}
use Rattle.affine.specs.declared.interval.Interval.{Interval}
use Rattle.affine.specs.declared.interval.Side.{Side}
use Rattle.affine.specs.Affine.{term_sum, value}
use Rattle.affine.specs.Box.{Holds, IsInside}
use Rattle.affine.proofs.Ranges.{not_empty_inside}
use Rattle.nest_loop.specs.declared.stride.Direction.{Direction}
use Rattle.nest_loop.specs.declared.stride.Direction.TheVariants.{Rising, Falling}
use Rattle.nest_loop.specs.declared.stride.Bound.{Bound}
use Rattle.nest_loop.specs.declared.head.Canonical.{Canonical}
use Rattle.nest_loop.specs.Sides.{end_shift, end_of, IsBefore, IsCount, walked, spanned, IsSide, exact, by_range, never}
use Rattle.nest_loop.proofs.Numbers.{number_value}
use Rattle.nest_loop.proofs.Ways.{IsOn}

-- the end's value
end_value : (l : Canonical) (values : Variable → ℤ) → value (end_of l) values ≡ value l.limit values +ℤ end_shift l.stride.direction l.bound
end_value l values = turned l.limit.constant (end_shift l.stride.direction l.bound) (term_sum l.limit.terms values)
  where
    turned : (a b c : ℤ) → (a +ℤ b) +ℤ c ≡ (a +ℤ c) +ℤ b
    turned a b c = omega (arith, ints)

-- counted from the first value
walked_holds : (d : Direction) (bound : Bound) (by first limit v n : ℕ) (start end : ℤ) → start ≡ pos first → end ≡ pos limit +ℤ end_shift d bound → IsCount (record { direction = d; by = by }) start end n
    → IsOn d bound by first limit v → IsBefore d (pos v) (pos limit +ℤ end_shift d bound) → Holds (walked d by start n) (pos v)
walked_holds Rising bound s first limit v n start end at_start at_end count on before =
    let is = on.is in
    let reach : start +ℤ pos (s * on.steps) ≡ pos v = omega (arith, ints) in
    let within : (start +ℤ pos (s * on.steps)) ≤ℤ end = omega (arith, ints) in
    let less : on.steps < n = (count.counts on.steps).1 within in
    let so_far = mul-le-mul_left s less in
    record { above = omega (arith, ints); below = omega (arith, ints) }
walked_holds Falling bound s first limit v n start end at_start at_end count on before =
    let is = on.is in
    let reach : start -ℤ pos (s * on.steps) ≡ pos v = omega (arith, ints) in
    let within : end ≤ℤ (start -ℤ pos (s * on.steps)) = omega (arith, ints) in
    let less : on.steps < n = (count.counts on.steps).1 within in
    let so_far = mul-le-mul_left s less in
    record { above = omega (arith, ints); below = omega (arith, ints) }

-- by the ranges of the bounds
spanned_holds : (d : Direction) (bound : Bound) (by first limit v : ℕ) (a b c e : ℤ) → (a ≤ℤ pos first) × (pos first ≤ℤ b)
    → (c ≤ℤ (pos limit +ℤ end_shift d bound)) × ((pos limit +ℤ end_shift d bound) ≤ℤ e)
    → IsOn d bound by first limit v → IsBefore d (pos v) (pos limit +ℤ end_shift d bound) → Holds (spanned d a b c e) (pos v)
spanned_holds Rising bound s first limit v a b c e start end on before =
    let is = on.is in let low = start.0 in let high = end.1 in
    record { above = omega (arith, ints); below = omega (arith, ints) }
spanned_holds Falling bound s first limit v a b c e start end on before =
    let is = on.is in let low = end.0 in let high = start.1 in
    record { above = omega (arith, ints); below = omega (arith, ints) }

-- a value on the way that has not passed the end is one of the variable's
pub side_holds : (box : List Side) (values : Variable → ℤ) (l : Canonical) (i : Interval) (first limit v : ℕ) → IsSide box l i → IsInside box values
    → value l.start values ≡ pos first → value l.limit values ≡ pos limit → IsOn l.stride.direction l.bound l.stride.by first limit v
    → IsBefore l.stride.direction (pos v) (pos limit +ℤ end_shift l.stride.direction l.bound) → Holds i (pos v)
side_holds box values l i first limit v (exact {n = n} numbers count) inside start end on before =
    walked_holds l.stride.direction l.bound l.stride.by first limit v n l.start.constant (end_of l).constant
    (sym (number_value l.start values numbers.start) ∙ start)
    (ap (λ (m : ℤ). m +ℤ end_shift l.stride.direction l.bound) (sym (number_value l.limit values numbers.limit) ∙ end))
    count on before
side_holds box values l i first limit v (by_range {a = a} {b = b} {c = c} {d = d} other starts ends) inside start end on before =
    let low = starts.within values inside in
    let high = ends.within values inside in
    let is : value (end_of l) values ≡ pos limit +ℤ end_shift l.stride.direction l.bound = end_value l values ∙ ap (λ (m : ℤ). m +ℤ end_shift l.stride.direction l.bound) end in
    spanned_holds l.stride.direction l.bound l.stride.by first limit v a b c d
    (subst (λ (m : ℤ). a ≤ℤ m) start low.0, subst (λ (m : ℤ). m ≤ℤ b) start low.1)
    (subst (λ (m : ℤ). c ≤ℤ m) is high.0, subst (λ (m : ℤ). m ≤ℤ d) is high.1)
    on before
side_holds box values l i first limit v (never other empty) inside start end on before = absurd (not_empty_inside box values inside empty)
