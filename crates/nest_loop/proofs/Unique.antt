-- A loop's variable has its numbers in one way alone.
use Rattle.std.specs.Prelude.{Bool, true, false, nat_lt, ℕ, ◌≡◌, ◌<◌, ℤ, List}
use Rattle.std.proofs.Common.{refl, ap, arith}
use Rattle.std.proofs.lemmas.Int.{ints}
use Rattle.std.proofs.lemmas.Bool.Decides.{Decides-ltb, nat_tests}
use Rattle.affine.specs.declared.interval.Interval.{Interval}
use Rattle.affine.specs.declared.interval.Side.{Side}
use Rattle.affine.specs.Affine.{Affine}
use Rattle.affine.specs.Box.{IsEmpty, IsRange}
use Rattle.affine.proofs.Ranges.{not_empty_inside}
use Rattle.nest_loop.specs.declared.stride.Stride.{Stride}
use Rattle.nest_loop.specs.declared.head.Canonical.{Canonical}
use Rattle.nest_loop.specs.Sides.{IsCount, walked, IsSide, exact, by_range, never, end_of}

-- no count is above another
not_above : (s : Stride) (first end : ℤ) (n m : ℕ) → IsCount s first end n → IsCount s first end m → n < m → ⊥
not_above s first end n m p q l = let here : n < n = (p.counts n).1 ((q.counts n).0 l) in omega arith

same_count : (s : Stride) (first end : ℤ) (n m : ℕ) → IsCount s first end n → IsCount s first end m → n ≡ m
same_count s first end n m p q = by (nat_lt n m) (nat_lt m n) refl refl
  where
    by : (a b : Bool) → nat_lt n m ≡ a → nat_lt m n ≡ b → n ≡ m
    by true b e f = absurd (not_above s first end n m p q ((Decides-ltb n m).0 e))
    by false true e f = absurd (not_above s first end m n q p ((Decides-ltb m n).0 f))
    by false false e f = grind (arith, nat_tests)

-- a form has one range
same_least : (f : Affine) (box : List Side) (a b c d : ℤ) → IsRange f box a b → IsRange f box c d → a ≡ c
same_least f box a b c d p q =
    let one = p.least_reached in
    let other = q.least_reached in
    let below = (p.within other.values other.inside).0 in
    let above = (q.within one.values one.inside).0 in
    omega (arith, ints, below, above, one.gives, other.gives)

same_greatest : (f : Affine) (box : List Side) (a b c d : ℤ) → IsRange f box a b → IsRange f box c d → b ≡ d
same_greatest f box a b c d p q =
    let one = p.greatest_reached in
    let other = q.greatest_reached in
    let below = (p.within other.values other.inside).1 in
    let above = (q.within one.values one.inside).1 in
    omega (arith, ints, below, above, one.gives, other.gives)

-- an empty box has no range
no_range : (f : Affine) (box : List Side) (a b : ℤ) → IsRange f box a b → IsEmpty box → ⊥
no_range f box a b r e = let at = r.least_reached in not_empty_inside box at.values at.inside e

pub side_is_unique : (box : List Side) (l : Canonical) (i j : Interval) → IsSide box l i → IsSide box l j → i ≡ j
side_is_unique box l i j (exact {n} h p) (exact {n = m} k q) =
    ap (λ (t : ℕ). walked l.stride.direction l.stride.by l.start.constant t) (same_count l.stride l.start.constant (end_of l).constant n m p q)
side_is_unique box l i j (exact h p) (by_range other r s) = absurd (other h)
side_is_unique box l i j (exact h p) (never other e) = absurd (other h)
side_is_unique box l i j (by_range other r s) (exact h p) = absurd (other h)
side_is_unique box l i j (by_range {a} {b} {c} {d} other r s) (by_range {a = a2} {b = b2} {c = c2} {d = d2} other2 r2 s2) =
    rw (same_least l.start box a b a2 b2 r r2, same_greatest l.start box a b a2 b2 r r2, same_least (end_of l) box c d c2 d2 s s2, same_greatest (end_of l) box c d c2 d2 s s2) refl
side_is_unique box l i j (by_range {a} {b} other r s) (never other2 e) = absurd (no_range l.start box a b r e)
side_is_unique box l i j (never other e) (exact h p) = absurd (other h)
side_is_unique box l i j (never other2 e) (by_range {a} {b} other r s) = absurd (no_range l.start box a b r e)
side_is_unique box l i j (never other e) (never other2 f) = refl
