-- What is so of a form wherever in a box, by its range.
use Rattle.std.specs.Prelude.{ℕ, ◌≡◌, ◌≤◌, ◌<◌, ◌+◌, ◌^◌, ◌↔◌, unsigned_abs, ℤ, pos, ◌+ℤ◌, ◌-ℤ◌, ◌≤ℤ◌, List, [], ◌∷◌, length, Bool, true, false}
use Rattle.std.proofs.Common.{refl, sym, ap, ◌∙◌, subst, arith}
use Rattle.std.proofs.lemmas.Int.{ints, to_z-of_z, fits_signed_from_abs}
use Rattle.std.proofs.Common.{to_z, of_z, w64}
use Rattle.std.specs.Prelude.{IsTrue, ◌⊎◌, not}
use Rattle.std.proofs.lemmas.Bool.{true≢false}
use Rattle.std.proofs.Common.{⊎_elim}
use Rattle.std.specs.Int.Signed.{le_z}
use Rattle.nest_loop.specs.declared.stride.Direction.{Direction}
use Rattle.nest_loop.specs.declared.stride.Direction.TheVariants.{Rising, Falling}
use Rattle.nest_loop.specs.declared.stride.Bound.{Bound}
use Rattle.nest_loop.specs.declared.stride.Bound.TheVariants.{Strict, Unequal}
use Rattle.nest_loop.specs.declared.head.Canonical.{Canonical}
use Rattle.nest_loop.specs.Sides.{Room, HasNumbers, IsSide, exact, by_range, spanned, end_of, end_shift}
use Rattle.nest_loop.specs.Whole.{HasRoom, IsBelow, IsWalked}
use Rattle.semantics.specs.Tree.{Variable}
use Rattle.affine.specs.declared.interval.Side.{Side}
use Rattle.affine.specs.declared.interval.Interval.{Interval}
use Rattle.affine.specs.Affine.{Affine, value}
use Rattle.affine.specs.Box.{IsInside, IsRange, EndsFit}
use Rattle.affine.specs.declared.term.Term.{Term}
use Rattle.affine.proofs.Whole.{unsigned_abs-sum}
use Rattle.nest_loop.specs.Sides.{IsModest}
use Rattle.nest_loop.specs.Whole.{IsAtLeast, IsAtMost, AreModest}

-- what negation undoes
pub true_by : (b : Bool) → not b ≡ false → b ≡ true
true_by true e = refl
true_by false e = absurd (true≢false e)

pub false_by : (b : Bool) → not b ≡ true → b ≡ false
false_by false e = refl
false_by true e = absurd (true≢false (sym e))

pub range_at_least : (n a b : ℤ) (f : Affine) (box : List Side) → IsRange f box a b → (n ≤ℤ a) ↔ IsAtLeast n f box
range_at_least n a b f box r = (
  λ (h : n ≤ℤ a). λ (values : Variable → ℤ) (inside : IsInside box values). let w = r.within values inside in omega (arith, ints, h, w.0),
  λ (h : IsAtLeast n f box).
      let at = r.least_reached in
      let least : n ≤ℤ value f at.values = h at.values at.inside in
      omega (arith, ints, least, at.gives),
)

pub range_at_most : (n a b : ℤ) (f : Affine) (box : List Side) → IsRange f box a b → (b ≤ℤ n) ↔ IsAtMost n f box
range_at_most n a b f box r = (
  λ (h : b ≤ℤ n). λ (values : Variable → ℤ) (inside : IsInside box values). let w = r.within values inside in omega (arith, ints, h, w.1),
  λ (h : IsAtMost n f box).
      let at = r.greatest_reached in
      let greatest : value f at.values ≤ℤ n = h at.values at.inside in
      omega (arith, ints, greatest, at.gives),
)

-- the ends of a range of numbers of 0..2^32 are such numbers
pub modest_ends : (a b : ℤ) (f : Affine) (box : List Side) → AreModest f box → IsRange f box a b → IsModest a × IsModest b
modest_ends a b f box h r =
    let low = r.least_reached in
    let high = r.greatest_reached in
    (subst IsModest low.gives (h low.values low.inside), subst IsModest high.gives (h high.values high.inside))

-- ---- the code's tests

-- the test of an order, in each direction
order_test : (a b : ℤ) → (IsTrue (le_z a b) → a ≤ℤ b) × (a ≤ℤ b → IsTrue (le_z a b))
order_test a b = (λ (h : IsTrue (le_z a b)). omega (arith, ints), λ (h : a ≤ℤ b). by (le_z a b) refl h)
  where
    by : (t : Bool) → le_z a b ≡ t → a ≤ℤ b → IsTrue t
    by true e h = refl
    by false e h = absurd (omega (arith, ints))

pub least_tested : (m n a x b : ℤ) (f : Affine) (box : List Side) → n ≡ m → x ≡ a → IsRange f box a b
    → (IsTrue (le_z n x) → IsAtLeast m f box) × (IsAtLeast m f box → IsTrue (le_z n x))
least_tested m n a x b f box p q r =
    let test = order_test n x in
    let range = range_at_least m a b f box r in
    (λ (h : IsTrue (le_z n x)). range.0 (moved (test.0 h)), λ (h : IsAtLeast m f box). test.1 (back (range.1 h)))
  where
    moved : n ≤ℤ x → m ≤ℤ a
    moved h = omega (arith, ints)

    back : m ≤ℤ a → n ≤ℤ x
    back h = omega (arith, ints)

pub greatest_tested : (m n a b x : ℤ) (f : Affine) (box : List Side) → n ≡ m → x ≡ b → IsRange f box a b
    → (IsTrue (le_z x n) → IsAtMost m f box) × (IsAtMost m f box → IsTrue (le_z x n))
greatest_tested m n a b x f box p q r =
    let test = order_test x n in
    let range = range_at_most m a b f box r in
    (λ (h : IsTrue (le_z x n)). range.0 (moved (test.0 h)), λ (h : IsAtMost m f box). test.1 (back (range.1 h)))
  where
    moved : x ≤ℤ n → b ≤ℤ m
    moved h = omega (arith, ints)

    back : b ≤ℤ m → x ≤ℤ n
    back h = omega (arith, ints)

-- a number of 0..2^32 fits 64 bits
pub modest_read : (n : ℤ) → IsModest n → to_z w64 (of_z w64 n) ≡ n
modest_read n h =
    let small : unsigned_abs n < 2 ^ 63 = omega (arith, ints, h.above, h.below) in
    to_z-of_z w64 n (fits_signed_from_abs w64 n small)

-- ---- what a test asks for

pub difference_tested : (box : List Side) (less greater difference : Affine) (b : Bool) → ((v : Variable → ℤ) → value difference v ≡ value greater v -ℤ value less v)
    → (IsTrue b → IsAtLeast (pos 0) difference box) × (IsAtLeast (pos 0) difference box → IsTrue b) → (IsTrue b → IsBelow less greater box) × (IsBelow less greater box → IsTrue b)
difference_tested box less greater difference b is h = (
  λ (t : IsTrue b). λ (v : Variable → ℤ) (inside : IsInside box v). below (value less v) (value greater v) (value difference v) (is v) (h.0 t v inside),
  λ (k : IsBelow less greater box). h.1 (λ (v : Variable → ℤ) (inside : IsInside box v). above (value less v) (value greater v) (value difference v) (is v) (k v inside)),
)
  where
    below : (a b d : ℤ) → d ≡ b -ℤ a → pos 0 ≤ℤ d → a ≤ℤ b
    below a b d e l = omega (arith, ints)

    above : (a b d : ℤ) → d ≡ b -ℤ a → a ≤ℤ b → pos 0 ≤ℤ d
    above a b d e l = omega (arith, ints)

-- what a direction and a bound ask for, wherever in a box
abbrev Asks : List Side → Canonical → Direction → Bound → Type 0
Asks box l d b = (values : Variable → ℤ) → IsInside box values → Room d b l.stride.by (value l.start values) (value l.limit values)

asked_by : (box : List Side) (l : Canonical) (d : Direction) (b : Bound) → l.stride.direction ≡ d → l.bound ≡ b → (HasRoom box l → Asks box l d b) × (Asks box l d b → HasRoom box l)
asked_by box l d b p q = (
  λ (h : HasRoom box l). λ (v : Variable → ℤ) (inside : IsInside box v).
      subst (λ (t : Direction). Room t b l.stride.by (value l.start v) (value l.limit v)) p
      (subst (λ (u : Bound). Room l.stride.direction u l.stride.by (value l.start v) (value l.limit v)) q (h v inside)),
  λ (h : Asks box l d b). λ (v : Variable → ℤ) (inside : IsInside box v).
      subst (λ (u : Bound). Room l.stride.direction u l.stride.by (value l.start v) (value l.limit v)) (sym q)
      (subst (λ (t : Direction). Room t b l.stride.by (value l.start v) (value l.limit v)) (sym p) (h v inside)),
)

pub room_rising : (box : List Side) (l : Canonical) (r : Bool) → l.stride.direction ≡ Rising → l.bound ≡ Unequal
    → (IsTrue r → IsBelow l.start l.limit box) × (IsBelow l.start l.limit box → IsTrue r) → (IsTrue r → HasRoom box l) × (HasRoom box l → IsTrue r)
room_rising box l r p q h = let asked = asked_by box l Rising Unequal p q in (λ (t : IsTrue r). asked.1 (h.0 t), λ (k : HasRoom box l). h.1 (asked.0 k))

pub room_falling : (box : List Side) (l : Canonical) (r : Bool) → l.stride.direction ≡ Falling → l.bound ≡ Unequal
    → (IsTrue r → IsBelow l.limit l.start box) × (IsBelow l.limit l.start box → IsTrue r) → (IsTrue r → HasRoom box l) × (HasRoom box l → IsTrue r)
room_falling box l r p q h = let asked = asked_by box l Falling Unequal p q in (λ (t : IsTrue r). asked.1 (h.0 t), λ (k : HasRoom box l). h.1 (asked.0 k))

pub room_strict : (box : List Side) (l : Canonical) (r : Bool) (n : ℤ) → l.stride.direction ≡ Falling → l.bound ≡ Strict → n ≡ pos l.stride.by -ℤ pos 1
    → (IsTrue r → IsAtLeast n l.limit box) × (IsAtLeast n l.limit box → IsTrue r) → (IsTrue r → HasRoom box l) × (HasRoom box l → IsTrue r)
room_strict box l r n p q e h =
    let asked = asked_by box l Falling Strict p q in (
      λ (t : IsTrue r). asked.1 (λ (v : Variable → ℤ) (inside : IsInside box v). more (value l.limit v) (h.0 t v inside)),
      λ (k : HasRoom box l). h.1 (λ (v : Variable → ℤ) (inside : IsInside box v). less (value l.limit v) (asked.0 k v inside)),
    )
  where
    more : (x : ℤ) → n ≤ℤ x → pos l.stride.by ≤ℤ (x +ℤ pos 1)
    more x k = omega (arith, ints)

    less : (x : ℤ) → pos l.stride.by ≤ℤ (x +ℤ pos 1) → n ≤ℤ x
    less x k = omega (arith, ints)

-- ---- sides

-- the range of a form, moved
shifted : (f : Affine) (box : List Side) (a b n : ℤ) → IsRange f box a b → IsRange (record { constant = f.constant +ℤ n; terms = f.terms }) box (a +ℤ n) (b +ℤ n)
shifted f box a b n r =
    let low = r.least_reached in
    let high = r.greatest_reached in
    record {
      within = λ v inside. let w = r.within v inside in (up f.constant _ w.0, up2 f.constant _ w.1);
      least_reached = record { values = low.values; inside = low.inside; gives = same f.constant _ a low.gives };
      greatest_reached = record { values = high.values; inside = high.inside; gives = same f.constant _ b high.gives };
    }
  where
    up : (c s : ℤ) → a ≤ℤ (c +ℤ s) → (a +ℤ n) ≤ℤ ((c +ℤ n) +ℤ s)
    up c s h = omega (arith, ints)

    up2 : (c s : ℤ) → (c +ℤ s) ≤ℤ b → ((c +ℤ n) +ℤ s) ≤ℤ (b +ℤ n)
    up2 c s h = omega (arith, ints)

    same : (c s m : ℤ) → c +ℤ s ≡ m → (c +ℤ n) +ℤ s ≡ m +ℤ n
    same c s m e = omega (arith, ints)

interval_is : (i : Interval) (a b : ℤ) → i.least ≡ a → i.greatest ≡ b → record { least = a; greatest = b } ≡ i
interval_is i a b p q = ap (λ (n : ℤ). record { least = n; greatest = b }) (sym p) ∙ ap (λ (n : ℤ). record { least = i.least; greatest = n }) (sym q)

pub side_exact : (box : List Side) (l : Canonical) (i : Interval) → l.start.terms ≡ [] → l.limit.terms ≡ [] → IsWalked l.stride l.start.constant (end_of l).constant i → IsSide box l i
side_exact box l i p q w = subst (IsSide box l) (sym w.is) (exact {n = w.turns} (record { start = p; limit = q }) w.counts)

pub side_rising : (box : List Side) (l : Canonical) (i : Interval) (a b c d : ℤ) → (HasNumbers l → ⊥) → l.stride.direction ≡ Rising → IsRange l.start box a b → IsRange l.limit box c d
    → i.least ≡ a → i.greatest ≡ d +ℤ end_shift l.stride.direction l.bound → IsSide box l i
side_rising box l i a b c d other p r s low high =
    let n = end_shift l.stride.direction l.bound in
    subst (IsSide box l) (ap (λ (t : Direction). spanned t a b (c +ℤ n) (d +ℤ n)) p ∙ interval_is i a (d +ℤ n) low high) (by_range other r (shifted l.limit box c d n s))

pub side_falling : (box : List Side) (l : Canonical) (i : Interval) (a b c d : ℤ) → (HasNumbers l → ⊥) → l.stride.direction ≡ Falling → IsRange l.start box a b → IsRange l.limit box c d
    → i.least ≡ c +ℤ end_shift l.stride.direction l.bound → i.greatest ≡ b → IsSide box l i
side_falling box l i a b c d other p r s low high =
    let n = end_shift l.stride.direction l.bound in
    subst (IsSide box l) (ap (λ (t : Direction). spanned t a b (c +ℤ n) (d +ℤ n)) p ∙ interval_is i (c +ℤ n) b low high) (by_range other r (shifted l.limit box c d n s))

-- a sum of a number of 33 bits and one of -1, 0 and 1, as 64 bits hold it
pub sum_read : (n s : ℤ) → unsigned_abs n ≤ 2 ^ 32 → unsigned_abs s ≤ 1 → to_z w64 (of_z w64 (to_z w64 (of_z w64 n) +ℤ to_z w64 (of_z w64 s))) ≡ n +ℤ s
sum_read n s h k =
    let small : unsigned_abs n < 2 ^ 63 = omega arith in
    let small2 : unsigned_abs s < 2 ^ 63 = omega arith in
    let sum : unsigned_abs (n +ℤ s) < 2 ^ 63 = omega (arith, unsigned_abs-sum n s) in
    let first = to_z-of_z w64 n (fits_signed_from_abs w64 n small) in
    let second = to_z-of_z w64 s (fits_signed_from_abs w64 s small2) in
    ap (λ (m : ℤ). to_z w64 (of_z w64 (m +ℤ to_z w64 (of_z w64 s)))) first ∙ ap (λ (m : ℤ). to_z w64 (of_z w64 (n +ℤ m))) second
    ∙ to_z-of_z w64 (n +ℤ s) (fits_signed_from_abs w64 (n +ℤ s) sum)

pub modest_within : (n : ℤ) → IsModest n → unsigned_abs n ≤ 2 ^ 32
modest_within n h = omega (arith, ints, h.above, h.below)

pub nothing_in : (ts : List Term) → length ts ≡ 0 → ts ≡ []
nothing_in [] e = refl
nothing_in (t ∷ ts) e = absurd (omega arith)

abs_of : (z : ℤ) (m : ℕ) → (pos 0 -ℤ pos m) ≤ℤ z → z ≤ℤ pos m → unsigned_abs z ≤ m
abs_of z m low high = omega (arith, ints)

abs_low : (z : ℤ) (m : ℕ) → unsigned_abs z ≤ m → (pos 0 -ℤ pos m) ≤ℤ z
abs_low z m h = omega (arith, ints)

abs_high : (z : ℤ) (m : ℕ) → unsigned_abs z ≤ m → z ≤ℤ pos m
abs_high z m h = omega (arith, ints)

-- the same of a difference
pub difference_read : (n s : ℤ) → unsigned_abs n ≤ 2 ^ 32 → unsigned_abs s ≤ 2 ^ 34 → to_z w64 (of_z w64 (to_z w64 (of_z w64 n) -ℤ to_z w64 (of_z w64 s))) ≡ n -ℤ s
difference_read n s h k =
    let small : unsigned_abs n < 2 ^ 63 = omega arith in
    let small2 : unsigned_abs s < 2 ^ 63 = omega arith in
    let n_low = abs_low n (2 ^ 32) h in
    let n_high = abs_high n (2 ^ 32) h in
    let s_low = abs_low s (2 ^ 34) k in
    let s_high = abs_high s (2 ^ 34) k in
    let within : unsigned_abs (n -ℤ s) ≤ 2 ^ 35 = abs_of (n -ℤ s) (2 ^ 35) (omega (arith, ints)) (omega (arith, ints)) in
    let small3 : unsigned_abs (n -ℤ s) < 2 ^ 63 = omega arith in
    let first = to_z-of_z w64 n (fits_signed_from_abs w64 n small) in
    let second = to_z-of_z w64 s (fits_signed_from_abs w64 s small2) in
    ap (λ (m : ℤ). to_z w64 (of_z w64 (m -ℤ to_z w64 (of_z w64 s)))) first ∙ ap (λ (m : ℤ). to_z w64 (of_z w64 (n -ℤ m))) second
    ∙ to_z-of_z w64 (n -ℤ s) (fits_signed_from_abs w64 (n -ℤ s) small3)

-- how low and how high a falling loop goes
pub falling_fits : (first end s : ℤ) (by : ℕ) → unsigned_abs first ≤ 2 ^ 32 → unsigned_abs end ≤ 2 ^ 32 + 1 → by < 2 ^ 32 → (pos 0 -ℤ pos by) ≤ℤ s
    → (s ≤ℤ (first -ℤ end)) ⊎ (s ≤ℤ pos 0) → EndsFit (first -ℤ s) first
falling_fits first end s by f e small low high =
    record { least_within = abs_of (first -ℤ s) (2 ^ 33) (⊎_elim far near high) top; greatest_within = omega arith }
  where
    f_low : (pos 0 -ℤ pos (2 ^ 32)) ≤ℤ first
    f_low = abs_low first (2 ^ 32) f

    f_high : first ≤ℤ pos (2 ^ 32)
    f_high = abs_high first (2 ^ 32) f

    e_low : (pos 0 -ℤ pos (2 ^ 32 + 1)) ≤ℤ end
    e_low = abs_low end (2 ^ 32 + 1) e

    far : s ≤ℤ (first -ℤ end) → (pos 0 -ℤ pos (2 ^ 33)) ≤ℤ (first -ℤ s)
    far h = let l = e_low in omega (arith, ints)

    near : s ≤ℤ pos 0 → (pos 0 -ℤ pos (2 ^ 33)) ≤ℤ (first -ℤ s)
    near h = let l = f_low in omega (arith, ints)

    top : (first -ℤ s) ≤ℤ pos (2 ^ 33)
    top = let h = f_high in omega (arith, ints)
