-- How often a loop turns.
use Rattle.std.specs.Prelude.{ℕ, Bool, true, false, nat_lt, ◌≡◌, ◌≤◌, ◌<◌, ◌+◌, ◌*◌, ◌/◌, ◌^◌, ◌↔◌, unsigned_abs, ℤ, pos, negsuc, ◌+ℤ◌, ◌-ℤ◌, ◌≤ℤ◌, ◌<ℤ◌, List}
use Rattle.std.proofs.Common.{refl, sym, ap, ◌∙◌, subst, arith}
use Rattle.std.proofs.lemmas.Int.{ints}
use Rattle.std.proofs.lemmas.Bool.Decides.{Decides-ltb, nat_tests}
use Rattle.semantics.specs.Tree.{Variable}
use Rattle.affine.specs.declared.interval.Side.{Side}
use Rattle.affine.specs.Affine.{Affine, term_sum, value}
use Rattle.affine.specs.Arithmetic.{constant_form}
use Rattle.affine.specs.Box.{IsInside, IsRange}
use Rattle.nest_loop.specs.declared.stride.Direction.{Direction}
use Rattle.nest_loop.specs.declared.stride.Direction.TheVariants.{Rising, Falling}
use Rattle.nest_loop.specs.declared.stride.Stride.{Stride}
use Rattle.nest_loop.specs.declared.stride.Bound.{Bound}
use Rattle.nest_loop.specs.declared.stride.Bound.TheVariants.{Strict, Inclusive, Unequal}
use Rattle.nest_loop.specs.declared.head.Canonical.{Canonical}
use Rattle.nest_loop.specs.Sides.{IsCount, IsBefore, after_steps, moved, end_shift, end_of, CannotWrap}
use Rattle.nest_loop.specs.Most.{way, distance, AreWithin, TurnsAt, IsMost, somewhere}
use Rattle.nest_loop.proofs.Steps.{counts}

-- the way to an end that is moved
way_on : (d : Direction) (first c t shift : ℤ) → way d first (c +ℤ t) +ℤ (way d (pos 0) shift +ℤ pos 0) ≡ way d first ((c +ℤ shift) +ℤ t)
way_on Rising first c t shift = omega (arith, ints)
way_on Falling first c t shift = omega (arith, ints)

pub distance_is : (l : Canonical) (v : Variable → ℤ) (a b n : ℤ) → a ≡ way l.stride.direction (value l.start v) (value l.limit v)
    → b ≡ n +ℤ pos 0 → n ≡ way l.stride.direction (pos 0) (end_shift l.stride.direction l.bound) → a +ℤ b ≡ distance l v
distance_is l v a b n p q r =
    let d = l.stride.direction in
    let first = value l.start v in
    let whole : a +ℤ b ≡ way d first (value l.limit v) +ℤ (way d (pos 0) (end_shift d l.bound) +ℤ pos 0) =
    ap (λ (m : ℤ). m +ℤ b) p ∙ ap (λ (m : ℤ). way d first (value l.limit v) +ℤ m) (q ∙ ap (λ (m : ℤ). m +ℤ pos 0) r) in
    whole ∙ way_on d first l.limit.constant (term_sum l.limit.terms v) (end_shift d l.bound)

-- the turns that stay within a distance of 0 and more
pub some_within : (by d : ℕ) → 1 ≤ by → AreWithin by (pos d) (d / by + 1)
some_within by d one k = (λ (h : k < d / by + 1). within (by * k) ((counts by d k one).0 h), λ (h : pos (by * k) ≤ℤ pos d). (counts by d k one).1 (below (by * k) h))
  where
    within : (n : ℕ) → n ≤ d → pos n ≤ℤ pos d
    within n h = omega (arith, ints)

    below : (n : ℕ) → pos n ≤ℤ pos d → n ≤ d
    below n h = omega (arith, ints)

pub none_within : (by : ℕ) (d : ℤ) → d <ℤ pos 0 → AreWithin by d 0
none_within by d below k = (λ (h : k < 0). absurd (omega arith), λ (h : pos (by * k) ≤ℤ d). absurd (never (by * k) h))
  where
    never : (n : ℕ) → pos n ≤ℤ d → ⊥
    never n h = omega (arith, ints)

-- a step is before the end exactly where it stays within the distance
step_before : (d : Direction) (first end : ℤ) (n : ℕ) → (pos n ≤ℤ way d first end) ↔ IsBefore d (moved d first n) end
step_before Rising first end n = (λ (h : pos n ≤ℤ (end -ℤ first)). omega (arith, ints), λ (h : (first +ℤ pos n) ≤ℤ end). omega (arith, ints))
step_before Falling first end n = (λ (h : pos n ≤ℤ (first -ℤ end)). omega (arith, ints), λ (h : end ≤ℤ (first -ℤ pos n)). omega (arith, ints))

pub count_of : (s : Stride) (first end : ℤ) (n : ℕ) → AreWithin s.by (way s.direction first end) n → IsCount s first end n
count_of s first end n h =
    record { counts = λ k. let b = step_before s.direction first end (s.by * k) in (λ (l : k < n). b.0 ((h k).0 l), λ (l : IsBefore s.direction (after_steps s first k) end). (h k).1 (b.1 l)) }

pub within_of : (s : Stride) (first end : ℤ) (n : ℕ) → IsCount s first end n → AreWithin s.by (way s.direction first end) n
within_of s first end n h k = let b = step_before s.direction first end (s.by * k) in (λ (l : k < n). b.1 ((h.counts k).0 l), λ (l : pos (s.by * k) ≤ℤ way s.direction first end). (h.counts k).1 (b.0 l))

-- more turns only within a greater distance
more_turns : (by : ℕ) (d e : ℤ) (m n : ℕ) → d ≤ℤ e → AreWithin by d m → AreWithin by e n → m ≤ n
more_turns by d e m n le h k = by_order (λ (far : n < m). absurd (not_itself ((k n).1 (further (by * n) ((h n).0 far)))))
  where
    by_order : (n < m → m ≤ n) → m ≤ n
    by_order f = go (nat_lt n m) refl
      where
        go : (t : Bool) → nat_lt n m ≡ t → m ≤ n
        go true e = f ((Decides-ltb n m).0 e)
        go false e = grind (arith, nat_tests)

    further : (x : ℕ) → pos x ≤ℤ d → pos x ≤ℤ e
    further x l = omega (arith, ints)

    not_itself : n < n → ⊥
    not_itself l = omega arith

-- the turns at the greatest distance are the most
pub most_is : (box : List Side) (l : Canonical) (f : Affine) (a b : ℤ) (n : ℕ) → ((v : Variable → ℤ) → value f v ≡ distance l v) → IsRange f box a b → AreWithin l.stride.by b n → IsMost box l n
most_is box l f a b n is r h =
    let high = r.greatest_reached in
    let far : b ≡ distance l high.values = sym high.gives ∙ is high.values in
    somewhere high.values high.inside
    (count_of l.stride (value l.start high.values) (value (end_of l) high.values) n (subst (λ (z : ℤ). AreWithin l.stride.by z n) far h))
    (λ (v : Variable → ℤ) (m : ℕ) (inside : IsInside box v) (turns : TurnsAt l v m).
    let w = r.within v inside in
    let near : distance l v ≤ℤ b = subst (λ (z : ℤ). z ≤ℤ b) (is v) w.1 in
    more_turns l.stride.by (distance l v) b m n near (within_of l.stride (value l.start v) (value (end_of l) v) m turns) h)

-- no distance is great where the loop never wraps
way_near : (d : Direction) (s c t shift : ℤ) → pos 0 ≤ℤ s → s ≤ℤ pos (2 ^ 32) → pos 0 ≤ℤ (c +ℤ t) → (c +ℤ t) ≤ℤ pos (2 ^ 32) → (pos 0 -ℤ pos 1) ≤ℤ shift → shift ≤ℤ pos 1
    → way d s ((c +ℤ shift) +ℤ t) ≤ℤ pos (2 ^ 33)
way_near Rising s c t shift h k l m n o = omega (arith, ints)
way_near Falling s c t shift h k l m n o = omega (arith, ints)

pub range_near : (box : List Side) (l : Canonical) (f : Affine) (a b : ℤ) → CannotWrap box l → ((v : Variable → ℤ) → value f v ≡ distance l v) → IsRange f box a b → b ≤ℤ pos (2 ^ 33)
range_near box l f a b stays is r =
    let high = r.greatest_reached in
    let at = stays high.values high.inside in
    let s = shift_near l.stride.direction l.bound in
    let near = way_near l.stride.direction (value l.start high.values) l.limit.constant (term_sum l.limit.terms high.values) (end_shift l.stride.direction l.bound) at.start.above at.start.below at.limit.above at.limit.below s.0 s.1 in
    subst (λ (z : ℤ). z ≤ℤ pos (2 ^ 33)) (sym (is high.values) ∙ high.gives) near
  where
    shift_near : (d : Direction) (b : Bound) → ((pos 0 -ℤ pos 1) ≤ℤ end_shift d b) × (end_shift d b ≤ℤ pos 1)
    shift_near Rising Strict = (omega (arith, ints), omega (arith, ints))
    shift_near Rising Inclusive = (omega (arith, ints), omega (arith, ints))
    shift_near Rising Unequal = (omega (arith, ints), omega (arith, ints))
    shift_near Falling Strict = (omega (arith, ints), omega (arith, ints))
    shift_near Falling Inclusive = (omega (arith, ints), omega (arith, ints))
    shift_near Falling Unequal = (omega (arith, ints), omega (arith, ints))

pub within_from : (by : ℕ) (d : ℤ) → 1 ≤ by → pos 0 ≤ℤ d → AreWithin by d (unsigned_abs d / by + 1)
within_from by (pos n) one h = some_within by n one
within_from by (negsuc n) one h = absurd (omega (arith, ints))

pub constant_value : (f : Affine) (n : ℤ) (v : Variable → ℤ) → f ≡ constant_form n → value f v ≡ n +ℤ pos 0
constant_value f n v e = ap (λ (g : Affine). value g v) e ∙ refl
