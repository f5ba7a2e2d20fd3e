-- How a canonical loop runs where its bounds are numbers.
use Rattle.std.specs.Prelude.{ℕ, zero, suc, ◌≡◌, ◌-◌, ◌*◌, ◌<◌, ◌≤◌, ◌^◌, ◌+ℤ◌, ◌≤ℤ◌, ℤ, pos, List, [], ◌∷◌, length, Option, Some, None, MatchOption}
use Rattle.std.specs.Option.{SomeIff, IfSome}
use Rattle.std.proofs.Common.{refl, sym, ap, ◌∙◌, subst, arith, ⊎_elim}
use Rattle.std.proofs.lemmas.Bool.{cases_order}
use Rattle.std.proofs.lemmas.Int.{ints}
use Rattle.semantics.specs.Tree.{Variable}
use Rattle.affine.specs.Affine.{term_sum, value}
use Rattle.nest_loop.specs.declared.stride.Direction.{Direction}
use Rattle.nest_loop.specs.declared.stride.Direction.TheVariants.{Rising, Falling}
use Rattle.nest_loop.specs.declared.stride.Stride.{Stride}
use Rattle.nest_loop.specs.declared.stride.Bound.{Bound}
use Rattle.nest_loop.specs.declared.stride.Bound.TheVariants.{Strict, Inclusive, Unequal}
use Rattle.nest_loop.specs.declared.head.Canonical.{Canonical}
use Rattle.nest_loop.specs.Sides.{end_shift, end_of, IsCount, Room, IsModest, Stays}
use Rattle.nest_space.specs.Space.{Turns, LastFits, IsTurns, IsSpace}
use Rattle.nest_space.specs.Nests.{IsRunOf, AreRunsOf}
use Rattle.nest_space.specs.Heads.{HasIterations}
use Rattle.nest_space.proofs.Nesting.{nest_law}

-- the end lies at most one number behind the limit, and never before a falling loop's
abbrev ShiftIsSmall : Direction → ℤ → Type 0
ShiftIsSmall Rising shift = shift ≤ℤ pos 0
ShiftIsSmall Falling shift = pos 0 ≤ℤ shift

shift_small : (d : Direction) (bound : Bound) → ShiftIsSmall d (end_shift d bound)
shift_small Rising Strict = omega (arith, ints)
shift_small Rising Inclusive = omega (arith, ints)
shift_small Rising Unequal = omega (arith, ints)
shift_small Falling Strict = omega (arith, ints)
shift_small Falling Inclusive = omega (arith, ints)
shift_small Falling Unequal = omega (arith, ints)

-- the last value is one of 0..2^64 - 1
last_fits : (d : Direction) (s first limit n : ℕ) (shift : ℤ) → ShiftIsSmall d shift → first ≤ 2 ^ 32 → limit ≤ 2 ^ 32 → IsCount (record { direction = d; by = s }) (pos first) (pos limit +ℤ shift) n → LastFits d first (s * (n - 1))
last_fits Rising s first limit zero shift small f l c =
    let none : s * (0 - 1) ≡ 0 = omega arith in
    omega arith
last_fits Falling s first limit zero shift small f l c =
    let none : s * (0 - 1) ≡ 0 = omega arith in
    omega arith
last_fits Rising s first limit (suc n) shift small f l c =
    let before = (c.counts n).0 (omega arith) in
    let one : s * (suc n - 1) ≡ s * n = ap (λ m. s * m) (let less : suc n - 1 ≡ n = omega arith in less) in
    omega (arith, ints)
last_fits Falling s first limit (suc n) shift small f l c =
    let before = (c.counts n).0 (omega arith) in
    let one : s * (suc n - 1) ≡ s * n = ap (λ m. s * m) (let less : suc n - 1 ≡ n = omega arith in less) in
    omega (arith, ints)

-- a modest number of 0..2^32
modest_is : (z : ℤ) (n : ℕ) → IsModest z → z ≡ pos n → n ≤ 2 ^ 32
modest_is z n m e = let high = m.below in omega (arith, ints)

-- the end's value
end_is : (l : Canonical) (values : Variable → ℤ) (limit : ℕ) → value l.limit values ≡ pos limit → value (end_of l) values ≡ pos limit +ℤ end_shift l.stride.direction l.bound
end_is l values limit e =
    turned l.limit.constant (end_shift l.stride.direction l.bound) (term_sum l.limit.terms values) ∙ ap (λ (z : ℤ). z +ℤ end_shift l.stride.direction l.bound) e
  where
    turned : (a b c : ℤ) → (a +ℤ b) +ℤ c ≡ (a +ℤ c) +ℤ b
    turned a b c = omega (arith, ints)

-- the bounds of a loop as the numbers that they are
pub record HasBounds (l : Canonical) (values : Variable → ℤ) (start limit : ℕ) : Type 0 where
  pub start_modest : IsModest (value l.start values)
  pub start_is : value l.start values ≡ pos start
  pub limit_modest : IsModest (value l.limit values)
  pub limit_is : value l.limit values ≡ pos limit

pub bounds_are : (l : Canonical) (values : Variable → ℤ) (start limit : ℕ)
    → IsModest (value l.start values) × (value l.start values ≡ pos start) → IsModest (value l.limit values) × (value l.limit values ≡ pos limit) → HasBounds l values start limit
bounds_are l values start limit p q = record { start_modest = p.0; start_is = p.1; limit_modest = q.0; limit_is = q.1 }

-- how a loop that stays runs
pub run_law : (l : Canonical) (values : Variable → ℤ) (start limit n : ℕ) (o : Option Turns) → HasBounds l values start limit → (l.stride.by ≡ 0 → ⊥)
    → Room l.stride.direction l.bound l.stride.by (pos start) (pos limit) → IsCount l.stride (pos start) (pos limit +ℤ end_shift l.stride.direction l.bound) n
    → SomeIff o (IsTurns (record { first = start; stride = l.stride; count = n })) (record { first = start; stride = l.stride; count = n })
    → MatchOption o (1 ≤ l.stride.by → Stays l values → ⊥) (λ t. IsRunOf l values t)
run_law l values start limit n None b some room count h =
    absurd (h (record {
      steps = omega (arith, some);
      last = last_fits l.stride.direction l.stride.by start limit n (end_shift l.stride.direction l.bound) (shift_small l.stride.direction l.bound)
          (modest_is (value l.start values) start b.start_modest b.start_is) (modest_is (value l.limit values) limit b.limit_modest b.limit_is) count;
    }))
run_law l values start limit n (Some t) b some room count h =
    subst (λ (t : Turns). IsRunOf l values t) (sym h.1)
    (record {
      stays = record {
        start = b.start_modest;
        limit = b.limit_modest;
        room = subst (λ z. Room l.stride.direction l.bound l.stride.by z (value l.limit values)) (sym b.start_is) (subst (λ z. Room l.stride.direction l.bound l.stride.by (pos start) z) (sym b.limit_is) room);
      };
      least = omega (arith, some);
      stride = refl;
      first = b.start_is;
      count = subst (λ z. IsCount l.stride z (value (end_of l) values) n) (sym b.start_is) (subst (λ z. IsCount l.stride (pos start) z n) (sym (end_is l values limit b.limit_is)) count);
    })

-- a loop has one run
pos_same : (a b : ℕ) → pos a ≡ pos b → a ≡ b
pos_same a b e = omega (arith, ints)

same_count : (st : Stride) (first end : ℤ) (m n : ℕ) → IsCount st first end m → IsCount st first end n → m ≡ n
same_count st first end m n p q =
    ⊎_elim (λ e. e)
    (λ o. ⊎_elim (λ lt. let more : m < m = (p.counts m).1 ((q.counts m).0 lt) in absurd (omega arith)) (λ gt. let more : n < n = (q.counts n).1 ((p.counts n).0 gt) in absurd (omega arith)) o)
    (cases_order m n)

pub same_run : (l : Canonical) (values : Variable → ℤ) (t u : Turns) → IsRunOf l values t → IsRunOf l values u → t ≡ u
same_run l values t u p q =
    let first = pos_same t.first u.first (sym p.first ∙ q.first) in
    let stride = p.stride ∙ sym q.stride in
    let count = same_count l.stride (value l.start values) (value (end_of l) values) t.count u.count p.count q.count in
    λ i. record { first = first i; stride = stride i; count = count i }

pub same_runs : (ls : List Canonical) (values : Variable → ℤ) (ts us : List Turns) → AreRunsOf ls values ts → AreRunsOf ls values us → ts ≡ us
same_runs [] values [] [] p q = refl
same_runs [] values [] (u ∷ us) p q = absurd q
same_runs [] values (t ∷ ts) us p q = absurd p
same_runs (l ∷ ls) values [] us p q = absurd p
same_runs (l ∷ ls) values (t ∷ ts) [] p q = absurd q
same_runs (l ∷ ls) values (t ∷ ts) (u ∷ us) p q =
    let first = same_run l values t u p.0 q.0 in
    let rest = same_runs ls values ts us p.1 q.1 in
    λ i. first i ∷ rest i

pub length-runs : (ls : List Canonical) (values : Variable → ℤ) (ts : List Turns) → AreRunsOf ls values ts → length ts ≡ length ls
length-runs [] values [] p = refl
length-runs [] values (t ∷ ts) p = absurd p
length-runs (l ∷ ls) values [] p = absurd p
length-runs (l ∷ ls) values (t ∷ ts) p = ap suc (length-runs ls values ts p.1)

-- more loops than a space has
pub too_many : (ls : List Canonical) (values : Variable → ℤ) (ts : List Turns) → 4 < length ls → AreRunsOf ls values ts → IsSpace ts → ⊥
too_many ls values ts more p is = let few = is.loops in let same = length-runs ls values ts p in absurd (omega arith)

-- the space of these runs, where there is one
pub space_law : (M : Type 0) (ls : List Canonical) (values : Variable → ℤ) (us : List Turns) (o : Option (List Turns)) → AreRunsOf ls values us → SomeIff o (IsSpace us) us
    → MatchOption o ((ts : List Turns) → M → AreRunsOf ls values ts → IsSpace ts → ⊥) (λ ts. AreRunsOf ls values ts)
space_law M ls values us None p h = λ ts m q is. h (subst IsSpace (same_runs ls values ts us q p) is)
space_law M ls values us (Some ts) p h = subst (AreRunsOf ls values) (sym h.1) p

-- and its vectors are the iterations
pub iterations_law : (ls : List Canonical) (values : Variable → ℤ) (us : List Turns) (o : Option (List Turns)) → AreRunsOf ls values us → SomeIff o (IsSpace us) us
    → IfSome o (λ ts. HasIterations ls values ts)
iterations_law ls values us None p h = tt
iterations_law ls values us (Some ts) p h = nest_law ls values ts (subst (AreRunsOf ls values) (sym h.1) p)

-- it has a side for each loop
pub loops_law : (ls : List Canonical) (values : Variable → ℤ) (us : List Turns) (o : Option (List Turns)) → AreRunsOf ls values us → SomeIff o (IsSpace us) us
    → IfSome o (λ ts. length ts ≡ length ls)
loops_law ls values us None p h = tt
loops_law ls values us (Some ts) p h = ap length h.1 ∙ length-runs ls values us p
