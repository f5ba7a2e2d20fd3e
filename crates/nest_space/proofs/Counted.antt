-- The values of a loop's variable, by their numbers.
use Rattle.std.specs.Prelude.{ℕ, zero, suc, Bool, true, false, ◌≡◌, ◌==◌, ◌+◌, ◌-◌, ◌*◌, ◌<◌, ◌≤◌, ◌^◌, length, Option, Some, None, slice_get, MatchOption}
use Rattle.std.specs.Option.{SomeIff}
use Rattle.std.proofs.Common.{refl, sym, ap, ◌∙◌, subst, arith, mul-le-mul_left}
use Rattle.std.proofs.Math.Nat.{mul-suc, eq_of_mul-eq-mul_left}
use Rattle.std.proofs.lemmas.Bool.{eqb-true}
use Rattle.std.proofs.lemmas.Bool.Decides.{nat_tests}
use Rattle.std.proofs.lemmas.Option.{slice_get_within, same_Some}
use Rattle.nest_loop.specs.declared.stride.Direction.{Direction}
use Rattle.nest_loop.specs.declared.stride.Direction.TheVariants.{Rising, Falling}
use Rattle.nest_loop.specs.declared.stride.Stride.{Stride}
use Rattle.nest_space.specs.Space.{Turns, moved, counted, values_of, LastFits, IsTurns}

pub length-counted : (s : Stride) (v n : ℕ) → length (counted s v n) ≡ n
length-counted s v zero = refl
length-counted s v (suc n) = ap suc (length-counted s (moved s.direction v s.by) n)

moved_twice : (d : Direction) (v a b : ℕ) → moved d (moved d v a) b ≡ moved d v (a + b)
moved_twice Rising v a b = omega arith
moved_twice Falling v a b = omega arith

moved_none : (d : Direction) (v : ℕ) → moved d v 0 ≡ v
moved_none Rising v = omega arith
moved_none Falling v = omega arith

pub value_there : (s : Stride) (v n k : ℕ) → k < n → slice_get (counted s v n) k ≡ Some (moved s.direction v (s.by * k))
value_there s v zero k lt = absurd (omega arith)
value_there s v (suc n) zero lt =
    let none : s.by * 0 ≡ 0 = omega arith in
    ap Some (sym (ap (moved s.direction v) none ∙ moved_none s.direction v))
value_there s v (suc n) (suc k) lt =
    let sum : s.by + s.by * k ≡ s.by * suc k = omega (arith, mul-suc s.by k) in
    value_there s (moved s.direction v s.by) n k (omega arith) ∙ ap Some (moved_twice s.direction v s.by (s.by * k) ∙ ap (moved s.direction v) sum)

-- each step fits where the last one does
fits_less : (d : Direction) (first m n : ℕ) → m ≤ n → LastFits d first n → LastFits d first m
fits_less Rising first m n le h = omega arith
fits_less Falling first m n le h = omega arith

pub fits_before : (t : Turns) (k : ℕ) → IsTurns t → k < t.count → LastFits t.stride.direction t.first (t.stride.by * k)
fits_before t k is lt =
    let le : k ≤ t.count - 1 = omega arith in
    fits_less t.stride.direction t.first (t.stride.by * k) (t.stride.by * (t.count - 1)) (mul-le-mul_left t.stride.by le) is.last

-- two distances to one value are one
same_distance : (d : Direction) (first m n : ℕ) → LastFits d first m → LastFits d first n → moved d first m ≡ moved d first n → m ≡ n
same_distance Rising first m n p q e = omega arith
same_distance Falling first m n p q e = omega arith

-- what stands at a number
pub record IsAt (t : Turns) (k x : ℕ) : Type 0 where
  pub turn : k < t.count
  pub is : x ≡ moved t.stride.direction t.first (t.stride.by * k)

pub found_at : (t : Turns) (k x : ℕ) → slice_get (values_of t) k ≡ Some x → IsAt t k x
found_at t k x e =
    let lt : k < t.count = subst (λ n. k < n) (length-counted t.stride t.first t.count) (slice_get_within (values_of t) k x e) in
    record { turn = lt; is = sym (same_Some (moved t.stride.direction t.first (t.stride.by * k)) x (sym (value_there t.stride t.first t.count k lt) ∙ e)) }

-- no turn has the value
pub nowhere : (t : Turns) (x : ℕ) → IsTurns t → ((n : ℕ) → LastFits t.stride.direction t.first n → x ≡ moved t.stride.direction t.first n → ⊥) → (k : ℕ) → slice_get (values_of t) k ≡ Some x → ⊥
nowhere t x is none k e =
    let at = found_at t k x e in
    none (t.stride.by * k) (fits_before t k is at.turn) at.is

-- where no number of steps makes the distance, no turn has the value
pub passed : (t : Turns) (x n : ℕ) → IsTurns t → LastFits t.stride.direction t.first n → x ≡ moved t.stride.direction t.first n
    → ((k : ℕ) → k < t.count → n ≡ t.stride.by * k → ⊥) → (k : ℕ) → slice_get (values_of t) k ≡ Some x → ⊥
passed t x n is fits e none k f =
    let at = found_at t k x f in
    none k at.turn (same_distance t.stride.direction t.first n (t.stride.by * k) fits (fits_before t k is at.turn) (sym e ∙ at.is))

-- a turn that many steps away has the value
pub reached : (t : Turns) (x n k : ℕ) → x ≡ moved t.stride.direction t.first n → k < t.count → n ≡ t.stride.by * k → slice_get (values_of t) k ≡ Some x
reached t x n k e lt f = value_there t.stride t.first t.count k lt ∙ ap Some (sym (e ∙ ap (moved t.stride.direction t.first) f))

-- what a number of steps says of a turn
pub turn_found : (t : Turns) (x n by : ℕ) (o : Option ℕ) → IsTurns t → by ≡ t.stride.by → LastFits t.stride.direction t.first n × (x ≡ moved t.stride.direction t.first n)
    → MatchOption o ((k : ℕ) → k < t.count → n ≡ by * k → ⊥) (λ k. (k < t.count) × (n ≡ by * k))
    → MatchOption o ((k : ℕ) → slice_get (values_of t) k ≡ Some x → ⊥) (λ k. slice_get (values_of t) k ≡ Some x)
turn_found t x n by None is same at h = passed t x n is at.0 at.1 (λ k lt e. h k lt (e ∙ ap (λ b. b * k) (sym same)))
turn_found t x n by (Some k) is same at h = reached t x n k at.1 h.0 (h.1 ∙ ap (λ b. b * k) same)

-- the value of the last turn is no other turn's
pub last_turn : (t : Turns) (k x : ℕ) → IsTurns t → slice_get (values_of t) k ≡ Some x → x ≡ moved t.stride.direction t.first (t.stride.by * (t.count - 1)) → k + 1 ≡ t.count
last_turn t k x is e f =
    let at = found_at t k x e in
    let lt = at.turn in
    let same = same_distance t.stride.direction t.first (t.stride.by * k) (t.stride.by * (t.count - 1)) (fits_before t k is lt) is.last (sym at.is ∙ f) in
    let turn = eq_of_mul-eq-mul_left t.stride.by is.steps k (t.count - 1) same in
    omega (arith, lt, turn)

-- another value's turn has one behind it
pub record IsNext (t : Turns) (k x : ℕ) : Type 0 where
  pub turn : k + 1 < t.count
  pub fits : LastFits t.stride.direction x t.stride.by
  pub is : slice_get (values_of t) (k + 1) ≡ Some (moved t.stride.direction x t.stride.by)

fits_on : (d : Direction) (first m n : ℕ) → LastFits d first m → LastFits d first (m + n) → LastFits d (moved d first m) n
fits_on Rising first m n h k = omega arith
fits_on Falling first m n h k = omega arith

pub next_turn : (t : Turns) (k x : ℕ) → IsTurns t → slice_get (values_of t) k ≡ Some x → (x ≡ moved t.stride.direction t.first (t.stride.by * (t.count - 1)) → ⊥) → IsNext t k x
next_turn t k x is e other =
    let at = found_at t k x e in
    let lt = at.turn in
    let more : k + 1 < t.count = go (k == t.count - 1) refl lt at.is in
    let sum : t.stride.by * k + t.stride.by ≡ t.stride.by * (k + 1) = sum_of t.stride.by k in
    let on : moved t.stride.direction t.first (t.stride.by * (k + 1)) ≡ moved t.stride.direction x t.stride.by =
    ap (moved t.stride.direction t.first) (sym sum) ∙ sym (moved_twice t.stride.direction t.first (t.stride.by * k) t.stride.by) ∙ ap (λ v. moved t.stride.direction v t.stride.by) (sym at.is) in
    record {
      turn = more;
      fits = subst (λ v. LastFits t.stride.direction v t.stride.by) (sym at.is)
          (fits_on t.stride.direction t.first (t.stride.by * k) t.stride.by (fits_before t k is lt) (subst (LastFits t.stride.direction t.first) (sym sum) (fits_before t (k + 1) is more)));
      is = value_there t.stride t.first t.count (k + 1) more ∙ ap Some on;
    }
  where
    sum_of : (a k : ℕ) → a * k + a ≡ a * (k + 1)
    sum_of a k = let more = mul-suc a k in let next : suc k ≡ k + 1 = omega arith in omega (arith, more, ap (λ n. a * n) next)

    go : (b : Bool) → (k == t.count - 1) ≡ b → k < t.count → x ≡ moved t.stride.direction t.first (t.stride.by * k) → k + 1 < t.count
    go true s lt e = absurd (other (e ∙ ap (λ n. moved t.stride.direction t.first (t.stride.by * n)) (eqb-true k (t.count - 1) s)))
    go false s lt e = grind (arith, nat_tests)

-- the sum or the difference that the code makes is that value
pub next_rising : (t : Turns) (k x by : ℕ) (o : Option ℕ) → IsTurns t → t.stride.direction ≡ Rising → by ≡ t.stride.by → slice_get (values_of t) k ≡ Some x
    → (x ≡ moved t.stride.direction t.first (t.stride.by * (t.count - 1)) → ⊥) → SomeIff o (x + by < 2 ^ 64) (x + by)
    → MatchOption o (k + 1 ≡ t.count) (λ y. slice_get (values_of t) (k + 1) ≡ Some y)
next_rising t k x by o is up same e other h = go o h
  where
    next : IsNext t k x
    next = next_turn t k x is e other

    fits : x + by < 2 ^ 64
    fits = subst (λ b. x + b < 2 ^ 64) (sym same) (subst (λ d. LastFits d x t.stride.by) up next.fits)

    on : moved t.stride.direction x t.stride.by ≡ x + by
    on = ap (λ d. moved d x t.stride.by) up ∙ ap (λ b. x + b) (sym same)

    go : (o : Option ℕ) → SomeIff o (x + by < 2 ^ 64) (x + by) → MatchOption o (k + 1 ≡ t.count) (λ y. slice_get (values_of t) (k + 1) ≡ Some y)
    go None h = absurd (h fits)
    go (Some y) h = next.is ∙ ap Some (on ∙ sym h.1)

pub next_falling : (t : Turns) (k x by : ℕ) (o : Option ℕ) → IsTurns t → t.stride.direction ≡ Falling → by ≡ t.stride.by → slice_get (values_of t) k ≡ Some x
    → (x ≡ moved t.stride.direction t.first (t.stride.by * (t.count - 1)) → ⊥) → SomeIff o (by ≤ x) (x - by)
    → MatchOption o (k + 1 ≡ t.count) (λ y. slice_get (values_of t) (k + 1) ≡ Some y)
next_falling t k x by o is down same e other h = go o h
  where
    next : IsNext t k x
    next = next_turn t k x is e other

    fits : by ≤ x
    fits = subst (λ b. b ≤ x) (sym same) (subst (λ d. LastFits d x t.stride.by) down next.fits)

    on : moved t.stride.direction x t.stride.by ≡ x - by
    on = ap (λ d. moved d x t.stride.by) down ∙ ap (λ b. x - b) (sym same)

    go : (o : Option ℕ) → SomeIff o (by ≤ x) (x - by) → MatchOption o (k + 1 ≡ t.count) (λ y. slice_get (values_of t) (k + 1) ≡ Some y)
    go None h = absurd (h fits)
    go (Some y) h = next.is ∙ ap Some (on ∙ sym h.1)
