-- The way of a loop's variable: from its start step by step, and never past where its test can still be asked.
use Rattle.std.specs.Prelude.{ℕ, true, not, ◌≡◌, ◌==◌, ◌+◌, ◌-◌, ◌*◌, ◌%◌, ◌≤◌, ◌<◌, ◌^◌, ◌+ℤ◌, ◌≤ℤ◌, pos, suc, Some}
use Rattle.std.proofs.Common.{sym, subst, arith, ⊎_elim}
use Rattle.std.proofs.Math.Nat.{mod-eq_of_lt}
use Rattle.std.proofs.lemmas.Bool.{ltb-true, leb-true, eqb-true, eq-eqb, cases_order}
use Rattle.std.proofs.lemmas.Int.{ints}
use Rattle.std.proofs.lemmas.Option.{none-some, same_Some, cond_some}
use Rattle.semantics.specs.Tree.{CompareOp, Less, LessEqual, Greater, GreaterEqual, Equal, NotEqual}
use Rattle.semantics.specs.Meaning.Value.{compare}
use Rattle.nest_loop.specs.declared.stride.Direction.{Direction}
use Rattle.nest_loop.specs.declared.stride.Direction.TheVariants.{Rising, Falling}
use Rattle.nest_loop.specs.declared.stride.Bound.{Bound}
use Rattle.nest_loop.specs.declared.stride.Bound.TheVariants.{Strict, Inclusive, Unequal}
use Rattle.nest_loop.specs.Canonical.{bound_of}
use Rattle.nest_loop.specs.Sides.{end_shift, IsBefore, Room}

-- the variable's value behind a step, in C's unsigned numbers
abbrev pub stepped : Direction → ℕ → ℕ → ℕ
stepped Rising by v = (v + by) % 2 ^ 64
stepped Falling by v = (v + 2 ^ 64 - by) % 2 ^ 64

-- what goes down with each turn
abbrev pub left_over : Direction → ℕ → ℕ
left_over Rising v = 2 ^ 34 - v
left_over Falling v = v

-- so many steps from the start
abbrev pub IsBehind : Direction → ℕ → ℕ → ℕ → ℕ → Type 0
IsBehind Rising by first n v = v ≡ first + by * n
IsBehind Falling by first n v = first ≡ v + by * n

-- where the test is `!=` the variable is not past the limit
abbrev pub Ahead : Direction → Bound → ℕ → ℕ → Type 0
Ahead Rising Unequal limit v = v ≤ limit
Ahead Falling Unequal limit v = limit ≤ v
Ahead d Strict limit v = Unit {0}
Ahead d Inclusive limit v = Unit {0}

-- a value on the way
pub record IsOn (d : Direction) (bound : Bound) (by first limit v : ℕ) : Type 0 where
  pub steps : ℕ
  pub is : IsBehind d by first steps v
  pub ahead : Ahead d bound limit v
  pub small : v ≤ 2 ^ 33

-- a turn that is made: the value has not passed the end, and the next one is on the way
pub record GoesOn (d : Direction) (bound : Bound) (by first limit v : ℕ) : Type 0 where
  pub before : IsBefore d (pos v) (pos limit +ℤ end_shift d bound)
  pub next : IsOn d bound by first limit (stepped d by v)
  pub less : left_over d (stepped d by v) < left_over d v

-- bounds and a step with which no value wraps
pub record IsFit (by first limit : ℕ) : Type 0 where
  pub least : 1 ≤ by
  pub short : by < 2 ^ 31
  pub first_within : first ≤ 2 ^ 32
  pub limit_within : limit ≤ 2 ^ 32

-- a turn that rises
rises : (bound : Bound) (by first limit v : ℕ) → IsFit by first limit → v ≤ limit → (n : ℕ) → v ≡ first + by * n → Ahead Rising bound limit (v + by)
    → IsBefore Rising (pos v) (pos limit +ℤ end_shift Rising bound) → GoesOn Rising bound by first limit v
rises bound by' first limit v fit le n is ahead before =
    let least = fit.least in let short = fit.short in let most = fit.limit_within in
    let same : (v + by') % 2 ^ 64 ≡ v + by' = mod-eq_of_lt (omega arith) in
    record {
      before = before;
      next = record {
        steps = suc n;
        is = omega arith;
        ahead = subst (Ahead Rising bound limit) (sym same) ahead;
        small = omega arith;
      };
      less = omega arith;
    }

-- a turn that falls
falls : (bound : Bound) (by first limit v : ℕ) → IsFit by first limit → by ≤ v → v ≤ 2 ^ 33 → (n : ℕ) → first ≡ v + by * n → Ahead Falling bound limit (v - by)
    → IsBefore Falling (pos v) (pos limit +ℤ end_shift Falling bound) → GoesOn Falling bound by first limit v
falls bound by' first limit v fit le small n is ahead before =
    let least = fit.least in
    let same : (v + 2 ^ 64 - by') % 2 ^ 64 ≡ v - by' = omega arith in
    record {
      before = before;
      next = record {
        steps = suc n;
        is = omega arith;
        ahead = subst (Ahead Falling bound limit) (sym same) ahead;
        small = omega arith;
      };
      less = omega arith;
    }

not_equal : (a b : ℕ) → not (a == b) ≡ true → a ≡ b → ⊥
not_equal a b h e = let same = eq-eqb a b e in absurd cc

below : (a b : ℕ) → a ≤ b → (a ≡ b → ⊥) → a < b
below a b le apart = ⊎_elim (λ e. absurd (apart e)) (λ o. ⊎_elim (λ lt. lt) (λ gt. absurd (omega arith)) o) (cases_order a b)

-- the start is on the way
pub starts : (d : Direction) (bound : Bound) (by first limit : ℕ) → IsFit by first limit → Room d bound by (pos first) (pos limit) → IsOn d bound by first limit first
starts Rising Strict s first limit fit room = let most = fit.first_within in record { steps = 0; is = omega arith; ahead = tt; small = omega arith }
starts Rising Inclusive s first limit fit room = let most = fit.first_within in record { steps = 0; is = omega arith; ahead = tt; small = omega arith }
starts Rising Unequal s first limit fit room = let most = fit.first_within in record { steps = 0; is = omega arith; ahead = omega (arith, ints); small = omega arith }
starts Falling Strict s first limit fit room = let most = fit.first_within in record { steps = 0; is = omega arith; ahead = tt; small = omega arith }
starts Falling Inclusive s first limit fit room = let most = fit.first_within in record { steps = 0; is = omega arith; ahead = tt; small = omega arith }
starts Falling Unequal s first limit fit room = let most = fit.first_within in record { steps = 0; is = omega arith; ahead = omega (arith, ints); small = omega arith }

-- where the test holds, a turn is made
pub goes_on : (op : CompareOp) (d : Direction) (bound : Bound) (by first limit v : ℕ) → bound_of op (record { direction = d; by = by }) ≡ Some bound → IsFit by first limit
    → Room d bound by (pos first) (pos limit) → IsOn d bound by first limit v → compare op v limit ≡ true → GoesOn d bound by first limit v
goes_on Less Rising bound s first limit v e fit room on h =
    subst (λ b. GoesOn Rising b s first limit v) (same_Some Strict bound e) (let lt = ltb-true v limit h in rises Strict s first limit v fit (omega arith) on.steps on.is tt (omega (arith, ints)))
goes_on LessEqual Rising bound s first limit v e fit room on h =
    subst (λ b. GoesOn Rising b s first limit v) (same_Some Inclusive bound e) (let le = leb-true v limit h in rises Inclusive s first limit v fit le on.steps on.is tt (omega (arith, ints)))
goes_on Greater Falling bound s first limit v e fit room on h = greater bound (same_Some Strict bound e) room on
  where
    greater : (b : Bound) → Strict ≡ b → Room Falling b s (pos first) (pos limit) → IsOn Falling b s first limit v → GoesOn Falling b s first limit v
    greater b same room on =
        let room' : pos s ≤ℤ (pos limit +ℤ pos 1) = subst (λ c. Room Falling c s (pos first) (pos limit)) (sym same) room in
        let lt = ltb-true limit v h in
        let small = on.small in
        subst (λ c. GoesOn Falling c s first limit v) same (falls Strict s first limit v fit (omega (arith, ints)) small on.steps on.is tt (omega (arith, ints)))
goes_on GreaterEqual Falling bound s first limit v e fit room on h = greater bound (same_Some Inclusive bound e) room on
  where
    greater : (b : Bound) → Inclusive ≡ b → Room Falling b s (pos first) (pos limit) → IsOn Falling b s first limit v → GoesOn Falling b s first limit v
    greater b same room on =
        let room' : pos s ≤ℤ pos limit = subst (λ c. Room Falling c s (pos first) (pos limit)) (sym same) room in
        let le = leb-true limit v h in
        let small = on.small in
        subst (λ c. GoesOn Falling c s first limit v) same (falls Inclusive s first limit v fit (omega (arith, ints)) small on.steps on.is tt (omega (arith, ints)))
goes_on NotEqual Rising bound s first limit v e fit room on h = let c = cond_some (s == 1) Unequal bound e in other (eqb-true s 1 c.0) bound c.1 on
  where
    other : s ≡ 1 → (b : Bound) → Unequal ≡ b → IsOn Rising b s first limit v → GoesOn Rising b s first limit v
    other one b same on =
        let on' = subst (λ c. IsOn Rising c s first limit v) (sym same) on in
        let le = on'.ahead in
        let apart = not_equal v limit h in
        let lt : v < limit = below v limit le apart in
        subst (λ c. GoesOn Rising c s first limit v) same (rises Unequal s first limit v fit le on'.steps on'.is (omega arith) (omega (arith, ints)))
goes_on NotEqual Falling bound s first limit v e fit room on h = let c = cond_some (s == 1) Unequal bound e in other (eqb-true s 1 c.0) bound c.1 on
  where
    other : s ≡ 1 → (b : Bound) → Unequal ≡ b → IsOn Falling b s first limit v → GoesOn Falling b s first limit v
    other one b same on =
        let on' = subst (λ c. IsOn Falling c s first limit v) (sym same) on in
        let le = on'.ahead in
        let small = on'.small in
        let apart = not_equal v limit h in
        let lt : limit < v = below limit v le (λ q. apart (sym q)) in
        subst (λ c. GoesOn Falling c s first limit v) same (falls Unequal s first limit v fit (omega arith) small on'.steps on'.is (omega arith) (omega (arith, ints)))
goes_on Less Falling bound s first limit v e fit room on h = absurd (none-some bound e)
goes_on LessEqual Falling bound s first limit v e fit room on h = absurd (none-some bound e)
goes_on Greater Rising bound s first limit v e fit room on h = absurd (none-some bound e)
goes_on GreaterEqual Rising bound s first limit v e fit room on h = absurd (none-some bound e)
goes_on Equal Rising bound s first limit v e fit room on h = absurd (none-some bound e)
goes_on Equal Falling bound s first limit v e fit room on h = absurd (none-some bound e)
