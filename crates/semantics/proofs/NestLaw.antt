-- A canonical rising loop's variable counts up by its step.
use Rattle.std.specs.Prelude.{ℕ, zero, suc, Bool, true, false, ◌==◌, ◌≡◌, ◌+◌, ◌*◌, ◌<◌, ◌≤◌, ◌^◌, nat_lt, [], ◌∷◌, Some, None}
use Rattle.std.proofs.Common.{refl, ap, ◌∙◌, cond, arith}
use Rattle.std.proofs.Math.Path.{fun_ext}
use Rattle.std.proofs.lemmas.Bool.{eq-eqb, lt-ltb, le-ltb}
use Rattle.semantics.specs.Tree.{Variable, Expr, Object, no_exprs, Source, Plus}
use Rattle.std.proofs.Math.Nat.{suc-mul, mod-eq_of_lt}
use Rattle.std.specs.Prelude.{option_and_then}
use Rattle.semantics.specs.Meaning.State.{State, Slot, Holds, Assigned, with_local, look, look_in, is_object_in, assign_at, overwritten}
use Rattle.semantics.specs.Meaning.Runs.{incremented, assigned, one_write}
use Rattle.semantics.specs.Meaning.Value.{value, holds, both, both_then, by_test, operate}
use Rattle.semantics.specs.Loops.Nest.{Loop, values_from, at_value, counting, rising_loop}
use Rattle.semantics.specs.Laws.{RisingLoopsCount}

-- what was set is read
pub local_same : (s : State) (x : Variable) (slot : Slot) → (with_local s x slot).locals x ≡ slot
local_same s x slot = ap (λ b. cond b slot (s.locals x)) (eq-eqb x x refl)

-- a local set twice
pub local_twice : (s : State) (x : Variable) (a b : Slot) → with_local (with_local s x a) x b ≡ with_local s x b
local_twice s x a b = λ i. record { cells = s.cells; locals = fun_ext (λ y. twice (y == x) (s.locals y)) i }
  where
    twice : (t : Bool) (c : Slot) → cond t b (cond t a c) ≡ cond t b c
    twice true c = refl
    twice false c = refl

module _ (st : State) (x : Variable) (u s : ℕ) (start : Source) (bound : Expr) (fixed : (v : ℕ) → value (at_value st x v) bound ≡ Some u) (room : u + s ≤ 2 ^ 64) where
  abbrev loop : Loop
  loop = rising_loop x start bound s

  seen : (v : ℕ) → value (at_value st x v) (Object x no_exprs) ≡ Some v
  seen v = ap (λ slot. look_in slot (at_value st x v) x []) (local_same st x (Holds v))

  tested : (v : ℕ) → holds (at_value st x v) loop.test ≡ Some (nat_lt v u)
  tested v = ap (λ o. both nat_lt o (value (at_value st x v) bound)) (seen v) ∙ ap (λ o. both nat_lt (Some v) o) (fixed v)

  stepped : (v : ℕ) → v + s < 2 ^ 64 → incremented (at_value st x v) loop.step ≡ Some (one_write (Assigned x [] (v + s)))
  stepped v lt =
      ap (λ o. assigned (at_value st x v) x (Some []) (both_then (operate Plus) o (Some s))) (seen v)
      ∙ ap (λ w. assigned (at_value st x v) x (Some []) (Some w)) (mod-eq_of_lt lt)
      ∙ ap (λ slot. cond (is_object_in slot (at_value st x v) x []) (Some (one_write (Assigned x [] (v + s)))) None) (local_same st x (Holds v))

  after : (v w : ℕ) → overwritten (at_value st x v) (Assigned x [] w ∷ []) ≡ at_value st x w
  after v w = ap (λ slot. assign_at slot (at_value st x v) x [] w) (local_same st x (Holds v)) ∙ local_twice st x (Holds v) (Holds w)

  -- where the test fails no value is left
  stops : (n v : ℕ) → u ≤ v → values_from n loop (at_value st x v) ≡ Some []
  stops zero v le = rw (tested v, le-ltb v u le) refl
  stops (suc n) v le = rw (tested v, le-ltb v u le) refl

  goes_on : (n v : ℕ) → v < u → values_from (suc n) loop (at_value st x v) ≡ both (λ w ws. w ∷ ws) (Some v) (values_from n loop (at_value st x (v + s)))
  goes_on n v lt =
      let fits : v + s < 2 ^ 64 = omega arith in
      ap (λ o. by_test o (both (λ w ws. w ∷ ws) (look (at_value st x v) x []) (option_and_then (λ e. values_from n loop (overwritten (at_value st x v) e.writes)) (incremented (at_value st x v) loop.step))) (Some [])) (tested v ∙ ap Some (lt-ltb v u lt))
      ∙ ap (λ o. both (λ w ws. w ∷ ws) o (option_and_then (λ e. values_from n loop (overwritten (at_value st x v) e.writes)) (incremented (at_value st x v) loop.step))) (seen v)
      ∙ ap (λ o. both (λ w ws. w ∷ ws) (Some v) (option_and_then (λ e. values_from n loop (overwritten (at_value st x v) e.writes)) o)) (stepped v fits)
      ∙ ap (λ t. both (λ w ws. w ∷ ws) (Some v) (values_from n loop t)) (after v (v + s))

  -- the values v, v + s, .. below u
  pub rising : (m n v : ℕ) → m ≤ n → ((k : ℕ) → k < m → v + k * s < u) → u ≤ v + m * s → values_from n loop (at_value st x v) ≡ Some (counting v s m)
  rising zero n v le before end = stops n v (omega arith)
  rising (suc m) zero v le before end = absurd (omega arith)
  rising (suc m) (suc n) v le before end =
      let rest = rising m n (v + s) (omega arith) (λ k lt. omega (arith, before (suc k) (omega arith), suc-mul k s)) (omega (arith, suc-mul m s)) in
      goes_on n v (omega (arith, before 0 (omega arith))) ∙ ap (λ o. both (λ w ws. w ∷ ws) (Some v) o) rest

pub rising_loops_count : RisingLoopsCount
rising_loops_count st x u s m n v start bound fixed room le before end = rising st x u s start bound fixed room m n v le before end
