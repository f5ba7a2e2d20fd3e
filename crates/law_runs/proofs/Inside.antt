-- Into one loop more, and out of it.
use Rattle.std.specs.Prelude.{ℕ, Bool, true, false, ◌≡◌, ◌==◌, ◌<◌, ◌^◌, ℤ, pos, List, unsigned_abs}
use Rattle.std.proofs.Common.{refl, sym, ap, ◌∙◌, subst, cond, arith}
use Rattle.std.proofs.lemmas.Bool.{eqb-true, eqb-false, eq-eqb, ne_eqb}
use Rattle.semantics.specs.Tree.{Variable}
use Rattle.semantics.specs.Meaning.State.{State, Holds}
use Rattle.affine.specs.declared.interval.Interval.{Interval}
use Rattle.affine.specs.declared.interval.Side.{Side}
use Rattle.affine.specs.Affine.{with_value}
use Rattle.affine.specs.Box.{interval_at, IsInside, Holds as IsHeld}
use Rattle.affine.proofs.Values.{with_value-same, with_value-other}
use Rattle.affine_expr.specs.Forms.{is_counter}
use Rattle.nest_loop.specs.Loops.{inside}
use Rattle.nest_loop.specs.Turn.{HoldsValue, AtTurn}

module _ (box : List Side) (values : Variable → ℤ) (x : Variable) (i : Interval) (s : State) where
  -- a turn of one loop more
  pub turn_inside : (v : ℕ) → AtTurn box values s → s.locals x ≡ Holds v → v < 2 ^ 64 → IsHeld i (pos v) → AtTurn (inside box x i) (with_value values x (pos v)) s
  turn_inside v turn held less within = record { inside = λ y. at y (x == y) refl; counters = λ y c. counter y (x == y) refl c }
    where
      at : (y : Variable) (b : Bool) → (x == y) ≡ b → IsHeld (cond b (record { least = i.least; greatest = i.greatest }) (interval_at box y)) (with_value values x (pos v) y)
      at y true e = subst (IsHeld i) (sym (with_value-same values x (pos v) y (sym (eqb-true x y e)))) within
      at y false e = subst (IsHeld (interval_at box y)) (sym (with_value-other values x (pos v) y (λ q. eqb-false x y e (sym q)))) (turn.inside y)

      counter : (y : Variable) (b : Bool) → (x == y) ≡ b → cond b true (is_counter box y) ≡ true → HoldsValue (s.locals y) (with_value values x (pos v) y)
      counter y true e c =
          let same = eqb-true x y e in
          record { number = v; held = ap s.locals (sym same) ∙ held; is = with_value-same values x (pos v) y (sym same); below = less }
      counter y false e c = subst (HoldsValue (s.locals y)) (sym (with_value-other values x (pos v) y (λ q. eqb-false x y e (sym q)))) (turn.counters y c)

  -- the turn of the loops round it
  pub turn_outside : (z : ℤ) → IsInside box values → ((y : Variable) → is_counter box y ≡ true → y < x) → AtTurn (inside box x i) (with_value values x z) s → AtTurn box values s
  turn_outside z within below turn = record { inside = within; counters = counter }
    where
      counter : (y : Variable) → is_counter box y ≡ true → HoldsValue (s.locals y) (values y)
      counter y c =
          let lt = below y c in
          let other : (x == y) ≡ false = ne_eqb x y (λ e. omega arith) in
          subst (HoldsValue (s.locals y)) (with_value-other values x z y (λ e. omega arith)) (turn.counters y (ap (λ b. cond b true (is_counter box y)) other ∙ c))

  -- the loop's own variable
  pub own_value : (v : ℕ) → AtTurn (inside box x i) (with_value values x (pos v)) s → s.locals x ≡ Holds v
  own_value v turn =
      let own : (x == x) ≡ true = eq-eqb x x refl in
      let held = turn.counters x (ap (λ b. cond b true (is_counter box x)) own) in
      let same : v ≡ held.number = ap unsigned_abs (sym (with_value-same values x (pos v) x refl) ∙ held.is) in
      held.held ∙ ap Holds (sym same)
