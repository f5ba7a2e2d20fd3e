-- The loops of a right nest run where the variables round them have values of the box, and make few vectors.
use Rattle.std.specs.Prelude.{ℕ, zero, suc, Bool, true, false, ◌≡◌, ◌==◌, ◌*◌, ◌<◌, ◌≤◌, ℤ, List, [], ◌∷◌, length}
use Rattle.std.proofs.Common.{refl, sym, ap, ◌∙◌, subst, cond, arith}
use Rattle.std.proofs.lemmas.Bool.{true≢false, eqb-true, eqb-false}
use Rattle.std.proofs.lemmas.Nat.{mul-le}
use Rattle.std.proofs.lemmas.Option.{same_Some}
use Rattle.semantics.specs.Tree.{Variable}
use Rattle.semantics.specs.Loops.Nest.{Loop}
use Rattle.affine.specs.declared.interval.Interval.{Interval}
use Rattle.affine.specs.declared.interval.Side.{Side}
use Rattle.affine.specs.Affine.{value, with_value}
use Rattle.affine.specs.Box.{interval_at, IsInside, Holds}
use Rattle.affine.proofs.Ranges.{not_empty_inside}
use Rattle.affine.proofs.Values.{with_value-same, with_value-other}
use Rattle.affine_expr.specs.Forms.{is_counter}
use Rattle.nest_loop.specs.declared.head.Canonical.{Canonical}
use Rattle.nest_loop.specs.Sides.{Stays, IsSide, after_steps}
use Rattle.nest_loop.specs.Loops.{inside}
use Rattle.nest_loop.specs.Most.{IsMost, somewhere, nowhere}
use Rattle.nest_loop.proofs.Laws.{canonical_well}
use Rattle.nest.specs.Perfect.{HasProduct}
use Rattle.nest_space.specs.Space.{Turns, product}
use Rattle.nest_space.specs.Nests.{IsRunOf}
use Rattle.nest_space.specs.Heads.{AreHeadsOf}
use Rattle.nest_space.specs.Reached.{AreRunsReached}
use Rattle.nest_space.proofs.Reached.{length-reached}
use Rattle.law_turns.proofs.OneLoop.{run_there, run_within, side_there}
use Rattle.law_independence.proofs.Rectangular.{wider_loop}
use Rattle.law_independence.proofs.Agreeing.{run_agrees}

-- one variable more
inside_more : (box : List Side) (v : Variable → ℤ) (x : Variable) (i : Interval) (z : ℤ) → IsInside box v → Holds i z → IsInside (inside box x i) (with_value v x z)
inside_more box v x i z within held y = at (x == y) refl
  where
    at : (b : Bool) → (x == y) ≡ b → Holds (cond b (record { least = i.least; greatest = i.greatest }) (interval_at box y)) (with_value v x z y)
    at true e = subst (Holds i) (sym (with_value-same v x z y (sym (eqb-true x y e)))) held
    at false e = subst (Holds (interval_at box y)) (sym (with_value-other v x z y (λ q. eqb-false x y e (sym q)))) (within y)

pub counted_more : (box : List Side) (x : Variable) (i : Interval) (y : Variable) → is_counter box y ≡ true → is_counter (inside box x i) y ≡ true
counted_more box x i y c = go (x == y)
  where
    go : (b : Bool) → cond b true (is_counter box y) ≡ true
    go true = refl
    go false = c

-- a variable of no loop of a box is none of those of its loops
apart : (box : List Side) (x y : Variable) → is_counter box x ≡ false → is_counter box y ≡ true → y ≡ x → ⊥
apart box x y none c e = true≢false (sym c ∙ ap (is_counter box) e ∙ none)

-- no run of a loop turns oftener than it turns at most
at_most : (box : List Side) (v : Variable → ℤ) (l : Canonical) (most : ℕ) (t : Turns) → IsMost box l most → IsInside box v → IsRunOf l v t → t.count ≤ most
at_most box v l most t (somewhere values there turns no_more) within run = no_more v t.count within run.count
at_most box v l most t (nowhere empty) within run = absurd (not_empty_inside box v within empty)

-- loops that are never reached
idle : List Canonical → List Turns
idle [] = []
idle (l ∷ ls) = record { first = 0; stride = l.stride; count = 0 } ∷ idle ls

length-idle : (ls : List Canonical) → length (idle ls) ≡ length ls
unfolding idle
length-idle [] = refl
length-idle (l ∷ ls) = ap suc (length-idle ls)

module _ (box : List Side) (values : Variable → ℤ) where
  -- they run so at these values, and make at most so many vectors
  pub record RunWithin (ls : List Canonical) (most : ℕ) : Type 0 where
    pub turns : List Turns
    pub runs : AreRunsReached ls values turns
    pub few : product turns ≤ most

  -- one that never turns
  turned_never : (l : Canonical) (ls : List Canonical) (t : Turns) (most : ℕ) → IsRunOf l values t → t.count ≡ 0 → RunWithin (l ∷ ls) most
  turned_never l ls t most run none = record {
    turns = t ∷ idle ls;
    runs = (run, length-idle ls, λ some. absurd (omega arith));
    few = let e : t.count * product (idle ls) ≡ 0 * product (idle ls) = ap (λ n. n * product (idle ls)) none in omega arith;
  }

  -- one that turns, with those inside it
  turned_some : (l : Canonical) (ls : List Canonical) (t : Turns) (m k most : ℕ) → IsRunOf l values t → t.count ≤ m → most ≡ m * k → RunWithin ls k → RunWithin (l ∷ ls) most
  turned_some l ls t m k most run least is inner = record {
    turns = t ∷ inner.turns;
    runs = (run, length-reached ls values inner.turns inner.runs, λ some. inner.runs);
    few = let few = mul-le t.count (product inner.turns) m k least inner.few in omega arith;
  }

  -- where a further box is wider, at a point of it with the same values of the variables of the first
  pub run_within_most : (hs : List Loop) (ls : List Canonical) (big : List Side) (v : Variable → ℤ) (most : ℕ) → AreHeadsOf box hs ls → HasProduct big hs most → IsInside big v
      → ((x : Variable) → is_counter box x ≡ true → is_counter big x ≡ true) → ((x : Variable) → is_counter box x ≡ true → v x ≡ values x) → RunWithin ls most
  run_within_most [] [] big v most heads is within more same = record { turns = []; runs = tt; few = omega arith }
  run_within_most [] (l ∷ ls) big v most heads is within more same = absurd heads
  run_within_most (h ∷ hs) [] big v most heads is within more same = absurd heads
  run_within_most (h ∷ hs) (l ∷ ls) big v most heads (i, m, k, turns, inner, is) within more same =
      go run.0.count refl
      (λ z held.
      run_within_most hs ls (inside big h.variable i) (with_value v h.variable z) k heads.1 inner (inside_more big v h.variable i z within held) (λ x c. counted_more big h.variable i x (more x c))
      (λ x c. with_value-other v h.variable z x (apart box h.variable x heads.0.other c) ∙ same x c))
    where
      one : turns.loop ≡ l
      one = same_Some turns.loop l (sym turns.form ∙ wider_loop box big more h.variable h.start h.test h.step l heads.0.is)

      run : (t : Turns) × IsRunOf l v t
      run = run_there l v (subst (λ (c : Canonical). Stays c v) one (turns.stays v within)) (canonical_well box h.variable h.start h.test h.step l heads.0.is).by_one

      own : IsRunOf l values run.0
      own = run_agrees v values box same h.variable h.start h.test h.step l run.0 heads.0.is run.1

      least : run.0.count ≤ m
      least = at_most big v l m run.0 (subst (λ (c : Canonical). IsMost big c m) one turns.most) within run.1

      go : (n : ℕ) → run.0.count ≡ n → ((z : ℤ) → Holds i z → RunWithin ls k) → RunWithin (l ∷ ls) most
      go zero none inside_it = turned_never l ls run.0 most own none
      go (suc n) some inside_it =
          let turned : 0 < run.0.count = omega arith in
          turned_some l ls run.0 m k most own least is
          (inside_it (after_steps l.stride (value l.start v) 0) (side_there big v l i 0 (subst (λ (c : Canonical). IsSide big c i) one turns.numbers) within (run_within l v run.0 0 run.1 turned)))
