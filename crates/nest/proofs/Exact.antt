-- Inside loops with constant bounds a form is in range over the box exactly where it is at every turn.
use Rattle.std.specs.Prelude.{ℕ, Bool, true, false, ◌≡◌, ◌⊎◌, ◌==◌, ◌+◌, ◌*◌, ◌<◌, ◌≤◌, zero, suc, ℤ, pos, negsuc, ◌+ℤ◌, ◌*ℤ◌, ◌≤ℤ◌, ◌<ℤ◌, List, [], ◌∷◌, Some}
use Rattle.std.proofs.Common.{refl, inl, inr, sym, ap, ◌∙◌, subst, cond, arith, mul-le-mul_left}
use Rattle.std.proofs.Math.Path.{fun_ext}
use Rattle.std.proofs.lemmas.Int.{ints, by_lt_z}
use Rattle.std.proofs.lemmas.Bool.Decides.{Decides-eqb}
use lib.IntN.{zero-*ℤ}
use borrow.Author.Differences.{up, down}
use Rattle.semantics.specs.Tree.{Variable}
use Rattle.affine.specs.declared.term.Term.{Term}
use Rattle.affine.specs.declared.interval.Interval.{Interval}
use Rattle.affine.specs.Affine.{Affine, term_sum, value, with_value}
use Rattle.affine.specs.Box.{interval_at, only_zero, Holds, IsInside}
use Rattle.affine.proofs.Whole.{sum-times}
use Rattle.affine.proofs.Values.{with_value-same}
use Rattle.affine_expr.specs.Forms.{is_counter}
use Rattle.nest_loop.specs.declared.stride.Direction.{Direction}
use Rattle.nest_loop.specs.declared.stride.Direction.TheVariants.{Rising, Falling}
use Rattle.nest_loop.specs.Sides.{moved, walked}
use Rattle.nest.specs.Nests.{StaysBelow}
use Rattle.nest.specs.Turns.{ConstantLoop, variable_of, numbers_of, box_of, AreApart, IsTaken, AreTaken, IsIndex, StaysAtTurns, LeavesAtTurn, RangesAreExact, RefusalsHaveTurns}

-- ---- where one variable alone changes, a form goes along a line

record IsLine (ts : List Term) (v : Variable → ℤ) (x : Variable) : Type 0 where
  start : ℤ
  slope : ℤ
  is : (a : ℤ) → term_sum ts (with_value v x a) ≡ start +ℤ slope *ℤ a

line : (ts : List Term) (v : Variable → ℤ) (x : Variable) → IsLine ts v x
line [] v x = record { start = pos 0; slope = pos 0; is = λ a. nothing (pos 0 *ℤ a) (zero-*ℤ a) }
  where
    nothing : (b : ℤ) → b ≡ pos 0 → pos 0 ≡ pos 0 +ℤ b
    nothing b e = omega (arith, ints)
line (t ∷ ts) v x = by (line ts v x) (t.variable.0 == x) refl
  where
    joined : (p r s q whole : ℤ) → whole ≡ p +ℤ q → p +ℤ (r +ℤ q) ≡ r +ℤ whole
    joined p r s q whole e = omega (arith, ints)

    grouped : (p r q : ℤ) → p +ℤ (r +ℤ q) ≡ (p +ℤ r) +ℤ q
    grouped p r q = omega (arith, ints)

    by : IsLine ts v x → (b : Bool) → t.variable.0 == x ≡ b → IsLine (t ∷ ts) v x
    by rest true e =
        record {
          start = rest.start;
          slope = t.coefficient +ℤ rest.slope;
          is = λ a. ap (λ (m : ℤ). t.coefficient *ℤ m +ℤ term_sum ts (with_value v x a)) (with_value-same v x a t.variable.0 ((Decides-eqb t.variable.0 x).0 e))
              ∙ ap (λ (m : ℤ). t.coefficient *ℤ a +ℤ m) (rest.is a)
              ∙ joined (t.coefficient *ℤ a) rest.start rest.slope (rest.slope *ℤ a) ((t.coefficient +ℤ rest.slope) *ℤ a) (sum-times t.coefficient rest.slope a);
        }
    by rest false e =
        record {
          start = t.coefficient *ℤ v t.variable.0 +ℤ rest.start;
          slope = rest.slope;
          is = λ a. ap (λ (b : Bool). t.coefficient *ℤ cond b a (v t.variable.0) +ℤ term_sum ts (with_value v x a)) e
              ∙ ap (λ (m : ℤ). t.coefficient *ℤ v t.variable.0 +ℤ m) (rest.is a)
              ∙ grouped (t.coefficient *ℤ v t.variable.0) rest.start (rest.slope *ℤ a);
        }

-- what is of a dimension at both ends of a line is so between them
between : (n : ℕ) (start slope low high a : ℤ) → low ≤ℤ a → a ≤ℤ high → IsIndex n (start +ℤ slope *ℤ low) → IsIndex n (start +ℤ slope *ℤ high) → IsIndex n (start +ℤ slope *ℤ a)
between n start (pos s) low high a p q l h =
    let first : up low + down a ≤ up a + down low = omega (arith, ints) in
    let second : up a + down high ≤ up high + down a = omega (arith, ints) in
    let scaled : s * (up low + down a) ≤ s * (up a + down low) = mul-le-mul_left s first in
    let scaled2 : s * (up a + down high) ≤ s * (up high + down a) = mul-le-mul_left s second in
    let rises : (pos s *ℤ low) ≤ℤ (pos s *ℤ a) = omega (arith, ints) in
    let rises2 : (pos s *ℤ a) ≤ℤ (pos s *ℤ high) = omega (arith, ints) in
    within n start (pos s *ℤ low) (pos s *ℤ a) (pos s *ℤ high) rises rises2 l.0 h.1
  where
    within : (n : ℕ) (c x y z : ℤ) → x ≤ℤ y → y ≤ℤ z → pos 0 ≤ℤ (c +ℤ x) → (c +ℤ z) <ℤ pos n → IsIndex n (c +ℤ y)
    within n c x y z d e f g = (omega (arith, ints), omega (arith, ints))
between n start (negsuc s) low high a p q l h =
    let first : up low + down a ≤ up a + down low = omega (arith, ints) in
    let second : up a + down high ≤ up high + down a = omega (arith, ints) in
    let scaled : suc s * (up low + down a) ≤ suc s * (up a + down low) = mul-le-mul_left (suc s) first in
    let scaled2 : suc s * (up a + down high) ≤ suc s * (up high + down a) = mul-le-mul_left (suc s) second in
    let falls : (negsuc s *ℤ a) ≤ℤ (negsuc s *ℤ low) = omega (arith, ints) in
    let falls2 : (negsuc s *ℤ high) ≤ℤ (negsuc s *ℤ a) = omega (arith, ints) in
    within n start (negsuc s *ℤ high) (negsuc s *ℤ a) (negsuc s *ℤ low) falls2 falls h.0 l.1
  where
    within : (n : ℕ) (c x y z : ℤ) → x ≤ℤ y → y ≤ℤ z → pos 0 ≤ℤ (c +ℤ x) → (c +ℤ z) <ℤ pos n → IsIndex n (c +ℤ y)
    within n c x y z d e f g = (omega (arith, ints), omega (arith, ints))

-- the value that a variable has may be given to it
given_again : (v : Variable → ℤ) (x : Variable) → with_value v x (v x) ≡ v
given_again v x = fun_ext (λ y. by y (y == x) refl)
  where
    by : (y : Variable) (b : Bool) → y == x ≡ b → with_value v x (v x) y ≡ v y
    by y true e = with_value-same v x (v x) y ((Decides-eqb y x).0 e) ∙ ap v (sym ((Decides-eqb y x).0 e))
    by y false e = ap (λ (b : Bool). cond b (v x) (v y)) e

-- a form of a dimension at both ends of an interval is so at each of its numbers
along : (f : Affine) (n : ℕ) (v : Variable → ℤ) (x : Variable) (i : Interval) → Holds i (v x) → IsIndex n (value f (with_value v x i.least))
    → IsIndex n (value f (with_value v x i.greatest)) → IsIndex n (value f v)
along f n v x i h low high =
    let l = line f.terms v x in
    let is = λ (a : ℤ). ap (λ (m : ℤ). f.constant +ℤ m) (l.is a) ∙ grouped f.constant l.start (l.slope *ℤ a) in
    let all = between n (f.constant +ℤ l.start) l.slope i.least i.greatest (v x) h.above h.below (subst (IsIndex n) (is i.least) low) (subst (IsIndex n) (is i.greatest) high) in
    subst (λ (w : Variable → ℤ). IsIndex n (value f w)) (given_again v x) (subst (IsIndex n) (sym (is (v x))) all)
  where
    grouped : (a b c : ℤ) → a +ℤ (b +ℤ c) ≡ (a +ℤ b) +ℤ c
    grouped a b c = omega (arith, ints)

-- ---- one loop

-- a value of one of so many turns
abbrev IsStep : Direction → ℕ → ℤ → ℕ → ℤ → Type 0
IsStep d by first n v = (k : ℕ) × (k < n) × (v ≡ moved d first (by * k))

-- the ends of an interval are values of turns, or it has no number
ends_taken : (d : Direction) (by : ℕ) (first : ℤ) (n : ℕ) → 1 ≤ by
    → (IsStep d by first n (walked d by first n).least × IsStep d by first n (walked d by first n).greatest) ⊎ ((a : ℤ) → Holds (walked d by first n) a → ⊥)
ends_taken Rising by first zero one = inr (λ a h. let low = h.above in let high = h.below in let none : by * 0 ≡ 0 = omega arith in omega (arith, ints, low, high))
ends_taken Falling by first zero one = inr (λ a h. let low = h.above in let high = h.below in let none : by * 0 ≡ 0 = omega arith in omega (arith, ints, low, high))
ends_taken Rising by first (suc m) one =
    let apart : by * suc m ≡ by * m + by = omega arith in
    let none : by * 0 ≡ 0 = omega arith in
    inl ((zero, omega arith, omega (arith, ints)), (m, omega arith, omega (arith, ints)))
ends_taken Falling by first (suc m) one =
    let apart : by * suc m ≡ by * m + by = omega arith in
    let none : by * 0 ≡ 0 = omega arith in
    inl ((m, omega arith, omega (arith, ints)), (zero, omega arith, omega (arith, ints)))

-- values of turns are in the interval
taken_held : (d : Direction) (by : ℕ) (first : ℤ) (n : ℕ) (v : ℤ) → IsStep d by first n v → Holds (walked d by first n) v
taken_held Rising by first n v (k, less, is) =
    let so_far : by * suc k ≤ by * n = mul-le-mul_left by less in
    let apart : by * suc k ≡ by * k + by = omega arith in
    record { above = omega (arith, ints); below = omega (arith, ints) }
taken_held Falling by first n v (k, less, is) =
    let so_far : by * suc k ≤ by * n = mul-le-mul_left by less in
    let apart : by * suc k ≡ by * k + by = omega arith in
    record { above = omega (arith, ints); below = omega (arith, ints) }

-- ---- loops inside each other

-- a variable that no loop has is not that of the first, nor of the others
other_than : (c : ConstantLoop) (cs : List ConstantLoop) (y : Variable) → is_counter (box_of (c ∷ cs)) y ≡ false → (variable_of c == y ≡ false) × (is_counter (box_of cs) y ≡ false)
other_than c cs y e = by (variable_of c == y) refl e
  where
    by : (b : Bool) → variable_of c == y ≡ b → cond b true (is_counter (box_of cs) y) ≡ false → (variable_of c == y ≡ false) × (is_counter (box_of cs) y ≡ false)
    by true k h = absurd cc
    by false k h = (k, h)

turned_round : (x y : ℕ) → x == y ≡ false → y == x ≡ false
turned_round x y e = by (y == x) refl
  where
    by : (b : Bool) → y == x ≡ b → b ≡ false
    by true k = absurd (differ ((Decides-eqb x y).1 (sym ((Decides-eqb y x).0 k))))
      where
        differ : x == y ≡ true → ⊥
        differ h = cc
    by false k = refl

-- another value for one variable is not seen at another
not_seen : (v : Variable → ℤ) (x y : Variable) (a : ℤ) → x == y ≡ false → with_value v x a y ≡ v y
not_seen v x y a e = ap (λ (b : Bool). cond b a (v y)) (turned_round x y e)

-- each loop's variable has a number of its interval
AreHeld : List ConstantLoop → (Variable → ℤ) → Type 0
AreHeld [] v = Unit {0}
AreHeld (c ∷ cs) v = Holds (numbers_of c) (v (variable_of c)) × AreHeld cs v

held_other : (cs : List ConstantLoop) (v : Variable → ℤ) (x : Variable) (a : ℤ) → is_counter (box_of cs) x ≡ false → AreHeld cs v → AreHeld cs (with_value v x a)
unfolding AreHeld
held_other [] v x a e h = h
held_other (c ∷ cs) v x a e h =
    let other = other_than c cs x e in
    (subst (Holds (numbers_of c)) (sym (not_seen v x (variable_of c) a (turned_round (variable_of c) x other.0))) h.0, held_other cs v x a other.1 h.1)

-- these are the values of a turn at the variables of the loops, and others elsewhere
record Agrees (loops : List ConstantLoop) (v w : Variable → ℤ) : Type 0 where
  taken : AreTaken loops w
  others : (y : Variable) → is_counter (box_of loops) y ≡ false → w y ≡ v y

agrees_more : (c : ConstantLoop) (cs : List ConstantLoop) (v w : Variable → ℤ) (a : ℤ) → is_counter (box_of cs) (variable_of c) ≡ false → IsTaken c a
    → Agrees cs (with_value v (variable_of c) a) w → Agrees (c ∷ cs) v w
agrees_more c cs v w a apart turn h =
    let x = variable_of c in
    record {
      taken = (subst (IsTaken c) (sym (h.others x apart ∙ with_value-same v x a x refl)) turn, h.taken);
      others = λ y e. let other = other_than c cs y e in h.others y other.1 ∙ not_seen v x y a other.0;
    }

-- these are numbers of the intervals at the variables of the loops, and the others elsewhere
record IsAmong (loops : List ConstantLoop) (v w : Variable → ℤ) : Type 0 where
  held : AreHeld loops w
  others : (y : Variable) → is_counter (box_of loops) y ≡ false → w y ≡ v y

among_rest : (c : ConstantLoop) (cs : List ConstantLoop) (v w : Variable → ℤ) (a : ℤ) → is_counter (box_of cs) (variable_of c) ≡ false → IsAmong (c ∷ cs) v w
    → IsAmong cs (with_value v (variable_of c) a) (with_value w (variable_of c) a)
unfolding AreHeld
among_rest c cs v w a apart h = record { held = held_other cs w x a apart h.held.1; others = λ y e. by y e (x == y) refl }
  where
    x : Variable
    x = variable_of c

    by : (y : Variable) → is_counter (box_of cs) y ≡ false → (b : Bool) → x == y ≡ b → with_value w x a y ≡ with_value v x a y
    by y e true k =
        let same : y ≡ x = sym ((Decides-eqb x y).0 k) in
        with_value-same w x a y same ∙ sym (with_value-same v x a y same)
    by y e false k =
        not_seen w x y a k ∙ h.others y (ap (λ (b : Bool). cond b true (is_counter (box_of cs) y)) k ∙ e) ∙ sym (not_seen v x y a k)

-- a form that is not of a dimension at a turn
record Leaves (loops : List ConstantLoop) (f : Affine) (n : ℕ) (v : Variable → ℤ) : Type 0 where
  values : Variable → ℤ
  agrees : Agrees loops v values
  leaves : IsIndex n (value f values) → ⊥

-- it is of a dimension over the whole box
abbrev StaysAmong : List ConstantLoop → Affine → ℕ → (Variable → ℤ) → Type 0
StaysAmong loops f n v = (w : Variable → ℤ) → IsAmong loops v w → IsIndex n (value f w)

is_index : (n : ℕ) (m : ℤ) → IsIndex n m ⊎ (IsIndex n m → ⊥)
is_index n m =
    by_lt_z m (pos 0) (λ (below : m <ℤ pos 0). inr (λ h. let low = h.0 in omega (arith, ints, low, below)))
    (λ (above : pos 0 ≤ℤ m). by_lt_z m (pos n) (λ (less : m <ℤ pos n). inl (above, less)) (λ (far : pos n ≤ℤ m). inr (λ h. let high = h.1 in omega (arith, ints, high, far))))

-- the corners decide, loop by loop
searched : (loops : List ConstantLoop) (f : Affine) (n : ℕ) (v : Variable → ℤ) → AreApart loops → StaysAmong loops f n v ⊎ Leaves loops f n v
unfolding AreHeld
searched [] f n v apart = by (is_index n (value f v))
  where
    by : IsIndex n (value f v) ⊎ (IsIndex n (value f v) → ⊥) → StaysAmong [] f n v ⊎ Leaves [] f n v
    by (inl h) = inl (λ w among. subst (λ (u : Variable → ℤ). IsIndex n (value f u)) (sym (fun_ext (λ y. among.others y refl))) h)
    by (inr h) = inr (record { values = v; agrees = record { taken = tt; others = λ y e. refl }; leaves = h })
searched (c ∷ cs) f n v apart =
    by (ends_taken c.loop.stride.direction c.loop.stride.by c.loop.start.constant c.count c.by_one) (searched cs f n (with_value v x i.least) apart.1) (searched cs f n (with_value v x i.greatest) apart.1)
  where
    x : Variable
    x = variable_of c

    i : Interval
    i = numbers_of c

    found : (a : ℤ) → IsTaken c a → Leaves cs f n (with_value v x a) → Leaves (c ∷ cs) f n v
    found a turn l = record { values = l.values; agrees = agrees_more c cs v l.values a apart.0 turn l.agrees; leaves = l.leaves }

    by : (IsTaken c i.least × IsTaken c i.greatest) ⊎ ((a : ℤ) → Holds i a → ⊥) → StaysAmong cs f n (with_value v x i.least) ⊎ Leaves cs f n (with_value v x i.least)
        → StaysAmong cs f n (with_value v x i.greatest) ⊎ Leaves cs f n (with_value v x i.greatest) → StaysAmong (c ∷ cs) f n v ⊎ Leaves (c ∷ cs) f n v
    by (inr none) low high = inl (λ w among. absurd (none (w x) among.held.0))
    by (inl ends) (inr low) high = inr (found i.least ends.0 low)
    by (inl ends) (inl low) (inr high) = inr (found i.greatest ends.1 high)
    by (inl ends) (inl low) (inl high) =
        inl (λ w among. along f n w x i among.held.0 (low (with_value w x i.least) (among_rest c cs v w i.least apart.0 among)) (high (with_value w x i.greatest) (among_rest c cs v w i.greatest apart.0 among)))

-- where a box has no side for a variable, it is 0
only_zero_elsewhere : (cs : List ConstantLoop) (y : Variable) → is_counter (box_of cs) y ≡ false → interval_at (box_of cs) y ≡ only_zero
only_zero_elsewhere [] y e = refl
only_zero_elsewhere (c ∷ cs) y e =
    let other = other_than c cs y e in
    ap (λ (b : Bool). cond b (numbers_of c) (interval_at (box_of cs) y)) other.0 ∙ only_zero_elsewhere cs y other.1

zero_elsewhere : (cs : List ConstantLoop) (v : Variable → ℤ) → IsInside (box_of cs) v → (y : Variable) → is_counter (box_of cs) y ≡ false → v y ≡ pos 0
zero_elsewhere cs v h y e = alone (v y) (subst (λ (i : Interval). Holds i (v y)) (only_zero_elsewhere cs y e) (h y))
  where
    alone : (m : ℤ) → Holds only_zero m → m ≡ pos 0
    alone m k = let low = k.above in let high = k.below in omega (arith, ints, low, high)

held_inside : (cs : List ConstantLoop) (v : Variable → ℤ) → AreApart cs → ((y : Variable) → is_counter (box_of cs) y ≡ true → Holds (interval_at (box_of cs) y) (v y)) → AreHeld cs v
unfolding AreHeld
held_inside [] v apart h = tt
held_inside (c ∷ cs) v apart h =
    let x = variable_of c in
    let own : x == x ≡ true = (Decides-eqb x x).1 refl in
    let first = h x (ap (λ (b : Bool). cond b true (is_counter (box_of cs) x)) own) in (
      subst (λ (b : Bool). Holds (cond b (numbers_of c) (interval_at (box_of cs) x)) (v x)) own first,
      held_inside cs v apart.1 (λ y e. rest y e (x == y) refl),
    )
  where
    rest : (y : Variable) → is_counter (box_of cs) y ≡ true → (b : Bool) → variable_of c == y ≡ b → Holds (interval_at (box_of cs) y) (v y)
    rest y e true k = absurd (none (ap (λ (z : ℕ). is_counter (box_of cs) z) ((Decides-eqb (variable_of c) y).0 k)))
      where
        none : is_counter (box_of cs) (variable_of c) ≡ is_counter (box_of cs) y → ⊥
        none same = let apart = apart.0 in absurd cc
    rest y e false k =
        subst (λ (b : Bool). Holds (cond b (numbers_of c) (interval_at (box_of cs) y)) (v y)) k
        (h y (ap (λ (b : Bool). cond b true (is_counter (box_of cs) y)) k ∙ e))

-- so is a turn inside the box
turn_inside : (cs : List ConstantLoop) (w : Variable → ℤ) (y : Variable) → AreTaken cs w → (is_counter (box_of cs) y ≡ false → w y ≡ pos 0) → Holds (interval_at (box_of cs) y) (w y)
turn_inside [] w y h zero_there = subst (Holds only_zero) (sym (zero_there refl)) (record { above = omega (arith, ints); below = omega (arith, ints) })
turn_inside (c ∷ cs) w y h zero_there = by (turn_inside cs w y h.1) (variable_of c == y) refl
  where
    by : ((is_counter (box_of cs) y ≡ false → w y ≡ pos 0) → Holds (interval_at (box_of cs) y) (w y)) → (b : Bool) → variable_of c == y ≡ b
        → Holds (cond (variable_of c == y) (numbers_of c) (interval_at (box_of cs) y)) (w y)
    by rest true k =
        subst (λ (b : Bool). Holds (cond b (numbers_of c) (interval_at (box_of cs) y)) (w y)) (sym k)
        (subst (λ (z : ℕ). Holds (numbers_of c) (w z)) ((Decides-eqb (variable_of c) y).0 k)
        (taken_held c.loop.stride.direction c.loop.stride.by c.loop.start.constant c.count (w (variable_of c)) h.0))
    by rest false k =
        subst (λ (b : Bool). Holds (cond b (numbers_of c) (interval_at (box_of cs) y)) (w y)) (sym k)
        (rest (λ e. zero_there (ap (λ (b : Bool). cond b true (is_counter (box_of cs) y)) k ∙ e)))

-- over the whole box, or not at some turn
decided_at_turns : (loops : List ConstantLoop) (n : ℕ) (f : Affine) → AreApart loops → StaysBelow (box_of loops) n (Some f) ⊎ LeavesAtTurn loops n f
decided_at_turns loops n f apart = by (searched loops f n (λ x. pos 0) apart)
  where
    by : StaysAmong loops f n (λ x. pos 0) ⊎ Leaves loops f n (λ x. pos 0) → StaysBelow (box_of loops) n (Some f) ⊎ LeavesAtTurn loops n f
    by (inl stays) = inl (λ v inside. stays v (record { held = held_inside loops v apart (λ y e. inside y); others = zero_elsewhere loops v inside }))
    by (inr l) = inr (record { values = l.values; turn = record { taken = l.agrees.taken; others = l.agrees.others }; leaves = l.leaves })

pub ranges_are_exact : RangesAreExact
ranges_are_exact loops n f apart = (λ stays w turn. stays w (λ y. turn_inside loops w y turn.taken (turn.others y)), λ stays. by stays (decided_at_turns loops n f apart))
  where
    by : StaysAtTurns loops n f → StaysBelow (box_of loops) n (Some f) ⊎ LeavesAtTurn loops n f → StaysBelow (box_of loops) n (Some f)
    by stays (inl below) = below
    by stays (inr l) = absurd (l.leaves (stays l.values l.turn))

pub refusals_have_turns : RefusalsHaveTurns
refusals_have_turns loops n f apart refused = by (decided_at_turns loops n f apart)
  where
    by : StaysBelow (box_of loops) n (Some f) ⊎ LeavesAtTurn loops n f → LeavesAtTurn loops n f
    by (inl stays) = absurd (refused stays)
    by (inr l) = l
