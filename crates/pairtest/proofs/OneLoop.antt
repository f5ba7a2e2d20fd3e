-- One loop, and one subscript with the same coefficient on both sides.
use Rattle.std.proofs.Common.{◌≡◌, ℕ, ℤ, pos, negsuc, zero, suc, ◌+◌, ◌-◌, ◌*◌, ◌/◌, ◌<◌, ◌≤◌, ◌%◌, ◌+ℤ◌, ◌-ℤ◌, ◌*ℤ◌, ◌<ℤ◌, ◌≤ℤ◌, ◌⊎◌, inl, inr, Bool, true, false, nat_lt, unsigned_abs, List, [], ◌∷◌, ◌++◌, length, get_or, All, Any, mul-le-mul_left, refl, sym, ap, ◌∙◌, subst, arith}
use Rattle.std.specs.Int.{◌∣◌, int_min, int_max}
use Rattle.std.specs.Prelude.{nat_eq, slice_index}
use Rattle.std.specs.List.{zip}
use Rattle.std.proofs.lemmas.Int.{ints, clamps, by_lt_z}
use Rattle.std.proofs.lemmas.Nat.Gcd.{dvd-zero, dvd_refl, dvd_of_mod-eq-zero}
use Rattle.std.proofs.Math.Nat.{mul-div_cancel', mul-suc, mod-eq-zero_of_dvd}
use Rattle.std.proofs.lemmas.Bool.Decides.{Decides-eqb, Decides-ltb, nat_tests}
use Rattle.std.proofs.lemmas.List.Elements.{All-nil, All-cons, All-head, All-tail}
use Rattle.pairtest.specs.declared.access.Subscript.{Subscript}
use Rattle.pairtest.specs.declared.access.Access.{Access}
use Rattle.pairtest.specs.declared.access.Nest.{Nest}
use Rattle.pairtest.specs.Equations.{Unknown, unknown, Equation, equation, least_sum, greatest_sum, IsGreatestDivisor, IsRefuted}
use Rattle.pairtest.specs.DirectionVectors.{coefficient, counters, unknowns, direction_equation, dimensions, IsDirectionRefuted}
use Rattle.pairtest.specs.Meetings.{Turn, value_at, counter_sum, AreBelow, IsTurn, Meet, IsOneLoop, lone, IsLine, LinesMeet, OneLoopIsExact}
use Rattle.pairtest.proofs.Solutions.{times-sum, times-one, zero-times, difference-times, refuted_pairs_do_not_meet_lem}

-- the equation of one loop
pub line_unknowns : ℤ → ℕ → List Unknown
line_unknowns a n = unknown (a -ℤ a) (n - 1) ∷ unknown (pos 0 -ℤ a) (n - 1) ∷ []

-- the first iteration and one that is q + 1 later
line_meets : (n : ℕ) (a b c : ℤ) (q : ℕ) → q + 1 < n → ((c -ℤ b) +ℤ a) +ℤ a *ℤ pos q ≡ pos 0 → LinesMeet n a b c
line_meets n a b c q l e =
    let far : pos (q + 1) ≡ pos q +ℤ pos 1 = omega (arith, ints) in
    let none : a *ℤ pos 0 ≡ pos 0 = omega (arith, ints) in
    let next : a *ℤ pos (q + 1) ≡ a *ℤ pos q +ℤ a =
    ap (λ (z : ℤ). a *ℤ z) far ∙ times-sum (pos q) (pos 1) a ∙ ap (λ (z : ℤ). a *ℤ pos q +ℤ z) (times-one a) in
    record {
      k = 0;
      l = q + 1;
      k_below = omega (arith, l);
      l_below = l;
      apart = λ (z : 0 ≡ q + 1). omega (arith, z);
      equal = joined (a *ℤ pos 0) (a *ℤ pos (q + 1)) (a *ℤ pos q) none next e;
    }
  where
    joined : (u v w : ℤ) → u ≡ pos 0 → v ≡ w +ℤ a → ((c -ℤ b) +ℤ a) +ℤ w ≡ pos 0 → u +ℤ b ≡ v +ℤ c
    joined u v w p r s = omega (arith, ints)

line_divisor : (a : ℤ) (n : ℕ) → IsGreatestDivisor (line_unknowns a n) (unsigned_abs a)
unfolding line_unknowns
line_divisor a n =
    let P : Unknown → Type 0 = λ u. unsigned_abs a ∣ unsigned_abs u.coefficient in
    let none : 0 ≡ unsigned_abs (a -ℤ a) = omega (arith, ints) in
    let size : unsigned_abs a ≡ unsigned_abs (pos 0 -ℤ a) = omega (arith, ints) in
    record {
      divides = All-cons P (unknown (a -ℤ a) (n - 1)) (unknown (pos 0 -ℤ a) (n - 1) ∷ []) (subst (λ (m : ℕ). unsigned_abs a ∣ m) none (dvd-zero (unsigned_abs a)))
          (All-cons P (unknown (pos 0 -ℤ a) (n - 1)) [] (subst (λ (m : ℕ). unsigned_abs a ∣ m) size (dvd_refl (unsigned_abs a))) (All-nil P));
      greatest = λ d all. subst (λ (m : ℕ). d ∣ m) (sym size) (all 1 (unknown (pos 0) 0) (omega arith));
    }

-- the products at the last value
line_product : (a : ℤ) (w : ℕ) → ((a -ℤ a) *ℤ pos w ≡ pos 0) × ((pos 0 -ℤ a) *ℤ pos w +ℤ a *ℤ pos w ≡ pos 0)
line_product a w =
    let none : a -ℤ a ≡ pos 0 = omega (arith, ints) in
    (ap (λ (z : ℤ). z *ℤ pos w) none ∙ zero-times (pos w), difference-times (pos 0) a (pos w) ∙ zero-times (pos w))

-- below the least value
line_below : (a r : ℤ) (n : ℕ) → (r +ℤ a *ℤ pos (n - 1 - 1)) <ℤ pos 0 → r <ℤ pos 0 → IsRefuted (equation (line_unknowns a n) r)
unfolding line_unknowns
line_below a r n low less =
    let p = line_product a (n - 1 - 1) in
    inr (inl (bound ((a -ℤ a) *ℤ pos (n - 1 - 1)) ((pos 0 -ℤ a) *ℤ pos (n - 1 - 1)) (a *ℤ pos (n - 1 - 1)) p.0 p.1 low))
  where
    bound : (u v w : ℤ) → u ≡ pos 0 → v +ℤ w ≡ pos 0 → (r +ℤ w) <ℤ pos 0 → r <ℤ (int_min u (pos 0) +ℤ (int_min v (pos 0) +ℤ pos 0))
    bound u v w e f g = omega (arith, ints, clamps, less, g, e, f)

line_above : (a r : ℤ) (n : ℕ) → pos 0 <ℤ (r +ℤ a *ℤ pos (n - 1 - 1)) → pos 0 <ℤ r → IsRefuted (equation (line_unknowns a n) r)
unfolding line_unknowns
line_above a r n high more =
    let p = line_product a (n - 1 - 1) in
    inr (inr (bound ((a -ℤ a) *ℤ pos (n - 1 - 1)) ((pos 0 -ℤ a) *ℤ pos (n - 1 - 1)) (a *ℤ pos (n - 1 - 1)) p.0 p.1 high))
  where
    bound : (u v w : ℤ) → u ≡ pos 0 → v +ℤ w ≡ pos 0 → pos 0 <ℤ (r +ℤ w) → (int_max u (pos 0) +ℤ (int_max v (pos 0) +ℤ pos 0)) <ℤ r
    bound u v w e f g = omega (arith, ints, clamps, more, g, e, f)

-- a right side that is a multiple of the coefficient: the iterations q + 1 apart meet, or the right side is outside
line_multiple : (n : ℕ) (a b c : ℤ) (q : ℕ) → 2 ≤ n → unsigned_abs ((c -ℤ b) +ℤ a) ≡ unsigned_abs a * q → ¬ (LinesMeet n a b c)
    → IsRefuted (equation (line_unknowns a n) ((c -ℤ b) +ℤ a))
line_multiple n (pos zero) b c q l is none =
    let size : unsigned_abs ((c -ℤ b) +ℤ pos 0) ≡ 0 = omega (arith, is) in
    absurd (none (line_meets n (pos 0) b c 0 (omega (arith, l)) (omega (arith, ints, size))))
line_multiple n (pos (suc a)) b c q l is none =
    by_lt_z (pos 0) ((c -ℤ b) +ℤ pos (suc a))
    (λ (more : pos 0 <ℤ ((c -ℤ b) +ℤ pos (suc a))). line_above (pos (suc a)) ((c -ℤ b) +ℤ pos (suc a)) n (omega (arith, ints, more)) more)
    (λ (less : ((c -ℤ b) +ℤ pos (suc a)) ≤ℤ pos 0). by (nat_lt (q + 1) n) refl less)
  where
    by : (t : Bool) → nat_lt (q + 1) n ≡ t → ((c -ℤ b) +ℤ pos (suc a)) ≤ℤ pos 0 → IsRefuted (equation (line_unknowns (pos (suc a)) n) ((c -ℤ b) +ℤ pos (suc a)))
    by true e less =
        absurd (none (line_meets n (pos (suc a)) b c q ((Decides-ltb (q + 1) n).0 e) (omega (arith, ints, is, less))))
    by false e less =
        let far : n ≤ q + 1 = grind (arith, nat_tests) in
        let scaled : suc a * suc (n - 1 - 1) ≤ suc a * q = mul-le-mul_left (suc a) (omega (arith, far, l)) in
        let step : suc a * suc (n - 1 - 1) ≡ suc a * (n - 1 - 1) + suc a = mul-suc (suc a) (n - 1 - 1) in
        line_below (pos (suc a)) ((c -ℤ b) +ℤ pos (suc a)) n (omega (arith, ints, scaled, step, is, less)) (omega (arith, ints, scaled, step, is, less))
line_multiple n (negsuc a) b c q l is none =
    by_lt_z ((c -ℤ b) +ℤ negsuc a) (pos 0)
    (λ (less : ((c -ℤ b) +ℤ negsuc a) <ℤ pos 0). line_below (negsuc a) ((c -ℤ b) +ℤ negsuc a) n (omega (arith, ints, less)) less)
    (λ (more : pos 0 ≤ℤ ((c -ℤ b) +ℤ negsuc a)). by (nat_lt (q + 1) n) refl more)
  where
    by : (t : Bool) → nat_lt (q + 1) n ≡ t → pos 0 ≤ℤ ((c -ℤ b) +ℤ negsuc a) → IsRefuted (equation (line_unknowns (negsuc a) n) ((c -ℤ b) +ℤ negsuc a))
    by true e more =
        absurd (none (line_meets n (negsuc a) b c q ((Decides-ltb (q + 1) n).0 e) (omega (arith, ints, is, more))))
    by false e more =
        let far : n ≤ q + 1 = grind (arith, nat_tests) in
        let scaled : suc a * suc (n - 1 - 1) ≤ suc a * q = mul-le-mul_left (suc a) (omega (arith, far, l)) in
        let step : suc a * suc (n - 1 - 1) ≡ suc a * (n - 1 - 1) + suc a = mul-suc (suc a) (n - 1 - 1) in
        line_above (negsuc a) ((c -ℤ b) +ℤ negsuc a) n (omega (arith, ints, scaled, step, is, more)) (omega (arith, ints, scaled, step, is, more))

-- where no two iterations meet, there are fewer than two, or the equation is refuted
line_refuted : (n : ℕ) (a b c : ℤ) → ¬ (LinesMeet n a b c) → (n < 2) ⊎ IsRefuted (equation (line_unknowns a n) ((c -ℤ b) +ℤ a))
line_refuted n a b c none = few (nat_lt n 2) refl
  where
    multiple : 2 ≤ n → (t : Bool) → nat_eq (unsigned_abs ((c -ℤ b) +ℤ a) % unsigned_abs a) 0 ≡ t → IsRefuted (equation (line_unknowns a n) ((c -ℤ b) +ℤ a))
    multiple l true e =
        let divides : unsigned_abs a ∣ unsigned_abs ((c -ℤ b) +ℤ a) = dvd_of_mod-eq-zero (unsigned_abs a) ((Decides-eqb (unsigned_abs ((c -ℤ b) +ℤ a) % unsigned_abs a) 0).0 e) in
        line_multiple n a b c (unsigned_abs ((c -ℤ b) +ℤ a) / unsigned_abs a) l (sym (mul-div_cancel' (unsigned_abs a) divides)) none
    multiple l false e =
        inl (
        record {
          divisor = unsigned_abs a;
          greatest = line_divisor a n;
          remains =
              λ (d : unsigned_abs a ∣ unsigned_abs ((c -ℤ b) +ℤ a)).
              let t : nat_eq (unsigned_abs ((c -ℤ b) +ℤ a) % unsigned_abs a) 0 ≡ true = (Decides-eqb (unsigned_abs ((c -ℤ b) +ℤ a) % unsigned_abs a) 0).1 (mod-eq-zero_of_dvd (unsigned_abs a) d) in
              absurd cc;
        }
        )

    few : (t : Bool) → nat_lt n 2 ≡ t → (n < 2) ⊎ IsRefuted (equation (line_unknowns a n) ((c -ℤ b) +ℤ a))
    few true e = inl ((Decides-ltb n 2).0 e)
    few false e = inr (multiple (grind (arith, nat_tests)) (nat_eq (unsigned_abs ((c -ℤ b) +ℤ a) % unsigned_abs a) 0) refl)

-- ---- serial loops that do not count

-- an unknown without a coefficient changes nothing
idle_more : (us : List Unknown) (m : ℕ) (r : ℤ) → IsRefuted (equation us r) → IsRefuted (equation (unknown (pos 0) m ∷ us) r)
idle_more us m r (inl d) =
    let P : ℕ → Unknown → Type 0 = λ g u. g ∣ unsigned_abs u.coefficient in
    inl (
    record {
      divisor = d.divisor;
      greatest =
          record {
            divides = All-cons (P d.divisor) (unknown (pos 0) m) us (dvd-zero d.divisor) d.greatest.divides;
            greatest = λ g all. d.greatest.greatest g (All-tail (P g) (unknown (pos 0) m) us all);
          };
      remains = d.remains;
    }
    )
idle_more us m r (inr (inl less)) = inr (inl (bound (pos 0 *ℤ pos (m - 1)) (least_sum us) (zero-times (pos (m - 1))) less))
  where
    bound : (u v : ℤ) → u ≡ pos 0 → r <ℤ v → r <ℤ (int_min u (pos 0) +ℤ v)
    bound u v e f = omega (arith, ints, clamps, e, f)
idle_more us m r (inr (inr more)) = inr (inr (bound (pos 0 *ℤ pos (m - 1)) (greatest_sum us) (zero-times (pos (m - 1))) more))
  where
    bound : (u v : ℤ) → u ≡ pos 0 → v <ℤ r → (int_max u (pos 0) +ℤ v) <ℤ r
    bound u v e f = omega (arith, ints, clamps, e, f)

-- the unknowns of serial loops, and those of the loop behind them
idle : List ℕ → List Unknown → List Unknown
idle [] us = us
idle (m ∷ ms) us = unknown (pos 0) m ∷ idle ms us

idle_all : (ms : List ℕ) (us : List Unknown) (r : ℤ) → IsRefuted (equation us r) → IsRefuted (equation (idle ms us) r)
unfolding idle
idle_all [] us r h = h
idle_all (m ∷ ms) us r h = idle_more (idle ms us) m r (idle_all ms us r h)

lone_counters : (ms : List ℕ) (a : ℤ) (us : List Unknown) → counters (lone ms a) (lone ms a) (ms ++ []) ++ us ≡ idle ms us
unfolding idle
lone_counters [] a us = refl
lone_counters (m ∷ ms) a us = ap (λ (vs : List Unknown). unknown (pos 0) m ∷ vs) (lone_counters ms a us)

lone_at : (ms : List ℕ) (a : ℤ) → coefficient (lone ms a) (length ms) ≡ a
lone_at [] a = refl
lone_at (m ∷ ms) a = lone_at ms a

lone_coefficient : (ms : List ℕ) (a : ℤ) → coefficient (lone ms a) (length ms + 0) ≡ a
lone_coefficient ms a =
    let here : length ms + 0 ≡ length ms = omega arith in
    ap (coefficient (lone ms a)) here ∙ lone_at ms a

-- the unknowns of the case of the only loop
lone_unknowns : (nest : Nest) (x y : Access) (n : ℕ) (a : ℤ) → nest.loops.items ≡ n ∷ [] → x.inner.items ≡ [] → y.inner.items ≡ []
    → unknowns nest 0 x y (lone nest.serial.items a) (lone nest.serial.items a) ≡ idle nest.serial.items (line_unknowns a n)
unfolding line_unknowns
lone_unknowns nest x y n a loops ix iy =
    let ms = nest.serial.items in
    let at : coefficient (lone ms a) (length ms + 0) ≡ a = lone_coefficient ms a in
    rw (loops, ix, iy, at) (lone_counters ms a (unknown (a -ℤ a) (n - 1) ∷ unknown (pos 0 -ℤ a) (n - 1) ∷ []))

-- the case of the only loop
line_case : (nest : Nest) (x y : Access) (n : ℕ) (a b c : ℤ) → IsOneLoop nest n → IsLine nest x a b → IsLine nest y a c → ¬ (LinesMeet n a b c) → IsDirectionRefuted nest 0 x y
line_case nest x y n a b c one first second none = by (line_refuted n a b c none)
  where
    ms : List ℕ
    ms = nest.serial.items

    by : (n < 2) ⊎ IsRefuted (equation (line_unknowns a n) ((c -ℤ b) +ℤ a)) → IsDirectionRefuted nest 0 x y
    by (inl few) = inl (inl (subst (λ (ns : List ℕ). slice_index ns 0 < 2) (sym one.loops) few))
    by (inr refuted) =
        let pairs : dimensions x y ≡ (first.subscript, second.subscript) ∷ [] = ap (λ (ss : List Subscript). zip ss y.subscripts.items) first.one ∙ ap (λ (ts : List Subscript). zip (first.subscript ∷ []) ts) second.one in
        let whole : direction_equation nest 0 x y first.subscript second.subscript ≡ equation (idle ms (line_unknowns a n)) ((c -ℤ b) +ℤ a) =
        let es = first.coefficients in let ls = second.coefficients in
        let cb = first.constant in let cc' = second.constant in
        let us = lone_unknowns nest x y n a one.loops first.inner second.inner in
        let at = lone_coefficient ms a in
        rw (es, ls, cb, cc', us, at) refl in
        inr (subst (λ (ds : List (Subscript × Subscript)). Any (λ d. IsRefuted (direction_equation nest 0 x y d.0 d.1)) ds) (sym pairs)
        (0, (first.subscript, second.subscript), omega arith, refl, subst (λ (e : Equation). IsRefuted e) (sym whole) (idle_all ms (line_unknowns a n) ((c -ℤ b) +ℤ a) refuted)))

-- ---- accesses that meet

-- the first turns of serial loops
firsts : List ℕ → List ℕ
firsts [] = []
firsts (m ∷ ms) = 0 ∷ firsts ms

firsts_below : (ms : List ℕ) → All (λ m. 0 < m) ms → AreBelow (firsts ms) ms
unfolding firsts
firsts_below [] h = tt
firsts_below (m ∷ ms) h = (All-head (λ k. 0 < k) m ms h, firsts_below ms (All-tail (λ k. 0 < k) m ms h))

-- the sum there
lone_sum : (ms : List ℕ) (a : ℤ) (k : ℕ) → counter_sum (lone ms a) (firsts ms ++ (k ∷ [])) ≡ a *ℤ pos k
unfolding firsts
lone_sum [] a k = plain (a *ℤ pos k)
  where
    plain : (u : ℤ) → u +ℤ pos 0 ≡ u
    plain u = omega (arith, ints)
lone_sum (m ∷ ms) a k = plain (counter_sum (lone ms a) (firsts ms ++ (k ∷ []))) ∙ lone_sum ms a k
  where
    plain : (u : ℤ) → pos 0 *ℤ pos 0 +ℤ u ≡ u
    plain u = omega (arith, ints)

-- the turn of a counter
turn_at : Nest → ℕ → Turn
turn_at nest k = record { serial = firsts nest.serial.items; nest = k ∷ []; inner = [] }

-- lines that meet are accesses that meet
lines_meet : (nest : Nest) (x y : Access) (n : ℕ) (a b c : ℤ) → IsOneLoop nest n → IsLine nest x a b → IsLine nest y a c → (m : LinesMeet n a b c)
    → Meet nest x y (turn_at nest m.k) (turn_at nest m.l)
unfolding turn_at
lines_meet nest x y n a b c one first second m =
    record {
      first = turn x m.k m.k_below first.inner;
      second = turn y m.l m.l_below second.inner;
      together = refl;
      apart = λ e. m.apart (ap (λ (ks : List ℕ). get_or ks 0 0) e);
      same_element =
          let pairs : dimensions x y ≡ (first.subscript, second.subscript) ∷ [] = ap (λ (ss : List Subscript). zip ss y.subscripts.items) first.one ∙ ap (λ (ts : List Subscript). zip (first.subscript ∷ []) ts) second.one in
          let P : Subscript × Subscript → Type 0 = λ d. value_at d.0 (turn_at nest m.k) ≡ value_at d.1 (turn_at nest m.l) in
          subst (λ (ds : List (Subscript × Subscript)). All P ds) (sym pairs)
          (All-cons P (first.subscript, second.subscript) [] (value first m.k ∙ m.equal ∙ sym (value second m.l)) (All-nil P));
    }
  where
    turn : (z : Access) (k : ℕ) → k < n → z.inner.items ≡ [] → IsTurn nest z (turn_at nest k)
    turn z k l inner =
        record {
          serial = firsts_below nest.serial.items one.serial;
          nest_loops = subst (λ (ns : List ℕ). AreBelow (k ∷ []) ns) (sym one.loops) (l, tt);
          inner = subst (λ (ns : List ℕ). AreBelow [] ns) (sym inner) tt;
        }

    swapped : (u v : ℤ) → u +ℤ v ≡ v +ℤ u
    swapped u v = omega (arith, ints)

    value : {z : Access} {d : ℤ} (line : IsLine nest z a d) (k : ℕ) → value_at line.subscript (turn_at nest k) ≡ a *ℤ pos k +ℤ d
    value {z} {d} line k =
        let all = firsts nest.serial.items ++ (k ∷ []) in
        ap (λ (n : ℤ). n +ℤ counter_sum line.subscript.coefficients.items all) line.constant
        ∙ ap (λ (cs : List ℤ). d +ℤ counter_sum cs all) line.coefficients
        ∙ ap (λ (s : ℤ). d +ℤ s) (lone_sum nest.serial.items a k) ∙ swapped d (a *ℤ pos k)

pub one_loop_is_exact_lem : OneLoopIsExact
one_loop_is_exact_lem nest x y n a b c one first second = (
  λ refuted m. refuted_pairs_do_not_meet_lem nest x y _ _ refuted (lines_meet nest x y n a b c one first second m),
  λ none m l.
      let only : m ≡ 0 = let long : length nest.loops.items ≡ 1 = ap length one.loops in omega arith in
      subst (λ (j : ℕ). IsDirectionRefuted nest j x y × IsDirectionRefuted nest j y x) (sym only) (
        line_case nest x y n a b c one first second none,
        line_case nest y x n a c b one second first
            (λ k. none (record { k = k.l; l = k.k; k_below = k.l_below; l_below = k.k_below; apart = λ e. k.apart (sym e); equal = sym k.equal })),
      ),
)
