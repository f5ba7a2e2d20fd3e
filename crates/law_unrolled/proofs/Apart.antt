-- Turns with a loop in them have their cells to themselves.
use Rattle.std.proofs.Common.{◌≡◌, ℕ, zero, suc, ◌<◌, Bool, true, false, cond, List, [], ◌∷◌, ◌++◌, map, refl, sym, ap, ◌∙◌, arith}
use Rattle.std.specs.Prelude.{◌==◌, not, ◌&&◌, ◌||◌, Contains}
use Rattle.std.specs.List.{AllByRecursion as Each, list_all}
use Rattle.std.proofs.lemmas.Bool.{and_parts, and_from, or_parts, or_from, or_left, or_right, cond_both, true≢false}
use Rattle.std.proofs.lemmas.List.Folds.{list_all-append, list_any-append, list_all-map}
use Rattle.std.proofs.lemmas.List.Elements.{Contains-append_left, Contains-append_right}
use Rattle.lower_machine.specs.declared.term.Register.{Register}
use Rattle.lower_machine.specs.Machine.{Machine}
use Rattle.lower_op.specs.declared.op.Form.{Form}
use Rattle.lower_op.specs.declared.op.Op.{Op}
use Rattle.lower_op.specs.declared.op.Op.TheVariants as O
use Rattle.law_lanes.specs.Reading.{counted, form_reads, place_reads, value_reads, reads, writes, is_written}
use Rattle.law_lanes.specs.Lanes.{are_own, entered, is_own, is_steady}
use Rattle.law_lanes.proofs.Lanes.{each_there, at_each}
use Rattle.law_lanes.proofs.Turning.{onto, written_onto}
use Rattle.law_parts.specs.Parts.{KeepApart}
use Rattle.law_unrolled.specs.Unrolled.{rest, form_at, behind, placed_at, Nested, unrolled, flat, once, is_steady_beside, KeepsTo, NestKeepsApart, NestsKeepApart}

-- ---- tests and lists

or_rest : (a b : Bool) → a ≡ false → (a || b) ≡ true → b ≡ true
or_rest true b e h = absurd (true≢false e)
or_rest false b e h = h

or_more : (a b c : Bool) → (b ≡ true → c ≡ true) → (a || b) ≡ true → (a || c) ≡ true
or_more true b c so h = refl
or_more false b c so h = so h

-- either part may be replaced
or_both : (a b c d : Bool) → (a ≡ true → c ≡ true) → (b ≡ true → d ≡ true) → (a || b) ≡ true → (c || d) ≡ true
or_both true b c d one two h = or_left c d (one refl)
or_both false b c d one two h = or_right c d (two h)

not_more : (b c : Bool) → (b ≡ false → c ≡ false) → not b ≡ true → not c ≡ true
not_more true c so h = absurd (true≢false (sym h))
not_more false c so h = ap not (so refl)

-- what passes a test passes one that it implies
all_more : {A : Type 0} (p q : A → Bool) (xs : List A) → ((x : A) → p x ≡ true → q x ≡ true) → list_all p xs ≡ true → list_all q xs ≡ true
all_more p q [] so h = refl
all_more p q (x ∷ xs) so h = let both = and_parts (p x) (list_all p xs) h in and_from (q x) (list_all q xs) (so x both.0) (all_more p q xs so both.1)

each_append : {A : Type 0} (P : A → Type 0) (xs ys : List A) → Each P xs → Each P ys → Each P (xs ++ ys)
each_append P [] ys h k = k
each_append P (x ∷ xs) ys h k = (h.0, each_append P xs ys h.1 k)

each_map : {A B : Type 0} (P : B → Type 0) (f : A → B) (xs : List A) → Each (λ x. P (f x)) xs → Each P (map f xs)
each_map P f [] h = tt
each_map P f (x ∷ xs) h = (h.0, each_map P f xs h.1)

-- ---- what an instruction reads and writes with a number in its place

module _ (v n : ℕ) (p : ℕ → Bool) where
  -- the variable, or what passes the test
  abbrev spared : ℕ → Bool
  spared r = (r == v) || p r

  counted_other : (r : Register) (b : Bool) → (r.at == v) ≡ false → list_all spared (cond b [] (r.at ∷ [])) ≡ true → list_all p (cond b [] (r.at ∷ [])) ≡ true
  counted_other r true e h = refl
  counted_other r false e h = and_from (p r.at) true (or_rest (r.at == v) (p r.at) e (and_parts (spared r.at) true h).0) refl

  one_counted : (factor : ℕ) (r : Register) → list_all spared (counted factor r) ≡ true → list_all p (counted (rest v factor r) r) ≡ true
  one_counted factor r h = cond_both (r.at == v) 0 factor (λ x. list_all p (counted x r) ≡ true) (λ e. refl) (λ e. counted_other r (factor == 0) e h)

  -- a form keeps registers other than the variable alone
  form_spared : (f : Form) → list_all spared (form_reads f) ≡ true → list_all p (form_reads (form_at v n f)) ≡ true
  form_spared f h =
      let left = counted f.left_factor f.left in
      let right = counted f.right_factor f.right in
      let both = and_parts (list_all spared left) (list_all spared right) (sym (list_all-append spared left right) ∙ h) in
      let one = counted (rest v f.left_factor f.left) f.left in
      let two = counted (rest v f.right_factor f.right) f.right in
      list_all-append p one two ∙ and_from (list_all p one) (list_all p two) (one_counted f.left_factor f.left both.0) (one_counted f.right_factor f.right both.1)

  near_other : (a : Register) → (a.at == v) ≡ false → list_all spared (a.at ∷ []) ≡ true → list_all p (a.at ∷ []) ≡ true
  near_other a e h = counted_other a false e h

  -- so does an instruction's place
  place_spared : (op : Op) → list_all spared (place_reads op) ≡ true → list_all p (place_reads (placed_at v n op)) ≡ true
  place_spared (O.Load to a) h = cond_both (a.at == v) (O.LoadForm to (form_at v n (behind 0 a))) (O.Load to a) (λ o. list_all p (place_reads o) ≡ true) (λ e. form_spared (behind 0 a) h) (λ e. near_other a e h)
  place_spared (O.LoadNear to d a) h = form_spared (behind d a) h
  place_spared (O.LoadForm to f) h = form_spared f h
  place_spared (O.PlusNear to a d b) h = form_spared (behind d b) h
  place_spared (O.MinusNear to a d b) h = form_spared (behind d b) h
  place_spared (O.TimesNear to a d b) h = form_spared (behind d b) h
  place_spared (O.BitAndNear to a d b) h = form_spared (behind d b) h
  place_spared (O.BitXorNear to a d b) h = form_spared (behind d b) h
  place_spared (O.PlusForm to a f) h = form_spared f h
  place_spared (O.MinusForm to a f) h = form_spared f h
  place_spared (O.TimesForm to a f) h = form_spared f h
  place_spared (O.BitAndForm to a f) h = form_spared f h
  place_spared (O.BitXorForm to a f) h = form_spared f h
  place_spared (O.Save a b) h = cond_both (a.at == v) (O.SaveForm (form_at v n (behind 0 a)) b) (O.Save a b) (λ o. list_all p (place_reads o) ≡ true) (λ e. form_spared (behind 0 a) h) (λ e. near_other a e h)
  place_spared (O.SaveNear d a b) h = form_spared (behind d a) h
  place_spared (O.SaveForm f b) h = form_spared f h
  place_spared (O.AddNear d a b) h = form_spared (behind d a) h
  place_spared (O.AddForm f b) h = form_spared f h
  place_spared (O.UpdateForm u f b) h = form_spared f h
  place_spared (O.UpdateFrom u f d b) h = form_spared f h
  place_spared op h = refl

module _ (v n : ℕ) where
  -- the other registers that it reads are the same
  values_same : (op : Op) → value_reads (placed_at v n op) ≡ value_reads op
  values_same (O.Load to a) = cond_both (a.at == v) (O.LoadForm to (form_at v n (behind 0 a))) (O.Load to a) (λ o. value_reads o ≡ []) (λ e. refl) (λ e. refl)
  values_same (O.Save a b) = cond_both (a.at == v) (O.SaveForm (form_at v n (behind 0 a)) b) (O.Save a b) (λ o. value_reads o ≡ (b.at ∷ [])) (λ e. refl) (λ e. refl)
  values_same op = refl

  -- and the register that it writes
  writes_same : (x : ℕ) (op : Op) → writes x (placed_at v n op) ≡ writes x op
  writes_same x (O.Load to a) = cond_both (a.at == v) (O.LoadForm to (form_at v n (behind 0 a))) (O.Load to a) (λ o. writes x o ≡ (to.at == x)) (λ e. refl) (λ e. refl)
  writes_same x (O.Save a b) = cond_both (a.at == v) (O.SaveForm (form_at v n (behind 0 a)) b) (O.Save a b) (λ o. writes x o ≡ false) (λ e. refl) (λ e. refl)
  writes_same x op = refl

  written_same : (x : ℕ) (ops : List Op) → is_written (map (placed_at v n) ops) x ≡ is_written ops x
  written_same x [] = refl
  written_same x (op ∷ ops) = ap (λ b. b || is_written (map (placed_at v n) ops) x) (writes_same x op) ∙ ap (λ b. writes x op || b) (written_same x ops)

  -- it reads no more registers
  reads_spared : (p : ℕ → Bool) (op : Op) → list_all p (reads op) ≡ true → list_all p (reads (placed_at v n op)) ≡ true
  reads_spared p op h =
      let both = and_parts (list_all p (place_reads op)) (list_all p (value_reads op)) (sym (list_all-append p (place_reads op) (value_reads op)) ∙ h) in
      let places = all_more p (spared v n p) (place_reads op) (λ r k. or_right (r == v) (p r) k) both.0 in
      list_all-append p (place_reads (placed_at v n op)) (value_reads (placed_at v n op))
      ∙ and_from (list_all p (place_reads (placed_at v n op))) (list_all p (value_reads (placed_at v n op))) (place_spared v n p op places) (ap (list_all p) (values_same op) ∙ both.1)

-- ---- registers that a turn wrote before

-- what is written in the first is written in the second
abbrev Covers : List Op → List Op → Type 0
Covers one two = (x : ℕ) → is_written one x ≡ true → is_written two x ≡ true

module _ (variable : ℕ) where
  -- instructions one behind another
  own_append : (all earlier xs ys : List Op) → are_own variable all earlier (xs ++ ys) ≡ (are_own variable all earlier xs && are_own variable all (onto earlier xs) ys)
  own_append all earlier [] ys = refl
  own_append all earlier (op ∷ xs) ys =
      ap (λ b. list_all (is_own variable all earlier) (reads op) && b) (own_append all (op ∷ earlier) xs ys)
      ∙ regroup (list_all (is_own variable all earlier) (reads op)) (are_own variable all (op ∷ earlier) xs) (are_own variable all (onto (op ∷ earlier) xs) ys)
    where
      regroup : (a b c : Bool) → (a && (b && c)) ≡ ((a && b) && c)
      regroup true b c = refl
      regroup false b c = refl

  module _ (some all : List Op) (fewer : (x : ℕ) → is_written some x ≡ false → is_written all x ≡ false) where
    -- what is own stays so among as many writes, behind more of them
    own_more : (one two : List Op) → Covers one two → (x : ℕ) → is_own variable some one x ≡ true → is_own variable all two x ≡ true
    own_more one two covers x h =
        or_both ((variable == x) || is_written one x) (not (is_written some x)) ((variable == x) || is_written two x) (not (is_written all x))
        (or_more (variable == x) (is_written one x) (is_written two x) (covers x))
        (not_more (is_written some x) (is_written all x) (fewer x)) h

    more_covers : (one two : List Op) (a b : Op) → ((x : ℕ) → writes x a ≡ true → writes x b ≡ true) → Covers one two → Covers (a ∷ one) (b ∷ two)
    more_covers one two a b so covers x h = or_both (writes x a) (is_written one x) (writes x b) (is_written two x) (so x) (covers x) h

    -- instructions behind more writes
    same_own : (ops one two : List Op) → Covers one two → are_own variable some one ops ≡ true → are_own variable all two ops ≡ true
    same_own [] one two covers h = refl
    same_own (op ∷ ops) one two covers h =
        let both = and_parts (list_all (is_own variable some one) (reads op)) (are_own variable some (op ∷ one) ops) h in
        and_from (list_all (is_own variable all two) (reads op)) (are_own variable all (op ∷ two) ops)
        (all_more (is_own variable some one) (is_own variable all two) (reads op) (own_more one two covers) both.0)
        (same_own ops (op ∷ one) (op ∷ two) (more_covers one two op op (λ x k. k) covers) both.1)

    -- and with a number in their places
    placed_own : (v n : ℕ) (ops one two : List Op) → Covers one two → are_own variable some one ops ≡ true → are_own variable all two (map (placed_at v n) ops) ≡ true
    placed_own v n [] one two covers h = refl
    placed_own v n (op ∷ ops) one two covers h =
        let both = and_parts (list_all (is_own variable some one) (reads op)) (are_own variable some (op ∷ one) ops) h in
        and_from (list_all (is_own variable all two) (reads (placed_at v n op))) (are_own variable all (placed_at v n op ∷ two) (map (placed_at v n) ops))
        (reads_spared v n (is_own variable all two) op (all_more (is_own variable some one) (is_own variable all two) (reads op) (own_more one two covers) both.0))
        (placed_own v n ops (op ∷ one) (placed_at v n op ∷ two) (more_covers one two op (placed_at v n op) (λ x k. writes_same v n x op ∙ k) covers) both.1)

-- ---- a turn with a loop in it

module _ (s : Nested) where
  abbrev v : ℕ
  v = s.inner.at

  -- so many inner turns
  abbrev inner : ℕ → List Op
  inner k = unrolled s.inner s.value s.ops k

  -- one of them
  abbrev turn : ℕ → List Op
  turn k = O.Constant s.inner (s.value k) ∷ map (placed_at v (s.value k)) s.ops

  abbrev zeroed : Op
  zeroed = O.Constant s.inner 0

  -- what stands behind the inner turns
  abbrev tail : List Op
  tail = O.Constant s.inner s.next ∷ s.back

  inner_unwritten : (x k : ℕ) → (v == x) ≡ false → is_written s.ops x ≡ false → is_written (inner k) x ≡ false
  inner_unwritten x zero e h = refl
  inner_unwritten x (suc k) e h =
      list_any-append (writes x) (inner k) (turn k)
      ∙ or_from (is_written (inner k) x) (is_written (turn k) x) (inner_unwritten x k e h) (or_from (v == x) (is_written (map (placed_at v (s.value k)) s.ops) x) e (written_same v (s.value k) x s.ops ∙ h))

  -- what none of the instructions writes is written nowhere
  unwritten : (x : ℕ) → is_written (once s) x ≡ false → is_written (flat s) x ≡ false
  unwritten x h =
      let middle = s.ops ++ (zeroed ∷ s.back) in
      let front = or_parts (is_written s.front x) (is_written (zeroed ∷ middle) x) (sym (list_any-append (writes x) s.front (zeroed ∷ middle)) ∙ h) in
      let here = or_parts (v == x) (is_written middle x) front.1 in
      let ops = or_parts (is_written s.ops x) (is_written (zeroed ∷ s.back) x) (sym (list_any-append (writes x) s.ops (zeroed ∷ s.back)) ∙ here.1) in
      let back = or_parts (v == x) (is_written s.back x) ops.1 in
      list_any-append (writes x) s.front (inner s.count ++ tail)
      ∙ or_from (is_written s.front x) (is_written (inner s.count ++ tail) x) front.0
      (list_any-append (writes x) (inner s.count) tail
      ∙ or_from (is_written (inner s.count) x) (is_written tail x) (inner_unwritten x s.count here.0 ops.0) (or_from (v == x) (is_written s.back x) here.0 back.1))

  -- ---- steady places

  steady_more : (op : Op) → is_steady (once s) op ≡ true → is_steady (flat s) op ≡ true
  steady_more op h = all_more (λ r. not (is_written (once s) r)) (λ r. not (is_written (flat s) r)) (place_reads op) (λ r k. not_more (is_written (once s) r) (is_written (flat s) r) (unwritten r) k) h

  placed_steady : (n : ℕ) (op : Op) → is_steady_beside v (once s) op ≡ true → is_steady (flat s) (placed_at v n op) ≡ true
  placed_steady n op h =
      place_spared v n (λ r. not (is_written (flat s) r)) op
      (all_more (λ r. (r == v) || not (is_written (once s) r)) (spared v n (λ r. not (is_written (flat s) r))) (place_reads op)
      (λ r k. or_more (r == v) (not (is_written (once s) r)) (not (is_written (flat s) r)) (not_more (is_written (once s) r) (is_written (flat s) r) (unwritten r)) k) h)

  inner_steady : (k : ℕ) → list_all (is_steady_beside v (once s)) s.ops ≡ true → list_all (is_steady (flat s)) (inner k) ≡ true
  inner_steady zero h = refl
  inner_steady (suc k) h =
      list_all-append (is_steady (flat s)) (inner k) (turn k)
      ∙ and_from (list_all (is_steady (flat s)) (inner k)) (list_all (is_steady (flat s)) (turn k)) (inner_steady k h)
      (list_all-map (is_steady (flat s)) (placed_at v (s.value k)) s.ops
      ∙ all_more (is_steady_beside v (once s)) (λ op. is_steady (flat s) (placed_at v (s.value k) op)) s.ops (placed_steady (s.value k)) h)

  all_steady : list_all (is_steady (once s)) (s.front ++ s.back) ≡ true → list_all (is_steady_beside v (once s)) s.ops ≡ true → list_all (is_steady (flat s)) (flat s) ≡ true
  all_steady ends h =
      let both = and_parts (list_all (is_steady (once s)) s.front) (list_all (is_steady (once s)) s.back) (sym (list_all-append (is_steady (once s)) s.front s.back) ∙ ends) in
      list_all-append (is_steady (flat s)) s.front (inner s.count ++ tail)
      ∙ and_from (list_all (is_steady (flat s)) s.front) (list_all (is_steady (flat s)) (inner s.count ++ tail)) (all_more (is_steady (once s)) (is_steady (flat s)) s.front steady_more both.0)
      (list_all-append (is_steady (flat s)) (inner s.count) tail
      ∙ and_from (list_all (is_steady (flat s)) (inner s.count)) (list_all (is_steady (flat s)) tail) (inner_steady s.count h) (all_more (is_steady (once s)) (is_steady (flat s)) s.back steady_more both.1))

  -- ---- own registers

  -- what stands in front of the inner turns, and these
  abbrev before : ℕ → List Op
  before k = onto (onto [] s.front) (inner k)

  before_covers : (k : ℕ) → Covers (onto [] s.front) (before k)
  before_covers k x h = written_onto (onto [] s.front) (inner k) x ∙ or_right (is_written (inner k) x) (is_written (onto [] s.front) x) h

  inner_written : (x k : ℕ) → 0 < k → is_written s.ops x ≡ true → is_written (inner k) x ≡ true
  inner_written x zero some h = absurd (omega (arith, some))
  inner_written x (suc k) some h =
      list_any-append (writes x) (inner k) (turn k)
      ∙ or_right (is_written (inner k) x) (is_written (turn k) x) (or_right (v == x) (is_written (map (placed_at v (s.value k)) s.ops) x) (written_same v (s.value k) x s.ops ∙ h))

  -- behind the inner turns what their instructions write is written
  behind_covers : 0 < s.count → Covers (zeroed ∷ onto (zeroed ∷ onto [] s.front) s.ops) (O.Constant s.inner s.next ∷ before s.count)
  behind_covers some x h =
      or_same (v == x) (is_written (onto (zeroed ∷ onto [] s.front) s.ops) x) (is_written (before s.count) x)
      (λ e k.
      written_onto (onto [] s.front) (inner s.count) x
      ∙ or_both (is_written s.ops x) (is_written (zeroed ∷ onto [] s.front) x) (is_written (inner s.count) x) (is_written (onto [] s.front) x) (inner_written x s.count some) (or_rest (v == x) (is_written (onto [] s.front) x) e) (sym (written_onto (zeroed ∷ onto [] s.front) s.ops x) ∙ k)) h
    where
      or_same : (a b c : Bool) → (a ≡ false → b ≡ true → c ≡ true) → (a || b) ≡ true → (a || c) ≡ true
      or_same true b c so h = refl
      or_same false b c so h = so refl h

  module _ (variable : ℕ) where
    inner_own : (k : ℕ) → are_own variable (once s) (zeroed ∷ onto [] s.front) s.ops ≡ true → are_own variable (flat s) (onto [] s.front) (inner k) ≡ true
    inner_own zero h = refl
    inner_own (suc k) h =
        own_append variable (flat s) (onto [] s.front) (inner k) (turn k)
        ∙ and_from (are_own variable (flat s) (onto [] s.front) (inner k)) (are_own variable (flat s) (before k) (turn k)) (inner_own k h)
        (placed_own variable (once s) (flat s) unwritten v (s.value k) s.ops (zeroed ∷ onto [] s.front) (O.Constant s.inner (s.value k) ∷ before k)
        (more_covers variable (once s) (flat s) unwritten (onto [] s.front) (before k) zeroed (O.Constant s.inner (s.value k)) (λ x e. e) (before_covers k)) h)

    all_own : 0 < s.count → are_own variable (once s) [] (once s) ≡ true → are_own variable (flat s) [] (flat s) ≡ true
    all_own some h =
        let middle = s.ops ++ (zeroed ∷ s.back) in
        let front = and_parts (are_own variable (once s) [] s.front) (are_own variable (once s) (onto [] s.front) (zeroed ∷ middle)) (sym (own_append variable (once s) [] s.front (zeroed ∷ middle)) ∙ h) in
        let ops =
        and_parts (are_own variable (once s) (zeroed ∷ onto [] s.front) s.ops) (are_own variable (once s) (onto (zeroed ∷ onto [] s.front) s.ops) (zeroed ∷ s.back))
        (sym (own_append variable (once s) (zeroed ∷ onto [] s.front) s.ops (zeroed ∷ s.back)) ∙ front.1) in
        own_append variable (flat s) [] s.front (inner s.count ++ tail)
        ∙ and_from (are_own variable (flat s) [] s.front) (are_own variable (flat s) (onto [] s.front) (inner s.count ++ tail)) (same_own variable (once s) (flat s) unwritten s.front [] [] (λ x e. e) front.0)
        (own_append variable (flat s) (onto [] s.front) (inner s.count) tail
        ∙ and_from (are_own variable (flat s) (onto [] s.front) (inner s.count)) (are_own variable (flat s) (before s.count) tail) (inner_own s.count ops.0)
        (same_own variable (once s) (flat s) unwritten s.back (zeroed ∷ onto (zeroed ∷ onto [] s.front) s.ops) (O.Constant s.inner s.next ∷ before s.count) (behind_covers some) ops.1))

  -- ---- places

  module _ (variable : ℕ) (value : ℕ → ℕ) (n : ℕ) (m : Machine) (bound : ℕ → ℕ) (apart : NestKeepsApart variable value s n m bound) where
    module _ (t : ℕ) (lt : t < n) where
      -- an instruction's places are the turn's own
      abbrev Keeps : Op → Type 0
      Keeps = KeepsTo bound n t (entered variable value t m)

      constant_keeps : (i : ℕ) → Keeps (O.Constant s.inner i)
      constant_keeps i = record { writes = λ e. absurd (true≢false (sym e)); reads = λ e. absurd (true≢false (sym e)) }

      inner_keeps : (k : ℕ) → ((j : ℕ) → j < k → j < s.count) → Each Keeps (inner k)
      inner_keeps zero within = tt
      inner_keeps (suc k) within =
          each_append Keeps (inner k) (turn k) (inner_keeps k (λ j less. within j (omega (arith, less))))
          (constant_keeps (s.value k), each_map Keeps (placed_at v (s.value k)) s.ops (each_there (λ op. Keeps (placed_at v (s.value k) op)) s.ops (λ op there. apart.inside op t k there lt (within k (omega arith)))))

      all_keep : Each Keeps (flat s)
      all_keep =
          each_append Keeps s.front (inner s.count ++ tail) (each_there Keeps s.front (λ op there. apart.around op t (Contains-append_left s.front s.back op there) lt))
          (each_append Keeps (inner s.count) tail (inner_keeps s.count (λ j less. less))
          (constant_keeps s.next, each_there Keeps s.back (λ op there. apart.around op t (Contains-append_right s.front s.back op there) lt)))

      one_keeps : (op : Op) → Contains (flat s) op → Keeps op
      one_keeps op there = at_each Keeps (flat s) op all_keep there

    keeps_apart : KeepApart variable value (flat s) n m bound
    keeps_apart = record {
      own = all_own variable apart.some apart.own;
      steady = all_steady apart.ends apart.inner;
      rise = apart.rise;
      writes = λ op t there lt e. (one_keeps t lt op there).writes e;
      reads = λ op t there lt e. (one_keeps t lt op there).reads e;
    }

pub apart_law : NestsKeepApart
apart_law variable value s n m bound apart = keeps_apart s variable value n m bound apart
