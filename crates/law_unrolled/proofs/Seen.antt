-- Registers that instructions read, seen of the same instructions with 0 in the place of the inner variable.
use Rattle.std.proofs.Common.{◌≡◌, ℕ, Bool, true, false, List, [], ◌∷◌, ◌++◌, map, refl, sym, ap, ◌∙◌}
use Rattle.std.specs.Prelude.{◌==◌, not, ◌&&◌, ◌||◌, if◌then◌else◌}
use Rattle.std.specs.List.{list_all}
use Rattle.std.proofs.lemmas.Bool.{and_parts, and_from, or_left, or_right, eq-eqb, eqb-true}
use Rattle.std.proofs.lemmas.List.Folds.{list_all-append, list_any-append}
use Rattle.lower_machine.specs.declared.term.Register.{Register}
use Rattle.lower_op.specs.declared.op.Form.{Form}
use Rattle.lower_op.specs.declared.op.Op.{Op}
use Rattle.lower_op.specs.declared.op.Op.TheVariants.{Constant, Load, LoadNear, LoadForm, PlusNear, MinusNear, TimesNear, BitAndNear, BitXorNear, PlusForm, MinusForm, TimesForm, BitAndForm, BitXorForm, Save, SaveNear, SaveForm, AddNear, AddForm, UpdateForm, UpdateFrom}
use Rattle.law_lanes.specs.Reading.{place_reads, value_reads, reads, counted, form_reads, writes, is_written}
use Rattle.law_lanes.specs.Lanes.{is_own, are_own, is_steady}
use Rattle.law_lanes.proofs.Turning.{onto, written_onto}
use Rattle.law_unrolled.specs.Unrolled.{rest, behind, form_at, placed_at, Nested, once, once_at_zero, is_steady_beside, ReadsItsOwn, ReadsAreSeen}

-- ---- lists

-- two tests that agree hold of all members of the same lists
all_like : {A : Type 0} (p q : A → Bool) → ((x : A) → p x ≡ q x) → (xs : List A) → list_all p xs ≡ list_all q xs
all_like p q same [] = refl
all_like p q same (x ∷ xs) = ap (λ b. b && list_all p xs) (same x) ∙ ap (λ b. q x && b) (all_like p q same xs)

-- a test that follows from another holds of all members where that one does
all_more : {A : Type 0} (p q : A → Bool) → ((x : A) → p x ≡ true → q x ≡ true) → (xs : List A) → list_all p xs ≡ true → list_all q xs ≡ true
all_more p q more [] h = refl
all_more p q more (x ∷ xs) h =
    let both = and_parts (p x) (list_all p xs) h in
    and_from (q x) (list_all q xs) (more x both.0) (all_more p q more xs both.1)

-- the parts of a list, and a list of parts
all_parts : {A : Type 0} (p : A → Bool) (xs ys : List A) → list_all p (xs ++ ys) ≡ true → (list_all p xs ≡ true) × (list_all p ys ≡ true)
all_parts p xs ys h = and_parts (list_all p xs) (list_all p ys) (sym (list_all-append p xs ys) ∙ h)

all_from : {A : Type 0} (p : A → Bool) (xs ys : List A) → list_all p xs ≡ true → list_all p ys ≡ true → list_all p (xs ++ ys) ≡ true
all_from p xs ys h i = list_all-append p xs ys ∙ and_from (list_all p xs) (list_all p ys) h i

-- ---- an instruction with a number in the place of the variable

module _ (v n : ℕ) where
  -- it writes the same register
  same_writes : (r : ℕ) (op : Op) → writes r (placed_at v n op) ≡ writes r op
  same_writes r (Load to a) = go (a.at == v)
    where
      go : (b : Bool) → writes r (if b then LoadForm to (form_at v n (behind 0 a)) else Load to a) ≡ writes r (Load to a)
      go true = refl
      go false = refl
  same_writes r (Save a b) = go (a.at == v)
    where
      go : (c : Bool) → writes r (if c then SaveForm (form_at v n (behind 0 a)) b else Save a b) ≡ writes r (Save a b)
      go true = refl
      go false = refl
  same_writes r op = refl

  -- and reads the same ones beside those of its place
  same_values : (op : Op) → value_reads (placed_at v n op) ≡ value_reads op
  same_values (Load to a) = go (a.at == v)
    where
      go : (b : Bool) → value_reads (if b then LoadForm to (form_at v n (behind 0 a)) else Load to a) ≡ []
      go true = refl
      go false = refl
  same_values (Save a b) = go (a.at == v)
    where
      go : (c : Bool) → value_reads (if c then SaveForm (form_at v n (behind 0 a)) b else Save a b) ≡ b.at ∷ []
      go true = refl
      go false = refl
  same_values op = refl

  -- so instructions write the same registers
  same_written : (ops : List Op) (r : ℕ) → is_written (map (placed_at v n) ops) r ≡ is_written ops r
  same_written [] r = refl
  same_written (op ∷ ops) r =
      ap (λ b. b || is_written (map (placed_at v n) ops) r) (same_writes r op)
      ∙ ap (λ b. writes r op || b) (same_written ops r)

-- ---- registers of places

module _ (v : ℕ) (p : ℕ → Bool) where
  -- a register is the variable, or the test holds of it
  abbrev beside : ℕ → Bool
  beside r = (r == v) || p r

  -- a register that is counted is the variable, or is counted still
  counted_beside : (factor : ℕ) (r : Register) → list_all p (counted (rest v factor r) r) ≡ true → list_all beside (counted factor r) ≡ true
  counted_beside factor r h = go (r.at == v) refl h
    where
      one : beside r.at ≡ true → (b : Bool) → list_all beside (if b then [] else r.at ∷ []) ≡ true
      one e true = refl
      one e false = and_from (beside r.at) true e refl

      other : (b : Bool) → list_all p (if b then [] else r.at ∷ []) ≡ true → list_all beside (if b then [] else r.at ∷ []) ≡ true
      other true h = refl
      other false h = and_from (beside r.at) true (or_right (r.at == v) (p r.at) (and_parts (p r.at) true h).0) refl

      go : (b : Bool) → (r.at == v) ≡ b → list_all p (counted (if b then 0 else factor) r) ≡ true → list_all beside (counted factor r) ≡ true
      go true e h = one (or_left (r.at == v) (p r.at) e) (factor == 0)
      go false e h = other (factor == 0) h

  -- those of a form
  form_beside : (n : ℕ) (f : Form) → list_all p (form_reads (form_at v n f)) ≡ true → list_all beside (form_reads f) ≡ true
  form_beside n f h =
      let both = all_parts p (counted (rest v f.left_factor f.left) f.left) (counted (rest v f.right_factor f.right) f.right) h in
      all_from beside (counted f.left_factor f.left) (counted f.right_factor f.right)
      (counted_beside f.left_factor f.left both.0)
      (counted_beside f.right_factor f.right both.1)

  -- that of a place near what a register holds
  near_beside : (n d : ℕ) (a : Register) → list_all p (form_reads (form_at v n (behind d a))) ≡ true → list_all beside (a.at ∷ []) ≡ true
  near_beside n d a h = form_beside n (behind d a) h

  -- a register of which the test holds
  still_beside : (r : ℕ) → list_all p (r ∷ []) ≡ true → list_all beside (r ∷ []) ≡ true
  still_beside r h = and_from (beside r) true (or_right (r == v) (p r) (and_parts (p r) true h).0) refl

  -- those of an instruction
  places_beside : (n : ℕ) (op : Op) → list_all p (place_reads (placed_at v n op)) ≡ true → list_all beside (place_reads op) ≡ true
  places_beside n (Load to a) h = go (a.at == v) h
    where
      go : (b : Bool) → list_all p (place_reads (if b then LoadForm to (form_at v n (behind 0 a)) else Load to a)) ≡ true → list_all beside (a.at ∷ []) ≡ true
      go true h = near_beside n 0 a h
      go false h = still_beside a.at h
  places_beside n (LoadNear to d a) h = near_beside n d a h
  places_beside n (LoadForm to f) h = form_beside n f h
  places_beside n (PlusNear to a d b) h = near_beside n d b h
  places_beside n (MinusNear to a d b) h = near_beside n d b h
  places_beside n (TimesNear to a d b) h = near_beside n d b h
  places_beside n (BitAndNear to a d b) h = near_beside n d b h
  places_beside n (BitXorNear to a d b) h = near_beside n d b h
  places_beside n (PlusForm to a f) h = form_beside n f h
  places_beside n (MinusForm to a f) h = form_beside n f h
  places_beside n (TimesForm to a f) h = form_beside n f h
  places_beside n (BitAndForm to a f) h = form_beside n f h
  places_beside n (BitXorForm to a f) h = form_beside n f h
  places_beside n (Save a b) h = go (a.at == v) h
    where
      go : (c : Bool) → list_all p (place_reads (if c then SaveForm (form_at v n (behind 0 a)) b else Save a b)) ≡ true → list_all beside (a.at ∷ []) ≡ true
      go true h = near_beside n 0 a h
      go false h = still_beside a.at h
  places_beside n (SaveNear d a b) h = near_beside n d a h
  places_beside n (SaveForm f b) h = form_beside n f h
  places_beside n (AddNear d a b) h = near_beside n d a h
  places_beside n (AddForm f b) h = form_beside n f h
  places_beside n (UpdateForm op f b) h = form_beside n f h
  places_beside n (UpdateFrom op f d b) h = form_beside n f h
  places_beside n op h = refl

-- ---- instructions that write the same registers

abbrev Like : List Op → List Op → Type 0
Like xs ys = (r : ℕ) → is_written xs r ≡ is_written ys r

-- so do both with one more
like_more : (op : Op) (xs ys : List Op) → Like xs ys → Like (op ∷ xs) (op ∷ ys)
like_more op xs ys like r = ap (λ b. writes r op || b) (like r)

-- and with others behind them, or in front
like_onto : (xs ys zs : List Op) → Like ys zs → Like (onto xs ys) (onto xs zs)
like_onto xs ys zs like r = written_onto xs ys r ∙ ap (λ b. b || is_written xs r) (like r) ∙ sym (written_onto xs zs r)

like_front : (xs ys zs : List Op) → Like ys zs → Like (xs ++ ys) (xs ++ zs)
like_front xs ys zs like r = list_any-append (writes r) xs ys ∙ ap (λ b. is_written xs r || b) (like r) ∙ sym (list_any-append (writes r) xs zs)

like_back : (xs ys zs : List Op) → Like xs ys → Like (xs ++ zs) (ys ++ zs)
like_back xs ys zs like r = list_any-append (writes r) xs zs ∙ ap (λ b. b || is_written zs r) (like r) ∙ sym (list_any-append (writes r) ys zs)

-- a register that is written is so behind more instructions
written_still : (xs ys : List Op) (r : ℕ) → is_written xs r ≡ true → is_written (onto xs ys) r ≡ true
written_still xs ys r e = written_onto xs ys r ∙ or_right (is_written ys r) (is_written xs r) e

-- places that are made of registers that none of the first ones writes are made of those that none of the others writes
same_steady : (z o : List Op) → Like z o → (op : Op) → is_steady z op ≡ is_steady o op
same_steady z o like op = all_like (λ r. not (is_written z r)) (λ r. not (is_written o r)) (λ r. ap not (like r)) (place_reads op)

-- ---- what a turn reads

-- instructions behind others
own_split : (variable : ℕ) (all e xs ys : List Op) → are_own variable all e (xs ++ ys) ≡ (are_own variable all e xs && are_own variable all (onto e xs) ys)
own_split variable all e [] ys = refl
own_split variable all e (op ∷ xs) ys =
    ap (λ b. list_all (is_own variable all e) (reads op) && b) (own_split variable all (op ∷ e) xs ys)
    ∙ turned (list_all (is_own variable all e) (reads op)) (are_own variable all (op ∷ e) xs) (are_own variable all (onto (op ∷ e) xs) ys)
  where
    turned : (a b c : Bool) → (a && (b && c)) ≡ ((a && b) && c)
    turned true b c = refl
    turned false b c = refl

module _ (variable : ℕ) (z o : List Op) (like : Like z o) where
  -- a register is one that no turn changes before it is read, as before
  same_own : (e f : List Op) → Like e f → (r : ℕ) → is_own variable z e r ≡ is_own variable o f r
  same_own e f behind r =
      ap (λ b. ((variable == r) || b) || not (is_written z r)) (behind r)
      ∙ ap (λ b. ((variable == r) || is_written f r) || not b) (like r)

  -- so are those that instructions read
  same_are_own : (ops e f : List Op) → Like e f → are_own variable z e ops ≡ are_own variable o f ops
  same_are_own [] e f behind = refl
  same_are_own (op ∷ ops) e f behind =
      ap (λ b. b && are_own variable z (op ∷ e) ops) (all_like (is_own variable z e) (is_own variable o f) (same_own e f behind) (reads op))
      ∙ ap (λ b. list_all (is_own variable o f) (reads op) && b) (same_are_own ops (op ∷ e) (op ∷ f) (like_more op e f behind))

  module _ (v n : ℕ) where
    -- the variable, which was written, is such a register
    own_beside : (f : List Op) → is_written f v ≡ true → (r : ℕ) → beside v (is_own variable o f) r ≡ true → is_own variable o f r ≡ true
    own_beside f written r h = go (r == v) refl h
      where
        go : (b : Bool) → (r == v) ≡ b → (b || is_own variable o f r) ≡ true → is_own variable o f r ≡ true
        go true e h =
            or_left ((variable == r) || is_written f r) (not (is_written o r))
            (or_right (variable == r) (is_written f r) (ap (is_written f) (eqb-true r v e) ∙ written))
        go false e h = h

    -- all that an instruction reads behind it
    one_own : (op : Op) (e f : List Op) → Like e f → is_written f v ≡ true → list_all (is_own variable z e) (reads (placed_at v n op)) ≡ true → list_all (is_own variable o f) (reads op) ≡ true
    one_own op e f behind written h =
        let same : list_all (is_own variable o f) (reads (placed_at v n op)) ≡ true = sym (all_like (is_own variable z e) (is_own variable o f) (same_own e f behind) (reads (placed_at v n op))) ∙ h in
        let both = all_parts (is_own variable o f) (place_reads (placed_at v n op)) (value_reads (placed_at v n op)) same in
        all_from (is_own variable o f) (place_reads op) (value_reads op)
        (all_more (beside v (is_own variable o f)) (is_own variable o f) (own_beside f written) (place_reads op) (places_beside v (is_own variable o f) n op both.0))
        (sym (ap (list_all (is_own variable o f)) (same_values v n op)) ∙ both.1)

    -- and all that instructions do
    inner_own : (ops e f : List Op) → Like e f → is_written f v ≡ true → are_own variable z e (map (placed_at v n) ops) ≡ true → are_own variable o f ops ≡ true
    inner_own [] e f behind written h = refl
    inner_own (op ∷ ops) e f behind written h =
        let both = and_parts (list_all (is_own variable z e) (reads (placed_at v n op))) (are_own variable z (placed_at v n op ∷ e) (map (placed_at v n) ops)) h in
        let more : Like (placed_at v n op ∷ e) (op ∷ f) = λ r. ap (λ b. b || is_written e r) (same_writes v n r op) ∙ ap (λ b. writes r op || b) (behind r) in
        and_from (list_all (is_own variable o f) (reads op)) (are_own variable o (op ∷ f) ops)
        (one_own op e f behind written both.0)
        (inner_own ops (placed_at v n op ∷ e) (op ∷ f) more (or_right (writes v op) (is_written f v) written) both.1)

-- ---- a turn with a loop in it

module _ (variable : ℕ) (s : Nested) where
  abbrev v : ℕ
  v = s.inner.at

  abbrev zeroed : List Op
  zeroed = map (placed_at v 0) s.ops

  abbrev start : Op
  start = Constant s.inner 0

  abbrev z : List Op
  z = once_at_zero s

  abbrev o : List Op
  o = once s

  -- its instructions write the same registers
  like_once : Like z o
  like_once =
      like_front s.front (start ∷ (zeroed ++ (start ∷ s.back))) (start ∷ (s.ops ++ (start ∷ s.back)))
      (like_more start (zeroed ++ (start ∷ s.back)) (s.ops ++ (start ∷ s.back)) (like_back zeroed s.ops (start ∷ s.back) (same_written v 0 s.ops)))

  -- what stands in front of the inner instructions
  abbrev first : List Op
  first = start ∷ onto [] s.front

  written_first : is_written first v ≡ true
  written_first = or_left (v == v) (is_written (onto [] s.front) v) (eq-eqb v v refl)

  own : are_own variable z [] z ≡ true → are_own variable o [] o ≡ true
  own h =
      let front = and_parts (are_own variable z [] s.front) (are_own variable z first (zeroed ++ (start ∷ s.back))) (sym (own_split variable z [] s.front (start ∷ (zeroed ++ (start ∷ s.back)))) ∙ h) in
      let inner = and_parts (are_own variable z first zeroed) (are_own variable z (start ∷ onto first zeroed) s.back) (sym (own_split variable z first zeroed (start ∷ s.back)) ∙ front.1) in
      let last : Like (start ∷ onto first zeroed) (start ∷ onto first s.ops) = like_more start (onto first zeroed) (onto first s.ops) (like_onto first zeroed s.ops (same_written v 0 s.ops)) in
      own_split variable o [] s.front (start ∷ (s.ops ++ (start ∷ s.back)))
      ∙ and_from (are_own variable o [] s.front) (are_own variable o first (s.ops ++ (start ∷ s.back)))
      (sym (same_are_own variable z o like_once s.front [] [] (λ r. refl)) ∙ front.0)
      (own_split variable o first s.ops (start ∷ s.back)
      ∙ and_from (are_own variable o first s.ops) (are_own variable o (start ∷ onto first s.ops) s.back)
      (inner_own variable z o like_once v 0 s.ops first first (λ r. refl) written_first inner.0)
      (sym (same_are_own variable z o like_once s.back (start ∷ onto first zeroed) (start ∷ onto first s.ops) last) ∙ inner.1))

  -- places of instructions of which the steadiness is seen
  record Steady : Type 0 where
    front : list_all (is_steady z) s.front ≡ true
    inner : list_all (is_steady z) zeroed ≡ true
    back : list_all (is_steady z) s.back ≡ true

  steady : list_all (is_steady z) z ≡ true → Steady
  steady h =
      let one = all_parts (is_steady z) s.front (start ∷ (zeroed ++ (start ∷ s.back))) h in
      let two = all_parts (is_steady z) zeroed (start ∷ s.back) one.1 in
      record { front = one.0; inner = two.0; back = two.1 }

  ends : Steady → list_all (is_steady o) (s.front ++ s.back) ≡ true
  ends known =
      sym (all_like (is_steady z) (is_steady o) (same_steady z o like_once) (s.front ++ s.back))
      ∙ all_from (is_steady z) s.front s.back known.front known.back

  -- a place that is steady with 0 in it is steady beside the variable
  one_inner : (op : Op) → is_steady z (placed_at v 0 op) ≡ true → is_steady_beside v o op ≡ true
  one_inner op h = places_beside v (λ r. not (is_written o r)) 0 op (sym (same_steady z o like_once (placed_at v 0 op)) ∙ h)

  inner_all : (ops : List Op) → list_all (is_steady z) (map (placed_at v 0) ops) ≡ true → list_all (is_steady_beside v o) ops ≡ true
  inner_all [] h = refl
  inner_all (op ∷ ops) h =
      let both = and_parts (is_steady z (placed_at v 0 op)) (list_all (is_steady z) (map (placed_at v 0) ops)) h in
      and_from (is_steady_beside v o op) (list_all (is_steady_beside v o) ops) (one_inner op both.0) (inner_all ops both.1)

  all_seen : are_own variable z [] z ≡ true → list_all (is_steady z) z ≡ true → ReadsItsOwn variable s
  all_seen h i = let known = steady i in record { own = own h; ends = ends known; inner = inner_all s.ops known.inner }

pub seen_law : ReadsAreSeen
seen_law variable s h i = all_seen variable s h i
