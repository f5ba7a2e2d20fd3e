-- The turns of a prefix sum in parts.
use Rattle.std.proofs.Common.{◌≡◌, ◌≢◌, ◌⊎◌, inl, inr, ℕ, zero, suc, ◌+◌, ◌-◌, ◌<◌, ◌≤◌, Bool, true, false, List, [], ◌∷◌, ◌++◌, length, map, refl, sym, ap, ◌∙◌, subst, arith}
use Rattle.std.specs.Prelude.{slice_index, slice_set, ◌==◌, not, ◌&&◌, ◌||◌, Contains}
use Rattle.std.specs.List.{AllByRecursion as Each, list_all, list_any}
use Rattle.std.proofs.lemmas.Bool.{and_parts, or_left, or_right, eqb-true, eqb-false, true≢false}
use Rattle.std.proofs.lemmas.List.{get_or-set_other, length-set}
use Rattle.std.proofs.lemmas.List.Elements.{Contains-append_left, Contains-append_right}
use Rattle.std.proofs.lemmas.List.Folds.{list_any-append}
use Rattle.std.proofs.lemmas.Simd.{map-map}
use Rattle.semantics.specs.Meaning.Places.{below}
use Rattle.lower_machine.specs.Machine.{Machine, machine}
use Rattle.lower_op.specs.declared.op.Op.{Op}
use Rattle.lower_op.specs.Steps.{put, steps}
use Rattle.law_lanes.specs.Reading.{saves, source_of, reads, writes, is_written}
use Rattle.law_lanes.specs.Lanes.{in_step, begun, entered, turns, is_own, are_own}
use Rattle.law_lanes.specs.Folds.{folded}
use Rattle.law_lanes.proofs.Ops.{at, place_at, source_at}
use Rattle.law_lanes.proofs.Swap.{reg, cel, Fine, Stay, stays_steps}
use Rattle.law_lanes.proofs.Turning.{Alike, onto, written_onto, set_alike}
use Rattle.law_lanes.proofs.Lanes.{Outside, each_there, fine_there, steps_length, other_kept, begins_alike, end_alike}
use Rattle.law_lanes.proofs.Below.{over_same}
use Rattle.law_lanes.proofs.Folds.{set_there}
use Rattle.law_parts.specs.Parts.{IsBetween, IsBeside, IsPartOf, later}
use Rattle.law_parts.proofs.Frames.{WritesNot, ReadsNot, Agree, Went, cells_count, kept_cell, went}
use Rattle.law_prefixes.specs.Prefixes.{read_of}
use Rattle.law_prefix_parts.specs.PrefixParts.{ArePrefixes, LeavesPrefixes, PrefixesRunInParts, OperandsInParts, carried, begun_behind}
use Rattle.law_prefix_parts.proofs.Quiet.{quiet_in_step}

-- ---- numbers that cannot differ

cannot_differ : (x y : ℕ) → ((x ≡ y → ⊥) → ⊥) → x ≡ y
cannot_differ x y h = go (x == y) refl
  where
    go : (b : Bool) → (x == y) ≡ b → x ≡ y
    go true e = eqb-true x y e
    go false e = absurd (h (eqb-false x y e))

-- ---- instructions one behind another

onto_append : (earlier xs ys : List Op) → onto earlier (xs ++ ys) ≡ onto (onto earlier xs) ys
onto_append earlier [] ys = refl
onto_append earlier (x ∷ xs) ys = onto_append (x ∷ earlier) xs ys

own_append : (variable : ℕ) (all earlier xs ys : List Op) → are_own variable all earlier (xs ++ ys) ≡ (are_own variable all earlier xs && are_own variable all (onto earlier xs) ys)
own_append variable all earlier [] ys = refl
own_append variable all earlier (op ∷ xs) ys =
    ap (λ b. list_all (is_own variable all earlier) (reads op) && b) (own_append variable all (op ∷ earlier) xs ys)
    ∙ regroup (list_all (is_own variable all earlier) (reads op)) (are_own variable all (op ∷ earlier) xs) (are_own variable all (onto (op ∷ earlier) xs) ys)
  where
    regroup : (a b c : Bool) → (a && (b && c)) ≡ ((a && b) && c)
    regroup true b c = refl
    regroup false b c = refl

-- a register that takes the same number in both
both_set : (variable : ℕ) (all earlier : List Op) (r s : List ℕ) (to v : ℕ) → Alike variable all earlier r s → Alike variable all earlier (slice_set r to v) (slice_set s to v)
both_set variable all earlier r s to v alike = record { count = length-set r to v ∙ alike.count ∙ sym (length-set s to v); own = λ x h. go x (to == x) refl h }
  where
    go : (x : ℕ) (b : Bool) → (to == x) ≡ b → is_own variable all earlier x ≡ true → slice_index (slice_set r to v) x ≡ slice_index (slice_set s to v) x
    go x true e h = subst (λ y. slice_index (slice_set r to v) y ≡ slice_index (slice_set s to v) y) (eqb-true to x e) (set_alike r s to v alike.count)
    go x false e h =
        get_or-set_other r to x v 0 (λ k. eqb-false to x e (sym k)) ∙ alike.own x h ∙ sym (get_or-set_other s to x v 0 (λ k. eqb-false to x e (sym k)))

stays : (variable : ℕ) (all : List Op) (r s : List ℕ) → Alike variable all [] r s → Stay all r s
stays variable all r s alike = λ x w. alike.own x (subst (λ b. (((variable == x) || false) || not b) ≡ true) (sym w) (or_right ((variable == x) || false) true refl))

module _ (variable : ℕ) (value : ℕ → ℕ) (f : ℕ → ℕ → ℕ) (to : ℕ) (exclusive : Bool) (ops front back : List Op) (n : ℕ) (m : Machine) (bound : ℕ → ℕ) (are : ArePrefixes variable value f to exclusive ops front back n m bound) where
  abbrev all : List Op
  all = front ++ back

  written_both : (x : ℕ) → is_written all x ≡ (is_written front x || is_written back x)
  written_both x = list_any-append (writes x) front back

  written : is_written all to ≡ true
  written = written_both to ∙ or_left (is_written front to) (is_written back to) are.prefix.written

  away : (x : ℕ) → is_written all x ≡ false → x ≢ to
  away x w same = true≢false (sym written ∙ ap (is_written all) (sym same) ∙ w)

  front_there : (a : Op) → Contains front a → Contains all a
  front_there a there = Contains-append_left front back a there

  back_there : (a : Op) → Contains back a → Contains all a
  back_there a there = Contains-append_right front back a there

  fine_front : Each (Fine all) front
  fine_front = each_there (Fine all) front (λ a there. fine_there all are.apart.steady a (front_there a there))

  fine_back : Each (Fine all) back
  fine_back = each_there (Fine all) back (λ a there. fine_there all are.apart.steady a (back_there a there))

  own_both : (are_own variable all [] front ≡ true) × (are_own variable all (onto [] front) back ≡ true)
  own_both = and_parts (are_own variable all [] front) (are_own variable all (onto [] front) back) (sym (own_append variable all [] front back) ∙ are.apart.own)

  own_to : is_own variable all (onto [] front) to ≡ true
  own_to =
      ap (λ b. ((variable == to) || b) || not (is_written all to)) (written_onto [] front to ∙ or_left (is_written front to) false are.prefix.written)
      ∙ settled (variable == to) (not (is_written all to))
    where
      settled : (a b : Bool) → ((a || true) || b) ≡ true
      settled true b = refl
      settled false b = refl

  -- the registers in which a turn makes its places
  abbrev lane : ℕ → List ℕ
  lane t = (entered variable value t m).registers

  -- ---- one turn

  -- what the front leaves in the register, and what becomes of that
  abbrev operand_of : List ℕ → List ℕ → ℕ
  operand_of r c = slice_index (reg front r c) to

  abbrev made_of : List ℕ → List ℕ → ℕ
  made_of r c = f (slice_index r to) (operand_of r c)

  -- the registers with the number that is read
  abbrev middle : List ℕ → List ℕ → List ℕ
  middle r c = slice_set (reg front r c) to (read_of exclusive (slice_index r to) (made_of r c))

  abbrev behind : List ℕ → List ℕ → Machine
  behind r c = steps back (machine (middle r c) (cel front r c))

  wide : (r : List ℕ) → length r ≡ length m.registers → to < length r
  wide r e = let i = are.there in omega (arith, e, i)

  behind_length : (r c : List ℕ) → length (behind r c).registers ≡ length r
  behind_length r c =
      steps_length back (middle r c) (cel front r c)
      ∙ length-set (reg front r c) to (read_of exclusive (slice_index r to) (made_of r c))
      ∙ steps_length front r c

  stays_middle : (r c : List ℕ) → Stay all r (middle r c)
  stays_middle r c = λ x w.
      stays_steps all front r c fine_front x w
      ∙ sym (get_or-set_other (reg front r c) to x (read_of exclusive (slice_index r to) (made_of r c)) 0 (away x w))

  module _ (r c : List ℕ) (long : length r ≡ length m.registers) where
    turned : steps ops (machine r c) ≡ put to (made_of r c) (behind r c)
    turned = are.prefix.turn (machine r c) (wide r long)

    turn_registers : reg ops r c ≡ slice_set (behind r c).registers to (made_of r c)
    turn_registers = ap (λ (x : Machine). x.registers) turned

    turn_cells : cel ops r c ≡ (behind r c).cells
    turn_cells = ap (λ (x : Machine). x.cells) turned

    turn_length : length (reg ops r c) ≡ length m.registers
    turn_length = ap length turn_registers ∙ length-set (behind r c).registers to (made_of r c) ∙ behind_length r c ∙ long

    turn_count : length (cel ops r c) ≡ length c
    turn_count = ap length turn_cells ∙ cells_count back (middle r c) (cel front r c) ∙ cells_count front r c

    turn_makes : slice_index (reg ops r c) to ≡ made_of r c
    turn_makes = ap (λ (x : List ℕ). slice_index x to) turn_registers ∙ set_there (behind r c).registers to (made_of r c) (wide (behind r c).registers (behind_length r c ∙ long))

    turn_stays : Stay all r (reg ops r c)
    turn_stays = λ x w.
        stays_middle r c x w
        ∙ stays_steps all back (middle r c) (cel front r c) fine_back x w
        ∙ sym (ap (λ (l : List ℕ). slice_index l x) turn_registers ∙ get_or-set_other (behind r c).registers to x (made_of r c) 0 (away x w))

    -- a cell that no instruction writes is as before
    turn_keeps : (q : ℕ) (r0 : List ℕ) → Stay all r0 r → ((a : Op) → Contains all a → saves a ≡ true → at a r0 ≡ q → ⊥) → slice_index (cel ops r c) q ≡ slice_index c q
    turn_keeps q r0 stay none =
        ap (λ (l : List ℕ). slice_index l q) turn_cells
        ∙ kept_cell all r0 q back (middle r c) (cel front r c) fine_back (λ x w. stay x w ∙ stays_middle r c x w) (each_there (WritesNot all (λ p. p ≡ q) r0) back (λ a there s e. none a (back_there a there) s e))
        ∙ kept_cell all r0 q front r c fine_front stay (each_there (WritesNot all (λ p. p ≡ q) r0) front (λ a there s e. none a (front_there a there) s e))

  -- ---- one turn over two machines

  module _ (F : ℕ → Type 0) (r0 r s c d : List ℕ) (not : (a : Op) → Contains all a → WritesNot all F r0 a) (none : (a : Op) → Contains all a → ReadsNot all F r0 a) (stay : Stay all r0 r) (alike : Alike variable all [] r s) (agree : Agree all F c d) where
    first : Went all F variable r0 front [] r s c d
    first =
        went all F variable r0 front [] r s c d fine_front own_both.0 stay
        (each_there (WritesNot all F r0) front (λ a there. not a (front_there a there)))
        (each_there (ReadsNot all F r0) front (λ a there. none a (front_there a there)))
        alike agree

    same_operand : operand_of r c ≡ operand_of s d
    same_operand = first.registers.own to own_to

    module _ (long : length r ≡ length m.registers) (same : slice_index r to ≡ slice_index s to) where
      same_made : made_of r c ≡ made_of s d
      same_made = ap (λ x. f x (operand_of r c)) same ∙ ap (f (slice_index s to)) same_operand

      same_read : read_of exclusive (slice_index r to) (made_of r c) ≡ read_of exclusive (slice_index s to) (made_of s d)
      same_read = ap (λ x. read_of exclusive x (made_of r c)) same ∙ ap (read_of exclusive (slice_index s to)) same_made

      middles : Alike variable all (onto [] front) (middle r c) (middle s d)
      middles =
          subst (λ v. Alike variable all (onto [] front) (middle r c) (slice_set (reg front s d) to v)) same_read
          (both_set variable all (onto [] front) (reg front r c) (reg front s d) to (read_of exclusive (slice_index r to) (made_of r c)) first.registers)

      second : Went all F variable r0 back (onto [] front) (middle r c) (middle s d) (cel front r c) (cel front s d)
      second =
          went all F variable r0 back (onto [] front) (middle r c) (middle s d) (cel front r c) (cel front s d) fine_back own_both.1 (λ x w. stay x w ∙ stays_middle r c x w)
          (each_there (WritesNot all F r0) back (λ a there. not a (back_there a there)))
          (each_there (ReadsNot all F r0) back (λ a there. none a (back_there a there)))
          middles first.cells

      same_behind : (behind r c).registers ≡ (behind s d).registers
      same_behind =
          end_alike variable all (behind r c).registers (behind s d).registers
          (subst (λ l. Alike variable all l (behind r c).registers (behind s d).registers) (sym (onto_append [] front back)) second.registers)

      long_too : length s ≡ length m.registers
      long_too = sym alike.count ∙ long

      same_registers : reg ops r c ≡ reg ops s d
      same_registers =
          turn_registers r c long
          ∙ ap (λ l. slice_set l to (made_of r c)) same_behind
          ∙ ap (slice_set (behind s d).registers to) same_made
          ∙ sym (turn_registers s d long_too)

      agree_behind : Agree all F (cel ops r c) (cel ops s d)
      agree_behind =
          subst (λ l. Agree all F l (cel ops s d)) (sym (turn_cells r c long))
          (subst (λ l. Agree all F (behind r c).cells l) (sym (turn_cells s d long_too)) second.cells)

  -- ---- turn after turn

  -- from registers that are as before but for those that are written
  outside : (values : ℕ → ℕ) (s : Machine) → Outside variable all s.registers m.registers → (k : ℕ) → Outside variable all (turns variable values ops k s).registers m.registers
  outside values s begins zero = begins
  outside values s begins (suc k) = go (turns variable values ops k s) (outside values s begins k)
    where
      go : (u : Machine) → Outside variable all u.registers m.registers → Outside variable all (steps ops (entered variable values k u)).registers m.registers
      go u so =
          let long = length-set u.registers variable (values k) ∙ so.count in
          record {
            count = turn_length (slice_set u.registers variable (values k)) u.cells long;
            rest = λ x e w. sym (turn_stays (slice_set u.registers variable (values k)) u.cells long x w) ∙ other_kept variable all u.registers (values k) x e ∙ so.rest x e w;
          }

  -- the turns from the machine before all
  abbrev whole : ℕ → Machine
  whole k = turns variable value ops k m

  outside_whole : (k : ℕ) → Outside variable all (whole k).registers m.registers
  outside_whole = outside value m (record { count = refl; rest = λ x e w. refl })

  -- the registers with which one begins
  abbrev opened : ℕ → List ℕ
  opened k = slice_set (whole k).registers variable (value k)

  opened_length : (k : ℕ) → length (opened k) ≡ length m.registers
  opened_length k = length-set (whole k).registers variable (value k) ∙ (outside_whole k).count

  opens : (k : ℕ) → Alike variable all [] (lane k) (opened k)
  opens k = begins_alike variable all (whole k).registers m.registers (value k) (outside_whole k)

  count_whole : (k : ℕ) → length (whole k).cells ≡ length m.cells
  count_whole zero = refl
  count_whole (suc k) = turn_count (opened k) (whole k).cells (opened_length k) ∙ count_whole k

  -- a place that is none of a turn's own
  abbrev Elsewhere : ℕ → ℕ → Type 0
  Elsewhere q t = IsBetween (bound t) (bound (suc t)) q → ⊥

  kept_until : (q first d : ℕ) → first + d ≤ n → ((t : ℕ) → first ≤ t → t < first + d → Elsewhere q t) → slice_index (whole (first + d)).cells q ≡ slice_index (whole first).cells q
  kept_until q first zero le other = ap (λ k. slice_index (whole k).cells q) (let e : first + 0 ≡ first = omega arith in e)
  kept_until q first (suc d) le other =
      let next : first + suc d ≡ suc (first + d) = omega arith in
      let lt : first + d < n = omega (arith, le) in
      ap (λ k. slice_index (whole k).cells q) next
      ∙ turn_keeps (opened (first + d)) (whole (first + d)).cells (opened_length (first + d)) q (lane (first + d)) (stays variable all (lane (first + d)) (opened (first + d)) (opens (first + d)))
      (λ a there s e. other (first + d) (omega arith) (omega arith) (subst (IsBetween (bound (first + d)) (bound (suc (first + d)))) (place_at a (lane (first + d)) m.cells ∙ e) (are.apart.writes a (first + d) there lt s)))
      ∙ kept_until q first d (omega (arith, le)) (λ t low high. other t low (omega (arith, high)))

  -- a place of some turns, or of none
  abbrev Used : ℕ → ℕ → ℕ → Type 0
  Used low high p = IsBetween low high p ⊎ IsBeside (bound 0) (bound n) p

  -- no earlier turn's own
  not_earlier : (q u high : ℕ) → u ≤ n → Used (bound u) high q → (t : ℕ) → t < u → Elsewhere q t
  not_earlier q u high le (inl own) t lt mine = let rise = are.apart.rise (suc t) u lt in let above = own.low in let below = mine.high in omega (arith, rise, above, below)
  not_earlier q u high le (inr (inl less)) t lt mine = let rise = are.apart.rise 0 t (omega arith) in let low = mine.low in omega (arith, less, rise, low)
  not_earlier q u high le (inr (inr more)) t lt mine = let rise = are.apart.rise (suc t) n (omega (arith, lt, le)) in let below = mine.high in omega (arith, more, rise, below)

  as_before : (q u high : ℕ) → u ≤ n → Used (bound u) high q → slice_index (whole u).cells q ≡ slice_index m.cells q
  as_before q u high le used =
      ap (λ k. slice_index (whole k).cells q) (let e : u ≡ 0 + u = omega arith in e)
      ∙ kept_until q 0 u (omega (arith, le)) (λ t low lt. not_earlier q u high le used t (omega (arith, lt)))

  -- cells that hold the same at such places
  agreeing : (low high : ℕ) (c d : List ℕ) → length c ≡ length d → ((p : ℕ) → Used low high p → slice_index c p ≡ slice_index d p) → Agree all (λ p. Used low high p → ⊥) c d
  agreeing low high c d count same = record {
    count = count;
    same = λ p none. cannot_differ (slice_index c p) (slice_index d p) (λ differ. none (λ used. differ (same p used)));
  }

  module _ (low high t : ℕ) (below_own : low ≤ bound t) (above_own : bound (suc t) ≤ high) (within : t < n) where
    own_used : (p : ℕ) → IsBetween (bound t) (bound (suc t)) p → IsBetween low high p
    own_used p own = let l = own.low in let h = own.high in record { low = omega (arith, below_own, l); high = omega (arith, above_own, h) }

    writes_used : (a : Op) → Contains all a → WritesNot all (λ p. Used low high p → ⊥) (lane t) a
    writes_used a there s not = not (inl (own_used (at a (lane t)) (subst (IsBetween (bound t) (bound (suc t))) (place_at a (lane t) m.cells) (are.apart.writes a t there within s))))

    reads_used : (a : Op) → Contains all a → ReadsNot all (λ p. Used low high p → ⊥) (lane t) a
    reads_used a there s not = not (subst (Used low high) (source_at a (lane t) m.cells) (go (are.apart.reads a t there within s)))
      where
        go : Used (bound t) (bound (suc t)) (source_of a (entered variable value t m)) → Used low high (source_of a (entered variable value t m))
        go (inl own) = inl (own_used (source_of a (entered variable value t m)) own)
        go (inr beside) = inr beside

  module _ (first count : ℕ) (le : first + count ≤ n) (part : List ℕ) (is : IsPartOf (bound first) (bound (first + count)) (bound 0) (bound n) m.cells part) where
    part_same : (p : ℕ) → Used (bound first) (bound (first + count)) p → slice_index part p ≡ slice_index m.cells p
    part_same p (inl own) = is.own p own
    part_same p (inr beside) = is.others p beside

    -- ---- the turns of the part

    -- the places of other turns
    abbrev Foreign : ℕ → Type 0
    Foreign p = Used (bound first) (bound (first + count)) p → ⊥

    abbrev mine : ℕ → Machine
    mine k = turns variable (later value first) ops k (begun_behind variable value ops to m first part)

    -- what the turns before leave in the register
    abbrev before : ℕ
    before = carried variable value ops to m first

    outside_mine : (k : ℕ) → Outside variable all (mine k).registers m.registers
    outside_mine = outside (later value first) (begun_behind variable value ops to m first part) (record {
      count = length-set m.registers to before;
      rest = λ x e w. get_or-set_other m.registers to x before 0 (away x w);
    })

    -- the turns so far leave the same but at these places
    record Level (k : ℕ) : Type 0 where
      pub cells : Agree all Foreign (mine k).cells (whole (first + k)).cells
      pub number : slice_index (mine k).registers to ≡ slice_index (whole (first + k)).registers to
      pub registers : 0 < k → (mine k).registers ≡ (whole (first + k)).registers

    level_zero : Level 0
    level_zero =
        let e : first ≡ first + 0 = omega arith in
        record {
          cells = subst (λ k. Agree all Foreign part (whole k).cells) e
              (agreeing (bound first) (bound (first + count)) part (whole first).cells (is.count ∙ sym (count_whole first))
              (λ p used. part_same p used ∙ sym (as_before p first (bound (first + count)) (omega (arith, le)) used)));
          number = set_there m.registers to before are.there ∙ ap (carried variable value ops to m) e;
          registers = λ lt. absurd (omega (arith, lt));
        }

    module _ (k : ℕ) (lt : k < count) (so_far : Level k) where
      abbrev t : ℕ
      t = first + k

      abbrev r : List ℕ
      r = slice_set (mine k).registers variable (value t)

      within : t < n
      within = omega (arith, lt, le)

      below_own : bound first ≤ bound t
      below_own = are.apart.rise first t (omega arith)

      above_own : bound (suc t) ≤ bound (first + count)
      above_own = are.apart.rise (suc t) (first + count) (omega (arith, lt))

      mine_opens : Alike variable all [] (lane t) r
      mine_opens = begins_alike variable all (mine k).registers m.registers (value t) (outside_mine k)

      begins : Alike variable all [] r (opened t)
      begins =
          let two = opens t in
          record { count = sym mine_opens.count ∙ two.count; own = λ x h. sym (mine_opens.own x h) ∙ two.own x h }

      long : length r ≡ length m.registers
      long = length-set (mine k).registers variable (value t) ∙ (outside_mine k).count

      same_number : slice_index r to ≡ slice_index (opened t) to
      same_number = other_kept variable all (mine k).registers (value t) to are.other ∙ so_far.number ∙ sym (other_kept variable all (whole t).registers (value t) to are.other)

      writes_not : (a : Op) → Contains all a → WritesNot all Foreign (lane t) a
      writes_not = writes_used (bound first) (bound (first + count)) t below_own above_own within

      reads_not : (a : Op) → Contains all a → ReadsNot all Foreign (lane t) a
      reads_not = reads_used (bound first) (bound (first + count)) t below_own above_own within

      stay : Stay all (lane t) r
      stay = stays variable all (lane t) r mine_opens

      same_now : (mine (suc k)).registers ≡ (whole (suc t)).registers
      same_now = same_registers Foreign (lane t) r (opened t) (mine k).cells (whole t).cells writes_not reads_not stay begins so_far.cells long same_number

      next : Level (suc k)
      next =
          let more : suc t ≡ first + suc k = omega arith in
          record {
            cells = subst (λ j. Agree all Foreign (mine (suc k)).cells (whole j).cells) more
                (agree_behind Foreign (lane t) r (opened t) (mine k).cells (whole t).cells writes_not reads_not stay begins so_far.cells long same_number);
            number = ap (λ (l : List ℕ). slice_index l to) same_now ∙ ap (carried variable value ops to m) more;
            registers = λ some. same_now ∙ ap (λ j. (whole j).registers) more;
          }

    level : (k : ℕ) → k ≤ count → Level k
    level zero at = level_zero
    level (suc k) at = next k (omega (arith, at)) (level k (omega (arith, at)))

    pub leaves_prefixes : LeavesPrefixes variable value ops n m bound first count (mine count)
    leaves_prefixes =
        let end = level count (omega arith) in
        let rest : first + count + (n - (first + count)) ≡ n = omega (arith, le) in
        record {
          cells = λ p own.
              end.cells.same p (λ f. f (inl own))
              ∙ sym (ap (λ k. slice_index (whole k).cells p) (sym rest)
              ∙ kept_until p (first + count) (n - (first + count)) (omega (arith, le)) (λ t low high here. let rise = are.apart.rise (first + count) t low in let below = own.high in let above = here.low in omega (arith, rise, below, above)));
          registers = end.registers;
        }

    -- ---- operands

    module _ (operand : ℕ → ℕ) (quiet : list_any saves front ≡ false) (found : map (λ r. slice_index r to) (in_step front (begun variable (later value first) count (machine m.registers part))).registers ≡ map operand (below count)) where
      -- a lane's operand
      abbrev in_lane : ℕ → ℕ
      in_lane k = operand_of (lane (first + k)) part

      lane_is : (k : ℕ) → k < count → in_lane k ≡ operand k
      lane_is k lt =
          over_same in_lane operand count k
          (sym (map-map (λ r. slice_index r to) (λ j. reg front (lane (first + j)) part) (below count))
          ∙ sym (ap (λ l. map (λ r. slice_index r to) l.registers) (quiet_in_step front (λ j. lane (first + j)) (below count) part quiet))
          ∙ found)
          lt

      -- and the turn's
      turn_is : (k : ℕ) → k < count → operand_of (opened (first + k)) (whole (first + k)).cells ≡ operand k
      turn_is k lt = sym operands_same ∙ lane_is k lt
        where
          t : ℕ
          t = first + k

          within : t < n
          within = omega (arith, lt, le)

          wider : (p : ℕ) → Used (bound t) (bound (suc t)) p → Used (bound first) (bound (first + count)) p
          wider p (inl own) = inl (own_used (bound first) (bound (first + count)) t (are.apart.rise first t (omega arith)) (are.apart.rise (suc t) (first + count) (omega (arith, lt))) within p own)
          wider p (inr beside) = inr beside

          agree : Agree all (λ p. Used (bound t) (bound (suc t)) p → ⊥) part (whole t).cells
          agree =
              agreeing (bound t) (bound (suc t)) part (whole t).cells (is.count ∙ sym (count_whole t))
              (λ p used. part_same p (wider p used) ∙ sym (as_before p t (bound (suc t)) (omega (arith, within)) used))

          operands_same : operand_of (lane t) part ≡ operand_of (opened t) (whole t).cells
          operands_same =
              same_operand (λ p. Used (bound t) (bound (suc t)) p → ⊥) (lane t) (lane t) (opened t) part (whole t).cells
              (writes_used (bound t) (bound (suc t)) t (omega arith) (omega arith) within) (reads_used (bound t) (bound (suc t)) t (omega arith) (omega arith) within)
              (λ x w. refl) (opens t) agree

      pub folds : (k : ℕ) → k ≤ count → carried variable value ops to m (first + k) ≡ folded f before operand k
      folds zero at = ap (carried variable value ops to m) (let e : first + 0 ≡ first = omega arith in e)
      folds (suc k) at =
          let more : first + suc k ≡ suc (first + k) = omega arith in
          ap (carried variable value ops to m) more
          ∙ turn_makes (opened (first + k)) (whole (first + k)).cells (opened_length (first + k))
          ∙ ap (λ x. f x (operand_of (opened (first + k)) (whole (first + k)).cells)) (other_kept variable all (whole (first + k)).registers (value (first + k)) to are.other ∙ folds k (omega (arith, at)))
          ∙ ap (f (folded f before operand k)) (turn_is k (omega (arith, at)))

pub prefix_parts_law : PrefixesRunInParts
prefix_parts_law variable value f to exclusive ops front back n m bound first count part are le is = leaves_prefixes variable value f to exclusive ops front back n m bound are first count le part is

pub operands_law : OperandsInParts
operands_law variable value f to exclusive ops front back n m bound first count part operand are quiet le is found =
    folds variable value f to exclusive ops front back n m bound are first count le part is operand quiet found count (omega arith)
