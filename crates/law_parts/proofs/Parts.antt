-- Turns in parts.
use Rattle.std.proofs.Common.{◌≡◌, ◌⊎◌, inl, inr, ℕ, zero, suc, ◌+◌, ◌-◌, ◌<◌, ◌≤◌, Bool, true, false, List, [], length, refl, sym, ap, ◌∙◌, subst, arith}
use Rattle.std.specs.Prelude.{slice_index, slice_set, nat_lt, ◌==◌, not, ◌||◌, Contains}
use Rattle.std.specs.List.{AllByRecursion as Each}
use Rattle.std.proofs.lemmas.Bool.{or_right, ltb-true, ltb-false}
use Rattle.lower_machine.specs.Machine.{Machine, machine}
use Rattle.lower_op.specs.declared.op.Op.{Op}
use Rattle.law_lanes.specs.Reading.{saves, place_of, source_of}
use Rattle.law_lanes.specs.Lanes.{entered, turns}
use Rattle.law_lanes.proofs.Ops.{at, place_at, source_at}
use Rattle.law_lanes.proofs.Swap.{Fine, Stay, fine_each}
use Rattle.law_lanes.proofs.Turning.{Alike}
use Rattle.law_lanes.proofs.Lanes.{Outside, begins_alike, end_alike, each_there, fine_there, known_each, leaves_outside}
use Rattle.law_parts.specs.Parts.{IsBetween, IsBeside, KeepApart, later, IsPartOf, LeavesPart, TurnsKeepOthers, TurnsRunInParts}
use Rattle.law_parts.proofs.Frames.{WritesNot, ReadsNot, Agree, Went, cells_count, kept_cell, went}

module _ (variable : ℕ) (value : ℕ → ℕ) (ops : List Op) (n : ℕ) (m : Machine) (bound : ℕ → ℕ) (apart : KeepApart variable value ops n m bound) where
  -- the registers in which a turn makes its places
  abbrev lane : ℕ → List ℕ
  lane t = (entered variable value t m).registers

  all_fine : Each (Fine ops) ops
  all_fine = fine_each ops ops ops (known_each ops ops (fine_there ops apart.steady))

  -- turns with some values, over some cells
  abbrev behind : (ℕ → ℕ) → List ℕ → ℕ → Machine
  behind values c k = turns variable values ops k (machine m.registers c)

  outside : (values : ℕ → ℕ) (c : List ℕ) (k : ℕ) → Outside variable ops (behind values c k).registers m.registers
  outside values c zero = record { count = refl; rest = λ x e w. refl }
  outside values c (suc k) = leaves_outside variable ops (behind values c k).registers m.registers (behind values c k).cells (values k) all_fine (outside values c k)

  count_kept : (values : ℕ → ℕ) (c : List ℕ) (k : ℕ) → length (behind values c k).cells ≡ length c
  count_kept values c zero = refl
  count_kept values c (suc k) = cells_count ops (entered variable values k (behind values c k)).registers (behind values c k).cells ∙ count_kept values c k

  -- a turn begins with registers of which those that no turn changes are those of its lane
  begun : (values : ℕ → ℕ) (c : List ℕ) (k v : ℕ) → Alike variable ops [] (slice_set m.registers variable v) (slice_set (behind values c k).registers variable v)
  begun values c k v = begins_alike variable ops (behind values c k).registers m.registers v (outside values c k)

  stays : (r s : List ℕ) → Alike variable ops [] r s → Stay ops r s
  stays r s alike = λ x w. alike.own x (subst (λ b. (((variable == x) || false) || not b) ≡ true) (sym w) (or_right ((variable == x) || false) true refl))

  -- all turns from the cells before
  abbrev whole : ℕ → Machine
  whole k = turns variable value ops k m

  one_kept : (q k : ℕ) → ((a : Op) → Contains ops a → saves a ≡ true → place_of a (entered variable value k m) ≡ q → ⊥) → slice_index (whole (suc k)).cells q ≡ slice_index (whole k).cells q
  one_kept q k none =
      kept_cell ops (lane k) q ops (slice_set (whole k).registers variable (value k)) (whole k).cells all_fine (stays (lane k) (slice_set (whole k).registers variable (value k)) (begun value m.cells k (value k)))
      (each_there (WritesNot ops (λ p. p ≡ q) (lane k)) ops (λ a there s e. none a there s (place_at a (lane k) m.cells ∙ e)))

  -- a place that is none of a turn's own
  abbrev Elsewhere : ℕ → ℕ → Type 0
  Elsewhere q t = IsBetween (bound t) (bound (suc t)) q → ⊥

  kept_until : (q first d : ℕ) → first + d ≤ n → ((t : ℕ) → first ≤ t → t < first + d → Elsewhere q t) → slice_index (whole (first + d)).cells q ≡ slice_index (whole first).cells q
  kept_until q first zero le other = ap (λ k. slice_index (whole k).cells q) (let e : first + 0 ≡ first = omega arith in e)
  kept_until q first (suc d) le other =
      let next : first + suc d ≡ suc (first + d) = omega arith in
      let lt : first + d < n = omega (arith, le) in
      ap (λ k. slice_index (whole k).cells q) next
      ∙ one_kept q (first + d) (λ a there s e. other (first + d) (omega arith) (omega arith) (subst (IsBetween (bound (first + d)) (bound (suc (first + d)))) e (apart.writes a (first + d) there lt s)))
      ∙ kept_until q first d (omega (arith, le)) (λ t low high. other t low (omega (arith, high)))

  -- no turn's own
  beside_each : (q : ℕ) → IsBeside (bound 0) (bound n) q → (t : ℕ) → t < n → Elsewhere q t
  beside_each q (inl lt) t within own = let rise = apart.rise 0 t (omega arith) in let low = own.low in absurd (omega (arith, lt, rise, low))
  beside_each q (inr le) t within own = let rise = apart.rise (suc t) n (omega (arith, within)) in let high = own.high in absurd (omega (arith, le, rise, high))

  pub others_kept : (q : ℕ) → IsBeside (bound 0) (bound n) q → slice_index (whole n).cells q ≡ slice_index m.cells q
  others_kept q beside =
      ap (λ k. slice_index (whole k).cells q) (let e : n ≡ 0 + n = omega arith in e)
      ∙ kept_until q 0 n (omega arith) (λ t low high. beside_each q beside t (omega (arith, high)))

  module _ (first count : ℕ) (le : first + count ≤ n) (part : List ℕ) (are : IsPartOf (bound first) (bound (first + count)) (bound 0) (bound n) m.cells part) where
    -- the places of other turns
    abbrev Foreign : ℕ → Type 0
    Foreign p = IsBetween (bound 0) (bound n) p × (IsBetween (bound first) (bound (first + count)) p → ⊥)

    -- the turns of the part
    abbrev mine : ℕ → Machine
    mine k = turns variable (later value first) ops k (machine m.registers part)

    known : (p : ℕ) → (Foreign p → ⊥) → IsBetween (bound first) (bound (first + count)) p ⊎ IsBeside (bound 0) (bound n) p
    known p none = low (nat_lt p (bound 0)) refl
      where
        inside : bound 0 ≤ p → p < bound n → (b : Bool) → nat_lt p (bound first) ≡ b → (c : Bool) → nat_lt p (bound (first + count)) ≡ c → IsBetween (bound first) (bound (first + count)) p ⊎ IsBeside (bound 0) (bound n) p
        inside ge lt true e c f = absurd (none (record { low = ge; high = lt }, λ own. let above = own.low in let below = ltb-true p (bound first) e in omega (arith, above, below)))
        inside ge lt false e true f = inl (record { low = ltb-false p (bound first) e; high = ltb-true p (bound (first + count)) f })
        inside ge lt false e false f = absurd (none (record { low = ge; high = lt }, λ own. let above = ltb-false p (bound (first + count)) f in let below = own.high in omega (arith, above, below)))

        high : bound 0 ≤ p → (b : Bool) → nat_lt p (bound n) ≡ b → IsBetween (bound first) (bound (first + count)) p ⊎ IsBeside (bound 0) (bound n) p
        high ge true e = inside ge (ltb-true p (bound n) e) (nat_lt p (bound first)) refl (nat_lt p (bound (first + count))) refl
        high ge false e = inr (inr (ltb-false p (bound n) e))

        low : (b : Bool) → nat_lt p (bound 0) ≡ b → IsBetween (bound first) (bound (first + count)) p ⊎ IsBeside (bound 0) (bound n) p
        low true e = inr (inl (ltb-true p (bound 0) e))
        low false e = high (ltb-false p (bound 0) e) (nat_lt p (bound n)) refl

    -- the turns so far leave the same but at these places
    record Level (k : ℕ) : Type 0 where
      pub cells : Agree ops Foreign (mine k).cells (whole (first + k)).cells
      pub registers : 0 < k → (mine k).registers ≡ (whole (first + k)).registers

    start_cell : (p : ℕ) → IsBetween (bound first) (bound (first + count)) p ⊎ IsBeside (bound 0) (bound n) p → slice_index part p ≡ slice_index (whole first).cells p
    start_cell p (inl own) =
        are.own p own
        ∙ sym (ap (λ k. slice_index (whole k).cells p) (let e : first ≡ 0 + first = omega arith in e)
        ∙ kept_until p 0 first (omega (arith, le)) (λ t low high mine. let rise = apart.rise (suc t) first (omega (arith, high)) in let above = own.low in let below = mine.high in omega (arith, rise, above, below)))
    start_cell p (inr beside) =
        are.others p beside
        ∙ sym (ap (λ k. slice_index (whole k).cells p) (let e : first ≡ 0 + first = omega arith in e)
        ∙ kept_until p 0 first (omega (arith, le)) (λ t low high. beside_each p beside t (omega (arith, high, le))))

    level_zero : Level 0
    level_zero = record {
      cells = subst (λ k. Agree ops Foreign part (whole k).cells) (let e : first ≡ first + 0 = omega arith in e) (record {
        count = are.count ∙ sym (count_kept value m.cells first);
        same = λ p none. start_cell p (known p none);
      });
      registers = λ lt. absurd (omega (arith, lt));
    }

    module _ (k : ℕ) (lt : k < count) where
      abbrev t : ℕ
      t = first + k

      own_here : (p : ℕ) → IsBetween (bound t) (bound (suc t)) p → IsBetween (bound first) (bound (first + count)) p
      own_here p here =
          let above = apart.rise first t (omega arith) in
          let below = apart.rise (suc t) (first + count) (omega (arith, lt)) in
          let low = here.low in
          let high = here.high in
          record { low = omega (arith, above, low); high = omega (arith, below, high) }

      within : t < n
      within = omega (arith, lt, le)

      writes_own : Each (WritesNot ops Foreign (lane t)) ops
      writes_own = each_there (WritesNot ops Foreign (lane t)) ops (λ a there s f. f.1 (own_here (at a (lane t)) (subst (IsBetween (bound t) (bound (suc t))) (place_at a (lane t) m.cells) (apart.writes a t there within s))))

      not_both : (p : ℕ) → IsBetween (bound t) (bound (suc t)) p ⊎ IsBeside (bound 0) (bound n) p → Foreign p → ⊥
      not_both p (inl here) f = f.1 (own_here p here)
      not_both p (inr (inl less)) f = let low = f.0.low in omega (arith, less, low)
      not_both p (inr (inr more)) f = let high = f.0.high in omega (arith, more, high)

      reads_own : Each (ReadsNot ops Foreign (lane t)) ops
      reads_own = each_there (ReadsNot ops Foreign (lane t)) ops (λ a there s f. not_both (source_of a (entered variable value t m)) (apart.reads a t there within s) (subst Foreign (sym (source_at a (lane t) m.cells)) f))

      begins : Alike variable ops [] (slice_set (mine k).registers variable (value t)) (slice_set (whole t).registers variable (value t))
      begins =
          let one = begun (later value first) part k (value t) in
          let two = begun value m.cells t (value t) in
          record { count = sym one.count ∙ two.count; own = λ x h. sym (one.own x h) ∙ two.own x h }

      turn : Level k → Went ops Foreign variable (lane t) ops [] (slice_set (mine k).registers variable (value t)) (slice_set (whole t).registers variable (value t)) (mine k).cells (whole t).cells
      turn level =
          went ops Foreign variable (lane t) ops [] (slice_set (mine k).registers variable (value t)) (slice_set (whole t).registers variable (value t)) (mine k).cells (whole t).cells
          all_fine apart.own (stays (lane t) (slice_set (mine k).registers variable (value t)) (begun (later value first) part k (value t))) writes_own reads_own begins level.cells

      next : Level k → Level (suc k)
      next level =
          let done = turn level in
          let more : suc t ≡ first + suc k = omega arith in
          record {
            cells = subst (λ j. Agree ops Foreign (mine (suc k)).cells (whole j).cells) more done.cells;
            registers = λ some. end_alike variable ops (mine (suc k)).registers (whole (suc t)).registers done.registers ∙ ap (λ j. (whole j).registers) more;
          }

    level : (k : ℕ) → k ≤ count → Level k
    level zero at = level_zero
    level (suc k) at = next k (omega (arith, at)) (level k (omega (arith, at)))

    pub leaves_part : LeavesPart (bound first) (bound (first + count)) ((0 < count) × (first + count ≡ n)) (mine count) (whole n)
    leaves_part =
        let end = level count (omega arith) in
        let all : first + count + (n - (first + count)) ≡ n = omega (arith, le) in
        record {
          cells = λ p own.
              end.cells.same p (λ f. f.1 own)
              ∙ sym (ap (λ k. slice_index (whole k).cells p) (sym all)
              ∙ kept_until p (first + count) (n - (first + count)) (omega (arith, le)) (λ t low high here. let rise = apart.rise (first + count) t low in let below = own.high in let above = here.low in omega (arith, rise, below, above)));
          registers = λ is_last. end.registers is_last.0 ∙ ap (λ k. (whole k).registers) is_last.1;
        }

pub others_law : TurnsKeepOthers
others_law variable value ops n m bound apart p beside = others_kept variable value ops n m bound apart p beside

pub parts_law : TurnsRunInParts
parts_law variable value ops n m bound first count part apart le are = leaves_part variable value ops n m bound apart first count le part are
