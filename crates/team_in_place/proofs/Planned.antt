-- What the turns of a loop with a counted loop in them leave alone, and what its inner loop begins with.
use Rattle.std.proofs.Common.{◌≡◌, ℕ, zero, suc, ◌<◌, false, List, [], ◌∷◌, ◌++◌, length, map, refl, sym, ap, ◌∙◌, arith}
use Rattle.std.specs.Prelude.{slice_index, slice_set, ◌==◌, ◌||◌}
use Rattle.std.proofs.lemmas.Bool.{or_parts, or_from, cond_both}
use Rattle.std.proofs.lemmas.List.Folds.{list_any-append}
use Rattle.lower_machine.specs.declared.term.Register.{Register}
use Rattle.lower_machine.specs.Machine.{Machine, machine}
use Rattle.lower_op.specs.declared.op.Op.{Op}
use Rattle.lower_op.specs.declared.op.Op.TheVariants as O
use Rattle.lower_op.specs.Steps.{steps}
use Rattle.lower_op.proofs.Stepping.{steps_append, index_same}
use Rattle.law_lanes.specs.Reading.{writes, is_written}
use Rattle.law_lanes.proofs.Lanes.{steps_kept, steps_length}
use Rattle.law_unrolled.specs.Unrolled.{form_at, behind, placed_at, unrolled, flat}
use Rattle.team_in_place.specs.Begun.{IsUnwritten, IsLeft, BeginsWith}
use Rattle.team_in_place.specs.Nesting.{nested_with}
use Rattle.team_in_place.specs.declared.nesting.Nesting.{Nesting}

-- ---- what is written

module _ (v n x : ℕ) where
  writes_same : (op : Op) → writes x (placed_at v n op) ≡ writes x op
  writes_same (O.Load to a) = cond_both (a.at == v) (O.LoadForm to (form_at v n (behind 0 a))) (O.Load to a) (λ o. writes x o ≡ (to.at == x)) (λ e. refl) (λ e. refl)
  writes_same (O.Save a b) = cond_both (a.at == v) (O.SaveForm (form_at v n (behind 0 a)) b) (O.Save a b) (λ o. writes x o ≡ false) (λ e. refl) (λ e. refl)
  writes_same op = refl

  written_same : (ops : List Op) → is_written (map (placed_at v n) ops) x ≡ is_written ops x
  written_same [] = refl
  written_same (op ∷ ops) = ap (λ b. b || is_written (map (placed_at v n) ops) x) (writes_same op) ∙ ap (λ b. writes x op || b) (written_same ops)

inner_unwritten : (inner : Register) (value : ℕ → ℕ) (ops : List Op) (x k : ℕ) → (inner.at == x) ≡ false → is_written ops x ≡ false → is_written (unrolled inner value ops k) x ≡ false
inner_unwritten inner value ops x zero e h = refl
inner_unwritten inner value ops x (suc k) e h =
    let turn = O.Constant inner (value k) ∷ map (placed_at inner.at (value k)) ops in
    list_any-append (writes x) (unrolled inner value ops k) turn
    ∙ or_from (is_written (unrolled inner value ops k) x) (is_written turn x) (inner_unwritten inner value ops x k e h)
    (or_from (inner.at == x) (is_written (map (placed_at inner.at (value k)) ops) x) e (written_same inner.at (value k) x ops ∙ h))

module _ (x : Nesting) where
  abbrev v : Register
  v = x.counted.now.variable

  pub unwritten : (r : ℕ) → (v.at == r) ≡ false → is_written x.front.now r ≡ false → is_written x.counted.now.ops.items r ≡ false → is_written x.back.now r ≡ false → IsUnwritten x r
  unwritten r e front ops back value count next =
      let inner = unrolled v value x.counted.now.ops.items count in
      let tail = O.Constant v next ∷ x.back.now in
      list_any-append (writes r) x.front.now (inner ++ tail)
      ∙ or_from (is_written x.front.now r) (is_written (inner ++ tail) r) front
      (list_any-append (writes r) inner tail
      ∙ or_from (is_written inner r) (is_written tail r) (inner_unwritten v value x.counted.now.ops.items r count e ops) (or_from (v.at == r) (is_written x.back.now r) e back))

  -- ---- what the inner loop begins with

  module _ (registers : List ℕ) (there : v.at < length registers) (front : List Op) (to : Register) (same : to.at ≡ v.at) (last : Op) (is : x.front.now ≡ front ++ last ∷ []) where
    -- the last instruction in front of it writes its variable
    begins : (n : ℕ) (rs cells : List ℕ) → length rs ≡ length registers → (steps (last ∷ []) (steps front (machine rs cells))).registers ≡ slice_set (steps front (machine rs cells)).registers to.at n
        → slice_index (steps x.front.now (machine rs cells)).registers v.at ≡ n
    begins n rs cells long does =
        let count = steps_length front rs cells in
        ap (λ (l : List Op). slice_index (steps l (machine rs cells)).registers v.at) is
        ∙ ap (λ (m : Machine). slice_index m.registers v.at) (steps_append front (last ∷ []) (machine rs cells))
        ∙ ap (λ l. slice_index l v.at) does
        ∙ ap (λ i. slice_index (slice_set (steps front (machine rs cells)).registers to.at n) i) (sym same)
        ∙ index_same (steps front (machine rs cells)).registers to.at n (omega (arith, count, long, same, there))

    -- what a turn leaves alone no instruction in front writes
    front_left : (r count next : ℕ) (value : ℕ → ℕ) → is_written (flat (nested_with x value count next)) r ≡ false → is_written front r ≡ false
    front_left r count next value left =
        let inner = unrolled v value x.counted.now.ops.items count in
        let tail = O.Constant v next ∷ x.back.now in
        let all = or_parts (is_written x.front.now r) (is_written (inner ++ tail) r) (sym (list_any-append (writes r) x.front.now (inner ++ tail)) ∙ left) in
        (or_parts (is_written front r) (is_written (last ∷ []) r) (sym (list_any-append (writes r) front (last ∷ [])) ∙ ap (λ (l : List Op). is_written l r) (sym is) ∙ all.0)).0

  module _ (registers : List ℕ) (there : v.at < length registers) (front : List Op) (to : Register) (same : to.at ≡ v.at) where
    pub constant_begins : (n : ℕ) → x.front.now ≡ front ++ O.Constant to n ∷ [] → BeginsWith x registers n
    constant_begins n is value count next rs cells kept = begins registers there front to same (O.Constant to n) is n rs cells kept.count refl

    pub move_begins : (a : Register) → IsLeft x a.at → x.front.now ≡ front ++ O.Move to a ∷ [] → BeginsWith x registers (slice_index registers a.at)
    move_begins a left is value count next rs cells kept =
        let free = left.unwritten value count next in
        begins registers there front to same (O.Move to a) is (slice_index (steps front (machine rs cells)).registers a.at) rs cells kept.count refl
        ∙ steps_kept front rs cells a.at (front_left registers there front to same (O.Move to a) is a.at count next value free)
        ∙ kept.rest a.at left.other free
