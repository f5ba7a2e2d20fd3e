-- A part that is all of the turns.
use Rattle.std.proofs.Common.{◌≡◌, ◌⊎◌, inl, inr, ℕ, zero, suc, ◌+◌, ◌-◌, ◌*◌, ◌<◌, ◌≤◌, List, ◌++◌, length, refl, sym, ap, ◌∙◌, subst, arith}
use Rattle.std.specs.Prelude.{slice_index, slice_set}
use Rattle.std.proofs.lemmas.Bool.{cases_lt}
use Rattle.std.proofs.lemmas.List.{ext_get_or, get_or_append_left, get_or-append-add, length-append}
use Rattle.lower_machine.specs.Machine.{Machine, machine}
use Rattle.lower_op.specs.declared.op.Op.{Op}
use Rattle.law_lanes.specs.Lanes.{turns}
use Rattle.law_parts.specs.Parts.{KeepApart}
use Rattle.law_parts.proofs.Frames.{cells_count}
use Rattle.law_parts.proofs.Parts.{others_law}
use Rattle.lane_rows.specs.Lanes.{stepped}
use Rattle.team_parts.specs.declared.shared.Shared.{Shared}
use Rattle.team_parts.specs.Placed.{IsPlaced, LeavesOwn, IsPartDone, left_by}
use Rattle.team_parts.specs.Turned.{ops_of, variable_of}
use Rattle.team_parts.specs.Window.{bound_of}

-- turns make no cells
turned_count : (variable : ℕ) (value : ℕ → ℕ) (ops : List Op) (n : ℕ) (m : Machine) → length (turns variable value ops n m).cells ≡ length m.cells
turned_count variable value ops zero m = refl
turned_count variable value ops (suc n) m =
    cells_count ops (slice_set (turns variable value ops n m).registers variable (value n)) (turns variable value ops n m).cells ∙ turned_count variable value ops n m

module _ (s : Shared) (mine : List ℕ) (low : length s.before.now ≡ s.window.low) (long : length mine ≡ s.window.width * s.count) where
  abbrev cells_with : List ℕ → List ℕ
  cells_with own = s.before.now ++ (own ++ s.behind.now)

  own_at : (own : List ℕ) (k : ℕ) → k < length own → slice_index (cells_with own) (s.window.low + k) ≡ slice_index own k
  own_at own k lt =
      ap (λ n. slice_index (cells_with own) (n + k)) (sym low)
      ∙ get_or-append-add s.before.now (own ++ s.behind.now) k 0
      ∙ get_or_append_left own s.behind.now 0 k lt

  behind_at : (own : List ℕ) (k : ℕ) → slice_index (cells_with own) (s.window.low + (length own + k)) ≡ slice_index s.behind.now k
  behind_at own k =
      ap (λ n. slice_index (cells_with own) (n + (length own + k))) (sym low)
      ∙ get_or-append-add s.before.now (own ++ s.behind.now) (length own + k) 0
      ∙ get_or-append-add own s.behind.now k 0

  before_at : (own : List ℕ) (k : ℕ) → k < s.window.low → slice_index (cells_with own) k ≡ slice_index s.before.now k
  before_at own k lt = get_or_append_left s.before.now (own ++ s.behind.now) 0 k (omega (arith, lt, low))

  count_with : (own : List ℕ) → length (cells_with own) ≡ s.window.low + length own + length s.behind.now
  count_with own =
      let a = length-append s.before.now (own ++ s.behind.now) in
      let b = length-append own s.behind.now in
      omega (arith, a, b, low)

  module _ (apart : KeepApart (variable_of s.turned) (stepped s.first s.by) (ops_of s.turned) s.count (machine s.registers.now (cells_with mine)) (bound_of s.window)) where
    none : s.window.width * 0 ≡ 0
    none = omega arith

    placed : IsPlaced s 0 s.count mine (cells_with mine)
    placed = record {
      apart = apart;
      long = let all = count_with mine in omega (arith, all, long);
      low = low;
      before = λ k lt. sym (before_at mine k lt);
      own = λ k lt.
          let at : s.window.low + k ≡ s.window.low + s.window.width * 0 + k = omega (arith, none) in
          sym (own_at mine k (omega (arith, lt, long))) ∙ ap (slice_index (cells_with mine)) at;
      behind = λ k.
          let at : s.window.low + (length mine + k) ≡ s.window.low + s.window.width * s.count + k = omega (arith, long) in
          sym (behind_at mine k) ∙ ap (slice_index (cells_with mine)) at;
    }

    module _ (new rs : List ℕ) (some : 0 < s.count) (done : IsPartDone s 0 s.count mine new rs) where
      leaves : LeavesOwn s 0 s.count new rs (cells_with mine)
      leaves = done.does (cells_with mine) placed

      kept : length new ≡ s.window.width * s.count
      kept = done.long ∙ long

      counted : length (cells_with new) ≡ length (left_by s (cells_with mine)).cells
      counted =
          let a = count_with new in
          let b = count_with mine in
          let c = turned_count (variable_of s.turned) (stepped s.first s.by) (ops_of s.turned) s.count (machine s.registers.now (cells_with mine)) in
          omega (arith, a, b, c, kept, long)

      others : (p : ℕ) → (p < s.window.low) ⊎ (s.window.low + s.window.width * s.count ≤ p) → slice_index (left_by s (cells_with mine)).cells p ≡ slice_index (cells_with mine) p
      others p (inl less) = others_law (variable_of s.turned) (stepped s.first s.by) (ops_of s.turned) s.count (machine s.registers.now (cells_with mine)) (bound_of s.window) apart p (inl (omega (arith, less, none)))
      others p (inr more) = others_law (variable_of s.turned) (stepped s.first s.by) (ops_of s.turned) s.count (machine s.registers.now (cells_with mine)) (bound_of s.window) apart p (inr more)

      abbrev here : ℕ → Type 0
      here p = slice_index (cells_with new) p ≡ slice_index (left_by s (cells_with mine)).cells p

      in_own : (k : ℕ) → k < s.window.width * s.count → here (s.window.low + k)
      in_own k lt =
          let at : s.window.low + s.window.width * 0 + k ≡ s.window.low + k = omega (arith, none) in
          own_at new k (omega (arith, lt, kept)) ∙ leaves.own k lt ∙ ap (slice_index (left_by s (cells_with mine)).cells) at

      in_behind : (k : ℕ) → here (s.window.low + (s.window.width * s.count + k))
      in_behind k =
          let one : s.window.low + (s.window.width * s.count + k) ≡ s.window.low + (length new + k) = omega (arith, kept) in
          let other : s.window.low + (length mine + k) ≡ s.window.low + (s.window.width * s.count + k) = omega (arith, long) in
          ap (slice_index (cells_with new)) one ∙ behind_at new k ∙ sym (behind_at mine k) ∙ ap (slice_index (cells_with mine)) other
          ∙ sym (others (s.window.low + (s.window.width * s.count + k)) (inr (omega arith)))

      past : (p : ℕ) → s.window.low ≤ p → (p < s.window.low + s.window.width * s.count) ⊎ (s.window.low + s.window.width * s.count ≤ p) → here p
      past p low' (inl less) =
          let at : s.window.low + (p - s.window.low) ≡ p = omega (arith, low') in
          subst here at (in_own (p - s.window.low) (omega (arith, less, low')))
      past p low' (inr more) =
          let at : s.window.low + (s.window.width * s.count + (p - (s.window.low + s.window.width * s.count))) ≡ p = omega (arith, more) in
          subst here at (in_behind (p - (s.window.low + s.window.width * s.count)))

      anywhere : (p : ℕ) → (p < s.window.low) ⊎ (s.window.low ≤ p) → here p
      anywhere p (inl less) = before_at new p less ∙ sym (before_at mine p less) ∙ sym (others p (inl less))
      anywhere p (inr more) = past p more (cases_lt p (s.window.low + s.window.width * s.count))

      pub all_done : machine rs (cells_with new) ≡ left_by s (cells_with mine)
      all_done =
          let cells : cells_with new ≡ (left_by s (cells_with mine)).cells = ext_get_or 0 (cells_with new) (left_by s (cells_with mine)).cells counted (λ p lt. anywhere p (cases_lt p s.window.low)) in
          let zero_on : 0 + s.count ≡ s.count = omega arith in
          ap (λ cs. machine rs cs) cells ∙ ap (λ r. machine r (left_by s (cells_with mine)).cells) (leaves.registers some zero_on)
