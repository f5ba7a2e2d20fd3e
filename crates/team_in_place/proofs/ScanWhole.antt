-- A part that is all of the turns of a prefix sum.
use Rattle.std.proofs.Common.{◌≡◌, ◌⊎◌, inl, inr, ℕ, ◌+◌, ◌-◌, ◌*◌, ◌<◌, ◌≤◌, List, ◌++◌, length, sym, ap, ◌∙◌, subst, arith}
use Rattle.std.specs.Prelude.{slice_index}
use Rattle.std.proofs.lemmas.Bool.{cases_lt}
use Rattle.std.proofs.lemmas.List.{ext_get_or, get_or_append_left, get_or-append-add, length-append}
use Rattle.lower_machine.specs.Machine.{Machine, machine}
use Rattle.law_parts.specs.Parts.{IsBeside, KeepApart}
use Rattle.lane_rows.specs.Lanes.{stepped}
use Rattle.lane_body.proofs.InLanes.{laned_room}
use Rattle.lower_lanes.proofs.Folded.{written_room}
use Rattle.lower_lanes.proofs.Scanned.{written_all}
use Rattle.team_parts.specs.Window.{bound_of}
use Rattle.team_scans.specs.Placed.{IsPlaced, LeavesOwn, IsPartDone, left_by}
use Rattle.team_scans.specs.declared.prefixes.Prefixes.{Prefixes}
use Rattle.team_in_place.proofs.ScanCells.{count_whole, others_left}

module _ (s : Prefixes) (mine : List ℕ) (low : length s.before.now ≡ s.window.low) (long : length mine ≡ s.window.width * s.count) where
  abbrev cells_with : List ℕ → List ℕ
  cells_with own = s.before.now ++ (own ++ s.behind.now)

  own_at : (own : List ℕ) (k : ℕ) → k < length own → slice_index (cells_with own) (s.window.low + k) ≡ slice_index own k
  own_at own k lt =
      ap (λ n. slice_index (cells_with own) (n + k)) (sym low)
      ∙ get_or-append-add s.before.now (own ++ s.behind.now) k 0
      ∙ get_or_append_left own s.behind.now 0 k lt

  behind_at : (own : List ℕ) (k : ℕ) → slice_index (cells_with own) (s.window.low + (length own + k)) ≡ slice_index s.behind.now k
  behind_at own k =
      ap (λ n. slice_index (cells_with own) (n + (length own + k))) (sym low)
      ∙ get_or-append-add s.before.now (own ++ s.behind.now) (length own + k) 0
      ∙ get_or-append-add own s.behind.now k 0

  before_at : (own : List ℕ) (k : ℕ) → k < s.window.low → slice_index (cells_with own) k ≡ slice_index s.before.now k
  before_at own k lt = get_or_append_left s.before.now (own ++ s.behind.now) 0 k (omega (arith, lt, low))

  count_with : (own : List ℕ) → length (cells_with own) ≡ s.window.low + length own + length s.behind.now
  count_with own =
      let a = length-append s.before.now (own ++ s.behind.now) in
      let b = length-append own s.behind.now in
      omega (arith, a, b, low)

  -- the register is one that there is
  there : s.scanned.target.at < length s.registers.now
  there =
      let l = s.scanned.laned in
      let below : s.scanned.target.at < l.limit = written_room l.limit s.scanned.target.at l.ops.now (laned_room l.limit l.variable.at l.ops.now l.laned) (written_all l.variable.at s.scanned.operator s.scanned.target.at s.scanned.exclusive s.scanned.front s.scanned.ops.now l.ops.now s.scanned.scanned) in
      let wide = s.wide in
      omega (arith, below, wide)

  abbrev began : Machine
  began = machine s.registers.now (cells_with mine)

  module _ (apart : KeepApart s.scanned.laned.variable.at (stepped s.first s.by) s.scanned.laned.ops.now s.count began (bound_of s.window)) where
    none : s.window.width * 0 ≡ 0
    none = omega arith

    placed : IsPlaced s 0 s.count mine (cells_with mine)
    placed = record {
      apart = apart;
      long = let all = count_with mine in omega (arith, all, long);
      low = low;
      before = λ k lt. sym (before_at mine k lt);
      own = λ k lt.
          let at : s.window.low + k ≡ s.window.low + s.window.width * 0 + k = omega (arith, none) in
          sym (own_at mine k (omega (arith, lt, long))) ∙ ap (slice_index (cells_with mine)) at;
      behind = λ k.
          let at : s.window.low + (length mine + k) ≡ s.window.low + s.window.width * s.count + k = omega (arith, long) in
          sym (behind_at mine k) ∙ ap (slice_index (cells_with mine)) at;
    }

    left_count : length (left_by s (cells_with mine) s.count).cells ≡ length (cells_with mine)
    left_count = count_whole s.scanned.laned.variable.at s.scanned.operator s.scanned.target.at s.scanned.exclusive s.scanned.front s.scanned.ops.now s.scanned.laned.ops.now s.scanned.scanned s.first s.by s.count began (bound_of s.window) apart there s.count

    others : (p : ℕ) → IsBeside (bound_of s.window 0) (bound_of s.window s.count) p → slice_index (left_by s (cells_with mine) s.count).cells p ≡ slice_index (cells_with mine) p
    others p beside = others_left s.scanned.laned.variable.at s.scanned.operator s.scanned.target.at s.scanned.exclusive s.scanned.front s.scanned.ops.now s.scanned.laned.ops.now s.scanned.scanned s.first s.by s.count began (bound_of s.window) apart there p beside

    module _ (first : ℕ) (is : first ≡ slice_index s.registers.now s.scanned.target.at) (new rs : List ℕ) (some : 0 < s.count) (done : IsPartDone s first 0 s.count mine new rs) where
      leaves : LeavesOwn s 0 s.count new rs (cells_with mine)
      leaves = done.does (cells_with mine) placed is

      kept : length new ≡ s.window.width * s.count
      kept = done.long ∙ long

      counted : length (cells_with new) ≡ length (left_by s (cells_with mine) s.count).cells
      counted =
          let a = count_with new in
          let b = count_with mine in
          let c = left_count in
          omega (arith, a, b, c, kept, long)

      abbrev here : ℕ → Type 0
      here p = slice_index (cells_with new) p ≡ slice_index (left_by s (cells_with mine) s.count).cells p

      in_own : (k : ℕ) → k < s.window.width * s.count → here (s.window.low + k)
      in_own k lt =
          let at : s.window.low + s.window.width * 0 + k ≡ s.window.low + k = omega (arith, none) in
          own_at new k (omega (arith, lt, kept)) ∙ leaves.own k lt ∙ ap (slice_index (left_by s (cells_with mine) s.count).cells) at

      in_behind : (k : ℕ) → here (s.window.low + (s.window.width * s.count + k))
      in_behind k =
          let one : s.window.low + (s.window.width * s.count + k) ≡ s.window.low + (length new + k) = omega (arith, kept) in
          let other : s.window.low + (length mine + k) ≡ s.window.low + (s.window.width * s.count + k) = omega (arith, long) in
          ap (slice_index (cells_with new)) one ∙ behind_at new k ∙ sym (behind_at mine k) ∙ ap (slice_index (cells_with mine)) other
          ∙ sym (others (s.window.low + (s.window.width * s.count + k)) (inr (omega arith)))

      past : (p : ℕ) → s.window.low ≤ p → (p < s.window.low + s.window.width * s.count) ⊎ (s.window.low + s.window.width * s.count ≤ p) → here p
      past p low' (inl less) =
          let at : s.window.low + (p - s.window.low) ≡ p = omega (arith, low') in
          subst here at (in_own (p - s.window.low) (omega (arith, less, low')))
      past p low' (inr more) =
          let at : s.window.low + (s.window.width * s.count + (p - (s.window.low + s.window.width * s.count))) ≡ p = omega (arith, more) in
          subst here at (in_behind (p - (s.window.low + s.window.width * s.count)))

      anywhere : (p : ℕ) → (p < s.window.low) ⊎ (s.window.low ≤ p) → here p
      anywhere p (inl less) = before_at new p less ∙ sym (before_at mine p less) ∙ sym (others p (inl (omega (arith, less, none))))
      anywhere p (inr more) = past p more (cases_lt p (s.window.low + s.window.width * s.count))

      pub all_scanned : machine rs (cells_with new) ≡ left_by s (cells_with mine) s.count
      all_scanned =
          let cells : cells_with new ≡ (left_by s (cells_with mine) s.count).cells = ext_get_or 0 (cells_with new) (left_by s (cells_with mine) s.count).cells counted (λ p lt. anywhere p (cases_lt p s.window.low)) in
          let zero_on : 0 + s.count ≡ s.count = omega arith in
          ap (λ cs. machine rs cs) cells
          ∙ ap (λ r. machine r (left_by s (cells_with mine) s.count).cells) (leaves.registers some ∙ ap (λ n. (left_by s (cells_with mine) n).registers) zero_on)
