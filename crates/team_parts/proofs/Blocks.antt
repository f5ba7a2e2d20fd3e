-- A part of the turns, over its own cells and those that all turns leave, does there what all turns do.
use Rattle.std.proofs.Common.{◌≡◌, ◌⊎◌, inl, inr, ℕ, ◌+◌, ◌-◌, ◌*◌, ◌%◌, ◌^◌, ◌<◌, ◌≤◌, List, ◌++◌, length, take, drop, sym, ap, ◌∙◌, subst, arith}
use Rattle.std.specs.Prelude.{slice_index}
use Rattle.std.proofs.Math.Nat.{mul-add}
use Rattle.std.proofs.Math.Path.{fun_ext}
use Rattle.std.proofs.lemmas.Bool.{cases_lt}
use Rattle.std.proofs.lemmas.List.{get_or_append_left, get_or-append-add, get_or-take, get_or-drop, length-append, take_at}
use Rattle.lower_machine.specs.Machine.{Machine, machine}
use Rattle.law_lanes.specs.Lanes.{AreLanes, turns}
use Rattle.law_parts.specs.Parts.{IsBetween, IsBeside, IsPartOf, LeavesPart, later}
use Rattle.law_parts.proofs.Lanes.{lanes_law}
use Rattle.law_parts.proofs.Parts.{parts_law}
use Rattle.lane_rows.specs.Lanes.{stepped}
use Rattle.team_parts.specs.declared.shared.Shared.{Shared}
use Rattle.team_parts.specs.Parted.{parted}
use Rattle.team_parts.specs.Turned.{ops_of, variable_of}
use Rattle.team_parts.specs.Placed.{IsPlaced, LeavesOwn, IsPartDone, left_by}
use Rattle.team_parts.specs.Window.{bound_of}
use Rattle.team_parts.proofs.Places.{parted_length, before_at, own_at, behind_at}

-- so many steps, and more
stepped_behind : (first by j k : ℕ) → stepped (stepped first by j) by k ≡ stepped first by (j + k)
stepped_behind first by j k =
    let both : (j + k) * by ≡ j * by + k * by = omega arith in
    add_mod first (j * by) (k * by) ∙ ap (λ n. (first + n) % 2 ^ 64) (sym both)
  where
    add_mod : (a b c : ℕ) → ((a + b) % 2 ^ 64 + c) % 2 ^ 64 ≡ (a + (b + c)) % 2 ^ 64
    add_mod a b c = omega arith

module _ (s : Shared) (from count : ℕ) (mine cells : List ℕ) (placed : IsPlaced s from count mine cells) (within : from + count ≤ s.count) (long : length mine ≡ s.window.width * count) where
  abbrev width : ℕ
  width = s.window.width

  abbrev rest : ℕ
  rest = s.count - from - count

  abbrev part : List ℕ
  part = parted s.before.now (width * from) mine (width * rest) s.behind.now

  through : width * (from + count) ≡ width * from + width * count
  through = mul-add width from count

  whole : width * s.count ≡ width * from + width * count + width * rest
  whole =
      let all : s.count ≡ from + count + rest = omega (arith, within) in
      ap (λ n. width * n) all ∙ mul-add width (from + count) rest ∙ ap (λ n. n + width * rest) through

  is_part : IsPartOf (bound_of s.window from) (bound_of s.window (from + count)) (bound_of s.window 0) (bound_of s.window s.count) cells part
  is_part =
      let low = placed.low in
      let all = placed.long in
      let total = parted_length s.before.now (width * from) mine (width * rest) s.behind.now in
      record {
        count = omega (arith, low, all, total, whole, long);
        own = λ p between. here p between low;
        others = λ p beside. there p beside low;
      }
    where
      here : (p : ℕ) → IsBetween (bound_of s.window from) (bound_of s.window (from + count)) p → length s.before.now ≡ s.window.low → slice_index part p ≡ slice_index cells p
      here p between low =
          let k = p - (s.window.low + width * from) in
          let from_low = between.low in
          let to_high = between.high in
          let lt : k < width * count = omega (arith, from_low, to_high, through) in
          let at : p ≡ length s.before.now + width * from + k = omega (arith, from_low, low) in
          let back : s.window.low + width * from + k ≡ p = omega (arith, from_low) in
          ap (slice_index part) at ∙ own_at s.before.now (width * from) mine (width * rest) s.behind.now k (omega (arith, lt, long)) ∙ placed.own k lt ∙ ap (slice_index cells) back

      there : (p : ℕ) → IsBeside (bound_of s.window 0) (bound_of s.window s.count) p → length s.before.now ≡ s.window.low → slice_index part p ≡ slice_index cells p
      there p (inl less) low =
          let none : width * 0 ≡ 0 = omega arith in
          let lt : p < s.window.low = omega (arith, less, none) in
          before_at s.before.now (width * from) mine (width * rest) s.behind.now p (omega (arith, lt, low)) ∙ placed.before p lt
      there p (inr more) low =
          let k = p - (s.window.low + width * s.count) in
          let at : p ≡ length s.before.now + width * from + length mine + width * rest + k = omega (arith, more, whole, low, long) in
          let back : s.window.low + width * s.count + k ≡ p = omega (arith, more) in
          ap (slice_index part) at ∙ behind_at s.before.now (width * from) mine (width * rest) s.behind.now k ∙ placed.behind k ∙ ap (slice_index cells) back

  abbrev mine_turns : Machine
  mine_turns = turns (variable_of s.turned) (later (stepped s.first s.by) from) (ops_of s.turned) count (machine s.registers.now part)

  pub leaves_part : LeavesPart (bound_of s.window from) (bound_of s.window (from + count)) ((0 < count) × (from + count ≡ s.count)) mine_turns (left_by s cells)
  leaves_part = parts_law (variable_of s.turned) (stepped s.first s.by) (ops_of s.turned) s.count (machine s.registers.now cells) (bound_of s.window) from count part placed.apart within is_part

  module _ (first : ℕ) (m : Machine) (is : first ≡ stepped s.first s.by from)
      (ran : AreLanes (variable_of s.turned) (stepped first s.by) (ops_of s.turned) count (machine s.registers.now part)
      → m ≡ turns (variable_of s.turned) (stepped first s.by) (ops_of s.turned) count (machine s.registers.now part)) where
    numbers : stepped first s.by ≡ later (stepped s.first s.by) from
    numbers = fun_ext (λ k. ap (λ f. stepped f s.by k) is ∙ stepped_behind s.first s.by from k)

    are_lanes : AreLanes (variable_of s.turned) (stepped first s.by) (ops_of s.turned) count (machine s.registers.now part)
    are_lanes =
        subst (λ (v : ℕ → ℕ). AreLanes (variable_of s.turned) v (ops_of s.turned) count (machine s.registers.now part)) (sym numbers)
        (lanes_law (variable_of s.turned) (stepped s.first s.by) (ops_of s.turned) s.count (machine s.registers.now cells) (bound_of s.window) from count part placed.apart within)

    same : m ≡ mine_turns
    same = ran are_lanes ∙ ap (λ (v : ℕ → ℕ). turns (variable_of s.turned) v (ops_of s.turned) count (machine s.registers.now part)) numbers

    pub leaves_own : LeavesOwn s from count (take (width * count) (drop (length s.before.now + width * from) m.cells)) m.registers cells
    leaves_own = record {
      own = λ k lt.
          let low = placed.low in
          let at : length s.before.now + width * from + k ≡ s.window.low + width * from + k = omega (arith, low) in
          get_or-take (width * count) (drop (length s.before.now + width * from) m.cells) k 0 lt
          ∙ get_or-drop (length s.before.now + width * from) m.cells k 0
          ∙ ap (slice_index m.cells) at
          ∙ ap (λ (x : Machine). slice_index x.cells (s.window.low + width * from + k)) same
          ∙ leaves_part.cells (s.window.low + width * from + k) (record { low = omega arith; high = omega (arith, lt, through) });
      registers = λ some last. ap (λ (x : Machine). x.registers) same ∙ leaves_part.registers (some, last);
    }

-- a part that was run over copies of its own cells
pub part_done : (s : Shared) (from count first : ℕ) (mine new : List ℕ) (m : Machine) → from + count ≤ s.count → length mine ≡ s.window.width * count → first ≡ stepped s.first s.by from
    → (AreLanes (variable_of s.turned) (stepped first s.by) (ops_of s.turned) count (machine s.registers.now (parted s.before.now (s.window.width * from) mine (s.window.width * (s.count - from - count)) s.behind.now))
    → m ≡ turns (variable_of s.turned) (stepped first s.by) (ops_of s.turned) count (machine s.registers.now (parted s.before.now (s.window.width * from) mine (s.window.width * (s.count - from - count)) s.behind.now)))
    → new ≡ take (s.window.width * count) (drop (length s.before.now + s.window.width * from) m.cells) → length new ≡ length mine → IsPartDone s from count mine new m.registers
part_done s from count first mine new m within long is ran taken kept = record {
  long = kept;
  does = λ cells placed. subst (λ l. LeavesOwn s from count l m.registers cells) (sym taken) (leaves_own s from count mine cells placed within long first m is ran);
}

-- two parts, one behind the other
module _ (s : Shared) (from a b : ℕ) (front back front' back' rs rs' : List ℕ) (long : length front ≡ s.window.width * a) (some : 0 < b)
    (first : IsPartDone s from a front front' rs) (second : IsPartDone s (from + a) b back back' rs') where
  both : s.window.width * (a + b) ≡ s.window.width * a + s.window.width * b
  both = mul-add s.window.width a b

  on : s.window.width * (from + a) ≡ s.window.width * from + s.window.width * a
  on = mul-add s.window.width from a

  module _ (cells : List ℕ) (placed : IsPlaced s from (a + b) (front ++ back) cells) where
    placed_front : IsPlaced s from a front cells
    placed_front = record {
      apart = placed.apart;
      long = placed.long;
      low = placed.low;
      before = placed.before;
      own = λ k lt. sym (get_or_append_left front back 0 k (omega (arith, lt, long))) ∙ placed.own k (omega (arith, lt, both));
      behind = placed.behind;
    }

    placed_back : IsPlaced s (from + a) b back cells
    placed_back = record {
      apart = placed.apart;
      long = placed.long;
      low = placed.low;
      before = placed.before;
      own = λ k lt.
          let at : s.window.low + s.window.width * from + (length front + k) ≡ s.window.low + s.window.width * (from + a) + k = omega (arith, on, long) in
          sym (get_or-append-add front back k 0) ∙ placed.own (length front + k) (omega (arith, lt, both, long)) ∙ ap (slice_index cells) at;
      behind = placed.behind;
    }

    abbrev here : ℕ → Type 0
    here k = slice_index (front' ++ back') k ≡ slice_index (left_by s cells).cells (s.window.low + s.window.width * from + k)

    in_front : (k : ℕ) → k < s.window.width * a → here k
    in_front k lt =
        let kept = first.long in
        get_or_append_left front' back' 0 k (omega (arith, lt, long, kept)) ∙ (first.does cells placed_front).own k lt

    in_back : (k : ℕ) → k < s.window.width * b → here (length front' + k)
    in_back k lt =
        let kept = first.long in
        let at : s.window.low + s.window.width * (from + a) + k ≡ s.window.low + s.window.width * from + (length front' + k) = omega (arith, on, long, kept) in
        get_or-append-add front' back' k 0 ∙ (second.does cells placed_back).own k lt ∙ ap (slice_index (left_by s cells).cells) at

    anywhere : (k : ℕ) → k < s.window.width * (a + b) → (k < s.window.width * a) ⊎ (s.window.width * a ≤ k) → here k
    anywhere k lt (inl less) = in_front k less
    anywhere k lt (inr more) =
        let kept = first.long in
        let at : length front' + (k - length front') ≡ k = omega (arith, more, long, kept) in
        subst here at (in_back (k - length front') (omega (arith, lt, more, both, long, kept)))

    joined : LeavesOwn s from (a + b) (front' ++ back') rs' cells
    joined = record {
      own = λ k lt. anywhere k lt (cases_lt k (s.window.width * a));
      registers = λ more last. (second.does cells placed_back).registers some (let e : from + a + b ≡ from + (a + b) = omega arith in e ∙ last);
    }

  pub parts_join : IsPartDone s from (a + b) (front ++ back) (front' ++ back') rs'
  parts_join =
      let f = first.long in
      let g = second.long in
      let all = length-append front back in
      let all' = length-append front' back' in
      record {
        long = omega (arith, f, g, all, all');
        does = joined;
      }

-- a list that is put in the place of one of as many numbers
pub put_back : (n : ℕ) (xs old : List ℕ) → length xs ≡ n → take n (xs ++ drop (length xs) old) ≡ xs
put_back n xs old e = take_at xs (drop (length xs) old) n e
