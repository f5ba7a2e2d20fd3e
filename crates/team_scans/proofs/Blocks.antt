-- A part of the turns, over its own cells and those that all turns leave, does there what all turns do, where it begins with what those before leave in the register.
use Rattle.std.proofs.Common.{◌≡◌, ◌⊎◌, inl, inr, ℕ, ◌+◌, ◌-◌, ◌*◌, ◌%◌, ◌^◌, ◌<◌, ◌≤◌, List, ◌++◌, length, take, drop, sym, ap, ◌∙◌, subst, arith}
use Rattle.std.specs.Prelude.{slice_index, slice_set}
use Rattle.std.proofs.Math.Nat.{mul-add}
use Rattle.std.proofs.Math.Path.{fun_ext}
use Rattle.std.proofs.lemmas.Bool.{cases_lt}
use Rattle.std.proofs.lemmas.List.{get_or_append_left, get_or-append-add, get_or-set_other, get_or-take, get_or-drop, length-append, take-append-drop}
use Rattle.ktree.specs.View.{binary_of}
use Rattle.lower_machine.specs.Machine.{Machine, machine, operate_or_zero}
use Rattle.lower_op.specs.declared.op.Op.{Op}
use Rattle.lower_block.specs.declared.tree.Compiled.{Compiled}
use Rattle.lower_runner.specs.Turning.{ConstantsStand, LeavesConstants}
use Rattle.law_lanes.specs.Lanes.{turns}
use Rattle.law_parts.specs.Parts.{IsBetween, IsBeside, IsPartOf, KeepApart, later}
use Rattle.law_prefix_parts.specs.PrefixParts.{ArePrefixes, LeavesPrefixes, begun_behind}
use Rattle.law_prefix_parts.proofs.Parts.{prefix_parts_law}
use Rattle.lane_rows.specs.Lanes.{stepped}
use Rattle.lane_body.proofs.InLanes.{laned_room}
use Rattle.lower_lanes.proofs.Folded.{written_room}
use Rattle.lower_lanes.proofs.Scanned.{written_all}
use Rattle.team_parts.specs.Parted.{parted}
use Rattle.team_parts.specs.Window.{bound_of}
use Rattle.team_parts.proofs.Places.{parted_length, before_at, own_at, behind_at}
use Rattle.team_scans.specs.declared.prefixes.Prefixes.{Prefixes}
use Rattle.team_scans.specs.Placed.{AreCellsDone, IsPlaced, LeavesOwn, IsPartDone, carried_by, left_by}

-- ---- numbers and registers

-- so many steps, and more
stepped_behind : (first by j k : ℕ) → stepped (stepped first by j) by k ≡ stepped first by (j + k)
stepped_behind first by j k =
    let both : (j + k) * by ≡ j * by + k * by = omega arith in
    add_mod first (j * by) (k * by) ∙ ap (λ n. (first + n) % 2 ^ 64) (sym both)
  where
    add_mod : (a b c : ℕ) → ((a + b) % 2 ^ 64 + c) % 2 ^ 64 ≡ (a + (b + c)) % 2 ^ 64
    add_mod a b c = omega arith

pub numbers_from : (first by from start : ℕ) → start ≡ stepped first by from → stepped start by ≡ later (stepped first by) from
numbers_from first by from start is = fun_ext (λ k. ap (λ f. stepped f by k) is ∙ stepped_behind first by from k)

-- a register that the turns may write is none of the constants'
pub still_stand : (compiled : Compiled) (ops : List Op) (to n : ℕ) (registers : List ℕ) → LeavesConstants compiled ops to → ConstantsStand compiled registers → ConstantsStand compiled (slice_set registers to n)
still_stand compiled ops to n registers leaves stand =
    λ i lt. get_or-set_other registers to (compiled.first_constant + i) n 0 (λ is. leaves.other i lt (sym is)) ∙ stand i lt

-- the register is one that there is
pub target_low : (s : Prefixes) → s.scanned.target.at < s.scanned.laned.limit
target_low s =
    let l = s.scanned.laned in
    written_room l.limit s.scanned.target.at l.ops.now (laned_room l.limit l.variable.at l.ops.now l.laned)
    (written_all l.variable.at s.scanned.operator s.scanned.target.at s.scanned.exclusive s.scanned.front s.scanned.ops.now l.ops.now s.scanned.scanned)

pub target_there : (s : Prefixes) → s.scanned.target.at < length s.registers.now
target_there s =
    let low = target_low s in
    let wide = s.wide in
    omega (arith, low, wide)

-- ---- a part

abbrev pub operator_of : Prefixes → ℕ → ℕ → ℕ
operator_of s = operate_or_zero (binary_of s.scanned.operator)

abbrev pub front_of : Prefixes → List Op
front_of s = take s.scanned.front s.scanned.laned.ops.now

abbrev pub back_of : Prefixes → List Op
back_of s = drop s.scanned.front s.scanned.laned.ops.now

pub are_prefixes : (s : Prefixes) (cells : List ℕ) → KeepApart s.scanned.laned.variable.at (stepped s.first s.by) s.scanned.laned.ops.now s.count (machine s.registers.now cells) (bound_of s.window)
    → ArePrefixes s.scanned.laned.variable.at (stepped s.first s.by) (operator_of s) s.scanned.target.at s.scanned.exclusive s.scanned.ops.now (front_of s) (back_of s) s.count (machine s.registers.now cells) (bound_of s.window)
are_prefixes s cells apart = record {
  prefix = s.scanned.scanned.prefix;
  apart = subst (λ (l : List Op). KeepApart s.scanned.laned.variable.at (stepped s.first s.by) l s.count (machine s.registers.now cells) (bound_of s.window)) (sym (take-append-drop s.scanned.front s.scanned.laned.ops.now)) apart;
  other = s.scanned.scanned.other;
  there = target_there s;
}

module _ (s : Prefixes) (from count : ℕ) (mine cells : List ℕ) (placed : IsPlaced s from count mine cells) (within : from + count ≤ s.count) (long : length mine ≡ s.window.width * count) where
  abbrev width : ℕ
  width = s.window.width

  abbrev rest : ℕ
  rest = s.count - from - count

  abbrev part : List ℕ
  part = parted s.before.now (width * from) mine (width * rest) s.behind.now

  through : width * (from + count) ≡ width * from + width * count
  through = mul-add width from count

  whole : width * s.count ≡ width * from + width * count + width * rest
  whole =
      let all : s.count ≡ from + count + rest = omega (arith, within) in
      ap (λ n. width * n) all ∙ mul-add width (from + count) rest ∙ ap (λ n. n + width * rest) through

  pub is_part : IsPartOf (bound_of s.window from) (bound_of s.window (from + count)) (bound_of s.window 0) (bound_of s.window s.count) cells part
  is_part =
      let low = placed.low in
      let all = placed.long in
      let total = parted_length s.before.now (width * from) mine (width * rest) s.behind.now in
      record {
        count = omega (arith, low, all, total, whole, long);
        own = λ p between. here p between low;
        others = λ p beside. there p beside low;
      }
    where
      here : (p : ℕ) → IsBetween (bound_of s.window from) (bound_of s.window (from + count)) p → length s.before.now ≡ s.window.low → slice_index part p ≡ slice_index cells p
      here p between low =
          let k = p - (s.window.low + width * from) in
          let from_low = between.low in
          let to_high = between.high in
          let lt : k < width * count = omega (arith, from_low, to_high, through) in
          let at : p ≡ length s.before.now + width * from + k = omega (arith, from_low, low) in
          let back : s.window.low + width * from + k ≡ p = omega (arith, from_low) in
          ap (slice_index part) at ∙ own_at s.before.now (width * from) mine (width * rest) s.behind.now k (omega (arith, lt, long)) ∙ placed.own k lt ∙ ap (slice_index cells) back

      there : (p : ℕ) → IsBeside (bound_of s.window 0) (bound_of s.window s.count) p → length s.before.now ≡ s.window.low → slice_index part p ≡ slice_index cells p
      there p (inl less) low =
          let none : width * 0 ≡ 0 = omega arith in
          let lt : p < s.window.low = omega (arith, less, none) in
          before_at s.before.now (width * from) mine (width * rest) s.behind.now p (omega (arith, lt, low)) ∙ placed.before p lt
      there p (inr more) low =
          let k = p - (s.window.low + width * s.count) in
          let at : p ≡ length s.before.now + width * from + length mine + width * rest + k = omega (arith, more, whole, low, long) in
          let back : s.window.low + width * s.count + k ≡ p = omega (arith, more) in
          ap (slice_index part) at ∙ behind_at s.before.now (width * from) mine (width * rest) s.behind.now k ∙ placed.behind k ∙ ap (slice_index cells) back

  abbrev begin : Machine
  begin = begun_behind s.scanned.laned.variable.at (stepped s.first s.by) s.scanned.ops.now s.scanned.target.at (machine s.registers.now cells) from part

  abbrev mine_turns : Machine
  mine_turns = turns s.scanned.laned.variable.at (later (stepped s.first s.by) from) s.scanned.ops.now count begin

  leaves_part : LeavesPrefixes s.scanned.laned.variable.at (stepped s.first s.by) s.scanned.ops.now s.count (machine s.registers.now cells) (bound_of s.window) from count mine_turns
  leaves_part =
      prefix_parts_law s.scanned.laned.variable.at (stepped s.first s.by) (operator_of s) s.scanned.target.at s.scanned.exclusive s.scanned.ops.now (front_of s) (back_of s) s.count (machine s.registers.now cells) (bound_of s.window) from count part
      (are_prefixes s cells placed.apart) within is_part

  module _ (start first : ℕ) (m : Machine) (started : start ≡ carried_by s cells from) (is : first ≡ stepped s.first s.by from)
      (ran : m ≡ turns s.scanned.laned.variable.at (stepped first s.by) s.scanned.ops.now count (machine (slice_set s.registers.now s.scanned.target.at start) part)) where
    same : m ≡ mine_turns
    same =
        ran
        ∙ ap (λ (v : ℕ → ℕ). turns s.scanned.laned.variable.at v s.scanned.ops.now count (machine (slice_set s.registers.now s.scanned.target.at start) part)) (numbers_from s.first s.by from first is)
        ∙ ap (λ (n : ℕ). turns s.scanned.laned.variable.at (later (stepped s.first s.by) from) s.scanned.ops.now count (machine (slice_set s.registers.now s.scanned.target.at n) part)) started

    pub leaves_own : LeavesOwn s from count (take (width * count) (drop (length s.before.now + width * from) m.cells)) m.registers cells
    leaves_own = record {
      own = λ k lt.
          let low = placed.low in
          let at : length s.before.now + width * from + k ≡ s.window.low + width * from + k = omega (arith, low) in
          get_or-take (width * count) (drop (length s.before.now + width * from) m.cells) k 0 lt
          ∙ get_or-drop (length s.before.now + width * from) m.cells k 0
          ∙ ap (slice_index m.cells) at
          ∙ ap (λ (x : Machine). slice_index x.cells (s.window.low + width * from + k)) same
          ∙ leaves_part.cells (s.window.low + width * from + k) (record { low = omega arith; high = omega (arith, lt, through) });
      registers = λ some. ap (λ (x : Machine). x.registers) same ∙ leaves_part.registers some;
    }

-- a part that was run over copies of its own cells
pub part_done : (s : Prefixes) (start from count first : ℕ) (mine new : List ℕ) (m : Machine) → from + count ≤ s.count → length mine ≡ s.window.width * count → first ≡ stepped s.first s.by from
    → m ≡ turns s.scanned.laned.variable.at (stepped first s.by) s.scanned.ops.now count (machine (slice_set s.registers.now s.scanned.target.at start) (parted s.before.now (s.window.width * from) mine (s.window.width * (s.count - from - count)) s.behind.now))
    → new ≡ take (s.window.width * count) (drop (length s.before.now + s.window.width * from) m.cells) → length new ≡ length mine → IsPartDone s start from count mine new m.registers
part_done s start from count first mine new m within long is ran taken kept = record {
  long = kept;
  does = λ cells placed started. subst (λ l. LeavesOwn s from count l m.registers cells) (sym taken) (leaves_own s from count mine cells placed within long start first m started is ran);
}

-- the cells of a part that is done, and what the register holds behind it
pub cells_done : (s : Prefixes) (start next from count : ℕ) (before after rs : List ℕ) → 0 < count → next ≡ slice_index rs s.scanned.target.at → IsPartDone s start from count before after rs → AreCellsDone s start from count before after next
cells_done s start next from count before after rs some is h = record {
  long = h.long;
  own = λ cells k placed started lt. (h.does cells placed started).own k lt;
  behind = λ cells placed started. is ∙ ap (λ (l : List ℕ). slice_index l s.scanned.target.at) ((h.does cells placed started).registers some);
}

-- two parts, one behind the other, which begins with what the first leaves in the register
module _ (s : Prefixes) (start next from a b : ℕ) (front back front' back' rs' : List ℕ) (long : length front ≡ s.window.width * a) (some : 0 < b)
    (first : AreCellsDone s start from a front front' next) (second : IsPartDone s next (from + a) b back back' rs') where
  both : s.window.width * (a + b) ≡ s.window.width * a + s.window.width * b
  both = mul-add s.window.width a b

  on : s.window.width * (from + a) ≡ s.window.width * from + s.window.width * a
  on = mul-add s.window.width from a

  module _ (cells : List ℕ) (placed : IsPlaced s from (a + b) (front ++ back) cells) (started : start ≡ carried_by s cells from) where
    placed_front : IsPlaced s from a front cells
    placed_front = record {
      apart = placed.apart;
      long = placed.long;
      low = placed.low;
      before = placed.before;
      own = λ k lt. sym (get_or_append_left front back 0 k (omega (arith, lt, long))) ∙ placed.own k (omega (arith, lt, both));
      behind = placed.behind;
    }

    placed_back : IsPlaced s (from + a) b back cells
    placed_back = record {
      apart = placed.apart;
      long = placed.long;
      low = placed.low;
      before = placed.before;
      own = λ k lt.
          let at : s.window.low + s.window.width * from + (length front + k) ≡ s.window.low + s.window.width * (from + a) + k = omega (arith, on, long) in
          sym (get_or-append-add front back k 0) ∙ placed.own (length front + k) (omega (arith, lt, both, long)) ∙ ap (slice_index cells) at;
      behind = placed.behind;
    }

    in_second : LeavesOwn s (from + a) b back' rs' cells
    in_second = second.does cells placed_back (first.behind cells placed_front started)

    abbrev here : ℕ → Type 0
    here k = slice_index (front' ++ back') k ≡ slice_index (left_by s cells s.count).cells (s.window.low + s.window.width * from + k)

    in_front : (k : ℕ) → k < s.window.width * a → here k
    in_front k lt =
        let kept = first.long in
        get_or_append_left front' back' 0 k (omega (arith, lt, long, kept)) ∙ first.own cells k placed_front started lt

    in_back : (k : ℕ) → k < s.window.width * b → here (length front' + k)
    in_back k lt =
        let kept = first.long in
        let at : s.window.low + s.window.width * (from + a) + k ≡ s.window.low + s.window.width * from + (length front' + k) = omega (arith, on, long, kept) in
        get_or-append-add front' back' k 0 ∙ in_second.own k lt ∙ ap (slice_index (left_by s cells s.count).cells) at

    anywhere : (k : ℕ) → k < s.window.width * (a + b) → (k < s.window.width * a) ⊎ (s.window.width * a ≤ k) → here k
    anywhere k lt (inl less) = in_front k less
    anywhere k lt (inr more) =
        let kept = first.long in
        let at : length front' + (k - length front') ≡ k = omega (arith, more, long, kept) in
        subst here at (in_back (k - length front') (omega (arith, lt, more, both, long, kept)))

    joined : LeavesOwn s from (a + b) (front' ++ back') rs' cells
    joined = record {
      own = λ k lt. anywhere k lt (cases_lt k (s.window.width * a));
      registers = λ more. in_second.registers some ∙ (let e : from + a + b ≡ from + (a + b) = omega arith in ap (λ (k : ℕ). (left_by s cells k).registers) e);
    }

  pub parts_join : IsPartDone s start from (a + b) (front ++ back) (front' ++ back') rs'
  parts_join =
      let f = first.long in
      let g = second.long in
      let all = length-append front back in
      let all' = length-append front' back' in
      record {
        long = omega (arith, f, g, all, all');
        does = joined;
      }
