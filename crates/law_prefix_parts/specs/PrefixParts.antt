-- The turns of a prefix sum whose cells lie apart, in parts.
use Rattle.std.specs.Prelude.{ℕ, ◌+◌, ◌<◌, ◌≤◌, ◌≡◌, ◌==◌, Bool, false, List, ◌++◌, length, map, slice_index, slice_set}
use Rattle.std.specs.List.{list_any}
use Rattle.semantics.specs.Meaning.Places.{below}
use Rattle.lower_machine.specs.Machine.{Machine, machine}
use Rattle.lower_op.specs.declared.op.Op.{Op}
use Rattle.law_lanes.specs.Reading.{saves}
use Rattle.law_lanes.specs.Lanes.{begun, in_step, turns}
use Rattle.law_lanes.specs.Folds.{folded}
use Rattle.law_parts.specs.Parts.{IsBetween, IsPartOf, KeepApart, later}
use Rattle.law_prefixes.specs.Prefixes.{IsPrefix}

-- each turn makes a register of itself and of an operand, and has cells to itself
pub record ArePrefixes (variable : ℕ) (value : ℕ → ℕ) (f : ℕ → ℕ → ℕ) (to : ℕ) (exclusive : Bool) (ops front back : List Op) (n : ℕ) (m : Machine) (bound : ℕ → ℕ) : Type 0 where
  pub prefix : IsPrefix f to exclusive ops front back
  pub apart : KeepApart variable value (front ++ back) n m bound
  pub other : (variable == to) ≡ false
  pub there : to < length m.registers

-- what a register holds behind so many turns
abbrev pub carried : ℕ → (ℕ → ℕ) → List Op → ℕ → Machine → ℕ → ℕ
carried variable value ops to m k = slice_index (turns variable value ops k m).registers to

-- the machine before all turns but for a register, which holds what the turns before some leave, over these cells
abbrev pub begun_behind : ℕ → (ℕ → ℕ) → List Op → ℕ → Machine → ℕ → List ℕ → Machine
begun_behind variable value ops to m first part = machine (slice_set m.registers to (carried variable value ops to m first)) part

-- so many turns from one on leave at their own places what all turns leave there, and the registers that the turns up to the last of them leave
pub record LeavesPrefixes (variable : ℕ) (value : ℕ → ℕ) (ops : List Op) (n : ℕ) (m : Machine) (bound : ℕ → ℕ) (first count : ℕ) (left : Machine) : Type 0 where
  pub cells : (p : ℕ) → IsBetween (bound first) (bound (first + count)) p → slice_index left.cells p ≡ slice_index (turns variable value ops n m).cells p
  pub registers : 0 < count → left.registers ≡ (turns variable value ops (first + count) m).registers

-- so do turns that begin with what those before leave in the register
abbrev pub PrefixesRunInParts : Type 0
PrefixesRunInParts =
    (variable : ℕ) (value : ℕ → ℕ) (f : ℕ → ℕ → ℕ) (to : ℕ) (exclusive : Bool) (ops front back : List Op) (n : ℕ) (m : Machine) (bound : ℕ → ℕ) (first count : ℕ) (part : List ℕ)
    → ArePrefixes variable value f to exclusive ops front back n m bound → first + count ≤ n → IsPartOf (bound first) (bound (first + count)) (bound 0) (bound n) m.cells part
    → LeavesPrefixes variable value ops n m bound first count (turns variable (later value first) ops count (begun_behind variable value ops to m first part))

-- and that is made of what those before leave there and of the operands, which a front that writes no cell leaves in lanes, from the registers before all turns
abbrev pub OperandsInParts : Type 0
OperandsInParts =
    (variable : ℕ) (value : ℕ → ℕ) (f : ℕ → ℕ → ℕ) (to : ℕ) (exclusive : Bool) (ops front back : List Op) (n : ℕ) (m : Machine) (bound : ℕ → ℕ) (first count : ℕ) (part : List ℕ) (operand : ℕ → ℕ)
    → ArePrefixes variable value f to exclusive ops front back n m bound → list_any saves front ≡ false → first + count ≤ n → IsPartOf (bound first) (bound (first + count)) (bound 0) (bound n) m.cells part
    → map (λ r. slice_index r to) (in_step front (begun variable (later value first) count (machine m.registers part))).registers ≡ map operand (below count)
    → carried variable value ops to m (first + count) ≡ folded f (carried variable value ops to m first) operand count
