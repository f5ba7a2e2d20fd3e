-- Operations as they are written, and operands that do not fit their operator. (C11 6.3.1.8, 6.6)
use Rattle.std.specs.Prelude.{◌≡◌, ◌⊎◌, Bool, true, false, ◌&&◌, ◌||◌, not, if◌then◌else◌}
use Rattle.semantics.specs.Tree.{BinaryOp, Plus, Minus, Times}
use Rattle.semantics.specs.Meaning.Value.{both}
use Rattle.semantics.specs.Source.Typing.{int_operate, flat}
use Rattle.ktree.specs.declared.place.Place.{Place}
use Rattle.cparse_cursor.specs.declared.stop.Fault.{Fault}
use Rattle.cparse_cursor.specs.declared.stop.Flaw.TheVariants.{NumberOutOfRange, Operands}
use Rattle.cparse_cursor.specs.declared.written.Written.{Written}
use Rattle.cparse_cursor.specs.declared.written.Sort.{Sort}
use Rattle.cparse_cursor.specs.declared.written.Sort.TheVariants.{Typed, Constant}
use Rattle.cparse_cursor.specs.Sorts.{is_constant}

-- an operator may stand in a constant expression
abbrev pub may_be_constant : BinaryOp → Bool
may_be_constant Plus = true
may_be_constant Minus = true
may_be_constant Times = true
may_be_constant _ = false

-- what an operation counts as: a constant expression, or else arithmetic of the type uint64_t
abbrev pub operation_sort : BinaryOp → Sort → Sort → Sort
operation_sort op (Constant a) (Constant b) = if may_be_constant op then Constant (flat (both (int_operate op) a b)) else Typed
operation_sort op _ _ = Typed

-- where its value is at fault: the first operand that is no constant where one is wanted, or else the operator
abbrev pub operation_place : BinaryOp → Place → Written → Written → Place
operation_place op place a b = if is_constant a.sort then (if may_be_constant op && not (is_constant b.sort) then b.place else place) else a.place

-- an operation with its operator at a place
abbrev pub operation : BinaryOp → Place → Written → Written → Written
operation op place a b = record { sort = operation_sort op a.sort b.sort; has_ull = a.has_ull || b.has_ull; place = operation_place op place a b }

-- a fault of an operator at a place, with its right operand at another: operands of the wrong sorts, or a value out of its range
abbrev pub IsMisfit : Place → Place → Fault → Type 0
IsMisfit here right fault = (fault ≡ record { place = here; flaw = Operands }) ⊎ (((fault.place ≡ here) ⊎ (fault.place ≡ right)) × (fault.flaw ≡ NumberOutOfRange))
