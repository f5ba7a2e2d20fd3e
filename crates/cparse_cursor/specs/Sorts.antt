-- What an operand counts as for the operator above it.
use Rattle.std.specs.Prelude.{Bool, true, false}
use Rattle.cparse_cursor.specs.declared.written.Sort.{Sort}
use Rattle.cparse_cursor.specs.declared.written.Sort.TheVariants.{Typed, Constant, Condition}

-- arithmetic of the type uint64_t
abbrev pub is_typed : Sort → Bool
is_typed Typed = true
is_typed _ = false

-- a constant expression
abbrev pub is_constant : Sort → Bool
is_constant (Constant value) = true
is_constant _ = false

-- a number, and no condition
abbrev pub is_number : Sort → Bool
is_number Condition = false
is_number _ = true
