-- Typed operands and constant expressions (C11 6.3.1.8 and 6.6).
use Rattle.std.specs.Prelude.{ℕ, Bool, true, false, not, ◌==◌, ◌&&◌, ◌||◌, ◌+◌, ◌-◌, ◌*◌, ◌^◌, nat_lt, nat_le, if◌then◌else◌, Option, Some, None, is_some}
use Rattle.semantics.specs.Tree.{Suffix, BinaryOp, Plus, Minus, Times, Divide, Remainder, BitAnd, BitOr, BitXor, ShiftLeft, ShiftRight, Bare, Ull, Expr, Literal, Constant, Object, Unary, Binary, Conditional, Cond, NotZero, Compare, Not, LogicalAnd, LogicalOr}
use Rattle.semantics.specs.Meaning.Value.{both}

-- a literal's range (C11 6.4.4.1)
abbrev pub in_range : Suffix → ℕ → Bool
in_range Bare n = nat_lt n (2 ^ 31)
in_range Ull n = nat_lt n (2 ^ 64)

-- an operand of type uint64_t
abbrev pub typed : Expr → Bool
typed (Literal n Bare) = false
typed (Literal n Ull) = true
typed (Constant name n) = false
typed (Object x is) = true
typed (Unary op a) = typed a
typed (Binary ShiftLeft a b) = typed a
typed (Binary ShiftRight a b) = typed a
typed (Binary op a b) = typed a || typed b
typed (Conditional c a b) = typed a || typed b

-- the range of `int` without its negative half
abbrev pub in_int : ℕ → Option ℕ
in_int n = if nat_lt n (2 ^ 31) then Some n else None

-- + - * alone, within that range
abbrev pub int_operate : BinaryOp → ℕ → ℕ → Option ℕ
int_operate Plus a b = in_int (a + b)
int_operate Minus a b = if nat_le b a then Some (a - b) else None
int_operate Times a b = in_int (a * b)
int_operate _ a b = None

-- there only where both are
abbrev pub flat : {A : Type 0} → Option (Option A) → Option A
flat None = None
flat (Some o) = o

-- the value of a constant expression (C11 6.6): bare literals and enum constants by + - *, each step in 0..2147483647
abbrev pub constant : Expr → Option ℕ
constant (Literal n Bare) = in_int n
constant (Literal n Ull) = None
constant (Constant name n) = Some n
constant (Object x is) = None
constant (Unary op a) = None
constant (Binary op a b) = flat (both (int_operate op) (constant a) (constant b))
constant (Conditional c a b) = None

-- there, and not 0
abbrev pub not_zero : Option ℕ → Bool
not_zero None = false
not_zero (Some n) = not (n == 0)

-- a divisor (C11 6.5.5) is a constant expression or a literal with `ull`, and not 0
abbrev pub may_divide : Expr → Bool
may_divide (Literal n Ull) = not (n == 0)
may_divide e = not_zero (constant e)

-- a shift count (C11 6.5.7) is a constant expression of 0..63
abbrev pub may_shift : Option ℕ → Bool
may_shift None = false
may_shift (Some n) = nat_lt n 64

-- the operands of a binary operation
abbrev pub fit : BinaryOp → Expr → Expr → Bool
fit Plus a b = (typed a || typed b) || is_some (constant (Binary Plus a b))
fit Minus a b = (typed a || typed b) || is_some (constant (Binary Minus a b))
fit Times a b = (typed a || typed b) || is_some (constant (Binary Times a b))
fit Divide a b = (typed a || typed b) && may_divide b
fit Remainder a b = (typed a || typed b) && may_divide b
fit BitAnd a b = typed a || typed b
fit BitOr a b = typed a || typed b
fit BitXor a b = typed a || typed b
fit ShiftLeft a b = typed a && may_shift (constant b)
fit ShiftRight a b = typed a && may_shift (constant b)

-- no literal with `ull` stands outside subscripts
abbrev mutual
  pub plain : Expr → Bool
  plain (Literal n Bare) = true
  plain (Literal n Ull) = false
  plain (Constant name n) = true
  plain (Object x is) = true
  plain (Unary op a) = plain a
  plain (Binary op a b) = plain a && plain b
  plain (Conditional c a b) = plain_cond c && plain a && plain b

  -- of a condition
  pub plain_cond : Cond → Bool
  plain_cond (NotZero e) = plain e
  plain_cond (Compare op a b) = plain a && plain b
  plain_cond (Not c) = plain_cond c
  plain_cond (LogicalAnd c d) = plain_cond c && plain_cond d
  plain_cond (LogicalOr c d) = plain_cond c && plain_cond d
