-- Operators between two operands, by how far they reach, and what becomes of their operands.
use Rattle.std.specs.Prelude.{ℕ, Bool, true, false, ◌||◌, Option, Some, None}
use Rattle.semantics.specs.Tree.{Ull, BinaryOp, Plus, Minus, Times, Divide, Remainder, BitAnd, BitOr, BitXor, ShiftLeft, ShiftRight, CompareOp, Less, LessEqual, Greater, GreaterEqual, Equal, NotEqual, Expr, Literal, Binary, Cond, NotZero, Compare, LogicalAnd, LogicalOr, Source, Number, Truth}
use Rattle.semantics.specs.Source.Token.{Symbol, PlusEqual, MinusEqual, TimesEqual, AmpEqual, BarEqual, CaretEqual, PlusSign, MinusSign, Star, Slash, Percent, Amp, Bar, Caret, DoubleLess, DoubleGreater, LessSign, LessEqualSign, GreaterSign, GreaterEqualSign, DoubleEqual, BangEqual, DoubleAmp, DoubleBar}
use Rattle.semantics.specs.Source.Typing.{typed, fit}

-- an operator between two operands
pub data Infix : Type 0 where
  Arithmetic : BinaryOp → Infix
  Comparing : CompareOp → Infix
  AndAlso OrElse : Infix

-- the tightest reach 1 (C11 6.5.5), the loosest 10 (6.5.14)
abbrev pub precedence : Infix → ℕ
precedence (Arithmetic Times) = 1
precedence (Arithmetic Divide) = 1
precedence (Arithmetic Remainder) = 1
precedence (Arithmetic Plus) = 2
precedence (Arithmetic Minus) = 2
precedence (Arithmetic ShiftLeft) = 3
precedence (Arithmetic ShiftRight) = 3
precedence (Comparing Less) = 4
precedence (Comparing LessEqual) = 4
precedence (Comparing Greater) = 4
precedence (Comparing GreaterEqual) = 4
precedence (Comparing Equal) = 5
precedence (Comparing NotEqual) = 5
precedence (Arithmetic BitAnd) = 6
precedence (Arithmetic BitXor) = 7
precedence (Arithmetic BitOr) = 8
precedence AndAlso = 9
precedence OrElse = 10

-- the operator that a symbol is
abbrev pub infix_of : Symbol → Option Infix
infix_of Star = Some (Arithmetic Times)
infix_of Slash = Some (Arithmetic Divide)
infix_of Percent = Some (Arithmetic Remainder)
infix_of PlusSign = Some (Arithmetic Plus)
infix_of MinusSign = Some (Arithmetic Minus)
infix_of DoubleLess = Some (Arithmetic ShiftLeft)
infix_of DoubleGreater = Some (Arithmetic ShiftRight)
infix_of LessSign = Some (Comparing Less)
infix_of LessEqualSign = Some (Comparing LessEqual)
infix_of GreaterSign = Some (Comparing Greater)
infix_of GreaterEqualSign = Some (Comparing GreaterEqual)
infix_of DoubleEqual = Some (Comparing Equal)
infix_of BangEqual = Some (Comparing NotEqual)
infix_of Amp = Some (Arithmetic BitAnd)
infix_of Caret = Some (Arithmetic BitXor)
infix_of Bar = Some (Arithmetic BitOr)
infix_of DoubleAmp = Some AndAlso
infix_of DoubleBar = Some OrElse
infix_of _ = None

-- the operator of `op=` (C11 6.5.16.2)
abbrev pub update_of : Symbol → Option BinaryOp
update_of PlusEqual = Some Plus
update_of MinusEqual = Some Minus
update_of TimesEqual = Some Times
update_of AmpEqual = Some BitAnd
update_of BarEqual = Some BitOr
update_of CaretEqual = Some BitXor
update_of _ = None

-- an expression with a type of its own, which stands where one is missing
abbrev pub stand_in : Expr
stand_in = Literal 0 Ull

-- an arithmetic expression where one is wanted
abbrev pub number_in : Source → Expr
number_in (Number e) = e
number_in (Truth c) = stand_in

abbrev pub is_number : Source → Bool
is_number (Number e) = true
is_number (Truth c) = false

-- a condition where one is wanted
abbrev pub cond_in : Source → Cond
cond_in (Number e) = NotZero e
cond_in (Truth c) = c

-- what an operator makes of its operands
abbrev pub joined : Infix → Source → Source → Source
joined (Arithmetic op) (Number a) (Number b) = Number (Binary op a b)
joined (Comparing op) (Number a) (Number b) = Truth (Compare op a b)
joined AndAlso a b = Truth (LogicalAnd (cond_in a) (cond_in b))
joined OrElse a b = Truth (LogicalOr (cond_in a) (cond_in b))
joined _ a b = Number stand_in

-- whether it may have them
abbrev pub joins : Infix → Source → Source → Bool
joins (Arithmetic op) (Number a) (Number b) = fit op a b
joins (Comparing op) (Number a) (Number b) = typed a || typed b
joins AndAlso a b = true
joins OrElse a b = true
joins _ a b = false
