-- The values of expressions, by C11 6.5, in numbers below 2^64.
use Rattle.std.specs.Prelude.{ℕ, zero, suc, Bool, true, false, not, ◌==◌, ◌+◌, ◌-◌, ◌*◌, ◌/◌, ◌%◌, ◌^◌, nat_lt, nat_le, if◌then◌else◌, List, [], ◌∷◌, Option, Some, None, option_and_then, bit_and, bit_or, bit_xor}
use Rattle.semantics.specs.Tree.{UnaryOp, Negate, Complement, BinaryOp, Plus, Minus, Times, Divide, Remainder, BitAnd, BitOr, BitXor, ShiftLeft, ShiftRight, CompareOp, Less, LessEqual, Greater, GreaterEqual, Equal, NotEqual, Expr, Literal, Constant, Object, Unary, Binary, Conditional, Exprs, no_exprs, more_exprs, Cond, NotZero, Compare, Not, LogicalAnd, LogicalOr, Source, Number, Truth}
use Rattle.semantics.specs.Meaning.State.{State, look}

-- unary minus and complement, modulo 2^64 (C11 6.5.3.3 and 6.2.5, 9)
abbrev pub change : UnaryOp → ℕ → ℕ
change Negate a = (2 ^ 64 - a) % 2 ^ 64
change Complement a = 2 ^ 64 - 1 - a

-- a quotient or remainder, if the divisor is not 0, and a shift by less than 64; the grammar lets nothing else stand
abbrev pub if_divisor : ℕ → ℕ → Option ℕ
if_divisor zero n = None
if_divisor (suc b) n = Some n

-- a shift by less than 64 (C11 6.5.7, 3)
abbrev pub if_count : ℕ → ℕ → Option ℕ
if_count b n = if nat_lt b 64 then Some n else None

-- C11 6.5.5 to 6.5.7 and 6.5.10 to 6.5.12
abbrev pub operate : BinaryOp → ℕ → ℕ → Option ℕ
operate Plus a b = Some ((a + b) % 2 ^ 64)
operate Minus a b = Some ((a + 2 ^ 64 - b) % 2 ^ 64)
operate Times a b = Some ((a * b) % 2 ^ 64)
operate Divide a b = if_divisor b (a / b)
operate Remainder a b = if_divisor b (a % b)
operate BitAnd a b = Some (bit_and a b)
operate BitOr a b = Some (bit_or a b)
operate BitXor a b = Some (bit_xor a b)
operate ShiftLeft a b = if_count b ((a * 2 ^ b) % 2 ^ 64)
operate ShiftRight a b = if_count b (a / 2 ^ b)

-- C11 6.5.8 and 6.5.9
abbrev pub compare : CompareOp → ℕ → ℕ → Bool
compare Less a b = nat_lt a b
compare LessEqual a b = nat_le a b
compare Greater a b = nat_lt b a
compare GreaterEqual a b = nat_le b a
compare Equal a b = a == b
compare NotEqual a b = not (a == b)

-- f of what is there
abbrev pub map_option : {A B : Type 0} → (A → B) → Option A → Option B
map_option f None = None
map_option f (Some a) = Some (f a)

-- f of two that are both there
abbrev pub both : {A B C : Type 0} → (A → B → C) → Option A → Option B → Option C
both f (Some a) (Some b) = Some (f a b)
both f (Some a) None = None
both f None b = None

-- the same, where the result may be missing
abbrev pub both_then : {A B C : Type 0} → (A → B → Option C) → Option A → Option B → Option C
both_then f (Some a) (Some b) = f a b
both_then f (Some a) None = None
both_then f None b = None

-- the first where the test holds, the second where it doesn't, and nothing where it has no answer
abbrev pub by_test : {A : Type 0} → Option Bool → Option A → Option A → Option A
by_test None a b = None
by_test (Some true) a b = a
by_test (Some false) a b = b

abbrev mutual
  -- the value of an expression, if it has one: no local that is read holds nothing, and each object is there; of `?:` one arm alone counts (C11 6.5.15)
  pub value : State → Expr → Option ℕ
  value s (Literal n suffix) = Some n
  value s (Constant name n) = Some n
  value s (Object x is) = option_and_then (λ ks. look s x ks) (values s is)
  value s (Unary op a) = map_option (change op) (value s a)
  value s (Binary op a b) = both_then (operate op) (value s a) (value s b)
  value s (Conditional c a b) = by_test (holds s c) (value s a) (value s b)

  -- all of them, if each has a value
  pub values : State → Exprs → Option (List ℕ)
  values s no_exprs = Some []
  values s (more_exprs e es) = both (λ k ks. k ∷ ks) (value s e) (values s es)

  -- whether a condition holds; the second part of `&&` and `||` counts only where the first leaves it open (C11 6.5.13 and 6.5.14)
  pub holds : State → Cond → Option Bool
  holds s (NotZero e) = map_option (λ v. not (v == 0)) (value s e)
  holds s (Compare op a b) = both (compare op) (value s a) (value s b)
  holds s (Not c) = map_option not (holds s c)
  holds s (LogicalAnd c d) = by_test (holds s c) (holds s d) (Some false)
  holds s (LogicalOr c d) = by_test (holds s c) (Some true) (holds s d)

-- a condition gives 1 or 0 (C11 6.5.8, 6)
abbrev pub source_value : State → Source → Option ℕ
source_value s (Number e) = value s e
source_value s (Truth c) = map_option (λ b. if b then 1 else 0) (holds s c)
