-- The grammar of expressions, as a relation between tokens and trees: a constructor for each production.
use Rattle.std.specs.Prelude.{ℕ, suc, true, ◌||◌, ◌≡◌, ◌<◌, List, [], ◌∷◌, ◌++◌, Some}
use Rattle.semantics.specs.Tree.{Name, Variable, Suffix, UnaryOp, Negate, Complement, BinaryOp, Plus, Minus, Times, Divide, Remainder, BitAnd, BitOr, BitXor, ShiftLeft, ShiftRight, CompareOp, Less, LessEqual, Greater, GreaterEqual, Equal, NotEqual, Expr, Literal, Constant, Object, Unary, Binary, Conditional, Exprs, no_exprs, more_exprs, Cond, NotZero, Compare, Not, LogicalAnd, LogicalOr}
use Rattle.semantics.specs.Source.Token.{Token, Word, IntegerConstant, Punctuator, Symbol, OpenParen, CloseParen, OpenBracket, CloseBracket, PlusEqual, MinusEqual, TimesEqual, AmpEqual, BarEqual, CaretEqual, PlusSign, MinusSign, Star, Slash, Percent, Amp, Bar, Caret, Tilde, Bang, Question, Colon, DoubleLess, DoubleGreater, LessSign, LessEqualSign, GreaterSign, GreaterEqualSign, DoubleEqual, BangEqual, DoubleAmp, DoubleBar}
use Rattle.semantics.specs.Source.Typing.{in_range, typed, fit}
use Rattle.semantics.specs.Source.Scope.{Scope, AVariable, AConstant, find, count}

-- C's levels (C11 6.5.1 to 6.5.15): 0 ?:, 1 ||, 2 &&, 3 |, 4 ^, 5 &, 6 == !=, 7 < <= > >=, 8 << >>, 9 + -, 10 * / %, 11 unary, 12 primary
pub data UnarySign : Symbol → UnaryOp → Type 0 where
  minus : UnarySign MinusSign Negate
  tilde : UnarySign Tilde Complement

-- a binary operator with its level
pub data BinarySign : ℕ → Symbol → BinaryOp → Type 0 where
  bar : BinarySign 3 Bar BitOr
  caret : BinarySign 4 Caret BitXor
  amp : BinarySign 5 Amp BitAnd
  shift_left : BinarySign 8 DoubleLess ShiftLeft
  shift_right : BinarySign 8 DoubleGreater ShiftRight
  plus : BinarySign 9 PlusSign Plus
  minus : BinarySign 9 MinusSign Minus
  times : BinarySign 10 Star Times
  divide : BinarySign 10 Slash Divide
  remainder : BinarySign 10 Percent Remainder

-- C11 6.5.8 and 6.5.9
pub data CompareSign : ℕ → Symbol → CompareOp → Type 0 where
  equal : CompareSign 6 DoubleEqual Equal
  not_equal : CompareSign 6 BangEqual NotEqual
  less : CompareSign 7 LessSign Less
  less_equal : CompareSign 7 LessEqualSign LessEqual
  greater : CompareSign 7 GreaterSign Greater
  greater_equal : CompareSign 7 GreaterEqualSign GreaterEqual

-- C11 6.5.16.2
pub data UpdateSign : Symbol → BinaryOp → Type 0 where
  plus : UpdateSign PlusEqual Plus
  minus : UpdateSign MinusEqual Minus
  times : UpdateSign TimesEqual Times
  and : UpdateSign AmpEqual BitAnd
  or : UpdateSign BarEqual BitOr
  xor : UpdateSign CaretEqual BitXor

-- a comparison has a typed operand (C11 6.5.8, 6.5.9)
abbrev pub Fits : Expr → Expr → Type 0
Fits a b = (typed a || typed b) ≡ true

-- open': how many parentheses, subscripts, unary operators, second and third parts of `?:`, blocks, `if`s, `else`s and `for`s are open, 64 at most
mutual
  -- arithmetic expressions, binary ones grouping to the left and `?:` to the right (C11 6.5)
  pub data ReadsExpr (scope : Scope) : ℕ → ℕ → List Token → Expr → Type 0 where
    literal : {open' : ℕ} {n : ℕ} {suffix : Suffix} → in_range suffix n ≡ true → ReadsExpr scope open' 12 (IntegerConstant n suffix ∷ []) (Literal n suffix)
    enumerator : {open' : ℕ} {name : Name} {n : ℕ} → find scope name ≡ Some (AConstant n) → ReadsExpr scope open' 12 (Word name ∷ []) (Constant name n)
    object : {open' : ℕ} {name : Name} {x : Variable} {is : Exprs} {ts : List Token} →
        find scope name ≡ Some (AVariable x (count is)) → ReadsSubscripts scope open' ts is → ReadsExpr scope open' 12 (Word name ∷ ts) (Object x is)
    parens : {open' : ℕ} {e : Expr} {ts : List Token} →
        open' < 64 → ReadsExpr scope (suc open') 0 ts e → ReadsExpr scope open' 12 (Punctuator OpenParen ∷ (ts ++ Punctuator CloseParen ∷ [])) e
    unary : {open' : ℕ} {e : Expr} {ts : List Token} {sign : Symbol} {op : UnaryOp} →
        open' < 64 → UnarySign sign op → typed e ≡ true → ReadsExpr scope (suc open') 11 ts e → ReadsExpr scope open' 11 (Punctuator sign ∷ ts) (Unary op e)
    binary : {open' level : ℕ} {a b : Expr} {ts us : List Token} {sign : Symbol} {op : BinaryOp} →
        BinarySign level sign op → fit op a b ≡ true → ReadsExpr scope open' level ts a → ReadsExpr scope open' (suc level) us b →
        ReadsExpr scope open' level (ts ++ Punctuator sign ∷ us) (Binary op a b)
    choose : {open' : ℕ} {c : Cond} {a b : Expr} {ts us vs : List Token} →
        open' < 64 → ReadsCond scope open' 1 ts c → ReadsExpr scope (suc open') 0 us a → ReadsExpr scope (suc open') 0 vs b →
        ReadsExpr scope open' 0 (ts ++ Punctuator Question ∷ (us ++ Punctuator Colon ∷ vs)) (Conditional c a b)
    tighter : {open' level : ℕ} {e : Expr} {ts : List Token} → ReadsExpr scope open' (suc level) ts e → ReadsExpr scope open' level ts e

  -- subscripts, from the left (C11 6.5.2.1)
  pub data ReadsSubscripts (scope : Scope) : ℕ → List Token → Exprs → Type 0 where
    no_subscripts : {open' : ℕ} → ReadsSubscripts scope open' [] no_exprs
    subscript : {open' : ℕ} {e : Expr} {is : Exprs} {ts us : List Token} →
        open' < 64 → ReadsExpr scope (suc open') 0 ts e → ReadsSubscripts scope open' us is →
        ReadsSubscripts scope open' (Punctuator OpenBracket ∷ (ts ++ Punctuator CloseBracket ∷ us)) (more_exprs e is)

  -- conditions (C11 6.5.3.3, 6.5.8, 6.5.9, 6.5.13, 6.5.14)
  pub data ReadsCond (scope : Scope) : ℕ → ℕ → List Token → Cond → Type 0 where
    numeric : {open' level : ℕ} {e : Expr} {ts : List Token} → ReadsExpr scope open' level ts e → ReadsCond scope open' level ts (NotZero e)
    cond_parens : {open' : ℕ} {c : Cond} {ts : List Token} →
        open' < 64 → ReadsCond scope (suc open') 0 ts c → ReadsCond scope open' 12 (Punctuator OpenParen ∷ (ts ++ Punctuator CloseParen ∷ [])) c
    not : {open' : ℕ} {c : Cond} {ts : List Token} →
        open' < 64 → ReadsCond scope (suc open') 11 ts c → ReadsCond scope open' 11 (Punctuator Bang ∷ ts) (Not c)
    compare : {open' level : ℕ} {a b : Expr} {ts us : List Token} {sign : Symbol} {op : CompareOp} →
        CompareSign level sign op → Fits a b → ReadsExpr scope open' level ts a → ReadsExpr scope open' (suc level) us b →
        ReadsCond scope open' level (ts ++ Punctuator sign ∷ us) (Compare op a b)
    both : {open' : ℕ} {c d : Cond} {ts us : List Token} →
        ReadsCond scope open' 2 ts c → ReadsCond scope open' 3 us d → ReadsCond scope open' 2 (ts ++ Punctuator DoubleAmp ∷ us) (LogicalAnd c d)
    either : {open' : ℕ} {c d : Cond} {ts us : List Token} →
        ReadsCond scope open' 1 ts c → ReadsCond scope open' 2 us d → ReadsCond scope open' 1 (ts ++ Punctuator DoubleBar ∷ us) (LogicalOr c d)
    cond_tighter : {open' level : ℕ} {c : Cond} {ts : List Token} → ReadsCond scope open' (suc level) ts c → ReadsCond scope open' level ts c
