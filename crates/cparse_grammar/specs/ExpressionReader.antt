-- The reading of expressions from the front of a list of tokens, with how much may still be opened.
use Rattle.std.specs.Prelude.{ℕ, zero, suc, Bool, true, false, ◌&&◌, ◌==◌, if◌then◌else◌, List, ◌∷◌, length, Option, Some, None}
use Rattle.semantics.specs.Tree.{Name, Suffix, UnaryOp, Negate, Complement, Expr, Literal, Constant, Object, Unary, Conditional, Exprs, no_exprs, more_exprs, Not, Source, Number, Truth}
use Rattle.semantics.specs.Source.Token.{Token, Word, IntegerConstant, Punctuator, OpenParen, OpenBracket, MinusSign, Tilde, Bang}
use Rattle.semantics.specs.Source.Typing.{in_range, typed}
use Rattle.semantics.specs.Source.Scope.{Scope, Entity, AVariable, AConstant, find, count}
use Rattle.cparse_grammar.specs.Reading.{Got, Reader, ◌>>=◌, got, chosen}
use Rattle.cparse_grammar.specs.NextTokens.{close_paren, close_bracket, question_mark, colon, may_be_named}
use Rattle.cparse_grammar.specs.Operators.{Infix, precedence, infix_of, stand_in, number_in, is_number, cond_in, joined, joins}

-- what is read inside something opened: a whole expression, and the operand of a unary operator
pub record Inner : Type 0 where
  pub whole : Reader Source
  pub operand : Reader Source

-- subscripts, so many at most
abbrev pub subscripts : ℕ → Inner → Reader Exprs
subscripts (suc n) inner (Punctuator OpenBracket ∷ ts) =
    inner.whole ts >>= λ e. close_bracket e.rest >>= λ behind. subscripts n inner behind >>= λ es.
    got (more_exprs (number_in e.tree) es.tree) (e.sound && (is_number e.tree && es.sound)) es.rest
subscripts n inner ts = got no_exprs true ts

-- a literal with its value where it has one
abbrev pub literal_tree : ℕ → Suffix → Expr
literal_tree n suffix = if in_range suffix n then Literal n suffix else Literal 0 suffix

-- what a name with subscripts stands for
abbrev pub name_tree : Option Entity → Name → Exprs → Expr
name_tree None name is = stand_in
name_tree (Some (AVariable x n)) name is = Object x is
name_tree (Some (AConstant v)) name is = Constant name v

-- as many subscripts as dimensions
abbrev pub name_sound : Option Entity → Exprs → Bool
name_sound None is = false
name_sound (Some (AVariable x n)) is = n == count is
name_sound (Some (AConstant v)) is = count is == 0

-- a name and its subscripts
abbrev pub named : Option Entity → Name → Got Exprs → Option (Got Source)
named entity name is = got (Number (name_tree entity name is.tree)) (is.sound && name_sound entity is.tree) is.rest

-- C11 6.5.1 and 6.5.2.1
unfoldable pub primary : Scope → Inner → Reader Source
primary scope inner (IntegerConstant n suffix ∷ ts) = got (Number (literal_tree n suffix)) (in_range suffix n) ts
primary scope inner (Word name ∷ ts) =
    if may_be_named (find scope name) name
    then (subscripts (length ts) inner ts >>= λ is. named (find scope name) name is)
    else None
primary scope inner (Punctuator OpenParen ∷ ts) = inner.whole ts >>= λ e. close_paren e.rest >>= λ behind. got e.tree e.sound behind
primary scope inner _ = None

-- a unary operator has a typed operand
abbrev pub unary_of : UnaryOp → Got Source → Option (Got Source)
unary_of op e = got (Number (Unary op (number_in e.tree))) (e.sound && (is_number e.tree && typed (number_in e.tree))) e.rest

-- C11 6.5.3.3
unfoldable pub unary : Scope → Inner → Reader Source
unary scope inner (Punctuator MinusSign ∷ ts) = inner.operand ts >>= λ e. unary_of Negate e
unary scope inner (Punctuator Tilde ∷ ts) = inner.operand ts >>= λ e. unary_of Complement e
unary scope inner (Punctuator Bang ∷ ts) = inner.operand ts >>= λ e. got (Truth (Not (cond_in e.tree))) e.sound e.rest
unary scope inner ts = primary scope inner ts

-- an operator of this reach, and the tokens behind it
abbrev pub of_precedence : ℕ → List Token → Option Infix → Option (Infix × List Token)
of_precedence k ts None = None
of_precedence k ts (Some op) = if precedence op == k then Some (op, ts) else None

abbrev pub next_infix : ℕ → List Token → Option (Infix × List Token)
next_infix k (Punctuator s ∷ ts) = of_precedence k ts (infix_of s)
next_infix k _ = None

-- the left operand, the operator and the right one
abbrev pub join : Got Source → Infix → Got Source → Got Source
join a op b = record { tree = joined op a.tree b.tree; sound = a.sound && (b.sound && joins op a.tree b.tree); rest = b.rest }

-- more operators of one reach behind a left operand, so many at most, grouping to the left
abbrev pub further : ℕ → ℕ → Reader Source → Got Source → Option (Got Source)
further zero k operand a = Some a
further (suc n) k operand a = chosen (next_infix k a.rest) (Some a) (λ op. operand op.1 >>= λ b. further n k operand (join a op.0 b))

-- operators up to a reach (C11 6.5.5 to 6.5.14)
abbrev pub binary : ℕ → Scope → Inner → Reader Source
binary zero scope inner ts = unary scope inner ts
binary (suc k) scope inner ts = binary k scope inner ts >>= λ a. further (length a.rest) (suc k) (binary k scope inner) a

-- both arms are arithmetic (C11 6.5.15)
abbrev pub choice : Got Source → Got Source → Got Source → Option (Got Source)
choice c a b =
    got (Number (Conditional (cond_in c.tree) (number_in a.tree) (number_in b.tree)))
    (c.sound && ((a.sound && is_number a.tree) && (b.sound && is_number b.tree))) b.rest

-- a whole expression: `?:` reaches furthest
unfoldable pub whole : Scope → Inner → Reader Source
whole scope inner ts =
    binary 10 scope inner ts >>= λ c. chosen (question_mark c.rest) (Some c)
    (λ behind. inner.whole behind >>= λ a. colon a.rest >>= λ other. inner.whole other >>= λ b. choice c a b)

-- inside of what is opened, where so much may be open
abbrev pub inside : ℕ → Scope → Inner
inside zero scope = record { whole = λ ts. None; operand = λ ts. None }
inside (suc room) scope = record { whole = whole scope (inside room scope); operand = unary scope (inside room scope) }

-- an expression where so much may still be opened
abbrev pub expression : ℕ → Scope → Reader Source
expression room scope ts = whole scope (inside room scope) ts
