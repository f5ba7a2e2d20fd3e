-- What the code's operands stand for.
use Rattle.std.specs.Prelude.{ℕ, Bool, Option}
use Rattle.semantics.specs.Source.Typing.{typed, constant, plain, plain_cond}
use Rattle.ktree.specs.declared.statement.Source.{Source}
use Rattle.ktree.specs.declared.expression.Expr.{Expr}
use Rattle.ktree.specs.View.{expr_of, source_of}
use Rattle.cparse_grammar.specs.Operators.{number_in, cond_in}

-- whether an operand is typed; a condition is, where a number is wanted
abbrev pub typed_in : Source → Bool
typed_in s = typed (number_in (source_of s))

-- the value of a constant expression
abbrev pub constant_in : Source → Option ℕ
constant_in s = constant (number_in (source_of s))

-- whether it has no literal with `ull` outside of subscripts
abbrev pub plain_in : Source → Bool
plain_in s = plain_cond (cond_in (source_of s))

-- the same of an arithmetic expression
abbrev pub expr_typed : Expr → Bool
expr_typed e = typed (expr_of e)

abbrev pub expr_plain : Expr → Bool
expr_plain e = plain (expr_of e)
