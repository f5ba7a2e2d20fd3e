-- What the code's operators stand for.
use Rattle.std.specs.Prelude.{ℕ, List, ◌∷◌, Option, None, option_map}
use Rattle.semantics.specs.Source.Token.{Token, Punctuator}
use Rattle.ktree.specs.View.{binary_of, compare_of}
use Rattle.cparse_operand.specs.declared.operator.Infix.{Infix}
use Rattle.cparse_operand.specs.declared.operator.Infix.TheVariants.{Arithmetic, Comparing, AndAlso, OrElse}
use Rattle.cparse_grammar.specs.Operators as meant

-- an operator between two operands
abbrev pub infix_in : Infix → meant.Infix
infix_in (Arithmetic op) = meant.Arithmetic (binary_of op)
infix_in (Comparing op) = meant.Comparing (compare_of op)
infix_in AndAlso = meant.AndAlso
infix_in OrElse = meant.OrElse

-- the precedence of the operator that comes first, if one does
abbrev pub next_precedence : List Token → Option ℕ
next_precedence (Punctuator s ∷ ts) = option_map meant.precedence (meant.infix_of s)
next_precedence _ = None
