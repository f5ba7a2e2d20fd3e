-- The steps of reading expressions, as the code takes them.
use Rattle.std.specs.Prelude.{◌&&◌, if◌then◌else◌, List, length, None}
use Rattle.semantics.specs.Tree.{Name, Expr, Exprs, no_exprs, more_exprs, Source}
use Rattle.semantics.specs.Source.Token.{Token}
use Rattle.semantics.specs.Source.Scope.{Scope, find}
use Rattle.cparse_grammar.specs.Reading.{Got, Reader, ◌>>=◌}
use Rattle.cparse_grammar.specs.Operators.{number_in, is_number}
use Rattle.cparse_grammar.specs.ExpressionReader.{Inner, subscripts, named, choice}
use Rattle.cparse_grammar.specs.NextTokens.{colon, may_be_named}

-- subscripts and one more
abbrev pub and_one : Exprs → Expr → Exprs
and_one no_exprs e = more_exprs e no_exprs
and_one (more_exprs x xs) e = more_exprs x (and_one xs e)

-- subscripts and one more, with the tokens behind it
abbrev pub with_subscript : Got Exprs → Got Source → List Token → Got Exprs
with_subscript is e behind = record { tree = and_one is.tree (number_in e.tree); sound = is.sound && (e.sound && is_number e.tree); rest = behind }

-- a name and what follows it
abbrev pub at_name : Scope → Inner → Name → Reader Source
at_name scope inner name ts =
    if may_be_named (find scope name) name
    then (subscripts (length ts) inner ts >>= λ is. named (find scope name) name is)
    else None

-- the second arm of `?:`
abbrev pub second_arm : Inner → Reader Source
second_arm inner ts = colon ts >>= λ other. inner.whole other

-- both arms behind a condition
abbrev pub arms_behind : Inner → Got Source → Reader Source
arms_behind inner c ts = inner.whole ts >>= λ a. colon a.rest >>= λ other. inner.whole other >>= λ b. choice c a b
