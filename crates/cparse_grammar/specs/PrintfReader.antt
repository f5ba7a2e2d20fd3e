-- The reading of printf from the front of a list of tokens.
use Rattle.std.specs.Prelude.{ℕ, zero, suc, Bool, true, false, ◌&&◌, if◌then◌else◌, List, [], ◌∷◌, length, Option, Some, None, codes}
use Rattle.semantics.specs.Tree.{Expr, Source, PrintPart, Characters, Decimal, Stmt, Print}
use Rattle.semantics.specs.Source.Token.{Token, StringLiteral, Punctuator, Comma}
use Rattle.semantics.specs.Source.Typing.{typed, plain}
use Rattle.semantics.specs.Source.Scope.{Scope}
use Rattle.cparse_grammar.specs.Reading.{Reader, ◌>>=◌, got}
use Rattle.cparse_grammar.specs.NextTokens.{open_paren, close_paren, word}
use Rattle.cparse_grammar.specs.Operators.{stand_in, number_in, is_number}
use Rattle.cparse_grammar.specs.ExpressionReader.{expression}

-- a string comes next
abbrev pub starts_quoted : List Token → Bool
starts_quoted (StringLiteral bs open' ∷ ts) = true
starts_quoted _ = false

-- a format, of so many strings at most (C11 7.21.6.1, 7.8.1)
abbrev pub format : ℕ → Reader (List (Option (List ℕ)))
format (suc n) (StringLiteral bs false ∷ ts) = got (Some bs ∷ []) true ts
format (suc n) (StringLiteral bs true ∷ ts) =
    word (codes "PRIu64") ts >>= λ behind.
    (if starts_quoted behind then (format n behind >>= λ more. got (Some bs ∷ None ∷ more.tree) true more.rest) else got (Some bs ∷ None ∷ []) true behind)
format n ts = None

-- the arguments behind it, so many at most
abbrev pub arguments : ℕ → Reader Source → Reader (List Expr)
arguments (suc n) whole (Punctuator Comma ∷ ts) =
    whole ts >>= λ e. arguments n whole e.rest >>= λ es.
    got (number_in e.tree ∷ es.tree) ((e.sound && is_number e.tree) && ((typed (number_in e.tree) && plain (number_in e.tree)) && es.sound)) es.rest
arguments n whole ts = got [] true ts

-- the parts that are printed: each place has its argument
abbrev pub filled : List (Option (List ℕ)) → List Expr → List PrintPart
filled [] es = []
filled (Some bs ∷ ps) es = Characters bs ∷ filled ps es
filled (None ∷ ps) [] = Decimal stand_in ∷ filled ps []
filled (None ∷ ps) (e ∷ es) = Decimal e ∷ filled ps es

-- as many arguments as places
abbrev pub fills : List (Option (List ℕ)) → List Expr → Bool
fills [] [] = true
fills [] (e ∷ es) = false
fills (Some bs ∷ ps) es = fills ps es
fills (None ∷ ps) [] = false
fills (None ∷ ps) (e ∷ es) = fills ps es

-- behind the word printf (C11 7.21.6.3)
unfoldable pub printed : ℕ → Scope → Reader Stmt
printed zero scope ts = None
printed (suc room) scope ts =
    open_paren ts >>= λ inner. format (length inner) inner >>= λ spots. arguments (length spots.rest) (expression room scope) spots.rest >>= λ es.
    close_paren es.rest >>= λ behind. got (Print (filled spots.tree es.tree)) (es.sound && fills spots.tree es.tree) behind
