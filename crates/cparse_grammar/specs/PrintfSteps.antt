-- Formats and arguments, turn by turn.
use Rattle.std.specs.Prelude.{ℕ, Bool, true, false, ◌&&◌, if◌then◌else◌, List, [], ◌∷◌, ◌++◌, length, Option, Some, None, codes}
use Rattle.semantics.specs.Tree.{Expr, Source, PrintPart, Characters, Decimal, Stmt, Print}
use Rattle.semantics.specs.Source.Token.{Token, StringLiteral}
use Rattle.semantics.specs.Source.Scope.{Scope}
use Rattle.semantics.specs.Source.Typing.{typed, plain}
use Rattle.cparse_grammar.specs.Reading.{Got, Reader, ◌>>=◌, got}
use Rattle.cparse_grammar.specs.Operators.{stand_in, number_in, is_number}
use Rattle.cparse_grammar.specs.ExpressionReader.{expression}
use Rattle.cparse_grammar.specs.NextTokens.{open_paren, close_paren, word}
use Rattle.cparse_grammar.specs.PrintfReader.{starts_quoted, format, arguments, filled, fills}

-- a string, whether a place for a number stands behind it, and whether a further string does
pub record Turn : Type 0 where
  pub characters : List ℕ
  pub placed : Bool
  pub more : Bool
  pub rest : List Token

abbrev pub format_turn : List Token → Option Turn
format_turn (StringLiteral bs false ∷ ts) = Some (record { characters = bs; placed = false; more = false; rest = ts })
format_turn (StringLiteral bs true ∷ ts) =
    word (codes "PRIu64") ts >>= λ behind. Some (record { characters = bs; placed = true; more = starts_quoted behind; rest = behind })
format_turn _ = None

-- its parts
abbrev pub turn_spots : Turn → List (Option (List ℕ))
turn_spots t = if t.placed then Some t.characters ∷ None ∷ [] else Some t.characters ∷ []

abbrev pub with_turn : Got (List (Option (List ℕ))) → Turn → Got (List (Option (List ℕ)))
with_turn row t = record { tree = row.tree ++ turn_spots t; sound = true; rest = t.rest }

-- one more argument
abbrev pub with_argument : Got (List Expr) → Got Source → Got (List Expr)
with_argument row e = record {
  tree = row.tree ++ number_in e.tree ∷ [];
  sound = row.sound && ((e.sound && is_number e.tree) && (typed (number_in e.tree) && plain (number_in e.tree)));
  rest = e.rest;
}

-- the part that is printed for a part of a format, and the arguments behind it
abbrev pub part_at : Option (List ℕ) → List Expr → PrintPart
part_at (Some bs) es = Characters bs
part_at None [] = Decimal stand_in
part_at None (e ∷ es) = Decimal e

abbrev pub arguments_behind : Option (List ℕ) → List Expr → List Expr
arguments_behind (Some bs) es = es
arguments_behind None [] = []
arguments_behind None (e ∷ es) = es

-- the arguments and the parenthesis that closes
abbrev pub closed_arguments : Reader Source → Reader (List Expr)
closed_arguments whole ts = arguments (length ts) whole ts >>= λ es. close_paren es.rest >>= λ behind. got es.tree es.sound behind

-- a format and arguments as a statement
abbrev pub print_of : List (Option (List ℕ)) → Got (List Expr) → Option (Got Stmt)
print_of spots es = got (Print (filled spots es.tree)) (es.sound && fills spots es.tree) es.rest

-- printf in these parts
abbrev pub printed_in_parts : ℕ → Scope → Reader Stmt
printed_in_parts room scope ts =
    open_paren ts >>= λ inner. format (length inner) inner >>= λ spots. closed_arguments (expression room scope) spots.rest >>= λ es. print_of spots.tree es
