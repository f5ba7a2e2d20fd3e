-- What the code's tokens stand for.
use Rattle.std.specs.Prelude.{ℕ, ◌^◌, false, List, [], ◌∷◌, map, Option, Some, None}
use Rattle.semantics.specs.Source.Token as meant
use Rattle.ktree.specs.View.{suffix_of}
use Rattle.ktree.specs.declared.place.Place.{Place}
use Rattle.ctoken.specs.Front.{spelled}
use Rattle.ctoken.specs.Meant.{symbol_of, number_of}
use Rattle.cparse_cursor.specs.declared.lexeme.Kind.{Kind}
use Rattle.cparse_cursor.specs.declared.lexeme.Kind.TheVariants.{Identifier, IntegerConstant, StringLiteral, Punctuator, Include, Line}
use Rattle.cparse_cursor.specs.declared.lexeme.Lexeme.{Lexeme}

-- a literal's value; each that is too great counts as 2^64
abbrev pub value_of : Option ℕ → ℕ
value_of None = 2 ^ 64
value_of (Some n) = n

-- what a token is, in the line of this number
abbrev pub kind_of : ℕ → Kind → meant.Token
kind_of line (Identifier name) = meant.Word name.now
kind_of line (IntegerConstant value suffix) = meant.IntegerConstant (value_of value) (suffix_of suffix)
kind_of line (StringLiteral bytes single) = meant.StringLiteral (spelled false bytes.now) single
kind_of line (Punctuator symbol) = meant.Punctuator (symbol_of symbol)
kind_of line (Include header) = meant.Header (number_of header)
kind_of line Line = meant.Line line

-- a token
abbrev pub token_of : Lexeme → meant.Token
token_of t = kind_of t.place.line t.kind

-- tokens, in order
abbrev pub tokens_of : List Lexeme → List meant.Token
tokens_of ts = map token_of ts

-- where the first token stands, or else the end
abbrev pub first_place : List Lexeme → Place → Place
first_place [] end = end
first_place (t ∷ ts) end = t.place
