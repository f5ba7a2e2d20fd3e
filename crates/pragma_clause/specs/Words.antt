-- The words of a directive line, as they are found one by one.
use Rattle.std.specs.Prelude.{ℕ, suc, ◌==◌, if◌then◌else◌, List, [], ◌∷◌, Option, Some, None}
use Rattle.semantics.specs.Source.Token as meant
use Rattle.semantics.specs.Directives.DirectiveGrammar.{ends_run}
use Rattle.pragma_clause.specs.declared.word.Punctuator.{Punctuator}
use Rattle.pragma_clause.specs.declared.word.Punctuator.TheVariants.{OpenParen, CloseParen, Comma, Colon}
use Rattle.pragma_clause.specs.declared.word.Word.{Word}
use Rattle.pragma_clause.specs.declared.word.Word.TheVariants as found

-- a sign as a symbol of the definitions
abbrev pub symbol_of : Punctuator → meant.Symbol
symbol_of OpenParen = meant.OpenParen
symbol_of CloseParen = meant.CloseParen
symbol_of Comma = meant.Comma
symbol_of Colon = meant.Colon

-- a word as a token of the definitions
abbrev pub token_of : Word → meant.Token
token_of (found.Run bytes) = meant.Word bytes.now
token_of (found.Punctuator sign) = meant.Punctuator (symbol_of sign)

-- the symbol that a byte is
abbrev pub symbol_at : ℕ → Option meant.Symbol
symbol_at b = if b == 40 then Some meant.OpenParen else (if b == 41 then Some meant.CloseParen else (if b == 44 then Some meant.Comma else (if b == 58 then Some meant.Colon else None)))

-- how many bytes stand before the first blank or sign
abbrev pub run_length : List ℕ → ℕ
run_length [] = 0
run_length (b ∷ bs) = if ends_run b then 0 else suc (run_length bs)
