-- What the code's tokens stand for.
use Rattle.std.specs.Prelude.{ℕ, true, ◌≡◌, ◌<◌, ◌≤◌, ◌+◌, ◌^◌, min, List, [], ◌∷◌, Option, Some, None, map, length, All, IsAscii}
use Rattle.std.specs.Option.{SomeIff}
use Rattle.semantics.specs.Source.Token as meant
use Rattle.semantics.specs.Source.Spans.{Span, spanned, AreAt}
use Rattle.semantics.specs.Source.Cuts.{Cuts, Tokens}
use Rattle.ktree.specs.declared.refusal.Refusal.{Refusal}
use Rattle.ktree.specs.declared.refusal.Refusal.TheVariants.{OutOfMemory, Syntax}
use Rattle.ktree.specs.View.{suffix_of}
use Rattle.ctoken.specs.declared.token.Symbol.{Symbol}
use Rattle.ctoken.specs.declared.token.Symbol.TheVariants.{Semicolon, Comma, OpenParen, CloseParen, OpenBracket, CloseBracket, OpenBrace, CloseBrace, PlusPlus, MinusMinus, EqualSign, PlusEqual, MinusEqual, TimesEqual, AmpEqual, BarEqual, CaretEqual, PlusSign, MinusSign, Star, Slash, Percent, Amp, Bar, Caret, Tilde, Bang, Question, Colon, DoubleLess, DoubleGreater, LessSign, LessEqualSign, GreaterSign, GreaterEqualSign, DoubleEqual, BangEqual, DoubleAmp, DoubleBar}
use Rattle.ctoken.specs.declared.token.Header.{Header}
use Rattle.ctoken.specs.declared.token.Header.TheVariants.{Stdint, Inttypes, Stdio}
use Rattle.ctoken.specs.declared.token.TokenKind.{TokenKind}
use Rattle.ctoken.specs.declared.token.TokenKind.TheVariants.{Identifier, IntegerConstant, StringLiteral, Punctuator, Include, Line}
use Rattle.ctoken.specs.declared.token.Token.{Token}

abbrev pub symbol_of : Symbol → meant.Symbol
symbol_of Semicolon = meant.Semicolon
symbol_of Comma = meant.Comma
symbol_of OpenParen = meant.OpenParen
symbol_of CloseParen = meant.CloseParen
symbol_of OpenBracket = meant.OpenBracket
symbol_of CloseBracket = meant.CloseBracket
symbol_of OpenBrace = meant.OpenBrace
symbol_of CloseBrace = meant.CloseBrace
symbol_of PlusPlus = meant.PlusPlus
symbol_of MinusMinus = meant.MinusMinus
symbol_of EqualSign = meant.EqualSign
symbol_of PlusEqual = meant.PlusEqual
symbol_of MinusEqual = meant.MinusEqual
symbol_of TimesEqual = meant.TimesEqual
symbol_of AmpEqual = meant.AmpEqual
symbol_of BarEqual = meant.BarEqual
symbol_of CaretEqual = meant.CaretEqual
symbol_of PlusSign = meant.PlusSign
symbol_of MinusSign = meant.MinusSign
symbol_of Star = meant.Star
symbol_of Slash = meant.Slash
symbol_of Percent = meant.Percent
symbol_of Amp = meant.Amp
symbol_of Bar = meant.Bar
symbol_of Caret = meant.Caret
symbol_of Tilde = meant.Tilde
symbol_of Bang = meant.Bang
symbol_of Question = meant.Question
symbol_of Colon = meant.Colon
symbol_of DoubleLess = meant.DoubleLess
symbol_of DoubleGreater = meant.DoubleGreater
symbol_of LessSign = meant.LessSign
symbol_of LessEqualSign = meant.LessEqualSign
symbol_of GreaterSign = meant.GreaterSign
symbol_of GreaterEqualSign = meant.GreaterEqualSign
symbol_of DoubleEqual = meant.DoubleEqual
symbol_of BangEqual = meant.BangEqual
symbol_of DoubleAmp = meant.DoubleAmp
symbol_of DoubleBar = meant.DoubleBar

-- a header by its place among those that may be named
abbrev pub number_of : Header → ℕ
number_of Stdint = 0
number_of Inttypes = 1
number_of Stdio = 2

-- what a token is; of a literal, its value where it is below 2^64
abbrev pub IsKind : TokenKind → meant.Token → Type 0
IsKind Identifier (meant.Word w) = Unit {0}
IsKind (IntegerConstant value suffix) (meant.IntegerConstant n s) = SomeIff value (n < 2 ^ 64) n × (suffix_of suffix ≡ s)
IsKind (StringLiteral single) (meant.StringLiteral cs open') = single ≡ open'
IsKind (Punctuator symbol) (meant.Punctuator s) = symbol_of symbol ≡ s
IsKind (Include header) (meant.Header h) = number_of header ≡ h
IsKind Line (meant.Line n) = Unit {0}
IsKind _ _ = ⊥

-- a directive line's number is that of its place, as far as a place goes
abbrev pub IsLineOf : ℕ → meant.Token → Type 0
IsLineOf line (meant.Line n) = line ≡ min n 4294967295
IsLineOf line _ = Unit {0}

abbrev pub StandsFor : Token → meant.Token → Type 0
StandsFor t m = IsKind t.kind m × IsLineOf t.place.line m

-- token by token
abbrev pub StandFor : List Token → List meant.Token → Type 0
StandFor [] [] = Unit {0}
StandFor (t ∷ ts) (m ∷ ms) = StandsFor t m × StandFor ts ms
StandFor [] (m ∷ ms) = ⊥
StandFor (t ∷ ts) [] = ⊥

-- where a token stands
abbrev pub span_of : Token → Span
span_of t = record { first = t.start; count = t.length }

abbrev pub spans_of : List Token → List Span
spans_of ts = map span_of ts

-- a text that is cut to its end; or it has no cut
abbrev pub CutSo : List ℕ → List Token → Option ℕ → Type 0
CutSo text tokens None = (ts : List meant.Token) × Cuts true 1 text ts × StandFor tokens ts × AreAt text 0 (spans_of tokens) ts
CutSo text tokens (Some at) = (at ≤ length text) × ((ts : List meant.Token) → Cuts true 1 text ts → ⊥)

-- the tokens of a text, one by one, each at its span
pub record AreTokensOf (text : List ℕ) (tokens : List Token) : Type 0 where
  pub meant : List meant.Token
  pub cut : Tokens text meant
  pub stand : StandFor tokens meant
  pub placed : AreAt text 0 (spans_of tokens) meant

-- a token lies in its text, and a word is ASCII
pub record LiesIn (text : List ℕ) (t : Token) : Type 0 where
  pub within : t.start + t.length ≤ length text
  pub ascii : t.kind ≡ Identifier → IsAscii (spanned text (span_of t))

-- tokens lie in their text, and are no more than its bytes
pub record LieIn (text : List ℕ) (tokens : List Token) : Type 0 where
  pub each : All (LiesIn text) tokens
  pub count : length tokens ≤ length text

-- no tokens make the text
abbrev pub HasNoTokens : List ℕ → Type 0
HasNoTokens text = (ts : List meant.Token) → Tokens text ts → ⊥

-- want of memory, or a fault of syntax where the text has no tokens
abbrev pub RefusesText : List ℕ → Refusal → Type 0
RefusesText text OutOfMemory = Unit {0}
RefusesText text (Syntax place) = HasNoTokens text
RefusesText text _ = ⊥
