-- The tokens of a text (C11 6.4).
use Rattle.std.specs.Prelude.{ℕ, Bool, List}
use Rattle.semantics.specs.Tree.{Name, Suffix}

-- punctuators (C11 6.4.6)
pub data Symbol : Type 0 where
  Semicolon Comma OpenParen CloseParen OpenBracket CloseBracket OpenBrace CloseBrace : Symbol
  PlusPlus MinusMinus EqualSign PlusEqual MinusEqual TimesEqual AmpEqual BarEqual CaretEqual : Symbol
  PlusSign MinusSign Star Slash Percent Amp Bar Caret Tilde Bang Question Colon : Symbol
  DoubleLess DoubleGreater LessSign LessEqualSign GreaterSign GreaterEqualSign DoubleEqual BangEqual DoubleAmp DoubleBar : Symbol

-- a name or a reserved word, a literal, a string with whether it ends in a single %, a symbol, an include line by its header, a directive line by its number
pub data Token : Type 0 where
  Word : Name → Token
  IntegerConstant : ℕ → Suffix → Token
  StringLiteral : List ℕ → Bool → Token
  Punctuator : Symbol → Token
  Header : ℕ → Token
  Line : ℕ → Token
