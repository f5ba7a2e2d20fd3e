-- Each symbol begins no line end, blank or directive line, and holds no line end.
use Rattle.std.specs.Prelude.{ℕ, Bool, true, false, not, ◌==◌, ◌&&◌, ◌≡◌, List, [], ◌∷◌, ◌++◌}
use Rattle.std.proofs.Common.{refl}
use Rattle.semantics.specs.Source.Token.{Symbol, Semicolon, Comma, OpenParen, CloseParen, OpenBracket, CloseBracket, OpenBrace, CloseBrace, PlusPlus, MinusMinus, EqualSign, PlusEqual, MinusEqual, TimesEqual, AmpEqual, BarEqual, CaretEqual, PlusSign, MinusSign, Star, Slash, Percent, Amp, Bar, Caret, Tilde, Bang, Question, Colon, DoubleLess, DoubleGreater, LessSign, LessEqualSign, GreaterSign, GreaterEqualSign, DoubleEqual, BangEqual, DoubleAmp, DoubleBar}
use Rattle.semantics.specs.Source.Cuts.{symbol_text, is_line}

-- a byte that begins no line end, blank or directive line
abbrev pub is_plain_start : ℕ → Bool
is_plain_start b = not (b == 10) && (not (b == 32) && (not (b == 9) && not (b == 35)))

abbrev pub starts_plain : List ℕ → Bool
starts_plain [] = false
starts_plain (b ∷ bs) = is_plain_start b

pub symbol_starts : (s : Symbol) (us : List ℕ) → starts_plain (symbol_text s ++ us) ≡ true
symbol_starts Semicolon us = refl
symbol_starts Comma us = refl
symbol_starts OpenParen us = refl
symbol_starts CloseParen us = refl
symbol_starts OpenBracket us = refl
symbol_starts CloseBracket us = refl
symbol_starts OpenBrace us = refl
symbol_starts CloseBrace us = refl
symbol_starts PlusPlus us = refl
symbol_starts MinusMinus us = refl
symbol_starts EqualSign us = refl
symbol_starts PlusEqual us = refl
symbol_starts MinusEqual us = refl
symbol_starts TimesEqual us = refl
symbol_starts AmpEqual us = refl
symbol_starts BarEqual us = refl
symbol_starts CaretEqual us = refl
symbol_starts PlusSign us = refl
symbol_starts MinusSign us = refl
symbol_starts Star us = refl
symbol_starts Slash us = refl
symbol_starts Percent us = refl
symbol_starts Amp us = refl
symbol_starts Bar us = refl
symbol_starts Caret us = refl
symbol_starts Tilde us = refl
symbol_starts Bang us = refl
symbol_starts Question us = refl
symbol_starts Colon us = refl
symbol_starts DoubleLess us = refl
symbol_starts DoubleGreater us = refl
symbol_starts LessSign us = refl
symbol_starts LessEqualSign us = refl
symbol_starts GreaterSign us = refl
symbol_starts GreaterEqualSign us = refl
symbol_starts DoubleEqual us = refl
symbol_starts BangEqual us = refl
symbol_starts DoubleAmp us = refl
symbol_starts DoubleBar us = refl

pub symbol_line : (s : Symbol) → is_line (symbol_text s) ≡ true
symbol_line Semicolon = refl
symbol_line Comma = refl
symbol_line OpenParen = refl
symbol_line CloseParen = refl
symbol_line OpenBracket = refl
symbol_line CloseBracket = refl
symbol_line OpenBrace = refl
symbol_line CloseBrace = refl
symbol_line PlusPlus = refl
symbol_line MinusMinus = refl
symbol_line EqualSign = refl
symbol_line PlusEqual = refl
symbol_line MinusEqual = refl
symbol_line TimesEqual = refl
symbol_line AmpEqual = refl
symbol_line BarEqual = refl
symbol_line CaretEqual = refl
symbol_line PlusSign = refl
symbol_line MinusSign = refl
symbol_line Star = refl
symbol_line Slash = refl
symbol_line Percent = refl
symbol_line Amp = refl
symbol_line Bar = refl
symbol_line Caret = refl
symbol_line Tilde = refl
symbol_line Bang = refl
symbol_line Question = refl
symbol_line Colon = refl
symbol_line DoubleLess = refl
symbol_line DoubleGreater = refl
symbol_line LessSign = refl
symbol_line LessEqualSign = refl
symbol_line GreaterSign = refl
symbol_line GreaterEqualSign = refl
symbol_line DoubleEqual = refl
symbol_line BangEqual = refl
symbol_line DoubleAmp = refl
symbol_line DoubleBar = refl
