-- Symbols that are the same are spelled the same, and others are not.
use Rattle.std.proofs.Common.{◌≡◌, refl}
use denote.Enum.Bare.{sameb}
use Rattle.semantics.specs.Source.Cuts.{symbol_text}
use Rattle.semantics.specs.Source.Scope.{same_name}
use Rattle.ctoken.specs.Meant.{symbol_of}
use Rattle.ctoken.specs.declared.token.Symbol.{Symbol}
use Rattle.ctoken.specs.declared.token.Symbol.TheVariants.{Semicolon, Comma, OpenParen, CloseParen, OpenBracket, CloseBracket, OpenBrace, CloseBrace, PlusPlus, MinusMinus, EqualSign, PlusEqual, MinusEqual, TimesEqual, AmpEqual, BarEqual, CaretEqual, PlusSign, MinusSign, Star, Slash, Percent, Amp, Bar, Caret, Tilde, Bang, Question, Colon, DoubleLess, DoubleGreater, LessSign, LessEqualSign, GreaterSign, GreaterEqualSign, DoubleEqual, BangEqual, DoubleAmp, DoubleBar}
use Rattle.ctoken.specs.contracts.token.Symbol.{the_type}

pub same_text : (a b : Symbol) → sameb the_type a b ≡ same_name (symbol_text (symbol_of a)) (symbol_text (symbol_of b))
same_text Semicolon Semicolon = refl
same_text Comma Comma = refl
same_text OpenParen OpenParen = refl
same_text CloseParen CloseParen = refl
same_text OpenBracket OpenBracket = refl
same_text CloseBracket CloseBracket = refl
same_text OpenBrace OpenBrace = refl
same_text CloseBrace CloseBrace = refl
same_text PlusPlus PlusPlus = refl
same_text MinusMinus MinusMinus = refl
same_text EqualSign EqualSign = refl
same_text PlusEqual PlusEqual = refl
same_text MinusEqual MinusEqual = refl
same_text TimesEqual TimesEqual = refl
same_text AmpEqual AmpEqual = refl
same_text BarEqual BarEqual = refl
same_text CaretEqual CaretEqual = refl
same_text PlusSign PlusSign = refl
same_text MinusSign MinusSign = refl
same_text Star Star = refl
same_text Slash Slash = refl
same_text Percent Percent = refl
same_text Amp Amp = refl
same_text Bar Bar = refl
same_text Caret Caret = refl
same_text Tilde Tilde = refl
same_text Bang Bang = refl
same_text Question Question = refl
same_text Colon Colon = refl
same_text DoubleLess DoubleLess = refl
same_text DoubleGreater DoubleGreater = refl
same_text LessSign LessSign = refl
same_text LessEqualSign LessEqualSign = refl
same_text GreaterSign GreaterSign = refl
same_text GreaterEqualSign GreaterEqualSign = refl
same_text DoubleEqual DoubleEqual = refl
same_text BangEqual BangEqual = refl
same_text DoubleAmp DoubleAmp = refl
same_text DoubleBar DoubleBar = refl
same_text a b = refl
