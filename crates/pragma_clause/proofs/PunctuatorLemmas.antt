-- Punctuators that are the same are spelled the same, and others are not.
use Rattle.std.proofs.Common.{◌≡◌, refl}
use denote.Enum.Bare.{sameb}
use Rattle.semantics.specs.Source.Cuts.{symbol_text}
use Rattle.semantics.specs.Source.Scope.{same_name}
use Rattle.pragma_clause.specs.Words.{symbol_of}
use Rattle.pragma_clause.specs.declared.word.Punctuator.{Punctuator}
use Rattle.pragma_clause.specs.declared.word.Punctuator.TheVariants.{OpenParen, CloseParen, Comma, Colon}
use Rattle.pragma_clause.specs.contracts.word.Punctuator.{the_type}

pub same_text : (a b : Punctuator) → sameb the_type a b ≡ same_name (symbol_text (symbol_of a)) (symbol_text (symbol_of b))
same_text OpenParen OpenParen = refl
same_text CloseParen CloseParen = refl
same_text Comma Comma = refl
same_text Colon Colon = refl
same_text a b = refl
