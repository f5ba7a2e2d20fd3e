-- The steps that the code takes are those of the definitions' reader.
use Rattle.std.proofs.Common.{◌≡◌, true, false, List, [], ◌∷◌, refl}
use Rattle.semantics.specs.Tree.{Name, Source}
use Rattle.semantics.specs.Source.Token.{Token, Word, Punctuator, PlusPlus, MinusMinus}
use Rattle.semantics.specs.Source.Scope.{Scope}
use Rattle.cparse_grammar.specs.Reading.{Reader}
use Rattle.cparse_grammar.specs.StatementReader.{step}
use Rattle.cparse_grammar.specs.StatementSteps.{step_before, step_of}

pub step_up : (whole : Reader Source) (scope : Scope) (ts : List Token) → step whole scope (Punctuator PlusPlus ∷ ts) ≡ step_before scope true ts
unfolding step
step_up whole scope [] = refl
step_up whole scope (Word w ∷ ts) = refl
step_up whole scope (t ∷ ts) = refl

pub step_down : (whole : Reader Source) (scope : Scope) (ts : List Token) → step whole scope (Punctuator MinusMinus ∷ ts) ≡ step_before scope false ts
unfolding step
step_down whole scope [] = refl
step_down whole scope (Word w ∷ ts) = refl
step_down whole scope (t ∷ ts) = refl

pub step_word : (whole : Reader Source) (scope : Scope) (w : Name) (ts : List Token) → step whole scope (Word w ∷ ts) ≡ step_of whole scope w ts
unfolding step
step_word whole scope w [] = refl
step_word whole scope w (Punctuator s ∷ ts) = refl
step_word whole scope w (t ∷ ts) = refl
