-- The steps that the code takes for a word are those of the definition.
use Rattle.std.proofs.Common.{◌≡◌, List, [], ◌∷◌, Some, None, refl}
use Rattle.std.specs.Prelude.{if◌then◌else◌}
use Rattle.semantics.specs.Source.Token.{Token, Word}
use Rattle.semantics.specs.Source.Scope.{is_reserved}
use Rattle.cparse_grammar.specs.Reading.{◌>>=◌}
use Rattle.cparse_grammar.specs.NextTokens.{new_name, next_word}

pub new_name_by : (ts : List Token) → new_name ts ≡ next_word ts >>= λ w. if is_reserved w.0 then None else Some w
new_name_by [] = refl
new_name_by (Word w ∷ ts) = refl
new_name_by (t ∷ ts) = refl
