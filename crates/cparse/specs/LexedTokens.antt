-- Tokens with their bytes at hand.
use Rattle.std.specs.Prelude.{ℕ, ◌≡◌, List, [], ◌∷◌, ◌++◌}
use Rattle.semantics.specs.Source.Spans.{spanned}
use Rattle.ctoken.specs.Meant.{span_of}
use Rattle.ctoken.specs.declared.token.Token.{Token as Given}
use Rattle.ctoken.specs.declared.token.TokenKind.{TokenKind}
use Rattle.ctoken.specs.declared.token.TokenKind.TheVariants as given
use Rattle.cparse_cursor.specs.declared.lexeme.Kind.{Kind}
use Rattle.cparse_cursor.specs.declared.lexeme.Kind.TheVariants as seen
use Rattle.cparse_cursor.specs.declared.lexeme.Lexeme.{Lexeme}

-- a kind of token with its own bytes; of a string those between its quotes
abbrev pub IsKindOf : List ℕ → TokenKind → Kind → Type 0
IsKindOf bytes given.Identifier (seen.Identifier w) = w.now ≡ bytes
IsKindOf bytes (given.IntegerConstant value suffix) (seen.IntegerConstant value' suffix') = (value ≡ value') × (suffix ≡ suffix')
IsKindOf bytes (given.StringLiteral single) (seen.StringLiteral w single') = (single ≡ single') × ((inner : List ℕ) → bytes ≡ 34 ∷ (inner ++ 34 ∷ []) → w.now ≡ inner)
IsKindOf bytes (given.Punctuator s) (seen.Punctuator s') = s ≡ s'
IsKindOf bytes (given.Include h) (seen.Include h') = h ≡ h'
IsKindOf bytes given.Line seen.Line = Unit {0}
IsKindOf bytes _ _ = ⊥

-- a token with its own bytes
pub record IsLexed (text : List ℕ) (t : Given) (l : Lexeme) : Type 0 where
  pub kind : IsKindOf (spanned text (span_of t)) t.kind l.kind
  pub place : l.place ≡ t.place

-- one by one
abbrev pub AreLexed : List ℕ → List Given → List Lexeme → Type 0
AreLexed text [] [] = Unit {0}
AreLexed text (t ∷ ts) (l ∷ ls) = IsLexed text t l × AreLexed text ts ls
AreLexed text [] (l ∷ ls) = ⊥
AreLexed text (t ∷ ts) [] = ⊥
