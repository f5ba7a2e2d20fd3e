-- What is asked of the code's tokens beside the cut.
use Rattle.std.specs.Prelude.{ℕ, Bool, true, false, not, ◌≡◌, ◌==◌, ◌&&◌, ◌||◌, nat_eq, List, [], ◌∷◌, Option, Some, None, codes, drop}
use Rattle.std.specs.List.{list_any, list_all}
use Rattle.semantics.specs.Source.Text.{starts_with}
use Rattle.semantics.specs.Source.Cuts.{is_printable, has_trigraph}
use Rattle.ctoken.specs.declared.token.TokenKind.{TokenKind}
use Rattle.ctoken.specs.declared.token.TokenKind.TheVariants.{Identifier, IntegerConstant, StringLiteral, Punctuator, Include, Line}
use Rattle.ctoken.specs.declared.token.Token.{Token}
use Rattle.ctoken.specs.declared.check.Included.{Included}
use Rattle.ctoken.specs.Meant.{number_of}

-- the header of an include line
abbrev pub header_in : TokenKind → Option ℕ
header_in Identifier = None
header_in (IntegerConstant value suffix) = None
header_in (StringLiteral single) = None
header_in (Punctuator symbol) = None
header_in (Include header) = Some (number_of header)
header_in Line = None

-- one token on; nothing: another token than an include line was passed
abbrev pub header_step : Option (List ℕ) → Option ℕ → (Option (List ℕ) → Bool) → Bool
header_step seen None rest = rest None
header_step None (Some h) rest = false
header_step (Some seen) (Some h) rest = not (list_any (nat_eq h) seen) && rest (Some (h ∷ seen))

-- include lines stand in front, each header once
abbrev pub headers_from : Option (List ℕ) → List Token → Bool
headers_from seen [] = true
headers_from seen (t ∷ ts) = header_step seen (header_in t.kind) (λ next. headers_from next ts)

-- which headers these are
abbrev pub AreIncluded : Included → List ℕ → Type 0
AreIncluded i seen = (list_any (nat_eq 0) seen ≡ i.stdint) × (list_any (nat_eq 1) seen ≡ i.inttypes) × (list_any (nat_eq 2) seen ≡ i.stdio)

abbrev pub IsLeading : Option Included → Option (List ℕ) → Type 0
IsLeading None None = Unit {0}
IsLeading (Some i) (Some seen) = AreIncluded i seen
IsLeading None (Some seen) = ⊥
IsLeading (Some i) None = ⊥

abbrev pub is_word : TokenKind → Bool
is_word Identifier = true
is_word (IntegerConstant value suffix) = false
is_word (StringLiteral single) = false
is_word (Punctuator symbol) = false
is_word (Include header) = false
is_word Line = false

abbrev pub is_open : TokenKind → Bool
is_open Identifier = false
is_open (IntegerConstant value suffix) = false
is_open (StringLiteral single) = single
is_open (Punctuator symbol) = false
is_open (Include header) = false
is_open Line = false

-- the word `PRIu64`
abbrev pub is_place : List ℕ → Token → Bool
is_place text t = is_word t.kind && ((t.length == 6) && starts_with (codes "PRIu64") (drop t.start text))

-- `PRIu64` stands behind each string that ends in a single %; due: such a string was passed last
abbrev pub places_from : Bool → List ℕ → List Token → Bool
places_from due text [] = not due
places_from due text (t ∷ ts) = (not due || is_place text t) && places_from (is_open t.kind) text ts

-- all that is asked of a text and its tokens beside the cut
abbrev pub passes : List ℕ → List Token → Bool
passes text ts = list_all (λ b. is_printable b || ((b == 9) || (b == 10))) text && (not (has_trigraph text) && (headers_from (Some []) ts && places_from false text ts))
