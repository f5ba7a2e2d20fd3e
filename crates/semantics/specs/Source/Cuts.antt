-- How a text is cut into tokens (C11 5.1.1.2 and 6.4).
use Rattle.std.specs.Prelude.{ℕ, suc, Bool, true, false, not, ◌==◌, ◌&&◌, ◌||◌, ◌≡◌, ◌+◌, ◌*◌, ◌-◌, nat_le, nat_eq, if◌then◌else◌, List, [], ◌∷◌, ◌++◌, Option, Some, None, codes, drop}
use Rattle.std.specs.List.{list_any, list_all}
use lib.Pointwise.{pointwise}
use Rattle.semantics.specs.Tree.{Suffix, Bare, Ull}
use Rattle.semantics.specs.Source.Text.{is_blank, skip_blanks, starts_with, behind, is_directive_line}
use Rattle.semantics.specs.Source.Token.{Token, Word, IntegerConstant, StringLiteral, Punctuator, Header, Line, Symbol, Semicolon, Comma, OpenParen, CloseParen, OpenBracket, CloseBracket, OpenBrace, CloseBrace, PlusPlus, MinusMinus, EqualSign, PlusEqual, MinusEqual, TimesEqual, AmpEqual, BarEqual, CaretEqual, PlusSign, MinusSign, Star, Slash, Percent, Amp, Bar, Caret, Tilde, Bang, Question, Colon, DoubleLess, DoubleGreater, LessSign, LessEqualSign, GreaterSign, GreaterEqualSign, DoubleEqual, BangEqual, DoubleAmp, DoubleBar}

-- C11 6.4.2.1, digit
abbrev pub is_digit : ℕ → Bool
is_digit b = nat_le 48 b && nat_le b 57

-- C11 6.4.2.1, nondigit without the underscore
abbrev pub is_letter : ℕ → Bool
is_letter b = (nat_le 97 b && nat_le b 122) || (nat_le 65 b && nat_le b 90)

-- what a name goes on with (C11 6.4.2.1)
abbrev pub is_word_byte : ℕ → Bool
is_word_byte b = is_letter b || (is_digit b || (b == 95))

-- 0x20 to 0x7e
abbrev pub is_printable : ℕ → Bool
is_printable b = nat_le 32 b && nat_le b 126

-- C11 6.4.2.1; no name begins with an underscore here
abbrev pub is_name : List ℕ → Bool
is_name [] = false
is_name (b ∷ bs) = is_letter b && list_all is_word_byte bs

-- the text goes on with no byte of this kind
abbrev pub stops : (ℕ → Bool) → List ℕ → Bool
stops goes_on [] = true
stops goes_on (b ∷ bs) = not (goes_on b)

-- digits behind a number
abbrev pub decimal_from : ℕ → List ℕ → ℕ
decimal_from n [] = n
decimal_from n (b ∷ bs) = decimal_from (n * 10 + (b - 48)) bs

-- `0`, or a digit 1..9 and more digits (C11 6.4.4.1)
abbrev pub is_decimal : List ℕ → Bool
is_decimal [] = false
is_decimal (b ∷ []) = is_digit b
is_decimal (b ∷ c ∷ bs) = is_digit b && (not (b == 48) && list_all is_digit (c ∷ bs))

-- C11 6.4.4.1, integer-suffix
abbrev pub suffix_text : Suffix → List ℕ
suffix_text Bare = []
suffix_text Ull = codes "ull"

-- C11 6.4.6
abbrev pub symbol_text : Symbol → List ℕ
symbol_text Semicolon = codes ";"
symbol_text Comma = codes ","
symbol_text OpenParen = codes "("
symbol_text CloseParen = codes ")"
symbol_text OpenBracket = codes "["
symbol_text CloseBracket = codes "]"
symbol_text OpenBrace = codes "{"
symbol_text CloseBrace = codes "}"
symbol_text PlusPlus = codes "++"
symbol_text MinusMinus = codes "--"
symbol_text EqualSign = codes "="
symbol_text PlusEqual = codes "+="
symbol_text MinusEqual = codes "-="
symbol_text TimesEqual = codes "*="
symbol_text AmpEqual = codes "&="
symbol_text BarEqual = codes "|="
symbol_text CaretEqual = codes "^="
symbol_text PlusSign = codes "+"
symbol_text MinusSign = codes "-"
symbol_text Star = codes "*"
symbol_text Slash = codes "/"
symbol_text Percent = codes "%"
symbol_text Amp = codes "&"
symbol_text Bar = codes "|"
symbol_text Caret = codes "^"
symbol_text Tilde = codes "~"
symbol_text Bang = codes "!"
symbol_text Question = codes "?"
symbol_text Colon = codes ":"
symbol_text DoubleLess = codes "<<"
symbol_text DoubleGreater = codes ">>"
symbol_text LessSign = codes "<"
symbol_text LessEqualSign = codes "<="
symbol_text GreaterSign = codes ">"
symbol_text GreaterEqualSign = codes ">="
symbol_text DoubleEqual = codes "=="
symbol_text BangEqual = codes "!="
symbol_text DoubleAmp = codes "&&"
symbol_text DoubleBar = codes "||"

-- two bytes that begin a comment, or that are one symbol
abbrev pub long_symbols : List (List ℕ)
long_symbols =
    codes "//" ∷ codes "/*" ∷ codes "++" ∷ codes "--" ∷ codes "+=" ∷ codes "-=" ∷ codes "*=" ∷ codes "&=" ∷ codes "|=" ∷ codes "^="
    ∷ codes "<<" ∷ codes ">>" ∷ codes "<=" ∷ codes ">=" ∷ codes "==" ∷ codes "!=" ∷ codes "&&" ∷ codes "||" ∷ []

-- the longest is taken (C11 6.4): one byte stands for itself only where it begins no longer symbol
abbrev pub is_whole : List ℕ → List ℕ → Bool
is_whole (b ∷ []) (c ∷ rest) = not (list_any (pointwise nat_eq (b ∷ c ∷ [])) long_symbols)
is_whole (b ∷ []) [] = true
is_whole [] rest = false
is_whole (b ∷ c ∷ bs) rest = true

-- a string between its quotes (C11 6.4.5, 6.4.4.4, and 7.21.6.1 for %): what it stands for, and whether it ends in a single %
pub data Spells : List ℕ → List ℕ → Bool → Type 0 where
  done : Spells [] [] false
  percent : Spells (37 ∷ []) [] true
  byte : {b : ℕ} {bs cs : List ℕ} {open' : Bool} →
      (is_printable b && not ((b == 34) || ((b == 92) || (b == 37)))) ≡ true → Spells bs cs open' → Spells (b ∷ bs) (b ∷ cs) open'
  line_feed : {bs cs : List ℕ} {open' : Bool} → Spells bs cs open' → Spells (92 ∷ 110 ∷ bs) (10 ∷ cs) open'
  backslash : {bs cs : List ℕ} {open' : Bool} → Spells bs cs open' → Spells (92 ∷ 92 ∷ bs) (92 ∷ cs) open'
  quote : {bs cs : List ℕ} {open' : Bool} → Spells bs cs open' → Spells (92 ∷ 34 ∷ bs) (34 ∷ cs) open'
  two_percents : {bs cs : List ℕ} {open' : Bool} → Spells bs cs open' → Spells (37 ∷ 37 ∷ bs) (37 ∷ cs) open'

-- a token as it stands in front of the rest of a text
pub data Stands : List ℕ → List ℕ → Token → Type 0 where
  word : {w rest : List ℕ} → is_name w ≡ true → stops is_word_byte rest ≡ true → Stands w rest (Word w)
  number : (ds : List ℕ) {rest : List ℕ} (suffix : Suffix) →
      is_decimal ds ≡ true → stops (λ b. is_word_byte b || (b == 46)) rest ≡ true → Stands (ds ++ suffix_text suffix) rest (IntegerConstant (decimal_from 0 ds) suffix)
  text : {bs cs rest : List ℕ} {open' : Bool} → Spells bs cs open' → Stands (34 ∷ (bs ++ 34 ∷ [])) rest (StringLiteral cs open')
  symbol : {s : Symbol} {rest : List ℕ} → is_whole (symbol_text s) rest ≡ true → Stands (symbol_text s) rest (Punctuator s)

-- behind the `#` of a directive line stands no other, and no backslash
abbrev pub is_plain_directive : List ℕ → Bool
is_plain_directive line = list_all (λ b. not ((b == 35) || (b == 92))) (drop 1 (skip_blanks line))

-- a line has no line feed in it
abbrev pub is_line : List ℕ → Bool
is_line bs = list_all (λ b. not (b == 10)) bs

-- C11 7.20, 7.8, 7.21
abbrev pub header_names : List (List ℕ)
header_names = codes "<stdint.h>" ∷ codes "<inttypes.h>" ∷ codes "<stdio.h>" ∷ []

-- nothing is left
abbrev pub is_end : List ℕ → Bool
is_end [] = true
is_end (c ∷ cs) = false

-- a header by its place among these
abbrev pub header_number : ℕ → List (List ℕ) → List ℕ → Option ℕ
header_number n [] bs = None
header_number n (h ∷ hs) bs = if starts_with h bs && is_end (skip_blanks (behind h bs)) then Some n else header_number (suc n) hs bs

-- behind the `#`
abbrev pub include_rest : List ℕ → Option ℕ
include_rest bs = if starts_with (codes "include") bs then header_number 0 header_names (skip_blanks (behind (codes "include") bs)) else None

-- an include line begins with `#`
abbrev pub after_hash : List ℕ → Option ℕ
after_hash [] = None
after_hash (b ∷ bs) = if b == 35 then include_rest (skip_blanks bs) else None

-- blanks, `#`, blanks, `include`, blanks, a header, blanks (C11 6.10.2)
abbrev pub header_of : List ℕ → Option ℕ
header_of line = after_hash (skip_blanks line)

-- what a comment may hold: no line end, and no backslash (which splices lines, C11 5.1.1.2)
abbrev pub is_comment_text : List ℕ → Bool
is_comment_text bs = list_all (λ b. not ((b == 10) || (b == 92))) bs

-- no `*/` in it (C11 6.4.9)
abbrev pub is_comment : List ℕ → Bool
is_comment [] = true
is_comment (b ∷ bs) = not (starts_with (codes "*/") (b ∷ bs)) && is_comment bs

-- fresh: nothing of this line was passed yet; n: its number
pub data Cuts : Bool → ℕ → List ℕ → List Token → Type 0 where
  end : {n : ℕ} → Cuts true n [] []
  blank : {fresh : Bool} {n b : ℕ} {bs : List ℕ} {ts : List Token} → is_blank b ≡ true → Cuts false n bs ts → Cuts fresh n (b ∷ bs) ts
  line_end : {fresh : Bool} {n : ℕ} {bs : List ℕ} {ts : List Token} → Cuts true (suc n) bs ts → Cuts fresh n (10 ∷ bs) ts
  comment_line : {fresh : Bool} {n : ℕ} (cs : List ℕ) {bs : List ℕ} {ts : List Token} →
      is_comment_text cs ≡ true → Cuts true (suc n) bs ts → Cuts fresh n (47 ∷ 47 ∷ (cs ++ 10 ∷ bs)) ts
  comment : {fresh : Bool} {n : ℕ} (cs : List ℕ) {bs : List ℕ} {ts : List Token} →
      is_comment_text cs ≡ true → is_comment (cs ++ 42 ∷ []) ≡ true → Cuts false n bs ts → Cuts fresh n (47 ∷ 42 ∷ (cs ++ 42 ∷ 47 ∷ bs)) ts
  directive : {n : ℕ} (line : List ℕ) {bs : List ℕ} {ts : List Token} →
      is_line line ≡ true → is_directive_line line ≡ true → is_plain_directive line ≡ true → Cuts true (suc n) bs ts → Cuts true n (line ++ 10 ∷ bs) (Line n ∷ ts)
  header : {n h : ℕ} (line : List ℕ) {bs : List ℕ} {ts : List Token} →
      is_line line ≡ true → header_of line ≡ Some h → Cuts true (suc n) bs ts → Cuts true n (line ++ 10 ∷ bs) (Header h ∷ ts)
  token : {fresh : Bool} {n : ℕ} {w bs : List ℕ} {t : Token} {ts : List Token} →
      Stands w bs t → Cuts false n bs ts → Cuts fresh n (w ++ bs) (t ∷ ts)

-- two question marks next to each other begin a trigraph (C11 5.2.1.1)
abbrev pub has_trigraph : List ℕ → Bool
has_trigraph [] = false
has_trigraph (b ∷ bs) = starts_with (codes "??") (b ∷ bs) || has_trigraph bs

-- an include line
abbrev pub is_header : Token → Bool
is_header (Word w) = false
is_header (IntegerConstant n suffix) = false
is_header (StringLiteral cs open') = false
is_header (Punctuator s) = false
is_header (Header h) = true
is_header (Line n) = false

-- include lines stand before all else, each header once at most; seen: those in front
abbrev pub headers_first : List ℕ → List Token → Bool
headers_first seen (Header h ∷ ts) = not (list_any (nat_eq h) seen) && headers_first (h ∷ seen) ts
headers_first seen ts = not (list_any is_header ts)

-- `PRIu64` comes next
abbrev pub starts_with_place : List Token → Bool
starts_with_place (Word w ∷ ts) = pointwise nat_eq w (codes "PRIu64")
starts_with_place _ = false

-- `PRIu64` stands behind each string that ends in a single % (C11 7.8.1)
abbrev pub places_follow : List Token → Bool
places_follow [] = true
places_follow (StringLiteral cs true ∷ ts) = starts_with_place ts && places_follow ts
places_follow (t ∷ ts) = places_follow ts

-- the tokens of a text, its lines numbered from 1: printable bytes, tabs and line feeds alone, and no trigraph
pub record Tokens (text : List ℕ) (tokens : List Token) : Type 0 where
  pub bytes : list_all (λ b. is_printable b || ((b == 9) || (b == 10))) text ≡ true
  pub plain : has_trigraph text ≡ false
  pub cut : Cuts true 1 text tokens
  pub headers : headers_first [] tokens ≡ true
  pub places : places_follow tokens ≡ true
