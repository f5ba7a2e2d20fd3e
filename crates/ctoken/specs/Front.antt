-- What stands at the front of a text: a gap, a line end, or a token.
use Rattle.std.specs.Prelude.{ℕ, suc, Bool, true, false, not, ◌&&◌, ◌||◌, ◌==◌, ◌+◌, if◌then◌else◌, List, [], ◌∷◌, Option, Some, None, option_map, length, take, drop, codes, nat_eq}
use lib.Pointwise.{pointwise}
use Rattle.semantics.specs.Tree.{Suffix, Bare, Ull}
use Rattle.semantics.specs.Source.Text.{is_blank, skip_blanks, first_line, starts_with, behind, is_directive_line}
use Rattle.semantics.specs.Source.Token.{Token, Word, IntegerConstant, StringLiteral, Punctuator, Header, Line, Symbol, Semicolon, Comma, OpenParen, CloseParen, OpenBracket, CloseBracket, OpenBrace, CloseBrace, PlusPlus, MinusMinus, EqualSign, PlusEqual, MinusEqual, TimesEqual, AmpEqual, BarEqual, CaretEqual, PlusSign, MinusSign, Star, Slash, Percent, Amp, Bar, Caret, Tilde, Bang, Question, Colon, DoubleLess, DoubleGreater, LessSign, LessEqualSign, GreaterSign, GreaterEqualSign, DoubleEqual, BangEqual, DoubleAmp, DoubleBar}
use Rattle.semantics.specs.Source.Cuts.{is_digit, is_letter, is_word_byte, is_printable, stops, decimal_from, suffix_text, symbol_text, is_plain_directive, header_of}

-- how many bytes of a kind a text begins with
abbrev pub run : (ℕ → Bool) → List ℕ → ℕ
run p [] = 0
run p (b ∷ bs) = if p b then suc (run p bs) else 0

-- `0` stands alone
abbrev pub digits_length : List ℕ → ℕ
digits_length [] = 0
digits_length (b ∷ bs) = if b == 48 then 1 else run is_digit (b ∷ bs)

-- what a text begins with: so many bytes between tokens, a line end, or behind so many blanks a token of so many bytes
pub data Piece : Type 0 where
  Gap : ℕ → Piece
  Turn : Piece
  Took : ℕ → ℕ → Token → Piece

-- a literal, if what follows may
abbrev pub literal : List ℕ → Suffix → List ℕ → Option Piece
literal ds suffix rest =
    if stops (λ b. is_word_byte b || (b == 46)) rest
    then Some (Took 0 (length ds + length (suffix_text suffix)) (IntegerConstant (decimal_from 0 ds) suffix))
    else None

abbrev pub suffixed : List ℕ → List ℕ → Option Piece
suffixed ds rest = if starts_with (suffix_text Ull) rest then literal ds Ull (behind (suffix_text Ull) rest) else literal ds Bare rest

abbrev pub number : List ℕ → Option Piece
number bs = suffixed (take (digits_length bs) bs) (drop (digits_length bs) bs)

-- inside a string: behind a backslash or a percent, the next byte decides
pub data Mode : Type 0 where
  Plain Escape Percented : Mode

abbrev pub one_more : Option (ℕ × Bool) → Option (ℕ × Bool)
one_more None = None
one_more (Some r) = Some (suc r.0, r.1)

-- where a string ends, and whether a single % stands there
abbrev pub string_end : Mode → List ℕ → Option (ℕ × Bool)
string_end mode [] = None
string_end Plain (b ∷ bs) =
    if b == 34 then Some (0, false)
    else (if b == 92 then one_more (string_end Escape bs)
    else (if b == 37 then one_more (string_end Percented bs)
    else (if is_printable b then one_more (string_end Plain bs) else None)))
string_end Escape (b ∷ bs) = if (b == 110) || ((b == 92) || (b == 34)) then one_more (string_end Plain bs) else None
string_end Percented (b ∷ bs) = if b == 34 then Some (0, true) else (if b == 37 then one_more (string_end Plain bs) else None)

-- what the bytes of a string stand for; behind a backslash or a percent: the next byte, `n` for a line feed
abbrev pub spelled : Bool → List ℕ → List ℕ
spelled escaped [] = []
spelled true (b ∷ bs) = (if b == 110 then 10 else b) ∷ spelled false bs
spelled false (b ∷ bs) = if (b == 92) || (b == 37) then spelled true bs else b ∷ spelled false bs

abbrev pub string_of : List ℕ → Option (ℕ × Bool) → Option Piece
string_of bs None = None
string_of bs (Some r) = Some (Took 0 (r.0 + 2) (StringLiteral (spelled false (take r.0 bs)) r.1))

-- what a comment may hold
abbrev pub is_comment_byte : ℕ → Bool
is_comment_byte b = not ((b == 10) || (b == 92))

-- how many bytes stand before the first `*/` of the line
abbrev pub comment_end : List ℕ → Option ℕ
comment_end [] = None
comment_end (b ∷ bs) =
    if starts_with (codes "*/") (b ∷ bs) then Some 0
    else (if is_comment_byte b then option_map suc (comment_end bs) else None)

abbrev pub slash : List ℕ → Option Piece
slash [] = Some (Took 0 1 (Punctuator Slash))
slash (c ∷ bs) =
    if c == 47 then Some (Gap (run is_comment_byte bs + 2))
    else (if c == 42 then option_map (λ k. Gap (k + 4)) (comment_end bs)
    else Some (Took 0 1 (Punctuator Slash)))

-- the symbols of two bytes, and those of one but for `/`
abbrev pub long_signs : List Symbol
long_signs =
    PlusPlus ∷ MinusMinus ∷ PlusEqual ∷ MinusEqual ∷ TimesEqual ∷ AmpEqual ∷ BarEqual ∷ CaretEqual
    ∷ DoubleLess ∷ DoubleGreater ∷ LessEqualSign ∷ GreaterEqualSign ∷ DoubleEqual ∷ BangEqual ∷ DoubleAmp ∷ DoubleBar ∷ []

abbrev pub short_signs : List Symbol
short_signs =
    Semicolon ∷ Comma ∷ OpenParen ∷ CloseParen ∷ OpenBracket ∷ CloseBracket ∷ OpenBrace ∷ CloseBrace ∷ EqualSign ∷ PlusSign ∷ MinusSign
    ∷ Star ∷ Percent ∷ Amp ∷ Bar ∷ Caret ∷ Tilde ∷ Bang ∷ Question ∷ Colon ∷ LessSign ∷ GreaterSign ∷ []

-- the symbol that is spelled so
abbrev pub sign_of : List Symbol → List ℕ → Option Symbol
sign_of [] bs = None
sign_of (s ∷ ss) bs = if pointwise nat_eq bs (symbol_text s) then Some s else sign_of ss bs

abbrev pub sign_or : Option Symbol → Option Piece → Option Piece
sign_or None other = other
sign_or (Some s) other = Some (Took 0 (length (symbol_text s)) (Punctuator s))

-- the longest symbol is taken
abbrev pub sign : ℕ → List ℕ → Option Piece
sign b [] = sign_or (sign_of short_signs (b ∷ [])) None
sign b (c ∷ bs) = sign_or (sign_of long_signs (b ∷ c ∷ [])) (sign_or (sign_of short_signs (b ∷ [])) None)

-- within a line
abbrev pub inside : List ℕ → Option Piece
inside [] = None
inside (b ∷ bs) =
    if is_letter b then Some (Took 0 (suc (run is_word_byte bs)) (Word (b ∷ take (run is_word_byte bs) bs)))
    else (if is_digit b then number (b ∷ bs)
    else (if is_blank b then Some (Gap 1)
    else (if b == 10 then Some Turn
    else (if b == 34 then string_of bs (string_end Plain bs)
    else (if b == 47 then slash bs
    else sign b bs)))))

abbrev pub begins_hash : List ℕ → Bool
begins_hash [] = false
begins_hash (b ∷ bs) = b == 35

abbrev pub header_piece : List ℕ → Option ℕ → Option Piece
header_piece line None = None
header_piece line (Some h) = Some (Took (run is_blank line) (length (skip_blanks line)) (Header h))

-- a line that begins with `#`, by its number
abbrev pub hash_line : ℕ → List ℕ → Option Piece
hash_line n line =
    if is_directive_line line
    then (if is_plain_directive line then Some (Took (run is_blank line) (length (skip_blanks line)) (Line n)) else None)
    else header_piece line (header_of line)

-- the front of a text, in the line of this number, of which nothing was passed yet if it is fresh
abbrev pub front : Bool → ℕ → List ℕ → Option Piece
front fresh n bs = if begins_hash (skip_blanks bs) && fresh then hash_line n (first_line bs) else inside bs
