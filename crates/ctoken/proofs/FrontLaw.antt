-- What stands at the front of a text decides how the text is cut.
use Rattle.std.specs.Prelude.{ℕ, suc, Bool, true, false, not, ◌==◌, ◌&&◌, ◌||◌, ◌≡◌, ◌+◌, List, [], ◌∷◌, ◌++◌, Option, Some, None, option_map, codes, length, take, drop, map, nat_eq}
use Rattle.std.specs.List.{list_all, list_any}
use lib.Pointwise.{pointwise}
use Rattle.std.proofs.Common.{cond, refl, sym, ap, ◌∙◌, subst, arith}
use Rattle.std.proofs.lemmas.Bool.{eqb-true, cond-true, cond-false, or_parts}
use Rattle.std.proofs.lemmas.List.{take_at, drop_at, drop-drop, append_assoc, length-append}
use Rattle.semantics.specs.Tree.{Suffix, Bare, Ull}
use Rattle.semantics.specs.Source.Text.{is_blank, skip_blanks, starts_with, behind, pragma_word, is_omp_rest, is_pragma_rest, is_hash_rest, is_directive_line}
use Rattle.semantics.specs.Source.Token.{Token, Word, IntegerConstant, StringLiteral, Punctuator, Header, Line, Symbol, Semicolon, Comma, OpenParen, CloseParen, OpenBracket, CloseBracket, OpenBrace, CloseBrace, PlusPlus, MinusMinus, EqualSign, PlusEqual, MinusEqual, TimesEqual, AmpEqual, BarEqual, CaretEqual, PlusSign, MinusSign, Star, Slash, Percent, Amp, Bar, Caret, Tilde, Bang, Question, Colon, DoubleLess, DoubleGreater, LessSign, LessEqualSign, GreaterSign, GreaterEqualSign, DoubleEqual, BangEqual, DoubleAmp, DoubleBar}
use Rattle.semantics.specs.Source.Cuts.{is_digit, is_letter, is_word_byte, is_printable, is_name, stops, decimal_from, is_decimal, suffix_text, symbol_text, long_symbols, is_whole, Spells, done, percent, byte, line_feed, backslash, quote, two_percents, Stands, word, number, text, symbol, is_line, is_plain_directive, include_rest, after_hash, header_of, is_comment_text, is_comment, Cuts, end, blank, line_end, comment_line, comment, directive, header, token}
use Rattle.semantics.proofs.EraseTokenLaw.{first_of, second_of, and_true, other, none_is_not_some, true-is_not-false, starts, line_first}
use Rattle.semantics.proofs.SymbolLaw.{starts_plain}
use Rattle.ctoken.specs.Front.{run, digits_length, Piece, Gap, Turn, Took, literal, suffixed, Mode, Plain, Escape, Percented, one_more, string_end, spelled, string_of, is_comment_byte, comment_end, slash, long_signs, short_signs, sign_of, sign_or, sign, inside, begins_hash, header_piece, hash_line, front}
use Rattle.ctoken.specs.Front as at

first_false : (x : Bool) → (x && true) ≡ false → x ≡ false
first_false true h = h
first_false false h = refl

and_false_right : (x y z : Bool) → y ≡ false → (x && (y && z)) ≡ false
and_false_right true y z h = ap (λ v. v && z) h
and_false_right false y z h = refl

abbrev pub is_string_byte : ℕ → Bool
is_string_byte b = is_printable b && not ((b == 34) || ((b == 92) || (b == 37)))

pub not_true : (x : Bool) → not x ≡ true → x ≡ false
not_true true h = sym h
not_true false h = refl

-- the bytes of a kind that a text begins with
pub run_whole : (p : ℕ → Bool) (w rest : List ℕ) → list_all p w ≡ true → stops p rest ≡ true → run p (w ++ rest) ≡ length w
run_whole p [] [] h k = refl
run_whole p [] (b ∷ bs) h k = cond-false (p b) _ _ (not_true (p b) k)
run_whole p (b ∷ w) rest h k =
    cond-true (p b) _ _ (first_of (p b) _ h) ∙ ap suc (run_whole p w rest (second_of (p b) _ h) k)

inside_word : (w rest : List ℕ) → is_name w ≡ true → stops is_word_byte rest ≡ true → inside (w ++ rest) ≡ Some (Took 0 (length w) (Word w))
inside_word [] rest h k = absurd (true-is_not-false (sym h))
inside_word (b ∷ bs) rest h k =
    cond-true (is_letter b) _ _ (first_of (is_letter b) _ h)
    ∙ ap (λ m. Some (Took 0 (suc m) (Word (b ∷ take m (bs ++ rest))))) (run_whole is_word_byte bs rest (second_of (is_letter b) _ h) k)
    ∙ ap (λ v. Some (Took 0 (suc (length bs)) (Word (b ∷ v)))) (take_at bs rest (length bs) refl)

-- a digit is no letter
digit_not_letter : (b : ℕ) → is_digit b ≡ true → is_letter b ≡ false
digit_not_letter b h = grind arith

-- what a text begins with, where it is a literal
digits_whole : (ds rest : List ℕ) → is_decimal ds ≡ true → stops is_digit rest ≡ true → digits_length (ds ++ rest) ≡ length ds
digits_whole [] rest h k = absurd (true-is_not-false (sym h))
digits_whole (b ∷ []) rest h k = go (b == 48) refl
  where
    go : (x : Bool) → (b == 48) ≡ x → cond x 1 (run is_digit (b ∷ rest)) ≡ 1
    go true e = refl
    go false e = run_whole is_digit (b ∷ []) rest (and_true (is_digit b) true h refl) k
digits_whole (b ∷ c ∷ ds) rest h k =
    cond-false (b == 48) _ _ (not_true (b == 48) (first_of _ _ (second_of (is_digit b) _ h)))
    ∙ run_whole is_digit (b ∷ c ∷ ds) rest (and_true (is_digit b) _ (first_of (is_digit b) _ h) (second_of _ _ (second_of (is_digit b) _ h))) k

stops_fewer : (p q : ℕ → Bool) → ((b : ℕ) → q b ≡ true → p b ≡ true) → (rest : List ℕ) → stops p rest ≡ true → stops q rest ≡ true
stops_fewer p q f [] h = refl
stops_fewer p q f (b ∷ bs) h = go (q b) refl
  where
    go : (x : Bool) → q b ≡ x → not x ≡ true
    go true e = sym (ap not (f b e)) ∙ h
    go false e = refl

digit_goes_on : (b : ℕ) → is_digit b ≡ true → (is_word_byte b || (b == 46)) ≡ true
digit_goes_on b h = rw (digit_not_letter b h, h) refl

no_ull : (rest : List ℕ) → stops (λ b. is_word_byte b || (b == 46)) rest ≡ true → starts_with (suffix_text Ull) rest ≡ false
no_ull [] h = refl
no_ull (b ∷ bs) h = go (117 == b) refl
  where
    go : (x : Bool) → (117 == b) ≡ x → (x && starts_with (108 ∷ 108 ∷ []) bs) ≡ false
    go false e = refl
    go true e = absurd (true-is_not-false (sym h ∙ sym (ap (λ c. not (is_word_byte c || (c == 46))) (eqb-true 117 b e))))

number_whole : (ds : List ℕ) (s : Suffix) (rest : List ℕ) → is_decimal ds ≡ true → stops is_digit (suffix_text s ++ rest) ≡ true → at.number (ds ++ (suffix_text s ++ rest)) ≡ suffixed ds (suffix_text s ++ rest)
number_whole ds s rest h k =
    ap (λ n. suffixed (take n (ds ++ (suffix_text s ++ rest))) (drop n (ds ++ (suffix_text s ++ rest)))) (digits_whole ds (suffix_text s ++ rest) h k)
    ∙ ap (λ x. suffixed x (drop (length ds) (ds ++ (suffix_text s ++ rest)))) (take_at ds (suffix_text s ++ rest) (length ds) refl)
    ∙ ap (suffixed ds) (drop_at ds (suffix_text s ++ rest) (length ds) refl)

literal_whole : (ds : List ℕ) (s : Suffix) (rest : List ℕ) → stops (λ b. is_word_byte b || (b == 46)) rest ≡ true → literal ds s rest ≡ Some (Took 0 (length (ds ++ suffix_text s)) (IntegerConstant (decimal_from 0 ds) s))
literal_whole ds s rest h = cond-true _ _ _ h ∙ ap (λ n. Some (Took 0 n (IntegerConstant (decimal_from 0 ds) s))) (sym (length-append ds (suffix_text s)))

suffixed_whole : (ds : List ℕ) (s : Suffix) (rest : List ℕ) → stops (λ b. is_word_byte b || (b == 46)) rest ≡ true → suffixed ds (suffix_text s ++ rest) ≡ literal ds s rest
suffixed_whole ds Bare rest h = cond-false _ _ _ (no_ull rest h)
suffixed_whole ds Ull rest h = refl

stops_digits : (s : Suffix) (rest : List ℕ) → stops (λ b. is_word_byte b || (b == 46)) rest ≡ true → stops is_digit (suffix_text s ++ rest) ≡ true
stops_digits Bare rest h = stops_fewer _ is_digit digit_goes_on rest h
stops_digits Ull rest h = refl

inside_digit : (ds rest : List ℕ) → is_decimal ds ≡ true → inside (ds ++ rest) ≡ at.number (ds ++ rest)
inside_digit [] rest h = absurd (true-is_not-false (sym h))
inside_digit (b ∷ []) rest h = cond-false (is_letter b) _ _ (digit_not_letter b h) ∙ cond-true (is_digit b) _ _ h
inside_digit (b ∷ c ∷ ds) rest h =
    cond-false (is_letter b) _ _ (digit_not_letter b (first_of (is_digit b) _ h)) ∙ cond-true (is_digit b) _ _ (first_of (is_digit b) _ h)

inside_number : (ds : List ℕ) (s : Suffix) (rest : List ℕ) → is_decimal ds ≡ true → stops (λ b. is_word_byte b || (b == 46)) rest ≡ true → inside ((ds ++ suffix_text s) ++ rest) ≡ Some (Took 0 (length (ds ++ suffix_text s)) (IntegerConstant (decimal_from 0 ds) s))
inside_number ds s rest h k =
    ap inside (append_assoc ds (suffix_text s) rest) ∙ inside_digit ds (suffix_text s ++ rest) h
    ∙ number_whole ds s rest h (stops_digits s rest k) ∙ suffixed_whole ds s rest k ∙ literal_whole ds s rest k

-- where a string ends, and what it stands for
string_whole : {bs cs : List ℕ} {o : Bool} → Spells bs cs o → (rest : List ℕ) → string_end Plain (bs ++ 34 ∷ rest) ≡ Some (length bs, o)
string_whole done rest = refl
string_whole percent rest = refl
string_whole (byte {b = b} {bs = bs} {open' = o} h s) rest =
    cond-false (b == 34) _ _ (other is_string_byte b 34 h refl) ∙ cond-false (b == 92) _ _ (other is_string_byte b 92 h refl)
    ∙ cond-false (b == 37) _ _ (other is_string_byte b 37 h refl) ∙ cond-true (is_printable b) _ _ (first_of (is_printable b) _ h)
    ∙ ap (one_more) (string_whole s rest)
string_whole (line_feed {bs = bs} {open' = o} s) rest = ap (λ e. one_more (one_more e)) (string_whole s rest)
string_whole (backslash {bs = bs} {open' = o} s) rest = ap (λ e. one_more (one_more e)) (string_whole s rest)
string_whole (quote {bs = bs} {open' = o} s) rest = ap (λ e. one_more (one_more e)) (string_whole s rest)
string_whole (two_percents {bs = bs} {open' = o} s) rest = ap (λ e. one_more (one_more e)) (string_whole s rest)

pub spelled_whole : {bs cs : List ℕ} {o : Bool} → Spells bs cs o → spelled false bs ≡ cs
spelled_whole done = refl
spelled_whole percent = refl
spelled_whole (byte {b = b} {bs = bs} h s) =
    ap (λ x. cond (x || (b == 37)) (spelled true bs) (b ∷ spelled false bs)) (other is_string_byte b 92 h refl)
    ∙ ap (λ x. cond x (spelled true bs) (b ∷ spelled false bs)) (other is_string_byte b 37 h refl) ∙ ap (λ xs. b ∷ xs) (spelled_whole s)
spelled_whole (line_feed s) = ap (λ xs. 10 ∷ xs) (spelled_whole s)
spelled_whole (backslash s) = ap (λ xs. 92 ∷ xs) (spelled_whole s)
spelled_whole (quote s) = ap (λ xs. 34 ∷ xs) (spelled_whole s)
spelled_whole (two_percents s) = ap (λ xs. 37 ∷ xs) (spelled_whole s)

inside_string : {bs cs : List ℕ} {o : Bool} → Spells bs cs o → (rest : List ℕ) → inside ((34 ∷ (bs ++ 34 ∷ [])) ++ rest) ≡ Some (Took 0 (length (34 ∷ (bs ++ 34 ∷ []))) (StringLiteral cs o))
inside_string {bs} {cs} {o} s rest =
    ap (λ xs. string_of xs (string_end Plain xs)) (append_assoc bs (34 ∷ []) rest)
    ∙ ap (string_of (bs ++ 34 ∷ rest)) (string_whole s rest)
    ∙ ap (λ xs. Some (Took 0 (length bs + 2) (StringLiteral (spelled false xs) o))) (take_at bs (34 ∷ rest) (length bs) refl)
    ∙ ap (λ xs. Some (Took 0 (length bs + 2) (StringLiteral xs o))) (spelled_whole s)
    ∙ ap (λ n. Some (Took 0 n (StringLiteral cs o))) (let e : length (bs ++ 34 ∷ []) ≡ length bs + 1 = length-append bs (34 ∷ []) in omega arith)

-- a text that begins with none of these symbols
none_of : (ss : List Symbol) (w : List ℕ) → list_any (pointwise nat_eq w) (map symbol_text ss) ≡ false → sign_of ss w ≡ None
none_of [] w h = refl
none_of (s ∷ ss) w h =
    let parts = or_parts (pointwise nat_eq w (symbol_text s)) (list_any (pointwise nat_eq w) (map symbol_text ss)) h in
    cond-false _ _ _ parts.0 ∙ none_of ss w parts.1

no_long : (b c : ℕ) → not (list_any (pointwise nat_eq (b ∷ c ∷ [])) long_symbols) ≡ true → sign_of long_signs (b ∷ c ∷ []) ≡ None
no_long b c h =
    let w : List ℕ = b ∷ c ∷ [] in
    let line = or_parts (pointwise nat_eq w (47 ∷ 47 ∷ [])) _ (not_true _ h) in
    let comment = or_parts (pointwise nat_eq w (47 ∷ 42 ∷ [])) _ line.1 in
    none_of long_signs w comment.1

short_whole : (s : Symbol) (b : ℕ) → sign_of short_signs (b ∷ []) ≡ Some s → length (symbol_text s) ≡ 1 → (rest : List ℕ) → is_whole (b ∷ []) rest ≡ true → at.sign b rest ≡ Some (Took 0 (length (symbol_text s)) (Punctuator s))
short_whole s b e l [] h = ap (λ o. sign_or o None) e
short_whole s b e l (c ∷ rest) h = ap (λ o. sign_or o (sign_or (sign_of short_signs (b ∷ [])) None)) (no_long b c h) ∙ ap (λ o. sign_or o None) e

slash_whole : (rest : List ℕ) → is_whole (47 ∷ []) rest ≡ true → slash rest ≡ Some (Took 0 1 (Punctuator Slash))
slash_whole [] h = refl
slash_whole (c ∷ rest) h =
    let w : List ℕ = 47 ∷ c ∷ [] in
    let line = or_parts (pointwise nat_eq w (47 ∷ 47 ∷ [])) _ (not_true _ h) in
    let comment = or_parts (pointwise nat_eq w (47 ∷ 42 ∷ [])) _ line.1 in
    cond-false (c == 47) _ _ (first_false (c == 47) line.0) ∙ cond-false (c == 42) _ _ (first_false (c == 42) comment.0)

inside_symbol : (s : Symbol) (rest : List ℕ) → is_whole (symbol_text s) rest ≡ true → inside (symbol_text s ++ rest) ≡ Some (Took 0 (length (symbol_text s)) (Punctuator s))
inside_symbol Semicolon rest h = short_whole Semicolon 59 refl refl rest h
inside_symbol Comma rest h = short_whole Comma 44 refl refl rest h
inside_symbol OpenParen rest h = short_whole OpenParen 40 refl refl rest h
inside_symbol CloseParen rest h = short_whole CloseParen 41 refl refl rest h
inside_symbol OpenBracket rest h = short_whole OpenBracket 91 refl refl rest h
inside_symbol CloseBracket rest h = short_whole CloseBracket 93 refl refl rest h
inside_symbol OpenBrace rest h = short_whole OpenBrace 123 refl refl rest h
inside_symbol CloseBrace rest h = short_whole CloseBrace 125 refl refl rest h
inside_symbol PlusPlus rest h = refl
inside_symbol MinusMinus rest h = refl
inside_symbol EqualSign rest h = short_whole EqualSign 61 refl refl rest h
inside_symbol PlusEqual rest h = refl
inside_symbol MinusEqual rest h = refl
inside_symbol TimesEqual rest h = refl
inside_symbol AmpEqual rest h = refl
inside_symbol BarEqual rest h = refl
inside_symbol CaretEqual rest h = refl
inside_symbol PlusSign rest h = short_whole PlusSign 43 refl refl rest h
inside_symbol MinusSign rest h = short_whole MinusSign 45 refl refl rest h
inside_symbol Star rest h = short_whole Star 42 refl refl rest h
inside_symbol Slash rest h = slash_whole rest h
inside_symbol Percent rest h = short_whole Percent 37 refl refl rest h
inside_symbol Amp rest h = short_whole Amp 38 refl refl rest h
inside_symbol Bar rest h = short_whole Bar 124 refl refl rest h
inside_symbol Caret rest h = short_whole Caret 94 refl refl rest h
inside_symbol Tilde rest h = short_whole Tilde 126 refl refl rest h
inside_symbol Bang rest h = short_whole Bang 33 refl refl rest h
inside_symbol Question rest h = short_whole Question 63 refl refl rest h
inside_symbol Colon rest h = short_whole Colon 58 refl refl rest h
inside_symbol DoubleLess rest h = refl
inside_symbol DoubleGreater rest h = refl
inside_symbol LessSign rest h = short_whole LessSign 60 refl refl rest h
inside_symbol LessEqualSign rest h = refl
inside_symbol GreaterSign rest h = short_whole GreaterSign 62 refl refl rest h
inside_symbol GreaterEqualSign rest h = refl
inside_symbol DoubleEqual rest h = refl
inside_symbol BangEqual rest h = refl
inside_symbol DoubleAmp rest h = refl
inside_symbol DoubleBar rest h = refl

pub inside_token : {w : List ℕ} {rest : List ℕ} {t : Token} → Stands w rest t → inside (w ++ rest) ≡ Some (Took 0 (length w) t)
inside_token (word {w = w} {rest = rest} h k) = inside_word w rest h k
inside_token (number ds {rest = rest} suffix h k) = inside_number ds suffix rest h k
inside_token (text {rest = rest} s) = inside_string s rest
inside_token (symbol {s = s} {rest = rest} h) = inside_symbol s rest h

-- a comment ends at the first `*/`
comment_whole : (cs bs : List ℕ) → is_comment_text cs ≡ true → is_comment (cs ++ 42 ∷ []) ≡ true → comment_end (cs ++ 42 ∷ 47 ∷ bs) ≡ Some (length cs)
comment_whole [] bs h k = refl
comment_whole (c ∷ []) bs h k =
    cond-false _ _ _ (and_false_right (42 == c) false true refl)
    ∙ cond-true _ _ _ (first_of (is_comment_byte c) _ h)
comment_whole (c ∷ d ∷ cs) bs h k =
    cond-false _ _ _ (not_true _ (first_of (not ((42 == c) && ((47 == d) && true))) _ k))
    ∙ cond-true _ _ _ (first_of (is_comment_byte c) _ h)
    ∙ ap (option_map suc) (comment_whole (d ∷ cs) bs (second_of (is_comment_byte c) _ h) (second_of (not ((42 == c) && ((47 == d) && true))) _ k))

-- a line that begins with `#`
pub not_hash : (bs : List ℕ) → starts_plain bs ≡ true → begins_hash (skip_blanks bs) ≡ false
not_hash [] h = refl
not_hash (b ∷ bs) h =
    ap (λ x. begins_hash (cond (x || (b == 9)) (skip_blanks bs) (b ∷ bs))) (not_true (b == 32) (first_of _ _ (second_of (not (b == 10)) _ h)))
    ∙ ap (λ x. begins_hash (cond x (skip_blanks bs) (b ∷ bs))) (not_true (b == 9) (first_of _ _ (second_of (not (b == 32)) _ (second_of (not (b == 10)) _ h))))
    ∙ not_true (b == 35) (second_of (not (b == 9)) _ (second_of (not (b == 32)) _ (second_of (not (b == 10)) _ h)))

begins_more : (line rest : List ℕ) → begins_hash (skip_blanks line) ≡ true → begins_hash (skip_blanks (line ++ rest)) ≡ true
begins_more [] rest h = absurd (true-is_not-false (sym h))
begins_more (b ∷ line) rest h = go (begins_more line rest) (is_blank b) refl
  where
    go : (begins_hash (skip_blanks line) ≡ true → begins_hash (skip_blanks (line ++ rest)) ≡ true) → (x : Bool) → is_blank b ≡ x → begins_hash (cond x (skip_blanks (line ++ rest)) (b ∷ (line ++ rest))) ≡ true
    go ih true e = ih (sym (ap (λ x. begins_hash (cond x (skip_blanks line) (b ∷ line))) e) ∙ h)
    go ih false e = sym (ap (λ x. begins_hash (cond x (skip_blanks line) (b ∷ line))) e) ∙ h

pub blanks_and_rest : (line : List ℕ) → run is_blank line + length (skip_blanks line) ≡ length line
blanks_and_rest [] = refl
blanks_and_rest (b ∷ line) = go (blanks_and_rest line) (is_blank b)
  where
    go : run is_blank line + length (skip_blanks line) ≡ length line → (x : Bool) → cond x (suc (run is_blank line)) 0 + length (cond x (skip_blanks line) (b ∷ line)) ≡ suc (length line)
    go ih true = omega arith
    go ih false = omega arith

-- an include line is no directive line
hash_begins : (bs : List ℕ) → is_hash_rest bs ≡ true → begins_hash bs ≡ true
hash_begins [] h = h
hash_begins (b ∷ bs) h = first_of (b == 35) _ h

include_begins : {n : ℕ} (bs : List ℕ) → after_hash bs ≡ Some n → begins_hash bs ≡ true
include_begins [] h = absurd (none_is_not_some h)
include_begins {n} (b ∷ bs) h = go (b == 35) refl
  where
    go : (x : Bool) → (b == 35) ≡ x → x ≡ true
    go true e = refl
    go false e = absurd (none_is_not_some (sym (ap (λ x. cond x (include_rest (skip_blanks bs)) None) e) ∙ h))

include_plain : {n : ℕ} (bs : List ℕ) → include_rest bs ≡ Some n → is_pragma_rest bs ≡ false
include_plain [] e = refl
include_plain {n} (c ∷ cs) e = go (112 == c) refl
  where
    go : (x : Bool) → (112 == c) ≡ x → ((x && starts_with (drop 1 (codes "pragma")) cs) && is_omp_rest (behind pragma_word (c ∷ cs))) ≡ false
    go false k = refl
    go true k = absurd (none_is_not_some (subst (λ d. include_rest (d ∷ cs) ≡ Some n) (sym (eqb-true 112 c k)) e))

hash_plain : {n : ℕ} (l : List ℕ) → after_hash l ≡ Some n → is_hash_rest l ≡ false
hash_plain [] e = refl
hash_plain {n} (b ∷ bs) e = go (b == 35) refl
  where
    go : (x : Bool) → (b == 35) ≡ x → (x && is_pragma_rest (skip_blanks bs)) ≡ false
    go false k = refl
    go true k = include_plain (skip_blanks bs) (sym (ap (λ x. cond x (include_rest (skip_blanks bs)) None) k) ∙ e)

-- the front of a line that begins with `#`
front_of_line : (n : ℕ) (line bs : List ℕ) → is_line line ≡ true → begins_hash (skip_blanks line) ≡ true → front true n (line ++ 10 ∷ bs) ≡ hash_line n line
front_of_line n line bs h k =
    cond-true _ _ _ (and_true _ true (begins_more line (10 ∷ bs) k) refl) ∙ ap (hash_line n) (line_first line bs h)

front_directive : (n : ℕ) (line bs : List ℕ) → is_line line ≡ true → is_directive_line line ≡ true → is_plain_directive line ≡ true → front true n (line ++ 10 ∷ bs) ≡ Some (Took (run is_blank line) (length (skip_blanks line)) (Line n))
front_directive n line bs h k l =
    front_of_line n line bs h (hash_begins (skip_blanks line) k) ∙ cond-true _ _ _ k ∙ cond-true _ _ _ l

front_header : (n m : ℕ) (line bs : List ℕ) → is_line line ≡ true → header_of line ≡ Some m → front true n (line ++ 10 ∷ bs) ≡ Some (Took (run is_blank line) (length (skip_blanks line)) (Header m))
front_header n m line bs h k =
    front_of_line n line bs h (include_begins (skip_blanks line) k) ∙ cond-false _ _ _ (hash_plain (skip_blanks line) k) ∙ ap (header_piece line) k

-- what is cut within a line
no_hash : {n : ℕ} {bs : List ℕ} {ts : List Token} → Cuts false n bs ts → begins_hash (skip_blanks bs) ≡ false
no_hash (blank {b = b} {bs = bs} h r) = ap (λ x. begins_hash (cond x (skip_blanks bs) (b ∷ bs))) h ∙ no_hash r
no_hash (line_end r) = refl
no_hash (comment_line cs h r) = refl
no_hash (comment cs h k r) = refl
no_hash (token {w = w} {bs = bs} s r) = not_hash (w ++ bs) (starts s bs)

front_inside : (f : Bool) (n : ℕ) (bs : List ℕ) → begins_hash (skip_blanks bs) ≡ false → front f n bs ≡ inside bs
front_inside f n bs h = cond-false _ _ _ (ap (λ x. x && f) h)

inside_blank : (b : ℕ) (bs : List ℕ) → is_blank b ≡ true → inside (b ∷ bs) ≡ Some (Gap 1)
inside_blank b bs h = go (b == 32) (b == 9) refl refl h
  where
    go : (x y : Bool) → (b == 32) ≡ x → (b == 9) ≡ y → (x || y) ≡ true → inside (b ∷ bs) ≡ Some (Gap 1)
    go true y e d h = subst (λ c. inside (c ∷ bs) ≡ Some (Gap 1)) (sym (eqb-true b 32 e)) refl
    go false true e d h = subst (λ c. inside (c ∷ bs) ≡ Some (Gap 1)) (sym (eqb-true b 9 d)) refl
    go false false e d h = absurd (true-is_not-false (sym h))

-- how a text goes on behind its front: with no front, it is at its end
abbrev pub Next : Bool → ℕ → List ℕ → List Token → Option Piece → Type 0
Next f n bs ts None = (f ≡ true) × (bs ≡ []) × (ts ≡ [])
Next f n bs ts (Some (Gap k)) = Cuts false n (drop k bs) ts
Next f n bs ts (Some Turn) = Cuts true (suc n) (drop 1 bs) ts
Next f n bs ts (Some (Took lead k t)) = (us : List Token) × (ts ≡ t ∷ us) × Cuts false n (drop k (drop lead bs)) us

at_next : (f : Bool) (n : ℕ) (bs : List ℕ) (ts : List Token) (o : Option Piece) → front f n bs ≡ o → Next f n bs ts o → Next f n bs ts (front f n bs)
at_next f n bs ts o e r = subst (Next f n bs ts) (sym e) r

at_bytes : {f : Bool} {n : ℕ} {xs ys : List ℕ} {ts : List Token} → xs ≡ ys → Cuts f n ys ts → Cuts f n xs ts
at_bytes {f} {n} {xs} {ys} {ts} e r = subst (λ zs. Cuts f n zs ts) (sym e) r

gap_of_comment : (cs bs : List ℕ) → drop (length cs + 2) (47 ∷ 47 ∷ (cs ++ bs)) ≡ bs
gap_of_comment cs bs = ap (λ k. drop k (47 ∷ 47 ∷ (cs ++ bs))) (let e : length cs + 2 ≡ suc (suc (length cs)) = omega arith in e) ∙ drop_at cs bs (length cs) refl

gap_of_block : (cs bs : List ℕ) → drop (length cs + 4) (47 ∷ 42 ∷ (cs ++ 42 ∷ 47 ∷ bs)) ≡ bs
gap_of_block cs bs =
    ap (λ k. drop k (47 ∷ 42 ∷ (cs ++ 42 ∷ 47 ∷ bs))) (let e : length cs + 4 ≡ suc (suc (length cs + 2)) = omega arith in e)
    ∙ ap (drop (length cs + 2)) (sym (append_assoc cs (42 ∷ 47 ∷ []) bs))
    ∙ drop_at (cs ++ 42 ∷ 47 ∷ []) bs (length cs + 2) (length-append cs (42 ∷ 47 ∷ []))

front_blank : {n : ℕ} (f : Bool) (b : ℕ) (bs : List ℕ) {ts : List Token} → is_blank b ≡ true → Cuts false n bs ts → front f n (b ∷ bs) ≡ Some (Gap 1)
front_blank {n} f b bs h r =
    front_inside f n (b ∷ bs) (ap (λ x. begins_hash (cond x (skip_blanks bs) (b ∷ bs))) h ∙ no_hash r) ∙ inside_blank b bs h

front_token : (f : Bool) (n : ℕ) {w bs : List ℕ} {t : Token} → Stands w bs t → front f n (w ++ bs) ≡ Some (Took 0 (length w) t)
front_token f n {w} {bs} s = front_inside f n (w ++ bs) (not_hash (w ++ bs) (starts s bs)) ∙ inside_token s

-- what stands behind a line
pub behind_line : (line rest : List ℕ) → drop (length (skip_blanks line)) (drop (run is_blank line) (line ++ rest)) ≡ rest
behind_line line rest = drop-drop (length (skip_blanks line)) (run is_blank line) (line ++ rest) ∙ drop_at line rest _ (sym (blanks_and_rest line))

-- each cut goes through the front
pub into_next : {f : Bool} {n : ℕ} {bs : List ℕ} {ts : List Token} → Cuts f n bs ts → Next f n bs ts (front f n bs)
into_next end = (refl, refl, refl)
into_next (blank {fresh = f} {n = n} {b = b} {bs = bs} {ts = ts} h r) =
    at_next f n (b ∷ bs) ts (Some (Gap 1)) (front_blank f b bs h r) r
into_next (line_end {fresh = f} {n = n} r) = r
into_next (comment_line {fresh = f} {n = n} cs {bs = bs} {ts = ts} h r) =
    at_next f n (47 ∷ 47 ∷ (cs ++ 10 ∷ bs)) ts (Some (Gap (length cs + 2))) (ap (λ k. Some (Gap (k + 2))) (run_whole is_comment_byte cs (10 ∷ bs) h refl))
    (at_bytes (gap_of_comment cs (10 ∷ bs)) (line_end r))
into_next (comment {fresh = f} {n = n} cs {bs = bs} {ts = ts} h k r) =
    at_next f n (47 ∷ 42 ∷ (cs ++ 42 ∷ 47 ∷ bs)) ts (Some (Gap (length cs + 4))) (ap (option_map (λ m. Gap (m + 4))) (comment_whole cs bs h k))
    (at_bytes (gap_of_block cs bs) r)
into_next (directive {n = n} line {bs = bs} {ts = ts} h k l r) =
    at_next true n (line ++ 10 ∷ bs) (Line n ∷ ts) _ (front_directive n line bs h k l) (ts, refl, at_bytes (behind_line line (10 ∷ bs)) (line_end r))
into_next (header {n = n} {h = m} line {bs = bs} {ts = ts} h k r) =
    at_next true n (line ++ 10 ∷ bs) (Header m ∷ ts) _ (front_header n m line bs h k) (ts, refl, at_bytes (behind_line line (10 ∷ bs)) (line_end r))
into_next (token {fresh = f} {n = n} {w = w} {bs = bs} {t = t} {ts = ts} s r) =
    at_next f n (w ++ bs) (t ∷ ts) (Some (Took 0 (length w) t)) (front_token f n s) (ts, refl, at_bytes (drop_at w bs (length w) refl) r)

pub next_at : (f : Bool) (n : ℕ) (bs : List ℕ) (ts : List Token) (o : Option Piece) → front f n bs ≡ o → Cuts f n bs ts → Next f n bs ts o
next_at f n bs ts o e r = subst (Next f n bs ts) e (into_next r)

behind_bytes : {f : Bool} {n : ℕ} {xs ys : List ℕ} {ts : List Token} → xs ≡ ys → Cuts f n xs ts → Cuts f n ys ts
behind_bytes {f} {n} {xs} {ys} {ts} e r = subst (λ zs. Cuts f n zs ts) e r

joined : {t : Token} {ts us vs : List Token} → us ≡ t ∷ vs → ts ≡ vs → t ∷ ts ≡ us
joined {t} e d = ap (λ xs. t ∷ xs) d ∙ sym e

-- a text has one cut
pub one_cut : {f : Bool} {n : ℕ} {bs : List ℕ} {ts us : List Token} → Cuts f n bs ts → Cuts f n bs us → ts ≡ us
one_cut end q = sym (into_next q).2
one_cut {us = us} (blank {fresh = f} {n = n} {b = b} {bs = bs} h r) q = one_cut r (next_at f n (b ∷ bs) us (Some (Gap 1)) (front_blank f b bs h r) q)
one_cut (line_end r) q = one_cut r (into_next q)
one_cut {us = us} (comment_line {fresh = f} {n = n} cs {bs = bs} h r) q =
    one_cut r (into_next (behind_bytes (gap_of_comment cs (10 ∷ bs)) (next_at f n (47 ∷ 47 ∷ (cs ++ 10 ∷ bs)) us (Some (Gap (length cs + 2))) (ap (λ k. Some (Gap (k + 2))) (run_whole is_comment_byte cs (10 ∷ bs) h refl)) q)))
one_cut {us = us} (comment {fresh = f} {n = n} cs {bs = bs} h k r) q =
    one_cut r (behind_bytes (gap_of_block cs bs) (next_at f n (47 ∷ 42 ∷ (cs ++ 42 ∷ 47 ∷ bs)) us (Some (Gap (length cs + 4))) (ap (option_map (λ m. Gap (m + 4))) (comment_whole cs bs h k)) q))
one_cut {us = us} (directive {n = n} line {bs = bs} h k l r) q =
    let after : Next true n (line ++ 10 ∷ bs) us (Some (Took (run is_blank line) (length (skip_blanks line)) (Line n))) = next_at true n (line ++ 10 ∷ bs) us _ (front_directive n line bs h k l) q in
    joined after.1 (one_cut r (into_next (behind_bytes (behind_line line (10 ∷ bs)) after.2)))
one_cut {us = us} (header {n = n} {h = m} line {bs = bs} h k r) q =
    let after : Next true n (line ++ 10 ∷ bs) us (Some (Took (run is_blank line) (length (skip_blanks line)) (Header m))) = next_at true n (line ++ 10 ∷ bs) us _ (front_header n m line bs h k) q in
    joined after.1 (one_cut r (into_next (behind_bytes (behind_line line (10 ∷ bs)) after.2)))
one_cut {us = us} (token {fresh = f} {n = n} {w = w} {bs = bs} {t = t} s r) q =
    let after : Next f n (w ++ bs) us (Some (Took 0 (length w) t)) = next_at f n (w ++ bs) us _ (front_token f n s) q in
    joined after.1 (one_cut r (behind_bytes (drop_at w bs (length w) refl) after.2))
