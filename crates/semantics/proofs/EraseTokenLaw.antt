-- Tokens stand as before where directive lines behind them are erased.
use Rattle.std.specs.Prelude.{ℕ, Bool, true, false, not, ◌==◌, ◌&&◌, ◌||◌, ◌≡◌, List, [], ◌∷◌, ◌++◌, Option, Some, None}
use Rattle.std.specs.List.{list_all}
use Rattle.std.proofs.Common.{cond, refl, sym, ap, ◌∙◌}
use Rattle.std.proofs.lemmas.Bool.{eqb-true}
use Rattle.semantics.specs.Tree.{Suffix, Bare, Ull}
use Rattle.semantics.specs.Source.Text.{skip_blanks, first_line, is_directive_line, is_hash_rest, is_pragma_rest, erase, erase_from}
use Rattle.semantics.specs.Source.Token.{Token}
use Rattle.semantics.specs.Source.Cuts.{is_digit, is_letter, is_word_byte, is_printable, is_name, stops, is_decimal, suffix_text, symbol_text, is_whole, Spells, done, percent, byte, line_feed, backslash, quote, two_percents, Stands, word, number, text, symbol, is_line}
use Rattle.semantics.proofs.StripLaw.{drop_lines}
use Rattle.semantics.proofs.SymbolLaw.{is_plain_start, starts_plain, symbol_starts, symbol_line}

pub first_of : (x y : Bool) → (x && y) ≡ true → x ≡ true
first_of true y h = refl
first_of false y h = h

pub second_of : (x y : Bool) → (x && y) ≡ true → y ≡ true
second_of true y h = h
second_of false true h = refl
second_of false false h = h

pub and_true : (x y : Bool) → x ≡ true → y ≡ true → (x && y) ≡ true
and_true x y h k = ap (λ z. z && y) h ∙ k

pub none_is_not_some : {h : ℕ} → (let o : Option ℕ = None in o) ≡ Some h → ⊥
none_is_not_some e = cc

pub true-is_not-false : true ≡ false → ⊥
true-is_not-false e = cc

-- a byte with a property that this number lacks is another
pub other : (p : ℕ → Bool) (b n : ℕ) → p b ≡ true → p n ≡ false → (b == n) ≡ false
other p b n h k = go (b == n) refl
  where
    go : (x : Bool) → (b == n) ≡ x → x ≡ false
    go false e = refl
    go true e = sym h ∙ ap p (eqb-true b n e) ∙ k

not_true : (x : Bool) → not x ≡ true → x ≡ false
not_true true h = sym h
not_true false h = refl

-- the first byte of what is left stays
pub stops_left : (p : ℕ → Bool) (bs : List ℕ) → stops p bs ≡ true → stops p (erase_from false bs) ≡ true
stops_left p [] h = refl
stops_left p (b ∷ bs) h = go (b == 10) refl
  where
    go : (x : Bool) → (b == 10) ≡ x → stops p (cond x (10 ∷ erase_from (is_directive_line (first_line bs)) bs) (b ∷ erase_from false bs)) ≡ true
    go true e = sym (ap (λ c. not (p c)) (eqb-true b 10 e)) ∙ h
    go false e = h

pub kept : (w bs : List ℕ) → is_line w ≡ true → erase_from false (w ++ bs) ≡ w ++ erase_from false bs
kept [] bs h = refl
kept (c ∷ w) bs h =
    ap (λ x. cond x (10 ∷ erase_from (is_directive_line (first_line (w ++ bs))) (w ++ bs)) (c ∷ erase_from false (w ++ bs))) (not_true (c == 10) (first_of (not (c == 10)) (is_line w) h))
    ∙ ap (λ xs. c ∷ xs) (kept w bs (second_of (not (c == 10)) (is_line w) h))

pub dropped : (w bs : List ℕ) → is_line w ≡ true → erase_from true (w ++ 10 ∷ bs) ≡ 10 ∷ erase bs
dropped [] bs h = refl
dropped (c ∷ w) bs h =
    ap (λ x. cond x (10 ∷ erase_from (is_directive_line (first_line (w ++ 10 ∷ bs))) (w ++ 10 ∷ bs)) (erase_from true (w ++ 10 ∷ bs))) (not_true (c == 10) (first_of (not (c == 10)) (is_line w) h))
    ∙ dropped w bs (second_of (not (c == 10)) (is_line w) h)

pub line_first : (w bs : List ℕ) → is_line w ≡ true → first_line (w ++ 10 ∷ bs) ≡ w
line_first [] bs h = refl
line_first (c ∷ w) bs h =
    ap (λ x. cond x [] (c ∷ first_line (w ++ 10 ∷ bs))) (not_true (c == 10) (first_of (not (c == 10)) (is_line w) h)) ∙ ap (λ xs. c ∷ xs) (line_first w bs (second_of (not (c == 10)) (is_line w) h))

-- a line ends nowhere in bytes of a kind
pub line_of : (p : ℕ → Bool) → p 10 ≡ false → (bs : List ℕ) → list_all p bs ≡ true → is_line bs ≡ true
line_of p k [] h = refl
line_of p k (b ∷ bs) h = ap (λ x. not x && is_line bs) (other p b 10 (first_of (p b) (list_all p bs) h) k) ∙ line_of p k bs (second_of (p b) (list_all p bs) h)

line_append : (a b : List ℕ) → is_line a ≡ true → is_line b ≡ true → is_line (a ++ b) ≡ true
line_append [] b h k = k
line_append (c ∷ a) b h k =
    ap (λ x. x && is_line (a ++ b)) (first_of (not (c == 10)) (is_line a) h) ∙ line_append a b (second_of (not (c == 10)) (is_line a) h) k

plain_of : (p : ℕ → Bool) → p 10 ≡ false → p 32 ≡ false → p 9 ≡ false → p 35 ≡ false → (b : ℕ) → p b ≡ true → is_plain_start b ≡ true
plain_of p k l m n b h =
    ap (λ x. not x && (not (b == 32) && (not (b == 9) && not (b == 35)))) (other p b 10 h k)
    ∙ ap (λ x. not x && (not (b == 9) && not (b == 35))) (other p b 32 h l)
    ∙ ap (λ x. not x && not (b == 35)) (other p b 9 h m)
    ∙ ap not (other p b 35 h n)

pub no_directive : (bs : List ℕ) → starts_plain bs ≡ true → is_directive_line (first_line bs) ≡ false
no_directive [] h = refl
no_directive (b ∷ bs) h =
    ap (λ x. is_directive_line (cond x [] (b ∷ first_line bs))) (not_true (b == 10) (first_of (not (b == 10)) _ h))
    ∙ ap (λ x. is_hash_rest (cond (x || (b == 9)) (skip_blanks (first_line bs)) (b ∷ first_line bs))) (not_true (b == 32) (first_of (not (b == 32)) _ (second_of (not (b == 10)) _ h)))
    ∙ ap (λ x. is_hash_rest (cond x (skip_blanks (first_line bs)) (b ∷ first_line bs))) (not_true (b == 9) (first_of (not (b == 9)) _ (second_of (not (b == 32)) _ (second_of (not (b == 10)) _ h))))
    ∙ ap (λ x. x && is_pragma_rest (skip_blanks (first_line bs))) (not_true (b == 35) (second_of (not (b == 9)) _ (second_of (not (b == 32)) _ (second_of (not (b == 10)) _ h))))

word_starts : (w us : List ℕ) → is_name w ≡ true → starts_plain (w ++ us) ≡ true
word_starts [] us h = absurd (true-is_not-false (sym h))
word_starts (b ∷ bs) us h = plain_of is_letter refl refl refl refl b (first_of (is_letter b) _ h)

number_starts : (ds us vs : List ℕ) → is_decimal ds ≡ true → starts_plain ((ds ++ us) ++ vs) ≡ true
number_starts [] us vs h = absurd (true-is_not-false (sym h))
number_starts (b ∷ []) us vs h = plain_of is_digit refl refl refl refl b h
number_starts (b ∷ c ∷ ds) us vs h = plain_of is_digit refl refl refl refl b (first_of (is_digit b) _ h)

-- a token begins no directive line
pub starts : {w rest : List ℕ} {t : Token} → Stands w rest t → (us : List ℕ) → starts_plain (w ++ us) ≡ true
starts (word {w = w} h k) us = word_starts w us h
starts (number ds suffix h k) us = number_starts ds (suffix_text suffix) us h
starts (text s) us = refl
starts (symbol {s = s} h) us = symbol_starts s us

word_line : (w : List ℕ) → is_name w ≡ true → is_line w ≡ true
word_line [] h = refl
word_line (b ∷ bs) h =
    ap (λ x. not x && is_line bs) (other is_letter b 10 (first_of (is_letter b) _ h) refl) ∙ line_of is_word_byte refl bs (second_of (is_letter b) _ h)

digits_line : (ds : List ℕ) → is_decimal ds ≡ true → is_line ds ≡ true
digits_line [] h = refl
digits_line (b ∷ []) h = ap (λ x. not x && true) (other is_digit b 10 h refl)
digits_line (b ∷ c ∷ ds) h =
    line_of is_digit refl (b ∷ c ∷ ds)
    (and_true (is_digit b) _ (first_of (is_digit b) _ h) (second_of (not (b == 48)) _ (second_of (is_digit b) _ h)))

suffix_line : (s : Suffix) → is_line (suffix_text s) ≡ true
suffix_line Bare = refl
suffix_line Ull = refl

abbrev is_string_byte : ℕ → Bool
is_string_byte b = is_printable b && not ((b == 34) || ((b == 92) || (b == 37)))

spelled_line : {bs cs : List ℕ} {o : Bool} → Spells bs cs o → is_line bs ≡ true
spelled_line done = refl
spelled_line percent = refl
spelled_line (byte {b = b} {bs = bs} h s) = ap (λ x. not x && is_line bs) (other is_string_byte b 10 h refl) ∙ spelled_line s
spelled_line (line_feed s) = spelled_line s
spelled_line (backslash s) = spelled_line s
spelled_line (quote s) = spelled_line s
spelled_line (two_percents s) = spelled_line s

pub token_line : {w rest : List ℕ} {t : Token} → Stands w rest t → is_line w ≡ true
token_line (word {w = w} h k) = word_line w h
token_line (number ds suffix h k) = line_append ds (suffix_text suffix) (digits_line ds h) (suffix_line suffix)
token_line (text {bs = bs} s) = line_append bs (34 ∷ []) (spelled_line s) refl
token_line (symbol {s = s} h) = symbol_line s

whole_left : (w rest : List ℕ) → is_whole w rest ≡ true → is_whole w (erase_from false rest) ≡ true
whole_left [] rest h = h
whole_left (b ∷ []) [] h = refl
whole_left (b ∷ []) (c ∷ rest) h = go (c == 10) refl
  where
    go : (x : Bool) → (c == 10) ≡ x → is_whole (b ∷ []) (cond x (10 ∷ erase_from (is_directive_line (first_line rest)) rest) (c ∷ erase_from false rest)) ≡ true
    go true e = sym (ap (λ d. is_whole (b ∷ []) (d ∷ rest)) (eqb-true c 10 e)) ∙ h
    go false e = h
whole_left (b ∷ c ∷ w) rest h = refl

pub token_left : {w rest : List ℕ} {t : Token} → Stands w rest t → Stands w (erase_from false rest) t
token_left (word {rest = rest} h k) = word h (stops_left is_word_byte rest k)
token_left (number ds {rest = rest} suffix h k) = number ds suffix h (stops_left (λ b. is_word_byte b || (b == 46)) rest k)
token_left (text s) = text s
token_left (symbol {s = s} {rest = rest} h) = symbol {s = s} (whole_left (symbol_text s) rest h)

pub token_stays : {w rest : List ℕ} {t : Token} → Stands w rest t → (us : List Token) → drop_lines (t ∷ us) ≡ t ∷ drop_lines us
token_stays (word h k) us = refl
token_stays (number ds suffix h k) us = refl
token_stays (text s) us = refl
token_stays (symbol h) us = refl
