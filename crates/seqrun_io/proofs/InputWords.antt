-- The words of an input's line, and the numbers among them.
use Rattle.std.specs.Prelude.{ℕ, zero, suc, Bool, true, false, not, ◌≡◌, ◌==◌, ◌<◌, ◌≤◌, ◌&&◌, ◌^◌, nat_lt, nat_le, if◌then◌else◌, List, [], ◌∷◌, ◌++◌, length}
use Rattle.std.specs.List.{list_all}
use Rattle.std.specs.Fmt.{decimal}
use Rattle.std.proofs.Common.{refl, sym, ap, ◌∙◌, arith, append_assoc, append-nil, get_or}
use Rattle.itoa.proofs.Decimal.{length_one}
use Rattle.std.proofs.lemmas.Fmt.{decimal-digits_value, digits_decimal, digits_value-decimal, decimal_nonempty, first_decimal}
use Rattle.std.proofs.lemmas.Str.Parse.{IsNumeralModel, numerals_by_fold}
use Rattle.std.proofs.lemmas.Bool.{lt-ltb, ltb-true, le-leb, leb-true, eq-eqb, eqb-true}
use Rattle.semantics.specs.Source.Cuts.{is_digit, is_printable, is_decimal, decimal_from}
use Rattle.semantics.specs.Meaning.InputFault.{is_empty, is_formed, is_value, split_from}
use Rattle.semantics.proofs.EraseTokenLaw.{first_of, second_of}

-- both tests pass
pub both_pass : (a b : Bool) → a ≡ true → b ≡ true → (a && b) ≡ true
both_pass true true e f = refl
both_pass true false e f = f
both_pass false b e f = e

-- P and v of the definitions are those of decimal text
abbrev pub AllDigits : List ℕ → Type 0
AllDigits w = list_all is_digit w ≡ true

pub digit_range : (b : ℕ) → is_digit b ≡ true → (48 ≤ b) × (b ≤ 57)
digit_range b e = (leb-true 48 b (first_of (nat_le 48 b) (nat_le b 57) e), leb-true b 57 (second_of (nat_le 48 b) (nat_le b 57) e))

digit_test : (b : ℕ) → 48 ≤ b → b ≤ 57 → is_digit b ≡ true
digit_test b le ge = both_pass (nat_le 48 b) (nat_le b 57) (le-leb 48 b le) (le-leb b 57 ge)

pub numerals : IsNumeralModel AllDigits (decimal_from 0)
numerals = numerals_by_fold AllDigits
    (record {
      empty = refl;
      parts = λ b bs e. (digit_range b (first_of (is_digit b) (list_all is_digit bs) e), second_of (is_digit b) (list_all is_digit bs) e);
      more = λ b bs r e. both_pass (is_digit b) (list_all is_digit bs) (digit_test b r.0 r.1) e;
    })
    decimal_from
    (record { empty = λ n. refl; more = λ n b bs r. refl })

-- a word that is a number is that number's decimal
pub decimal_of_word : (w : List ℕ) → is_value w ≡ true → decimal (decimal_from 0 w) ≡ w
decimal_of_word w e =
    let small = ltb-true (decimal_from 0 w) (2 ^ 64) (second_of (is_decimal w) (nat_lt (decimal_from 0 w) (2 ^ 64)) e) in
    let shape = first_of (is_decimal w) (nat_lt (decimal_from 0 w) (2 ^ 64)) e in
    decimal-digits_value numerals w (digits w shape) (filled w shape) (short w shape) small
  where
    digits : (w : List ℕ) → is_decimal w ≡ true → AllDigits w
    digits [] e = absurd (cc e)
    digits (b ∷ []) e = both_pass (is_digit b) true e refl
    digits (b ∷ c ∷ bs) e =
        both_pass (is_digit b) (list_all is_digit (c ∷ bs)) (first_of (is_digit b) (not (b == 48) && list_all is_digit (c ∷ bs)) e)
        (second_of (not (b == 48)) (list_all is_digit (c ∷ bs)) (second_of (is_digit b) (not (b == 48) && list_all is_digit (c ∷ bs)) e))

    filled : (w : List ℕ) → is_decimal w ≡ true → 0 < length w
    filled [] e = absurd (cc e)
    filled (b ∷ bs) e = omega arith

    short : (w : List ℕ) → is_decimal w ≡ true → get_or w 0 0 ≡ 48 → length w ≡ 1
    short [] e f = absurd (cc e)
    short (b ∷ []) e f = refl
    short (b ∷ c ∷ bs) e f =
        let zero_first : (b == 48) ≡ true = eq-eqb b 48 f in
        let no : not (b == 48) ≡ true = first_of (not (b == 48)) (list_all is_digit (c ∷ bs)) (second_of (is_digit b) (not (b == 48) && list_all is_digit (c ∷ bs)) e) in
        absurd (cc (ap not zero_first, no))

-- a decimal is such a word
pub value_of_decimal : (v : ℕ) → v < 2 ^ 64 → is_value (decimal v) ≡ true
value_of_decimal v lt =
    both_pass (is_decimal (decimal v)) (nat_lt (decimal_from 0 (decimal v)) (2 ^ 64))
    (shape (decimal v) (digits_decimal numerals v lt) (decimal_nonempty v lt) (lead v lt))
    (lt-ltb (decimal_from 0 (decimal v)) (2 ^ 64) (omega (arith, digits_value-decimal numerals v lt)))
  where
    lead : (v : ℕ) → v < 2 ^ 64 → get_or (decimal v) 0 0 ≡ 48 → length (decimal v) ≡ 1
    lead zero lt e = length_one 0 (omega arith)
    lead (suc v) lt e = absurd (omega (arith, first_decimal (suc v) (omega arith) lt))

    shape : (w : List ℕ) → AllDigits w → 0 < length w → (get_or w 0 0 ≡ 48 → length w ≡ 1) → is_decimal w ≡ true
    shape [] d n s = absurd (omega arith)
    shape (b ∷ []) d n s = first_of (is_digit b) true d
    shape (b ∷ c ∷ bs) d n s =
        both_pass (is_digit b) (not (b == 48) && list_all is_digit (c ∷ bs)) (first_of (is_digit b) (list_all is_digit (c ∷ bs)) d)
        (both_pass (not (b == 48)) (list_all is_digit (c ∷ bs)) (unlike (b == 48) refl) (second_of (is_digit b) (list_all is_digit (c ∷ bs)) d))
      where
        unlike : (t : Bool) → (b == 48) ≡ t → not t ≡ true
        unlike true e = absurd (let k = s (eqb-true b 48 e) in omega arith)
        unlike false e = refl

-- the form of a line, byte by byte; fresh: a word begins here
abbrev pub formed_from : Bool → List ℕ → Bool
formed_from fresh [] = not fresh
formed_from fresh (b ∷ bs) = if b == 32 then not fresh && formed_from true bs else is_printable b && formed_from false bs

abbrev pub full_words : List ℕ → List ℕ → Bool
full_words word line = list_all (λ w. not (is_empty w)) (split_from word line)

empty_more : (w : List ℕ) (b : ℕ) → is_empty (w ++ b ∷ []) ≡ false
empty_more [] b = refl
empty_more (a ∷ w) b = refl

formed_words : (word line : List ℕ) → (list_all is_printable line && full_words word line) ≡ formed_from (is_empty word) line
formed_words word [] = last (is_empty word)
  where
    last : (e : Bool) → (true && (not e && true)) ≡ not e
    last true = refl
    last false = refl
formed_words word (b ∷ bs) = by_space (b == 32) refl (formed_words [] bs) (formed_words (word ++ b ∷ []) bs)
  where
    space_prints : (b : ℕ) → (b == 32) ≡ true → is_printable b ≡ true
    space_prints b e = ap is_printable (eqb-true b 32 e)

    at_space : (p q n s t : Bool) → p ≡ true → (q && s) ≡ t → ((p && q) && (n && s)) ≡ (n && t)
    at_space true q true s t e f = f
    at_space true true false s t e f = refl
    at_space true false false s t e f = refl
    at_space false q n s t e f = absurd (cc e)

    at_other : (p q s t : Bool) → (q && s) ≡ t → ((p && q) && s) ≡ (p && t)
    at_other true q s t f = f
    at_other false q s t f = refl

    by_space : (t : Bool) → (b == 32) ≡ t
        → (list_all is_printable bs && full_words [] bs) ≡ formed_from true bs
        → (list_all is_printable bs && full_words (word ++ b ∷ []) bs) ≡ formed_from (is_empty (word ++ b ∷ [])) bs
        → ((is_printable b && list_all is_printable bs) && list_all (λ w. not (is_empty w)) (if t then word ∷ split_from [] bs else split_from (word ++ b ∷ []) bs))
        ≡ (if t then not (is_empty word) && formed_from true bs else is_printable b && formed_from false bs)
    by_space true e f g = at_space (is_printable b) (list_all is_printable bs) (not (is_empty word)) (full_words [] bs) (formed_from true bs) (space_prints b e) f
    by_space false e f g = at_other (is_printable b) (list_all is_printable bs) (full_words (word ++ b ∷ []) bs) (formed_from false bs) (g ∙ ap (λ k. formed_from k bs) (empty_more word b))

pub formed_bytes : (line : List ℕ) → is_formed line ≡ formed_from true line
formed_bytes line = formed_words [] line

-- a word without spaces, and the next
abbrev pub has_no_space : List ℕ → Bool
has_no_space w = list_all (λ b. not (b == 32)) w

pub split_at_end : (word w : List ℕ) → has_no_space w ≡ true → split_from word w ≡ (word ++ w) ∷ []
split_at_end word [] e = ap (λ l. l ∷ []) (sym (append-nil word))
split_at_end word (b ∷ w) e =
    ap (λ t. if t then word ∷ split_from [] w else split_from (word ++ b ∷ []) w) (no_space b (first_of (not (b == 32)) (has_no_space w) e))
    ∙ split_at_end (word ++ b ∷ []) w (second_of (not (b == 32)) (has_no_space w) e)
    ∙ ap (λ l. l ∷ []) (append_assoc word (b ∷ []) w)
  where
    no_space : (b : ℕ) → not (b == 32) ≡ true → (b == 32) ≡ false
    no_space b e = negated (b == 32) e
      where
        negated : (t : Bool) → not t ≡ true → t ≡ false
        negated true e = absurd (cc e)
        negated false e = refl

pub split_at_space : (word w rest : List ℕ) → has_no_space w ≡ true → split_from word (w ++ 32 ∷ rest) ≡ (word ++ w) ∷ split_from [] rest
split_at_space word [] rest e = ap (λ l. l ∷ split_from [] rest) (sym (append-nil word))
split_at_space word (b ∷ w) rest e =
    ap (λ t. if t then word ∷ split_from [] (w ++ 32 ∷ rest) else split_from (word ++ b ∷ []) (w ++ 32 ∷ rest)) (negated (b == 32) (first_of (not (b == 32)) (has_no_space w) e))
    ∙ split_at_space (word ++ b ∷ []) w rest (second_of (not (b == 32)) (has_no_space w) e)
    ∙ ap (λ l. l ∷ split_from [] rest) (append_assoc word (b ∷ []) w)
  where
    negated : (t : Bool) → not t ≡ true → t ≡ false
    negated true e = absurd (cc e)
    negated false e = refl
