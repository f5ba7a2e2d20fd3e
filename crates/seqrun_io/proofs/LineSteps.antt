-- The steps in which a line is read.
use Rattle.std.specs.Prelude.{ℕ, zero, suc, Bool, true, false, not, ◌≡◌, ◌≢◌, ◌==◌, ◌+◌, ◌-◌, ◌*◌, ◌<◌, ◌≤◌, ◌&&◌, ◌^◌, nat_lt, if◌then◌else◌, List, [], ◌∷◌, ◌++◌, length, map, flat_map, take, drop, Some, None, slice_get, slice_index_or, All, count_by}
use Rattle.std.specs.List.{list_all}
use Rattle.std.specs.Fmt.{decimal}
use Rattle.std.proofs.Common.{refl, sym, ap, ◌∙◌, subst, arith, append_assoc, append-nil, get_or, drop-cons, length-append}
use Rattle.std.proofs.lemmas.Bool.{eq-eqb, eqb-true, ltb-true, ltb-false, lt-ltb}
use Rattle.std.proofs.lemmas.List.{take-append-drop, take_all}
use Rattle.std.proofs.lemmas.List.Elements.{All-append}
use Rattle.std.proofs.lemmas.List.Sums.{sum_by-cons}
use Rattle.std.proofs.lemmas.Grind.{flat_map-append}
use Rattle.semantics.specs.Tree as Tree
use Rattle.semantics.specs.Source.Cuts.{is_digit, is_decimal, decimal_from}
use Rattle.semantics.specs.Meaning.Places.{size}
use Rattle.semantics.specs.Meaning.Output.{name_of}
use Rattle.semantics.specs.Meaning.InputFault.{WrongForm, UnknownName, NamedTwice, WrongCount, WrongNumber, Judged, Right, Faulty, is_formed, is_value, split_from, declared_from, judged_at, judged_words, judged}
use Rattle.semantics.proofs.EraseTokenLaw.{first_of, second_of}
use Rattle.seqrun_io.specs.Lines.{value_text}
use Rattle.seqrun_io.specs.Reading.{words_behind, IsBefore, StartsWithSpace, value_of_word, AreRead, Marks, IsRight}
use Rattle.seqrun_io.proofs.Places.{IsFound}
use Rattle.seqrun_io.proofs.InputWords.{both_pass, formed_from, formed_bytes, split_at_end, split_at_space, decimal_of_word}

nothing_left : (w : List ℕ) (i : ℕ) → length w ≤ i → drop i w ≡ []
nothing_left [] zero le = refl
nothing_left [] (suc i) le = refl
nothing_left (b ∷ w) zero le = absurd (omega arith)
nothing_left (b ∷ w) (suc i) le = nothing_left w i (omega arith)

-- a space where a word begins
pub formed_stops : (line : List ℕ) (fresh : Bool) (i : ℕ) → i < length line → get_or line i 0 ≡ 32 → fresh ≡ true → formed_from true line ≡ formed_from fresh (drop i line) → false ≡ is_formed line
formed_stops line fresh i lt b f e =
    sym
    (formed_bytes line
    ∙ e
    ∙ ap (formed_from fresh) (drop-cons line i 0 lt)
    ∙ ap (λ b. formed_from fresh (b ∷ drop (suc i) line)) b
    ∙ ap (λ f. formed_from f (32 ∷ drop (suc i) line)) f)

pub formed_ends : (line : List ℕ) (fresh : Bool) (i : ℕ) → length line ≤ i → formed_from true line ≡ formed_from fresh (drop i line) → not fresh ≡ is_formed line
formed_ends line fresh i le e = sym (formed_bytes line ∙ e ∙ ap (formed_from fresh) (nothing_left line i le))

-- a number grows with its digits
grows : (n : ℕ) (bs : List ℕ) → n ≤ decimal_from n bs
grows n [] = omega arith
grows n (b ∷ bs) = let r = grows (n * 10 + (b - 48)) bs in omega arith

-- a word whose number does not fit
pub too_big : (w : List ℕ) (n i : ℕ) → i < length w → decimal_from 0 w ≡ decimal_from n (drop i w) → 2 ^ 64 ≤ n * 10 + (get_or w i 0 - 48) → None ≡ value_of_word w
too_big w n i lt e le =
    let r = grows (n * 10 + (get_or w i 0 - 48)) (drop (suc i) w) in
    let whole : decimal_from 0 w ≡ decimal_from (n * 10 + (get_or w i 0 - 48)) (drop (suc i) w) = e ∙ ap (decimal_from n) (drop-cons w i 0 lt) in
    sym (ap (λ t. if is_decimal w && t then Some (decimal_from 0 w) else None) (not_below (nat_lt (decimal_from 0 w) (2 ^ 64)) refl (omega arith)) ∙ ends (is_decimal w))
  where
    not_below : (t : Bool) → nat_lt (decimal_from 0 w) (2 ^ 64) ≡ t → 2 ^ 64 ≤ decimal_from 0 w → t ≡ false
    not_below true e le = absurd (let lt = ltb-true (decimal_from 0 w) (2 ^ 64) e in omega arith)
    not_below false e le = refl

    ends : (t : Bool) → (if t && false then Some (decimal_from 0 w) else None) ≡ None
    ends true = refl
    ends false = refl

-- a word that was read to its end
pub read_word : (w : List ℕ) (n i : ℕ) → length w ≤ i → 0 < length w → (1 < length w → get_or w 0 0 ≢ 48) → list_all is_digit w ≡ list_all is_digit (drop i w) → decimal_from 0 w ≡ decimal_from n (drop i w) → n < 2 ^ 64 → Some n ≡ value_of_word w
read_word w n i le some lead d e lt =
    let end = nothing_left w i le in
    let is_n : decimal_from 0 w ≡ n = e ∙ ap (decimal_from n) end in
    sym
    (ap (λ t. if t && nat_lt (decimal_from 0 w) (2 ^ 64) then Some (decimal_from 0 w) else None) (shape w some lead (d ∙ ap (list_all is_digit) end))
    ∙ ap (λ k. if nat_lt k (2 ^ 64) then Some k else None) is_n
    ∙ ap (λ t. if t then Some n else None) (lt-ltb n (2 ^ 64) lt))
  where
    shape : (w : List ℕ) → 0 < length w → (1 < length w → get_or w 0 0 ≢ 48) → list_all is_digit w ≡ true → is_decimal w ≡ true
    shape [] some lead d = absurd (omega arith)
    shape (b ∷ []) some lead d = first_of (is_digit b) true d
    shape (b ∷ c ∷ bs) some lead d =
        both_pass (is_digit b) (not (b == 48) && list_all is_digit (c ∷ bs)) (first_of (is_digit b) (list_all is_digit (c ∷ bs)) d)
        (both_pass (not (b == 48)) (list_all is_digit (c ∷ bs)) (unlike (b == 48) refl) (second_of (is_digit b) (list_all is_digit (c ∷ bs)) d))
      where
        unlike : (t : Bool) → (b == 48) ≡ t → not t ≡ true
        unlike true e = absurd (lead (omega arith) (eqb-true b 48 e))
        unlike false e = refl

-- a variable that was found is there
pub found_there : (ds : List Tree.Declaration) (x : ℕ) (d : Tree.Declaration) → slice_get ds x ≡ Some d → x < length ds
found_there [] x d e = absurd (cc e)
found_there (c ∷ ds) zero d e = omega arith
found_there (c ∷ ds) (suc x) d e = let r = found_there ds x d e in omega arith

-- the words of bytes up to the first space, and behind it
pub cut_words : (bytes : List ℕ) (n : ℕ) → IsBefore 32 bytes n → split_from [] bytes ≡ take n bytes ∷ words_behind (drop n bytes)
cut_words bytes n b = go (nat_lt n (length bytes)) refl
  where
    go : (t : Bool) → nat_lt n (length bytes) ≡ t → split_from [] bytes ≡ take n bytes ∷ words_behind (drop n bytes)
    go true e =
        let lt = ltb-true n (length bytes) e in
        let cut : drop n bytes ≡ 32 ∷ drop (suc n) bytes = drop-cons bytes n 0 lt ∙ ap (λ c. c ∷ drop (suc n) bytes) (b.there lt) in
        ap (split_from []) (sym (take-append-drop n bytes) ∙ ap (λ l. take n bytes ++ l) cut)
        ∙ split_at_space [] (take n bytes) (drop (suc n) bytes) b.none
        ∙ ap (λ l. take n bytes ∷ words_behind l) (sym cut)
    go false e =
        let le = ltb-false n (length bytes) e in
        let same : take n bytes ≡ bytes = take_all n bytes le in
        ap (split_from []) (sym same)
        ∙ split_at_end [] (take n bytes) b.none
        ∙ ap (λ l. take n bytes ∷ words_behind l) (sym (nothing_left bytes n le))

pub cut_starts : (bytes : List ℕ) (n : ℕ) → IsBefore 32 bytes n → StartsWithSpace (drop n bytes)
cut_starts bytes n b = go (nat_lt n (length bytes)) refl
  where
    go : (t : Bool) → nat_lt n (length bytes) ≡ t → StartsWithSpace (drop n bytes)
    go true e = let lt = ltb-true n (length bytes) e in subst StartsWithSpace (sym (drop-cons bytes n 0 lt)) (b.there lt)
    go false e = subst StartsWithSpace (sym (nothing_left bytes n (ltb-false n (length bytes) e))) tt

-- as many words as spaces
pub words_count : (text : List ℕ) → StartsWithSpace text → length (words_behind text) ≡ count_by (λ b. b == 32) text
words_count [] s = refl
words_count (b ∷ bs) s = split_count [] bs ∙ ap (λ t. (if t then 1 else 0) + count_by (λ b. b == 32) bs) (sym (eq-eqb b 32 s)) ∙ sym (sum_by-cons (λ b. if b == 32 then 1 else 0) b bs)
  where
    split_count : (word bs : List ℕ) → length (split_from word bs) ≡ 1 + count_by (λ b. b == 32) bs
    split_count word [] = refl
    split_count word (b ∷ bs) = go (b == 32) (split_count [] bs) (split_count (word ++ b ∷ []) bs) ∙ ap (λ n. 1 + n) (sym (sum_by-cons (λ b. if b == 32 then 1 else 0) b bs))
      where
        go : (t : Bool) → length (split_from [] bs) ≡ 1 + count_by (λ b. b == 32) bs → length (split_from (word ++ b ∷ []) bs) ≡ 1 + count_by (λ b. b == 32) bs
            → length (if t then word ∷ split_from [] bs else split_from (word ++ b ∷ []) bs) ≡ 1 + ((if t then 1 else 0) + count_by (λ b. b == 32) bs)
        go true e f = omega arith
        go false e f = omega arith

-- a word that has a value
pub word_value : (w : List ℕ) (v : ℕ) → value_of_word w ≡ Some v → (is_value w ≡ true) × (v ≡ decimal_from 0 w)
word_value w v e = go (is_value w) refl e
  where
    go : (t : Bool) → is_value w ≡ t → (if t then Some (decimal_from 0 w) else None) ≡ Some v → (is_value w ≡ true) × (v ≡ decimal_from 0 w)
    go true e f = (e, cc)
    go false e f = absurd (cc f)

pub word_none : (w : List ℕ) → value_of_word w ≡ None → is_value w ≡ false
word_none w e = go (is_value w) e
  where
    go : (t : Bool) → (if t then Some (decimal_from 0 w) else None) ≡ None → t ≡ false
    go true f = absurd (cc f)
    go false f = refl

-- what is known of the values that were read, with these bytes left
pub record Reading (text values rest : List ℕ) : Type 0 where
  pub starts : StartsWithSpace rest
  pub text_is : text ≡ flat_map value_text values ++ rest
  pub right : list_all is_value (words_behind text) ≡ list_all is_value (words_behind rest)
  pub count : length (words_behind text) ≡ length values + length (words_behind rest)
  pub small : All (λ v. v < 2 ^ 64) values

pub nothing_read : (text : List ℕ) → StartsWithSpace text → Reading text [] text
nothing_read text s = record { starts = s; text_is = refl; right = refl; count = omega arith; small = λ k d lt. absurd (omega arith) }

module _ (text values rest words : List ℕ) (first n : ℕ) (r : Reading text values rest) (cut : rest ≡ first ∷ words) (b : IsBefore 32 words n) where
  space : first ≡ 32
  space = let P : List ℕ → Type 0 = StartsWithSpace in subst P cut r.starts

  behind : words_behind rest ≡ take n words ∷ words_behind (drop n words)
  behind = ap words_behind cut ∙ cut_words words n b

  pub not_read : value_of_word (take n words) ≡ None → list_all is_value (words_behind text) ≡ false
  not_read e = r.right ∙ ap (list_all is_value) behind ∙ ap (λ t. t && list_all is_value (words_behind (drop n words))) (word_none (take n words) e)

  pub one_read : (v : ℕ) → v < 2 ^ 64 → value_of_word (take n words) ≡ Some v → Reading text (values ++ v ∷ []) (drop n words)
  one_read v small e =
      let is = word_value (take n words) v e in
      let written : take n words ≡ decimal v = sym (decimal_of_word (take n words) is.0) ∙ ap decimal (sym is.1) in
      record {
        starts = cut_starts words n b;
        text_is =
            r.text_is
            ∙ ap (λ l. flat_map value_text values ++ l) (cut ∙ ap (λ c. c ∷ words) space ∙ ap (λ l. 32 ∷ l) (sym (take-append-drop n words) ∙ ap (λ w. w ++ drop n words) written))
            ∙ sym (append_assoc (flat_map value_text values) (value_text v) (drop n words))
            ∙ ap (λ l. l ++ drop n words) (ap (λ l. flat_map value_text values ++ l) (sym (append-nil (value_text v))) ∙ sym (flat_map-append value_text values (v ∷ [])));
        right = r.right ∙ ap (list_all is_value) behind ∙ ap (λ t. t && list_all is_value (words_behind (drop n words))) is.0;
        count = r.count ∙ ap (λ l. length values + length l) behind ∙ counted;
        small = All-append (λ v. v < 2 ^ 64) values (v ∷ []) r.small (λ k d lt. let z : k ≡ 0 = omega arith in subst (λ k. slice_index_or (v ∷ []) k d < 2 ^ 64) (sym z) small);
      }
    where
      counted : length values + length (take n words ∷ words_behind (drop n words)) ≡ length (values ++ v ∷ []) + length (words_behind (drop n words))
      counted = omega (arith, length-append values (v ∷ []))

pub all_read : (text values rest : List ℕ) → Reading text values rest → length rest ≡ 0 → AreRead text values
all_read text values [] r e = record {
  bytes = r.text_is ∙ append-nil (flat_map value_text values);
  right = r.right;
  count = r.count ∙ (let e : length values + 0 ≡ length values = omega arith in e);
  small = r.small;
}
all_read text values (b ∷ rest) r e = absurd (omega arith)

-- a line's judgement, step by step
module _ (ds : List Tree.Declaration) (seen : List Bool) (line name text : List ℕ) (n : ℕ) (formed : is_formed line ≡ true) (b : IsBefore 32 line n) (named : name ≡ take n line) (behind : text ≡ drop n line) where
  words : split_from [] line ≡ name ∷ words_behind text
  words = cut_words line n b ∙ ap (λ w. w ∷ words_behind (drop n line)) (sym named) ∙ ap (λ t. name ∷ words_behind t) (sym behind)

  pub text_starts : StartsWithSpace text
  text_starts = subst StartsWithSpace (sym behind) (cut_starts line n b)

  judged_name : (marked : List ℕ) → judged ds marked line ≡ judged_at marked (declared_from 0 ds name) (words_behind text)
  judged_name marked = ap (λ t. if t then judged_words ds marked (split_from [] line) else Faulty WrongForm) formed ∙ ap (judged_words ds marked) words

  pub unknown : declared_from 0 ds name ≡ None → (marked : List ℕ) → Marks seen marked → judged ds marked line ≡ Faulty UnknownName
  unknown e marked m = judged_name marked ∙ ap (λ o. judged_at marked o (words_behind text)) e

  module _ (x : ℕ) (f : IsFound ds name x) where
    abbrev last : Bool → Judged
    last t = if t then Right x else Faulty WrongNumber

    abbrev counted : Bool → Judged
    counted t = if not t then Faulty WrongCount else last (list_all is_value (words_behind text))

    judged_found : (marked : List ℕ) (twice : Bool) → Marks seen marked → slice_index_or seen x false ≡ twice → judged ds marked line ≡ (if twice then Faulty NamedTwice else counted (length (words_behind text) == size f.declaration.lengths))
    judged_found marked twice m t =
        judged_name marked
        ∙ ap (λ o. judged_at marked o (words_behind text)) f.first
        ∙ ap (λ t. if t then Faulty NamedTwice else counted (length (words_behind text) == size f.declaration.lengths)) (m.each x ∙ t)

    pub named_twice : slice_index_or seen x false ≡ true → (marked : List ℕ) → Marks seen marked → judged ds marked line ≡ Faulty NamedTwice
    named_twice t marked m = judged_found marked true m t

    pub wrong_count : slice_index_or seen x false ≡ false → count_by (λ b. b == 32) text ≢ size f.declaration.lengths → (marked : List ℕ) → Marks seen marked → judged ds marked line ≡ Faulty WrongCount
    wrong_count t c marked m = judged_found marked false m t ∙ ap counted (unlike (length (words_behind text) == size f.declaration.lengths) refl)
      where
        unlike : (t : Bool) → (length (words_behind text) == size f.declaration.lengths) ≡ t → t ≡ false
        unlike true e = absurd (c (sym (words_count text text_starts) ∙ eqb-true _ _ e))
        unlike false e = refl

    module _ (t : slice_index_or seen x false ≡ false) (c : count_by (λ b. b == 32) text ≡ size f.declaration.lengths) where
      judged_count : (marked : List ℕ) → Marks seen marked → judged ds marked line ≡ last (list_all is_value (words_behind text))
      judged_count marked m = judged_found marked false m t ∙ ap counted (eq-eqb _ _ (words_count text text_starts ∙ c))

      pub wrong_number : list_all is_value (words_behind text) ≡ false → (marked : List ℕ) → Marks seen marked → judged ds marked line ≡ Faulty WrongNumber
      wrong_number e marked m = judged_count marked m ∙ ap last e

      pub right_line : (values : List ℕ) → AreRead text values → IsRight ds seen line x values
      right_line values r = record {
        judges = λ marked m. judged_count marked m ∙ ap last r.right;
        text =
            ap (λ l. l ++ 10 ∷ []) (sym (take-append-drop n line) ∙ ap (λ w. w ++ drop n line) (sym named) ∙ ap (λ l. name ++ l) (sym behind ∙ r.bytes) ∙ ap (λ w. w ++ flat_map value_text values) (sym f.named))
            ∙ ap (λ o. name_of o ++ flat_map value_text values ++ 10 ∷ []) (sym f.at);
        given = (f.declaration, f.at, sym r.count ∙ words_count text text_starts ∙ c, r.small);
        new = t;
      }

-- as many as there were
pub there_in : {A B : Type 0} (f : A → B) (xs : List A) → length (map f xs) ≡ length xs
there_in f [] = refl
there_in f (x ∷ xs) = ap suc (there_in f xs)
