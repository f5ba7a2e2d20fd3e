-- An input that gives values has no faulty line.
use Rattle.std.specs.Prelude.{ℕ, zero, suc, Bool, true, false, not, ◌≡◌, ◌≢◌, ◌==◌, ◌+◌, ◌<◌, ◌||◌, ◌^◌, nat_eq, if◌then◌else◌, List, [], ◌∷◌, ◌++◌, length, map, flat_map, Some, None, slice_get, All}
use Rattle.std.specs.List.{list_all, list_any}
use Rattle.std.specs.Fmt.{decimal}
use Rattle.std.proofs.Common.{refl, sym, ap, ◌∙◌, subst, arith, append_assoc, append-nil}
use Rattle.std.proofs.lemmas.Bool.{eq-eqb, eqb-true}
use Rattle.std.proofs.lemmas.Bool.Decides.{nat_tests}
use Rattle.std.proofs.lemmas.Fmt.{digits_decimal, decimal_nonempty}
use Rattle.std.proofs.lemmas.List.Folds.{list_all-append}
use Rattle.std.specs.Cmp.Lexicographic.{same_text}
use Rattle.semantics.specs.Tree.{Declaration, Name}
use Rattle.semantics.specs.Source.Cuts.{is_digit, is_letter, is_word_byte, is_printable, is_name}
use Rattle.semantics.specs.Source.Scope.{same_name}
use Rattle.semantics.specs.Meaning.Places.{size}
use Rattle.semantics.specs.Meaning.Output.{Given, IsInput, AreGiven, NotAmong, input_text, name_of}
use Rattle.semantics.specs.Meaning.InputFault.{WrongForm, NamedTwice, WrongCount, WrongNumber, Right, Faulty, is_empty, is_formed, is_value, split_from, declared_from, judged_at, judged_words, judged, by_judged, fault_from, first_fault}
use Rattle.semantics.proofs.EraseTokenLaw.{first_of, second_of}
use Rattle.seqrun_io.specs.Lines.{value_text}
use Rattle.seqrun_io.specs.Reading.{IsOther, AreVariables}
use Rattle.seqrun_io.proofs.InputWords.{both_pass, numerals, value_of_decimal, split_at_end, split_at_space}

negated : (t : Bool) → not t ≡ true → t ≡ false
negated true e = absurd (cc e)
negated false e = refl

-- no line end in it
abbrev pub is_inside : List ℕ → Bool
is_inside w = list_all (λ b. not (b == 10)) w

-- bytes of a line are passed one by one
pass : (ds : List Declaration) (n : ℕ) (seen line w rest : List ℕ) → is_inside w ≡ true → fault_from ds n seen line (w ++ rest) ≡ fault_from ds n seen (line ++ w) rest
pass ds n seen line [] rest e = ap (λ l. fault_from ds n seen l rest) (sym (append-nil line))
pass ds n seen line (b ∷ w) rest e =
    ap (λ t. if t then by_judged n (judged ds seen line) (λ x. fault_from ds (suc n) (x ∷ seen) [] (w ++ rest)) else fault_from ds n seen (line ++ b ∷ []) (w ++ rest)) (negated (b == 10) (first_of (not (b == 10)) (is_inside w) e))
    ∙ pass ds n seen (line ++ b ∷ []) w rest (second_of (not (b == 10)) (is_inside w) e)
    ∙ ap (λ l. fault_from ds n seen l rest) (append_assoc line (b ∷ []) w)

-- a whole line
pub at_line : (ds : List Declaration) (n : ℕ) (seen w rest : List ℕ) → is_inside w ≡ true → fault_from ds n seen [] (w ++ 10 ∷ rest) ≡ by_judged n (judged ds seen w) (λ x. fault_from ds (suc n) (x ∷ seen) [] rest)
at_line ds n seen w rest e = pass ds n seen [] w (10 ∷ rest) e

-- bytes without a line end
pub at_end : (ds : List Declaration) (n : ℕ) (seen w : List ℕ) → is_inside w ≡ true → 0 < length w → fault_from ds n seen [] w ≡ Some (n, WrongForm)
at_end ds n seen w e lt = ap (fault_from ds n seen []) (sym (append-nil w)) ∙ pass ds n seen [] w [] e ∙ ap (λ t. if t then None else Some (n, WrongForm)) (some w lt)
  where
    some : (w : List ℕ) → 0 < length w → is_empty w ≡ false
    some [] lt = absurd (omega arith)
    some (b ∷ w) lt = refl

-- what each byte of a name is
word_byte : (b : ℕ) → is_word_byte b ≡ true → is_printable b ≡ true
word_byte b e = grind (arith, nat_tests)

word_space : (b : ℕ) → is_word_byte b ≡ true → not (b == 32) ≡ true
word_space b e = grind (arith, nat_tests)

digit_word : (b : ℕ) → is_digit b ≡ true → is_word_byte b ≡ true
digit_word b e = ap (λ t. is_letter b || (t || (b == 95))) e ∙ ends (is_letter b)
  where
    ends : (t : Bool) → (t || true) ≡ true
    ends true = refl
    ends false = refl

letter_word : (b : ℕ) → is_letter b ≡ true → is_word_byte b ≡ true
letter_word b e = ap (λ t. t || (is_digit b || (b == 95))) e

every : (p q : ℕ → Bool) → ((b : ℕ) → p b ≡ true → q b ≡ true) → (w : List ℕ) → list_all p w ≡ true → list_all q w ≡ true
every p q f [] e = refl
every p q f (b ∷ w) e = both_pass (q b) (list_all q w) (f b (first_of (p b) (list_all p w) e)) (every p q f w (second_of (p b) (list_all p w) e))

-- a word of a name's bytes, which is not empty
record IsWord (w : List ℕ) : Type 0 where
  bytes : list_all is_word_byte w ≡ true
  some : is_empty w ≡ false

name_word : (w : List ℕ) → is_name w ≡ true → IsWord w
name_word [] e = absurd (cc e)
name_word (b ∷ bs) e = record { bytes = both_pass (is_word_byte b) (list_all is_word_byte bs) (letter_word b (first_of (is_letter b) (list_all is_word_byte bs) e)) (second_of (is_letter b) (list_all is_word_byte bs) e); some = refl }

decimal_word : (v : ℕ) → v < 2 ^ 64 → IsWord (decimal v)
decimal_word v lt = record { bytes = every is_digit is_word_byte digit_word (decimal v) (digits_decimal numerals v lt); some = filled (decimal v) (decimal_nonempty v lt) }
  where
    filled : (w : List ℕ) → 0 < length w → is_empty w ≡ false
    filled [] lt = absurd (omega arith)
    filled (b ∷ w) lt = refl

abbrev pub Smalls : List ℕ → Type 0
Smalls [] = Unit {0}
Smalls (v ∷ vs) = (v < 2 ^ 64) × Smalls vs

pub smalls : (vs : List ℕ) → All (λ v. v < 2 ^ 64) vs → Smalls vs
smalls [] h = tt
smalls (v ∷ vs) h = (h 0 0 (omega arith), smalls vs (λ k d lt. h (suc k) d (omega arith)))

-- the words of a line
line_words : (w vs : List ℕ) → IsWord w → Smalls vs → split_from [] (w ++ flat_map value_text vs) ≡ w ∷ map decimal vs
line_words w [] k s = ap (split_from []) (append-nil w) ∙ split_at_end [] w (every is_word_byte (λ b. not (b == 32)) word_space w k.bytes)
line_words w (v ∷ vs) k s =
    split_at_space [] w (decimal v ++ flat_map value_text vs) (every is_word_byte (λ b. not (b == 32)) word_space w k.bytes)
    ∙ ap (λ l. w ∷ l) (line_words (decimal v) vs (decimal_word v s.0) s.1)

-- its bytes
line_prints : (w vs : List ℕ) → IsWord w → Smalls vs → list_all is_printable (w ++ flat_map value_text vs) ≡ true
line_prints w [] k s = ap (list_all is_printable) (append-nil w) ∙ every is_word_byte is_printable word_byte w k.bytes
line_prints w (v ∷ vs) k s =
    list_all-append is_printable w (32 ∷ (decimal v ++ flat_map value_text vs))
    ∙ both_pass (list_all is_printable w) (list_all is_printable (decimal v ++ flat_map value_text vs)) (every is_word_byte is_printable word_byte w k.bytes) (line_prints (decimal v) vs (decimal_word v s.0) s.1)

line_full : (vs : List ℕ) → Smalls vs → list_all (λ w. not (is_empty w)) (map decimal vs) ≡ true
line_full [] s = refl
line_full (v ∷ vs) s = both_pass (not (is_empty (decimal v))) (list_all (λ w. not (is_empty w)) (map decimal vs)) (ap not ((decimal_word v s.0).some)) (line_full vs s.1)

line_values : (vs : List ℕ) → Smalls vs → list_all is_value (map decimal vs) ≡ true
line_values [] s = refl
line_values (v ∷ vs) s = both_pass (is_value (decimal v)) (list_all is_value (map decimal vs)) (value_of_decimal v s.0) (line_values vs s.1)

map_count : (vs : List ℕ) → length (map decimal vs) ≡ length vs
map_count [] = refl
map_count (v ∷ vs) = ap suc (map_count vs)

line_formed : (w vs : List ℕ) → IsWord w → Smalls vs → is_formed (w ++ flat_map value_text vs) ≡ true
line_formed w vs k s =
    both_pass (list_all is_printable (w ++ flat_map value_text vs)) (list_all (λ w. not (is_empty w)) (split_from [] (w ++ flat_map value_text vs)))
    (line_prints w vs k s)
    (ap (list_all (λ w. not (is_empty w))) (line_words w vs k s)
    ∙ both_pass (not (is_empty w)) (list_all (λ w. not (is_empty w)) (map decimal vs)) (ap not k.some) (line_full vs s))

-- a name is the same as itself
pub itself : (n : Name) → same_name n n ≡ true
itself [] = refl
itself (b ∷ n) = both_pass (b == b) (same_name n n) (eq-eqb b b refl) (itself n)

-- a declaration is found by its name
name_found : (x i : ℕ) (ds : List Declaration) (d : Declaration) → AreVariables ds → slice_get ds i ≡ Some d → (is_name d.name ≡ true) × (declared_from x ds d.name ≡ Some (x + i, size d.lengths))
name_found x i [] d a e = absurd (cc e)
name_found x zero (c ∷ ds) d a e =
    let same : c ≡ d = cc in (
      subst (λ c. is_name c.name ≡ true) same a.0,
      ap (λ c. declared_from x (c ∷ ds) d.name) same
          ∙ ap (λ t. if t then Some (x, size d.lengths) else declared_from (suc x) ds d.name) (itself d.name)
          ∙ ap (λ n. Some (n, size d.lengths)) (let e : x ≡ x + 0 = omega arith in e),
    )
name_found x (suc i) (c ∷ ds) d a e =
    let r = name_found (suc x) i ds d a.3 e in (
      r.0,
      ap (λ t. if t then Some (x, size c.lengths) else declared_from (suc x) ds d.name) (unlike (same_name c.name d.name) refl (apart ds i a.1 e))
          ∙ r.1
          ∙ ap (λ n. Some (n, size d.lengths)) (let e : suc x + i ≡ x + suc i = omega arith in e),
    )
  where
    apart : (ds : List Declaration) (i : ℕ) → IsOther c.name ds → slice_get ds i ≡ Some d → c.name ≢ d.name
    apart [] i o e = absurd (cc e)
    apart (b ∷ ds) zero o e = let same : b ≡ d = cc in subst (λ b. c.name ≢ b.name) same o.0
    apart (b ∷ ds) (suc i) o e = apart ds i o.1 e

    unlike : (t : Bool) → same_name c.name d.name ≡ t → c.name ≢ d.name → t ≡ false
    unlike true e o = absurd (o (same_text c.name d.name (sym e)))
    unlike false e o = refl

-- a right line
pub line_right : (ds : List Declaration) (seen : List ℕ) (x : ℕ) (vs : List ℕ) (d : Declaration) → AreVariables ds → slice_get ds x ≡ Some d → length vs ≡ size d.lengths → Smalls vs → list_any (nat_eq x) seen ≡ false
    → judged ds seen (d.name ++ flat_map value_text vs) ≡ Right x
line_right ds seen x vs d a at count s new =
    let found = name_found 0 x ds d a at in
    let k = name_word d.name found.0 in
    ap (λ t. if t then judged_words ds seen (split_from [] (d.name ++ flat_map value_text vs)) else Faulty WrongForm) (line_formed d.name vs k s)
    ∙ ap (judged_words ds seen) (line_words d.name vs k s)
    ∙ ap (λ o. judged_at seen o (map decimal vs)) (found.1 ∙ ap (λ n. Some (n, size d.lengths)) (let e : 0 + x ≡ x = omega arith in e))
    ∙ ap (λ t. if t then Faulty NamedTwice else (if not (length (map decimal vs) == size d.lengths) then Faulty WrongCount else (if list_all is_value (map decimal vs) then Right x else Faulty WrongNumber))) new
    ∙ ap (λ t. if not t then Faulty WrongCount else (if list_all is_value (map decimal vs) then Right x else Faulty WrongNumber)) (eq-eqb (length (map decimal vs)) (size d.lengths) (map_count vs ∙ count))
    ∙ ap (λ t. if t then Right x else Faulty WrongNumber) (line_values vs s)

not_seen_more : (x y : ℕ) (seen : List ℕ) → x ≢ y → list_any (nat_eq x) seen ≡ false → list_any (nat_eq x) (y ∷ seen) ≡ false
not_seen_more x y seen apart e = ap (λ t. t || list_any (nat_eq x) seen) (unlike (x == y) refl) ∙ e
  where
    unlike : (t : Bool) → (x == y) ≡ t → t ≡ false
    unlike true e = absurd (apart (eqb-true x y e))
    unlike false e = refl

-- none of these was seen
abbrev Unseen : List ℕ → Given → Type 0
Unseen seen [] = Unit {0}
Unseen seen (g ∷ gs) = (list_any (nat_eq g.0) seen ≡ false) × Unseen seen gs

unseen_more : (y : ℕ) (seen : List ℕ) (given : Given) → NotAmong y given → Unseen seen given → Unseen (y ∷ seen) given
unseen_more y seen [] a u = tt
unseen_more y seen (g ∷ gs) a u = (not_seen_more g.0 y seen (λ e. a.0 (sym e)) u.0, unseen_more y seen gs a.1 u.1)

inside_line : (w vs : List ℕ) → IsWord w → Smalls vs → is_inside (w ++ flat_map value_text vs) ≡ true
inside_line w vs k s = every is_printable (λ b. not (b == 10)) print_inside (w ++ flat_map value_text vs) (line_prints w vs k s)
  where
    print_inside : (b : ℕ) → is_printable b ≡ true → not (b == 10) ≡ true
    print_inside b e = grind (arith, nat_tests)

no_fault_from : (ds : List Declaration) (n : ℕ) (seen : List ℕ) (given : Given) → AreVariables ds → AreGiven ds given → Unseen seen given → fault_from ds n seen [] (input_text ds given) ≡ None
no_fault_from ds n seen [] a g u = refl
no_fault_from ds n seen (h ∷ given) a g u =
    let d = g.0.0 in
    let found = name_found 0 h.0 ds d a g.0.1 in
    let s : Smalls h.1 = smalls h.1 g.0.3 in
    ap (fault_from ds n seen []) (ap (λ o. (name_of o ++ flat_map (λ v. 32 ∷ decimal v) h.1 ++ 10 ∷ []) ++ input_text ds given) g.0.1 ∙ append_assoc (d.name ++ flat_map value_text h.1) (10 ∷ []) (input_text ds given))
    ∙ at_line ds n seen (d.name ++ flat_map value_text h.1) (input_text ds given) (inside_line d.name h.1 (name_word d.name found.0) s)
    ∙ ap (λ j. by_judged n j (λ x. fault_from ds (suc n) (x ∷ seen) [] (input_text ds given))) (line_right ds seen h.0 h.1 d a g.0.1 g.0.2 s u.0)
    ∙ no_fault_from ds (suc n) (h.0 ∷ seen) given a g.2 (unseen_more h.0 seen given g.1 u.1)

-- an input has no faulty line
pub no_fault : (ds : List Declaration) (bytes : List ℕ) (given : Given) → AreVariables ds → IsInput ds bytes given → first_fault ds bytes ≡ None
no_fault ds bytes given a i = ap (fault_from ds 1 [] []) i.text ∙ no_fault_from ds 1 [] given a i.each (none given)
  where
    none : (given : Given) → Unseen [] given
    none [] = tt
    none (g ∷ gs) = (refl, none gs)
