-- Whatever the grammar of directive lines has is read so.
use Rattle.std.specs.Prelude.{ℕ, zero, suc, Bool, true, false, not, ◌||◌, ◌==◌, ◌&&◌, ◌≡◌, ◌<◌, ◌≤◌, ◌+◌, List, [], ◌∷◌, ◌++◌, length, take, drop, Option, Some, None, ℤ, pos, neg_ℤ}
use Rattle.std.specs.List.{list_all}
use Rattle.std.proofs.Common.{cond, refl, sym, ap, ◌∙◌, arith}
use Rattle.std.proofs.lemmas.Bool.{eqb-true, cond-true, cond-false}
use Rattle.std.proofs.lemmas.List.{append_assoc, length-append}
use Rattle.std.proofs.Math.Seq.{take-append_seam, drop-append_seam}
use Rattle.semantics.specs.Tree.{Name, Suffix, Bare, Ull}
use Rattle.semantics.specs.Source.Token.{Token, Word, Punctuator, CloseParen, Comma}
use Rattle.semantics.specs.Source.Text.{is_blank, skip_blanks, behind, pragma_word, omp_word, is_hash_rest, is_directive_line, behind_omp}
use Rattle.semantics.specs.Source.Cuts.{is_digit, is_letter, is_word_byte, is_name, is_decimal, decimal_from, suffix_text}
use Rattle.semantics.specs.Source.Typing.{in_range}
use Rattle.semantics.specs.Source.Scope.{is_reserved}
use Rattle.semantics.specs.Directives.Directive as meant
use Rattle.semantics.specs.Directives.Directive.{Directive, Clause}
use Rattle.semantics.specs.Directives.DirectiveGrammar as grammar
use Rattle.semantics.specs.Directives.DirectiveGrammar.{ends_run, with_mark, with_run, words_from, words, is_list_name, on_parallel_for, on_parallel, on_for, ReadsElement, ReadsElements, ReadsDirective, ReadsLine}
use Rattle.cparse_grammar.specs.Reading.{◌>>=◌, chosen}
use Rattle.cparse_grammar.specs.NextTokens as ahead
use Rattle.cparse_grammar.proofs.Binds.{bind_to, first_true, second_true, both_true}
use Rattle.pragma_clause.specs.ClauseReader as clause_reader
use Rattle.pragma_clause.specs.ClauseReader.{name_in, listed}
use Rattle.pragma_clause.specs.DirectiveReader as reader
use Rattle.pragma_clause.specs.DirectiveReader.{sign_at, digits_length, offset_in, element, vector}
use Rattle.pragma_clause.proofs.Loops.{listed_go, listed_close}
use Rattle.pragma_clause.proofs.ClauseSound.{append_end}
use Rattle.pragma_clause.proofs.ClauseComplete.{name_read, no_for_first, directive_clauses_read}

-- no byte of a name is a sign
not_sign : (b : ℕ) → is_word_byte b ≡ true → ((b == 43) || (b == 45)) ≡ false
not_sign b h = go (b == 43) (b == 45) refl refl
  where
    go : (p q : Bool) → (b == 43) ≡ p → (b == 45) ≡ q → (p || q) ≡ false
    go true q f g = let d : true ≡ false = sym h ∙ ap is_word_byte (eqb-true b 43 f) in absurd (cc)
    go false true f g = let d : true ≡ false = sym h ∙ ap is_word_byte (eqb-true b 45 g) in absurd (cc)
    go false false f g = refl

sign_behind : (x rest : List ℕ) → list_all is_word_byte x ≡ true → sign_at rest ≡ 0 → sign_at (x ++ rest) ≡ length x
sign_behind [] rest h e = e
sign_behind (b ∷ x) rest h e =
    cond-false _ _ _ (not_sign b (first_true (is_word_byte b) _ h)) ∙ ap suc (sign_behind x rest (second_true (is_word_byte b) _ h) e)

name_bytes : (x : Name) → is_list_name x ≡ true → list_all is_word_byte x ≡ true
name_bytes [] h = refl
name_bytes (b ∷ x) h =
    let named : (is_letter b && list_all is_word_byte x) ≡ true = first_true (is_name (b ∷ x)) (not (is_reserved (b ∷ x))) h in
    let letter : is_word_byte b ≡ true = ap (λ t. t || (is_digit b || (b == 95))) (first_true (is_letter b) _ named) in
    both_true letter (second_true (is_letter b) _ named)

-- an element in two parts
abbrev in_parts : List ℕ → List ℕ → Option (Name × ℤ)
in_parts front rest = name_in front >>= λ x. offset_in rest >>= λ n. Some (x, n)

element_parts : (x : Name) (rest : List ℕ) (n : ℤ) → is_list_name x ≡ true → sign_at rest ≡ 0 → offset_in rest ≡ Some n → reader.element_in (x ++ rest) ≡ Some (x, n)
element_parts x rest n h s e =
    ap (λ k. in_parts (take k (x ++ rest)) (drop k (x ++ rest))) (sign_behind x rest (name_bytes x h) s)
    ∙ ap (λ front. in_parts front (drop (length x) (x ++ rest))) (take-append_seam x rest)
    ∙ ap (in_parts x) (drop-append_seam x rest)
    ∙ bind_to _ (cond-true _ _ _ h) ∙ bind_to _ e

all_digits : (ds : List ℕ) → is_decimal ds ≡ true → list_all is_digit ds ≡ true
all_digits [] h = refl
all_digits (b ∷ []) h = both_true h refl
all_digits (b ∷ c ∷ ds) h = both_true (first_true (is_digit b) _ h) (second_true (not (b == 48)) _ (second_true (is_digit b) _ h))

digits_behind : (ds rest : List ℕ) → list_all is_digit ds ≡ true → digits_length rest ≡ 0 → digits_length (ds ++ rest) ≡ length ds
digits_behind [] rest h e = e
digits_behind (b ∷ ds) rest h e = cond-true _ _ _ (first_true (is_digit b) _ h) ∙ ap suc (digits_behind ds rest (second_true (is_digit b) _ h) e)

no_digit : (suffix : Suffix) → digits_length (suffix_text suffix) ≡ 0
no_digit Bare = refl
no_digit Ull = refl

suffix_read : (suffix : Suffix) → reader.suffix_in (suffix_text suffix) ≡ Some suffix
suffix_read Bare = refl
suffix_read Ull = refl

-- a literal in two parts
abbrev literal_parts : List ℕ → List ℕ → Option ℕ
literal_parts ds rest = reader.suffix_in rest >>= λ suffix. reader.value_in ds suffix

literal_read : (ds : List ℕ) (suffix : Suffix) → is_decimal ds ≡ true → in_range suffix (decimal_from 0 ds) ≡ true → reader.literal_in (ds ++ suffix_text suffix) ≡ Some (decimal_from 0 ds)
literal_read ds suffix d r =
    let bs : List ℕ = ds ++ suffix_text suffix in
    ap (λ k. literal_parts (take k bs) (drop k bs)) (digits_behind ds (suffix_text suffix) (all_digits ds d) (no_digit suffix))
    ∙ ap (λ front. literal_parts front (drop (length ds) bs)) (take-append_seam ds (suffix_text suffix))
    ∙ ap (literal_parts ds) (drop-append_seam ds (suffix_text suffix))
    ∙ bind_to _ (suffix_read suffix) ∙ cond-true _ _ _ d ∙ cond-true _ _ _ r

element_in_read : {w : List ℕ} {e : Name × ℤ} → ReadsElement w e → reader.element_in w ≡ Some e
element_in_read (grammar.here {w = w} h) = ap reader.element_in (append_end w) ∙ element_parts w [] (pos 0) h refl refl
element_in_read (grammar.above {w = w} ds suffix h d r) =
    element_parts w (43 ∷ (ds ++ suffix_text suffix)) (pos (decimal_from 0 ds)) h refl (bind_to _ (literal_read ds suffix d r))
element_in_read (grammar.below {w = w} ds suffix h d r) =
    element_parts w (45 ∷ (ds ++ suffix_text suffix)) (neg_ℤ (pos (decimal_from 0 ds))) h refl (bind_to _ (literal_read ds suffix d r))

element_read : (w : List ℕ) (e : Name × ℤ) (us : List Token) → ReadsElement w e → element (Word w ∷ us) ≡ Some (e, us)
element_read w e us r = bind_to _ (element_in_read r)

elements_read : {ts : List Token} {es : List (Name × ℤ)} → ReadsElements ts es → (n : ℕ) (ys : List (Name × ℤ)) (us : List Token) → length ts ≤ n → ahead.comma us ≡ None → listed element n ys (ts ++ us) ≡ Some (ys ++ es, us)
elements_read (grammar.only_element h) zero ys us le k = absurd (omega arith)
elements_read (grammar.only_element {w = w} {e = e} h) (suc n) ys us le k = listed_close element n ys (Word w ∷ us) (e, us) (element_read w e us h) k
elements_read (grammar.element h r) zero ys us le k = absurd (omega arith)
elements_read (grammar.element {w = w} {ts = ts} {e = e} {es = es} h r) (suc n) ys us le k =
    let fewer : length ts ≤ n = omega arith in
    listed_go element n ys (Word w ∷ Punctuator Comma ∷ (ts ++ us)) (e, Punctuator Comma ∷ (ts ++ us)) (ts ++ us) (element_read w e _ h) refl
    ∙ elements_read r n (ys ++ e ∷ []) us fewer k ∙ ap (λ xs. Some (xs, us)) (append_assoc ys (e ∷ []) es)

pub directive_read : {ts : List Token} {d : Directive Name} → ReadsDirective ts d → (n : ℕ) → length ts < n → reader.directive true n ts ≡ Some d
directive_read (grammar.parallel_for {ts = ts} r fit once) n lt =
    let few : length ts < n = omega arith in
    bind_to _ (directive_clauses_read r n on_parallel_for fit once few)
directive_read (grammar.parallel {ts = ts} {cs = cs} r fit once) n lt =
    let few : length ts < n = omega arith in
    ap (λ o. chosen o (clause_reader.directive_clauses true n on_parallel ts >>= λ cs. Some (meant.Parallel cs)) (λ behind. reader.parallel_for true n behind)) (no_for_first r)
    ∙ bind_to _ (directive_clauses_read r n on_parallel fit once few)
directive_read (grammar.worksharing {ts = ts} r fit once) n lt =
    let few : length ts < n = omega arith in
    bind_to _ (directive_clauses_read r n on_for fit once few)
directive_read (grammar.scan_inclusive {w = w} h) n lt = bind_to _ (bind_to _ (name_read w (Punctuator CloseParen ∷ []) h))
directive_read (grammar.scan_exclusive {w = w} h) n lt = bind_to _ (bind_to _ (name_read w (Punctuator CloseParen ∷ []) h))
directive_read grammar.ordered_region n lt = refl
directive_read grammar.source n lt = refl
directive_read (grammar.sink {ts = ts} {es = es} r) n lt =
    let few : length ts ≤ n = omega (arith, length-append ts (Punctuator CloseParen ∷ [])) in
    bind_to _ (elements_read r n [] (Punctuator CloseParen ∷ []) few refl)

-- no more tokens than bytes
marks_few : (b : ℕ) (ts : List Token) → length (with_mark b ts) ≤ 1 + length ts
marks_few b ts = go (is_blank b)
  where
    go : (t : Bool) → length (cond t ts (Punctuator (grammar.mark_of b) ∷ ts)) ≤ 1 + length ts
    go true = omega arith
    go false = omega arith

runs_few : (run : List ℕ) (ts : List Token) → length (with_run run ts) ≤ length run + length ts
runs_few [] ts = omega arith
runs_few (b ∷ run) ts = omega arith

words_few : (run bs : List ℕ) → length (words_from run bs) ≤ length run + length bs
words_few run [] = runs_few run []
words_few run (b ∷ bs) = go (ends_run b) (words_few [] bs) (words_few (run ++ b ∷ []) bs)
  where
    go : (t : Bool) → length (words_from [] bs) ≤ 0 + length bs → length (words_from (run ++ b ∷ []) bs) ≤ length (run ++ b ∷ []) + length bs
        → length (cond t (with_run run (with_mark b (words_from [] bs))) (words_from (run ++ b ∷ []) bs)) ≤ length run + length (b ∷ bs)
    go true e f =
        let marks = marks_few b (words_from [] bs) in
        let runs = runs_few run (with_mark b (words_from [] bs)) in
        omega arith
    go false e f = let one = length-append run (b ∷ []) in omega arith

behind_few : (w bs : List ℕ) → length (behind w bs) ≤ length bs
behind_few [] bs = omega arith
behind_few (w ∷ ws) [] = omega arith
behind_few (w ∷ ws) (b ∷ bs) = let ih = behind_few ws bs in omega arith

skip_few : (bs : List ℕ) → length (skip_blanks bs) ≤ length bs
skip_few [] = omega arith
skip_few (b ∷ bs) = go (is_blank b) (skip_few bs)
  where
    go : (t : Bool) → length (skip_blanks bs) ≤ length bs → length (cond t (skip_blanks bs) (b ∷ bs)) ≤ length (b ∷ bs)
    go true e = omega arith
    go false e = omega arith

-- behind the `#` is less than the line
hash_few : (bs : List ℕ) → is_hash_rest bs ≡ true → length (drop 1 bs) < length bs
hash_few [] h = absurd (cc)
hash_few (b ∷ bs) h = omega arith

pub line_few : (bs : List ℕ) → is_directive_line bs ≡ true → length (words (behind_omp bs)) < length bs
line_few bs h =
    let line = skip_blanks bs in
    let rest = skip_blanks (drop 1 line) in
    let omp = skip_blanks (behind pragma_word rest) in
    let a : length (words (behind omp_word omp)) ≤ 0 + length (behind omp_word omp) = words_few [] (behind omp_word omp) in
    let b = behind_few omp_word omp in
    let c = skip_few (behind pragma_word rest) in
    let d = behind_few pragma_word rest in
    let e = skip_few (drop 1 line) in
    let f = hash_few line h in
    let g = skip_few bs in
    omega arith

pub line_read : (bs : List ℕ) (d : Directive Name) → ReadsLine bs d → reader.line_directive true bs ≡ Some d
line_read bs d r = cond-true _ _ _ r.is_line ∙ directive_read r.reads (length bs) (line_few bs r.is_line)
