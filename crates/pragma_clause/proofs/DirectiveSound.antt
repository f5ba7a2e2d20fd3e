-- Whatever is read as a directive the grammar has.
use Rattle.std.specs.Prelude.{ℕ, suc, Bool, true, false, ◌||◌, ◌==◌, ◌≡◌, List, [], ◌∷◌, ◌++◌, take, drop, Some, ℤ, pos, neg_ℤ, codes}
use Rattle.std.proofs.Common.{cond, refl, sym, ap, ◌∙◌, subst}
use Rattle.std.proofs.lemmas.Bool.{eqb-true}
use Rattle.std.proofs.lemmas.List.{take-append-drop}
use Rattle.semantics.specs.Tree.{Name, Suffix}
use Rattle.semantics.specs.Source.Token.{Token, Word, Punctuator, OpenParen, CloseParen, Colon}
use Rattle.semantics.specs.Source.Text.{is_directive_line, behind_omp}
use Rattle.semantics.specs.Source.Cuts.{is_decimal, decimal_from, suffix_text}
use Rattle.semantics.specs.Source.Typing.{in_range}
use Rattle.semantics.specs.Source.Scope.{same_name}
use Rattle.semantics.specs.Directives.Directive.{Directive}
use Rattle.semantics.specs.Directives.DirectiveGrammar as grammar
use Rattle.semantics.specs.Directives.DirectiveGrammar.{words, is_list_name, called, on_parallel_for, on_parallel, on_for, ReadsElement, ReadsElements, ReadsDirective, ReadsLine}
use Rattle.cparse_grammar.specs.NextTokens as ahead
use Rattle.pragma_clause.specs.ClauseReader as clause_reader
use Rattle.pragma_clause.specs.ClauseReader.{run, is_end, name_in, name}
use Rattle.pragma_clause.specs.DirectiveReader as reader
use Rattle.pragma_clause.specs.DirectiveReader.{sign_at, digits_length, element}
use Rattle.pragma_clause.proofs.Steps.{out, no_some, bound, tested, opted, same, run_is, end_is, word_is, open_is, close_is, colon_is, name_in_is, name_is}
use Rattle.pragma_clause.proofs.ClauseSound.{Front, listed_sound, directive_clauses_sound}

closes_is : (ts us : List Token) → reader.closes ts ≡ Some us → ts ≡ Punctuator CloseParen ∷ []
closes_is ts us e =
    bound (ahead.close_paren ts) _ us e (λ rest h e. tested (is_end rest) _ _ us e (λ g e.
    close_is ts rest h ∙ ap (λ us. Punctuator CloseParen ∷ us) (end_is rest g)) no_some)

enclosed_name_is : (ts : List Token) (x : Name) → reader.enclosed_name ts ≡ Some x → (ts ≡ Punctuator OpenParen ∷ Word x ∷ Punctuator CloseParen ∷ []) × (is_list_name x ≡ true)
enclosed_name_is ts x e =
    bound (ahead.open_paren ts) _ x e (λ inner h e. bound (name inner) _ x e (λ y g e. bound (reader.closes y.1) _ x e (λ rest f e.
    let is = name_is inner y g in (
      open_is ts inner h ∙ ap (λ us. Punctuator OpenParen ∷ us) (is.0 ∙ ap (λ us. Word y.0 ∷ us) (closes_is y.1 rest f)) ∙ ap (λ x. Punctuator OpenParen ∷ Word x ∷ Punctuator CloseParen ∷ []) (out e),
      ap is_list_name (sym (out e)) ∙ is.1,
    ))))

scan_kind_is : (w : List ℕ) (x : Name) (d : Directive Name) → is_list_name x ≡ true → reader.scan_kind w x ≡ Some d → ReadsDirective (Word (codes "scan") ∷ called w (Word x ∷ [])) d
scan_kind_is w x d i e =
    let P : List ℕ → Type 0 = λ w. ReadsDirective (Word (codes "scan") ∷ called w (Word x ∷ [])) d in
    tested (same_name w (codes "inclusive")) _ _ d e (λ h e. subst P (sym (same w _ h)) (subst (ReadsDirective _) (out e) (grammar.scan_inclusive i))) (λ e.
    tested (same_name w (codes "exclusive")) _ _ d e (λ h e. subst P (sym (same w _ h)) (subst (ReadsDirective _) (out e) (grammar.scan_exclusive i))) no_some)

scan_sound : (ts : List Token) (d : Directive Name) → reader.scan ts ≡ Some d → ReadsDirective (Word (codes "scan") ∷ ts) d
scan_sound ts d e =
    bound (run ts) _ d e (λ w h e. bound (reader.enclosed_name w.1) _ d e (λ x g e.
    let is = enclosed_name_is w.1 x g in
    subst (λ ts. ReadsDirective (Word (codes "scan") ∷ ts) d) (sym (run_is ts w h ∙ ap (λ us. Word w.0 ∷ us) is.0)) (scan_kind_is w.0 x d is.1 e)))

-- a literal by its digits and suffix
record IsLiteral (bs : List ℕ) (n : ℕ) : Type 0 where
  digits : List ℕ
  suffix : Suffix
  text : bs ≡ digits ++ suffix_text suffix
  decimal : is_decimal digits ≡ true
  fits : in_range suffix (decimal_from 0 digits) ≡ true
  value : decimal_from 0 digits ≡ n

suffix_is : (bs : List ℕ) (suffix : Suffix) → reader.suffix_in bs ≡ Some suffix → bs ≡ suffix_text suffix
suffix_is bs suffix e =
    tested (same_name bs []) _ _ suffix e (λ h e. same bs [] h ∙ ap suffix_text (out e)) (λ e.
    tested (same_name bs (codes "ull")) _ _ suffix e (λ h e. same bs _ h ∙ ap suffix_text (out e)) no_some)

literal_is : (bs : List ℕ) (n : ℕ) → reader.literal_in bs ≡ Some n → IsLiteral bs n
literal_is bs n e =
    let k : ℕ = digits_length bs in
    bound (reader.suffix_in (drop k bs)) _ n e (λ suffix h e. tested (is_decimal (take k bs)) _ _ n e (λ d e. tested (in_range suffix (decimal_from 0 (take k bs))) _ _ n e (λ r e.
    record {
      digits = take k bs;
      suffix = suffix;
      text = sym (take-append-drop k bs) ∙ ap (λ cs. take k bs ++ cs) (suffix_is (drop k bs) suffix h);
      decimal = d;
      fits = r;
      value = out e;
    }) no_some) no_some)

-- a sign stands there
sign_there : (w : List ℕ) (b : ℕ) (bs : List ℕ) → drop (sign_at w) w ≡ b ∷ bs → ((b == 43) || (b == 45)) ≡ true
sign_there [] b bs e = absurd (cc e)
sign_there (a ∷ w) b bs e = go ((a == 43) || (a == 45)) refl (sign_there w b bs) e
  where
    head : a ∷ w ≡ b ∷ bs → a ≡ b
    head e = cc

    go : (t : Bool) → ((a == 43) || (a == 45)) ≡ t → (drop (sign_at w) w ≡ b ∷ bs → ((b == 43) || (b == 45)) ≡ true) → drop (cond t 0 (suc (sign_at w))) (a ∷ w) ≡ b ∷ bs → ((b == 43) || (b == 45)) ≡ true
    go true f ih e = ap (λ b. (b == 43) || (b == 45)) (sym (head e)) ∙ f
    go false f ih e = ih e

-- a name with an offset of this sign
signed : (x : Name) (b : ℕ) (bs : List ℕ) (n : ℤ) (w : List ℕ) → w ≡ x ++ b ∷ bs → is_list_name x ≡ true → ((b == 43) || (b == 45)) ≡ true → reader.offset_in (b ∷ bs) ≡ Some n → ReadsElement w (x, n)
signed x b bs n w t i s e = bound (reader.literal_in bs) _ n e (λ k h e. go k (literal_is bs k h) (b == 43) refl e)
  where
    second : (p q : Bool) → p ≡ false → (p || q) ≡ true → q ≡ true
    second true q f h = absurd (cc)
    second false q f h = h

    go : (k : ℕ) → IsLiteral bs k → (p : Bool) → (b == 43) ≡ p → cond p (Some (pos k)) (Some (neg_ℤ (pos k))) ≡ Some n → ReadsElement w (x, n)
    go k l true f e =
        let text : x ++ 43 ∷ (l.digits ++ suffix_text l.suffix) ≡ w = sym (t ∙ ap (λ c. x ++ c ∷ bs) (eqb-true b 43 f) ∙ ap (λ cs. x ++ 43 ∷ cs) l.text) in
        let value : pos (decimal_from 0 l.digits) ≡ n = ap pos l.value ∙ out e in
        subst (λ n. ReadsElement w (x, n)) value (subst (λ w. ReadsElement w (x, pos (decimal_from 0 l.digits))) text (grammar.above l.digits l.suffix i l.decimal l.fits))
    go k l false f e =
        let text : x ++ 45 ∷ (l.digits ++ suffix_text l.suffix) ≡ w =
        sym (t ∙ ap (λ c. x ++ c ∷ bs) (eqb-true b 45 (second (b == 43) (b == 45) f s)) ∙ ap (λ cs. x ++ 45 ∷ cs) l.text) in
        let value : neg_ℤ (pos (decimal_from 0 l.digits)) ≡ n = ap (λ k. neg_ℤ (pos k)) l.value ∙ out e in
        subst (λ n. ReadsElement w (x, n)) value (subst (λ w. ReadsElement w (x, neg_ℤ (pos (decimal_from 0 l.digits)))) text (grammar.below l.digits l.suffix i l.decimal l.fits))

append_nothing : {A : Type 0} (xs : List A) → xs ++ [] ≡ xs
append_nothing [] = refl
append_nothing (x ∷ xs) = ap (λ ys. x ∷ ys) (append_nothing xs)

-- a name and what stands behind it
offset_sound : (x : Name) (rest : List ℕ) (n : ℤ) (w : List ℕ) → w ≡ x ++ rest → is_list_name x ≡ true → ((b : ℕ) (bs : List ℕ) → rest ≡ b ∷ bs → ((b == 43) || (b == 45)) ≡ true) → reader.offset_in rest ≡ Some n → ReadsElement w (x, n)
offset_sound x [] n w t i s e =
    subst (λ n. ReadsElement w (x, n)) (out e) (subst (λ w. ReadsElement w (x, pos 0)) (sym (t ∙ append_nothing x)) (grammar.here i))
offset_sound x (b ∷ bs) n w t i s e = signed x b bs n w t i (s b bs refl) e

pub element_in_sound : (w : List ℕ) (y : Name × ℤ) → reader.element_in w ≡ Some y → ReadsElement w y
element_in_sound w y e =
    let k : ℕ = sign_at w in
    bound (name_in (take k w)) _ y e (λ x h e. bound (reader.offset_in (drop k w)) _ y e (λ n g e.
    let is = name_in_is (take k w) x h in
    subst (ReadsElement w) (out e) (offset_sound x (drop k w) n w (sym (take-append-drop k w) ∙ ap (λ cs. cs ++ drop k w) is.0) is.1 (sign_there w) g)))

element_is : (ts : List Token) (y : (Name × ℤ) × List Token) → element ts ≡ Some y → (w : List ℕ) × (ts ≡ Word w ∷ y.1) × ReadsElement w y.0
element_is ts y e =
    bound (run ts) _ y e (λ w h e. bound (reader.element_in w.0) _ y e (λ a g e.
    (w.0, run_is ts w h ∙ ap (λ y. Word w.0 ∷ y.1) (out e), subst (ReadsElement w.0) (ap (λ y. y.0) (out e)) (element_in_sound w.0 a g))))

vector_sound : (n : ℕ) (ts : List Token) (x : List (Name × ℤ) × List Token) → reader.vector n ts ≡ Some x → Front ReadsElements ts x
vector_sound n ts x e =
    let l = listed_sound element ReadsElement ReadsElements element_is (λ w a h. grammar.only_element h) (λ w a ts xs h r. grammar.element h r) n [] ts x e in
    record { front = l.front; split = l.split; reads = subst (ReadsElements l.front) (sym l.all) l.reads }

-- a doacross clause behind `ordered`
abbrev IsDoacross : List Token → Directive Name → Type 0
IsDoacross ts d = ReadsDirective (Word (codes "ordered") ∷ ts) d

dependence_sound : (n : ℕ) (w : List ℕ) (ts : List Token) (d : Directive Name) → reader.dependence n w ts ≡ Some d
    → IsDoacross (Word (codes "doacross") ∷ Punctuator OpenParen ∷ Word w ∷ Punctuator Colon ∷ ts) d
dependence_sound n w ts d e =
    let P : List ℕ → List Token → Type 0 = λ w ts. IsDoacross (Word (codes "doacross") ∷ Punctuator OpenParen ∷ Word w ∷ Punctuator Colon ∷ ts) d in
    tested (same_name w (codes "source")) _ _ d e
    (λ h e. subst (λ w. P w ts) (sym (same w _ h)) (bound (reader.closes ts) _ d e (λ rest g e.
    subst (P (codes "source")) (sym (closes_is ts rest g)) (subst (ReadsDirective _) (out e) grammar.source)))) (λ e.
    tested (same_name w (codes "sink")) _ _ d e
    (λ h e. subst (λ w. P w ts) (sym (same w _ h)) (bound (reader.vector n ts) _ d e (λ es g e. bound (reader.closes es.1) _ d e (λ rest f e.
    let is = vector_sound n ts es g in
    subst (P (codes "sink")) (sym (is.split ∙ ap (λ us. is.front ++ us) (closes_is es.1 rest f))) (subst (ReadsDirective _) (out e) (grammar.sink is.reads)))))) no_some)

ordered_sound : (n : ℕ) (ts : List Token) (d : Directive Name) → reader.ordered n ts ≡ Some d → IsDoacross ts d
ordered_sound n ts d e =
    tested (is_end ts) _ _ d e (λ h e. subst (λ ts. IsDoacross ts d) (sym (end_is ts h)) (subst (ReadsDirective _) (out e) grammar.ordered_region)) (λ e.
    bound (ahead.word (codes "doacross") ts) _ d e (λ behind h e. bound (ahead.open_paren behind) _ d e (λ inner g e. bound (run inner) _ d e (λ w f e. bound (ahead.colon w.1) _ d e (λ rest k e.
    subst (λ ts. IsDoacross ts d)
    (sym (word_is _ ts behind h ∙ ap (λ us. Word (codes "doacross") ∷ us) (open_is behind inner g ∙ ap (λ us. Punctuator OpenParen ∷ us) (run_is inner w f ∙ ap (λ us. Word w.0 ∷ us) (colon_is w.1 rest k)))))
    (dependence_sound n w.0 rest d e))))))

parallel_sound : (n : ℕ) (ts : List Token) (d : Directive Name) → reader.parallel true n ts ≡ Some d → ReadsDirective (Word (codes "parallel") ∷ ts) d
parallel_sound n ts d e =
    opted (ahead.word (codes "for") ts) _ _ d e
    (λ _ e. bound (clause_reader.directive_clauses true n on_parallel ts) _ d e (λ cs h e.
    let is = directive_clauses_sound n on_parallel ts cs h in
    subst (ReadsDirective _) (out e) (grammar.parallel is.reads is.fit is.once)))
    (λ behind g e. bound (clause_reader.directive_clauses true n on_parallel_for behind) _ d e (λ cs h e.
    let is = directive_clauses_sound n on_parallel_for behind cs h in
    subst (λ ts. ReadsDirective (Word (codes "parallel") ∷ ts) d) (sym (word_is _ ts behind g)) (subst (ReadsDirective _) (out e) (grammar.parallel_for is.reads is.fit is.once))))

worksharing_sound : (n : ℕ) (ts : List Token) (d : Directive Name) → reader.worksharing true n ts ≡ Some d → ReadsDirective (Word (codes "for") ∷ ts) d
worksharing_sound n ts d e =
    bound (clause_reader.directive_clauses true n on_for ts) _ d e (λ cs h e.
    let is = directive_clauses_sound n on_for ts cs h in
    subst (ReadsDirective _) (out e) (grammar.worksharing is.reads is.fit is.once))

pub directive_sound : (n : ℕ) (ts : List Token) (d : Directive Name) → reader.directive true n ts ≡ Some d → ReadsDirective ts d
directive_sound n ts d e =
    bound (run ts) _ d e (λ w h e.
    let P : List ℕ → Type 0 = λ v. ReadsDirective (Word v ∷ w.1) d in
    subst (λ ts. ReadsDirective ts d) (sym (run_is ts w h))
    (tested (same_name w.0 (codes "parallel")) _ _ d e (λ g e. subst P (sym (same w.0 _ g)) (parallel_sound n w.1 d e)) (λ e.
    tested (same_name w.0 (codes "for")) _ _ d e (λ g e. subst P (sym (same w.0 _ g)) (worksharing_sound n w.1 d e)) (λ e.
    tested (same_name w.0 (codes "scan")) _ _ d e (λ g e. subst P (sym (same w.0 _ g)) (scan_sound w.1 d e)) (λ e.
    tested (same_name w.0 (codes "ordered")) _ _ d e (λ g e. subst P (sym (same w.0 _ g)) (ordered_sound n w.1 d e)) no_some)))))

pub line_sound : (bs : List ℕ) (d : Directive Name) → reader.line_directive true bs ≡ Some d → ReadsLine bs d
line_sound bs d e = tested (is_directive_line bs) _ _ d e (λ h e. record { is_line = h; reads = directive_sound _ (words (behind_omp bs)) d e }) no_some
