-- The first word of a line, and the words behind it.
use Rattle.std.specs.Prelude.{ℕ, suc, Bool, true, false, ◌||◌, ◌==◌, ◌≡◌, List, [], ◌∷◌, ◌++◌, length, take, drop, Some, None}
use Rattle.std.proofs.Common.{cond, refl, sym, ap, ◌∙◌, append_assoc, append-nil, arith}
use Rattle.std.proofs.lemmas.Bool.{cond-true, cond-false}
use Rattle.semantics.specs.Source.Text.{is_blank, skip_blanks}
use Rattle.semantics.specs.Source.Token.{Word, Punctuator, Symbol, OpenParen, CloseParen, Comma, Colon}
use Rattle.semantics.specs.Directives.DirectiveGrammar.{ends_run, with_mark, with_run, words_from, words}
use Rattle.pragma_clause.specs.Words.{symbol_at, run_length}

-- blanks at the front are no words
words_skip : (bs : List ℕ) → words bs ≡ words (skip_blanks bs)
words_skip [] = refl
words_skip (b ∷ bs) = go (is_blank b) refl (words_skip bs)
  where
    go : (t : Bool) → is_blank b ≡ t → words bs ≡ words (skip_blanks bs) → words (b ∷ bs) ≡ words (cond t (skip_blanks bs) (b ∷ bs))
    go true e ih =
        cond-true _ _ _ (ap (λ x. x || ((b == 40) || ((b == 41) || ((b == 44) || (b == 58))))) e)
        ∙ cond-true _ _ _ e ∙ ih
    go false e ih = refl

-- none stands there any more
head_is_no_blank : (bs : List ℕ) (b : ℕ) (rest : List ℕ) → skip_blanks bs ≡ b ∷ rest → is_blank b ≡ false
head_is_no_blank [] b rest e = absurd (cc e)
head_is_no_blank (a ∷ bs) b rest e = go (is_blank a) refl (head_is_no_blank bs b rest) e
  where
    head : a ∷ bs ≡ b ∷ rest → a ≡ b
    head e = cc

    go : (t : Bool) → is_blank a ≡ t → (skip_blanks bs ≡ b ∷ rest → is_blank b ≡ false) → cond t (skip_blanks bs) (a ∷ bs) ≡ b ∷ rest → is_blank b ≡ false
    go true f ih e = ih e
    go false f ih e = ap is_blank (sym (head e)) ∙ f

-- a run goes on up to the first blank or sign
run_from : (run bs : List ℕ) → words_from run bs ≡ with_run (run ++ take (run_length bs) bs) (words (drop (run_length bs) bs))
run_from run [] = ap (λ r. with_run r []) (sym (append-nil run))
run_from run (b ∷ bs) = go (ends_run b) refl (run_from (run ++ b ∷ []) bs)
  where
    go : (t : Bool) → ends_run b ≡ t
        → words_from (run ++ b ∷ []) bs ≡ with_run ((run ++ b ∷ []) ++ take (run_length bs) bs) (words (drop (run_length bs) bs))
        → cond t (with_run run (with_mark b (words bs))) (words_from (run ++ b ∷ []) bs)
        ≡ with_run (run ++ take (cond t 0 (suc (run_length bs))) (b ∷ bs)) (words (drop (cond t 0 (suc (run_length bs))) (b ∷ bs)))
    go true e ih =
        ap (λ r. with_run r (with_mark b (words bs))) (sym (append-nil run))
        ∙ ap (with_run (run ++ [])) (sym (cond-true _ _ _ e))
    go false e ih = ih ∙ ap (λ r. with_run r (words (drop (run_length bs) bs))) (append_assoc run (b ∷ []) (take (run_length bs) bs))

-- which of the four tests passes
marked : (p q r t : Bool) (s : Symbol)
    → cond p (Some OpenParen) (cond q (Some CloseParen) (cond r (Some Comma) (cond t (Some Colon) None))) ≡ Some s
    → ((p || (q || (r || t))) ≡ true) × (cond p OpenParen (cond q CloseParen (cond r Comma Colon)) ≡ s)
marked true q r t s e = (refl, cc)
marked false true r t s e = (refl, cc)
marked false false true t s e = (refl, cc)
marked false false false true s e = (refl, cc)
marked false false false false s e = absurd (cc e)

unmarked : (p q r t : Bool)
    → cond p (Some OpenParen) (cond q (Some CloseParen) (cond r (Some Comma) (cond t (Some Colon) None))) ≡ None
    → (p || (q || (r || t))) ≡ false
unmarked true q r t e = absurd (cc e)
unmarked false true r t e = absurd (cc e)
unmarked false false true t e = absurd (cc e)
unmarked false false false true e = absurd (cc e)
unmarked false false false false e = refl

ends_like : (b : ℕ) (t : Bool) → is_blank b ≡ false → ((b == 40) || ((b == 41) || ((b == 44) || (b == 58)))) ≡ t → ends_run b ≡ t
ends_like b t e f = ap (λ x. x || ((b == 40) || ((b == 41) || ((b == 44) || (b == 58))))) e ∙ f

pub no_word : (bs rest : List ℕ) → rest ≡ skip_blanks bs → length rest ≡ 0 → words bs ≡ []
no_word bs [] e h = words_skip bs ∙ ap words (sym e)
no_word bs (b ∷ rest) e h = absurd (omega arith)

pub sign_word : (bs text : List ℕ) (b : ℕ) (rest : List ℕ) (s : Symbol) → text ≡ skip_blanks bs → text ≡ b ∷ rest → symbol_at b ≡ Some s → words bs ≡ Punctuator s ∷ words rest
sign_word bs text b rest s e f h =
    let plain = head_is_no_blank bs b rest (sym e ∙ f) in
    let found = marked (b == 40) (b == 41) (b == 44) (b == 58) s h in
    words_skip bs ∙ ap words (sym e ∙ f) ∙ cond-true _ _ _ (ends_like b true plain found.0) ∙ cond-false _ _ _ plain ∙ ap (λ m. Punctuator m ∷ words rest) found.1

pub run_word : (bs text : List ℕ) (b : ℕ) (rest run behind : List ℕ) (n : ℕ) → text ≡ skip_blanks bs → text ≡ b ∷ rest → symbol_at b ≡ None
    → n ≡ run_length text → run ≡ take n text → behind ≡ drop n text → words bs ≡ Word run ∷ words behind
run_word bs text b rest run behind n e f h l t d =
    let plain = head_is_no_blank bs b rest (sym e ∙ f) in
    let goes_on = ends_like b false plain (unmarked (b == 40) (b == 41) (b == 44) (b == 58) h) in
    let length_is : n ≡ suc (run_length rest) = l ∙ ap run_length f ∙ cond-false _ _ _ goes_on in
    let run_is : b ∷ take (run_length rest) rest ≡ run = sym (t ∙ ap (λ k. take k text) length_is ∙ ap (take (suc (run_length rest))) f) in
    let behind_is : drop (run_length rest) rest ≡ behind = sym (d ∙ ap (λ k. drop k text) length_is ∙ ap (drop (suc (run_length rest))) f) in
    words_skip bs ∙ ap words (sym e ∙ f) ∙ cond-false _ _ _ goes_on ∙ run_from (b ∷ []) rest
    ∙ ap (λ r. Word r ∷ words (drop (run_length rest) rest)) run_is ∙ ap (λ r. Word run ∷ words r) behind_is
