-- The symbol or the word at the front of a text.
use Rattle.std.specs.Prelude.{ℕ, suc, true, ◌≡◌, ◌+◌, List, [], ◌∷◌, Some, None, length, take}
use Rattle.std.proofs.Common.{sym, ap, ◌∙◌, arith}
use Rattle.std.proofs.lemmas.Bool.{cond-true}
use Rattle.semantics.specs.Source.Cuts.{is_letter, is_word_byte}
use Rattle.semantics.specs.Source.Token.{Symbol, Word, Punctuator}
use Rattle.ctoken.specs.Front.{Took, run, inside, long_signs, short_signs, sign_of, sign_or, sign}
use Rattle.ctoken.proofs.FrontSound.{sign_found}

pub sign-long : (b c : ℕ) (rest bs : List ℕ) (s : Symbol) → rest ≡ c ∷ bs → sign_of long_signs (b ∷ c ∷ []) ≡ Some s → sign b rest ≡ Some (Took 0 2 (Punctuator s))
sign-long b c rest bs s e h =
    ap (sign b) e ∙ ap (λ o. sign_or o (sign_or (sign_of short_signs (b ∷ [])) None)) h
    ∙ ap (λ n. Some (Took 0 n (Punctuator s))) (sym (ap length (sign_found long_signs (b ∷ c ∷ []) s h)))

short_is : (b : ℕ) (s : Symbol) → sign_of short_signs (b ∷ []) ≡ Some s → sign_or (sign_of short_signs (b ∷ [])) None ≡ Some (Took 0 1 (Punctuator s))
short_is b s h = ap (λ o. sign_or o None) h ∙ ap (λ n. Some (Took 0 n (Punctuator s))) (sym (ap length (sign_found short_signs (b ∷ []) s h)))

pub sign-last : (b : ℕ) (rest : List ℕ) (s : Symbol) → rest ≡ [] → sign_of short_signs (b ∷ []) ≡ Some s → sign b rest ≡ Some (Took 0 1 (Punctuator s))
sign-last b rest s e h = ap (sign b) e ∙ short_is b s h

pub sign-short : (b c : ℕ) (rest bs : List ℕ) (s : Symbol) → rest ≡ c ∷ bs → sign_of long_signs (b ∷ c ∷ []) ≡ None → sign_of short_signs (b ∷ []) ≡ Some s → sign b rest ≡ Some (Took 0 1 (Punctuator s))
sign-short b c rest bs s e k h = ap (sign b) e ∙ ap (λ o. sign_or o (sign_or (sign_of short_signs (b ∷ [])) None)) k ∙ short_is b s h

pub inside-letter : (text : List ℕ) (b : ℕ) (bs : List ℕ) (m : ℕ) → text ≡ b ∷ bs → is_letter b ≡ true → m ≡ run is_word_byte bs → inside text ≡ Some (Took 0 (m + 1) (Word (b ∷ take m bs)))
inside-letter text b bs m e h k =
    ap inside e ∙ cond-true _ _ _ h ∙ ap (λ n. Some (Took 0 (suc n) (Word (b ∷ take n bs)))) (sym k)
    ∙ ap (λ n. Some (Took 0 n (Word (b ∷ take m bs)))) (let d : suc m ≡ m + 1 = omega arith in d)
