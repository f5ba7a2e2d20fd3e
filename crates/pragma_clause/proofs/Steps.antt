-- What follows from the success of a reader's steps.
use Rattle.std.specs.Prelude.{ℕ, Bool, true, false, ◌≡◌, List, [], ◌∷◌, Option, Some, None}
use Rattle.std.proofs.Common.{cond, refl, sym, ap, ◌∙◌}
use Rattle.std.proofs.lemmas.Option.{same_Some}
use Rattle.std.proofs.lemmas.Slice.Eq.{bytes_eq-Decides}
use Rattle.semantics.specs.Tree.{Name}
use Rattle.semantics.specs.Source.Token.{Token, Word, Punctuator, OpenParen, CloseParen, Comma, Colon}
use Rattle.semantics.specs.Source.Scope.{same_name}
use Rattle.semantics.specs.Directives.DirectiveGrammar.{is_list_name}
use Rattle.cparse_grammar.specs.Reading.{◌>>=◌, chosen}
use Rattle.cparse_grammar.specs.NextTokens as ahead
use Rattle.pragma_clause.specs.ClauseReader.{run, is_end, name_in, name}

pub out : {A : Type 0} {x y : A} → Some x ≡ Some y → x ≡ y
out {A} {x} {y} e = same_Some x y e

pub no_some : {A P : Type 0} {x : A} → None ≡ Some x → P
no_some e = absurd (cc)

-- a step and what comes behind it
pub bound : {A B P : Type 0} (o : Option A) (f : A → Option B) (y : B) → (o >>= f) ≡ Some y → ((x : A) → o ≡ Some x → f x ≡ Some y → P) → P
bound None f y e k = no_some e
bound (Some x) f y e k = k x refl e

-- a test that decides
pub tested : {A P : Type 0} (b : Bool) (p q : Option A) (y : A) → cond b p q ≡ Some y → (b ≡ true → p ≡ Some y → P) → (q ≡ Some y → P) → P
tested true p q y e f g = f refl e
tested false p q y e f g = g e

-- what comes next decides
pub opted : {A B P : Type 0} (o : Option A) (p : Option B) (f : A → Option B) (y : B) → chosen o p f ≡ Some y → (o ≡ None → p ≡ Some y → P) → ((x : A) → o ≡ Some x → f x ≡ Some y → P) → P
opted None p f y e k h = k refl e
opted (Some x) p f y e k h = h x refl e

-- words that are the same
pub same : (v w : List ℕ) → same_name v w ≡ true → v ≡ w
same v w e = (bytes_eq-Decides v w).0 e

pub run_is : (ts : List Token) (x : List ℕ × List Token) → run ts ≡ Some x → ts ≡ Word x.0 ∷ x.1
run_is (Word w ∷ ts) x e = ap (λ x. Word x.0 ∷ x.1) (out e)
run_is ts x e = no_some e

pub end_is : (ts : List Token) → is_end ts ≡ true → ts ≡ []
end_is [] e = refl
end_is (t ∷ ts) e = absurd (cc e)

pub word_is : (w : Name) (ts us : List Token) → ahead.word w ts ≡ Some us → ts ≡ Word w ∷ us
word_is w (Word v ∷ ts) us e =
    tested (same_name v w) (Some ts) None us e (λ h e. ap (λ x. Word x ∷ ts) (same v w h) ∙ ap (λ x. Word w ∷ x) (out e)) no_some
word_is w ts us e = no_some e

pub open_is : (ts us : List Token) → ahead.open_paren ts ≡ Some us → ts ≡ Punctuator OpenParen ∷ us
open_is (Punctuator OpenParen ∷ ts) us e = ap (λ xs. Punctuator OpenParen ∷ xs) (out e)
open_is (Punctuator s ∷ ts) us e = no_some e
open_is ts us e = no_some e

pub close_is : (ts us : List Token) → ahead.close_paren ts ≡ Some us → ts ≡ Punctuator CloseParen ∷ us
close_is (Punctuator CloseParen ∷ ts) us e = ap (λ xs. Punctuator CloseParen ∷ xs) (out e)
close_is (Punctuator s ∷ ts) us e = no_some e
close_is ts us e = no_some e

pub comma_is : (ts us : List Token) → ahead.comma ts ≡ Some us → ts ≡ Punctuator Comma ∷ us
comma_is (Punctuator Comma ∷ ts) us e = ap (λ xs. Punctuator Comma ∷ xs) (out e)
comma_is (Punctuator s ∷ ts) us e = no_some e
comma_is ts us e = no_some e

pub colon_is : (ts us : List Token) → ahead.colon ts ≡ Some us → ts ≡ Punctuator Colon ∷ us
colon_is (Punctuator Colon ∷ ts) us e = ap (λ xs. Punctuator Colon ∷ xs) (out e)
colon_is (Punctuator s ∷ ts) us e = no_some e
colon_is ts us e = no_some e

pub name_in_is : (w : List ℕ) (x : Name) → name_in w ≡ Some x → (w ≡ x) × (is_list_name x ≡ true)
name_in_is w x e = tested (is_list_name w) (Some w) None x e (λ h e. (out e, ap is_list_name (sym (out e)) ∙ h)) no_some

pub name_is : (ts : List Token) (x : Name × List Token) → name ts ≡ Some x → (ts ≡ Word x.0 ∷ x.1) × (is_list_name x.0 ≡ true)
name_is ts x e =
    bound (run ts) _ x e (λ w h e. bound (name_in w.0) _ x e (λ y g e.
    let is = name_in_is w.0 y g in
    (run_is ts w h ∙ ap (λ v. Word v ∷ w.1) is.0 ∙ ap (λ x. Word x.0 ∷ x.1) (out e), ap (λ x. is_list_name x.0) (sym (out e)) ∙ is.1)))
