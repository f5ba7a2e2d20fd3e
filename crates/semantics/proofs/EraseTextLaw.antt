-- A text that is read as a tree is read, without its directive lines, as the tree without them.
use Rattle.std.specs.Prelude.{ℕ, Bool, true, false, not, ◌==◌, ◌&&◌, ◌||◌, ◌≡◌, ◌≤◌, List, [], ◌∷◌, length}
use Rattle.std.specs.List.{list_all, list_any}
use Rattle.std.proofs.Common.{cond, refl, sym, ap, ◌∙◌, arith}
use Rattle.std.proofs.lemmas.Bool.{eqb-true}
use Rattle.semantics.specs.Tree.{Kernel, strip}
use Rattle.semantics.specs.Source.Text.{first_line, starts_with, is_directive_line, erase, erase_from}
use Rattle.semantics.specs.Source.Token.{Token, Word, IntegerConstant, StringLiteral, Punctuator, Header, Line}
use Rattle.semantics.specs.Source.Cuts.{Tokens, has_trigraph, is_header, headers_first, starts_with_place, places_follow}
use Rattle.semantics.specs.Source.Grammar.{ReadsText}
use Rattle.semantics.proofs.StripLaw.{drop_lines}
use Rattle.semantics.proofs.StripTextLaw.{reads_strips}
use Rattle.semantics.proofs.EraseTokenLaw.{first_of, second_of, and_true, true-is_not-false}
use Rattle.semantics.proofs.EraseLaw.{cut_erased}

bytes_left : (p : ℕ → Bool) → p 10 ≡ true → (d : Bool) (bs : List ℕ) → list_all p bs ≡ true → list_all p (erase_from d bs) ≡ true
bytes_left p k d [] h = refl
bytes_left p k d (b ∷ bs) h = go (λ e. bytes_left p k e bs (second_of (p b) (list_all p bs) h)) (b == 10) d
  where
    go : ((e : Bool) → list_all p (erase_from e bs) ≡ true) → (x e : Bool) → list_all p (cond x (10 ∷ erase_from (is_directive_line (first_line bs)) bs) (cond e (erase_from true bs) (b ∷ erase_from false bs))) ≡ true
    go ih true e = and_true (p 10) _ k (ih (is_directive_line (first_line bs)))
    go ih false true = ih true
    go ih false false = and_true (p b) _ (first_of (p b) (list_all p bs) h) (ih false)

length_left : (d : Bool) (bs : List ℕ) → length (erase_from d bs) ≤ length bs
length_left d [] = omega arith
length_left d (b ∷ bs) = go (λ e. length_left e bs) (b == 10) d
  where
    go : ((e : Bool) → length (erase_from e bs) ≤ length bs) → (x e : Bool) → length (cond x (10 ∷ erase_from (is_directive_line (first_line bs)) bs) (cond e (erase_from true bs) (b ∷ erase_from false bs))) ≤ length (b ∷ bs)
    go f true e = let ih : length (erase_from (is_directive_line (first_line bs)) bs) ≤ length bs = f (is_directive_line (first_line bs)) in omega arith
    go f false true = let ih : length (erase_from true bs) ≤ length bs = f true in omega arith
    go f false false = let ih : length (erase_from false bs) ≤ length bs = f false in omega arith

second_or : (x y : Bool) → (x || y) ≡ false → y ≡ false
second_or true y h = absurd (true-is_not-false h)
second_or false y h = h

first_or : (x y : Bool) → (x || y) ≡ false → x ≡ false
first_or true y h = absurd (true-is_not-false h)
first_or false y h = refl

question_left : (bs : List ℕ) → starts_with (63 ∷ []) (erase_from false bs) ≡ starts_with (63 ∷ []) bs
question_left [] = refl
question_left (c ∷ cs) = go (c == 10) refl
  where
    go : (x : Bool) → (c == 10) ≡ x → starts_with (63 ∷ []) (cond x (10 ∷ erase_from (is_directive_line (first_line cs)) cs) (c ∷ erase_from false cs)) ≡ starts_with (63 ∷ []) (c ∷ cs)
    go true e = sym (ap (λ d. (63 == d) && true) (eqb-true c 10 e))
    go false e = refl

plain_left : (d : Bool) (bs : List ℕ) → has_trigraph bs ≡ false → has_trigraph (erase_from d bs) ≡ false
plain_left d [] h = refl
plain_left d (b ∷ bs) h = go (λ e. plain_left e bs (second_or ((63 == b) && starts_with (63 ∷ []) bs) (has_trigraph bs) h)) (b == 10) d
  where
    go : ((e : Bool) → has_trigraph (erase_from e bs) ≡ false) → (x e : Bool) → has_trigraph (cond x (10 ∷ erase_from (is_directive_line (first_line bs)) bs) (cond e (erase_from true bs) (b ∷ erase_from false bs))) ≡ false
    go ih true e = ih (is_directive_line (first_line bs))
    go ih false true = ih true
    go ih false false =
        ap (λ x. ((63 == b) && x) || has_trigraph (erase_from false bs)) (question_left bs)
        ∙ ap (λ x. x || has_trigraph (erase_from false bs)) (first_or ((63 == b) && starts_with (63 ∷ []) bs) (has_trigraph bs) h)
        ∙ ih false

any_left : (ts : List Token) → list_any is_header (drop_lines ts) ≡ list_any is_header ts
any_left [] = refl
any_left (Word w ∷ ts) = any_left ts
any_left (IntegerConstant n s ∷ ts) = any_left ts
any_left (StringLiteral cs o ∷ ts) = any_left ts
any_left (Punctuator s ∷ ts) = any_left ts
any_left (Header h ∷ ts) = refl
any_left (Line n ∷ ts) = any_left ts

none_first : (seen : List ℕ) (ts : List Token) → not (list_any is_header ts) ≡ true → headers_first seen ts ≡ true
none_first seen [] h = refl
none_first seen (Word w ∷ ts) h = h
none_first seen (IntegerConstant n s ∷ ts) h = h
none_first seen (StringLiteral cs o ∷ ts) h = h
none_first seen (Punctuator s ∷ ts) h = h
none_first seen (Header n ∷ ts) h = absurd (true-is_not-false (sym h))
none_first seen (Line n ∷ ts) h = h

none_left : (seen : List ℕ) (ts : List Token) → not (list_any is_header ts) ≡ true → headers_first seen (drop_lines ts) ≡ true
none_left seen ts h = none_first seen (drop_lines ts) (ap not (any_left ts) ∙ h)

headers_left : (seen : List ℕ) (ts : List Token) → headers_first seen ts ≡ true → headers_first seen (drop_lines ts) ≡ true
headers_left seen [] h = refl
headers_left seen (Word w ∷ ts) h = none_left seen (Word w ∷ ts) h
headers_left seen (IntegerConstant n s ∷ ts) h = none_left seen (IntegerConstant n s ∷ ts) h
headers_left seen (StringLiteral cs o ∷ ts) h = none_left seen (StringLiteral cs o ∷ ts) h
headers_left seen (Punctuator s ∷ ts) h = none_left seen (Punctuator s ∷ ts) h
headers_left seen (Header n ∷ ts) h = and_true _ _ (first_of _ (headers_first (n ∷ seen) ts) h) (headers_left (n ∷ seen) ts (second_of _ (headers_first (n ∷ seen) ts) h))
headers_left seen (Line n ∷ ts) h = none_left seen (Line n ∷ ts) h

place_left : (ts : List Token) → starts_with_place ts ≡ true → starts_with_place (drop_lines ts) ≡ true
place_left [] h = h
place_left (Word w ∷ ts) h = h
place_left (IntegerConstant n s ∷ ts) h = h
place_left (StringLiteral cs o ∷ ts) h = h
place_left (Punctuator s ∷ ts) h = h
place_left (Header n ∷ ts) h = h
place_left (Line n ∷ ts) h = absurd (true-is_not-false (sym h))

places_left : (ts : List Token) → places_follow ts ≡ true → places_follow (drop_lines ts) ≡ true
places_left [] h = refl
places_left (Word w ∷ ts) h = places_left ts h
places_left (IntegerConstant n s ∷ ts) h = places_left ts h
places_left (StringLiteral cs false ∷ ts) h = places_left ts h
places_left (StringLiteral cs true ∷ ts) h = and_true _ _ (place_left ts (first_of (starts_with_place ts) (places_follow ts) h)) (places_left ts (second_of (starts_with_place ts) (places_follow ts) h))
places_left (Punctuator s ∷ ts) h = places_left ts h
places_left (Header n ∷ ts) h = places_left ts h
places_left (Line n ∷ ts) h = places_left ts h

pub tokens_erased : {text : List ℕ} {ts : List Token} → Tokens text ts → Tokens (erase text) (drop_lines ts)
tokens_erased {text} {ts} c =
    record {
      bytes = bytes_left _ refl (is_directive_line (first_line text)) text c.bytes;
      plain = plain_left (is_directive_line (first_line text)) text c.plain;
      cut = cut_erased c.cut;
      headers = headers_left [] ts c.headers;
      places = places_left ts c.places;
    }

pub text_erased : {text : List ℕ} {tree : Kernel} → ReadsText text tree → ReadsText (erase text) (strip tree)
text_erased {text} r =
    record {
      tokens = drop_lines r.tokens;
      cut = tokens_erased r.cut;
      reads = reads_strips r.reads;
      length = let shorter : length (erase text) ≤ length text = length_left (is_directive_line (first_line text)) text in let small = r.length in omega arith;
    }
