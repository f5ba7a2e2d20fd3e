-- What the checks of the code's tokens say of the tokens that they stand for.
use Rattle.std.specs.Prelude.{ℕ, Bool, true, false, not, ◌==◌, ◌&&◌, ◌||◌, ◌≡◌, ◌+◌, ◌-◌, ◌<◌, ◌≤◌, List, [], ◌∷◌, Option, Some, None, is_none, nat_eq, codes, length, take, drop}
use Rattle.std.specs.List.{list_any}
use lib.Pointwise.{pointwise}
use Rattle.std.proofs.Common.{refl, sym, ap, ◌∙◌, arith}
use Rattle.std.proofs.lemmas.Bool.{eqb-true, eqb-false, and_parts, and_from, not-true, both_ways}
use Rattle.std.proofs.lemmas.List.{at_drop_more, drop_more, take_rest, length-take-le, length-drop}
use Rattle.semantics.specs.Source.Text.{starts_with}
use Rattle.semantics.specs.Source.Token as meant
use Rattle.semantics.specs.Source.Cuts.{Stands, word, has_trigraph, is_header, headers_first, starts_with_place, places_follow}
use Rattle.ctoken.specs.declared.token.TokenKind.{TokenKind}
use Rattle.ctoken.specs.declared.token.TokenKind.TheVariants.{Identifier, IntegerConstant, StringLiteral, Punctuator, Include, Line}
use Rattle.ctoken.specs.declared.token.Token.{Token}
use Rattle.ctoken.specs.Meant.{IsKind, StandFor, span_of, spans_of, CutSo, AreTokensOf, HasNoTokens}
use Rattle.semantics.specs.Source.Spans.{IsAt, AreAt}
use Rattle.ctoken.proofs.FrontLaw.{one_cut}
use Rattle.ctoken.proofs.FrontSound.{same_bytes}
use Rattle.text.proofs.FrontLaw.{front-is_word}
use Rattle.ctoken.specs.Checks.{header_in, header_step, headers_from, is_word, is_open, is_place, places_from, passes}

pub trigraph-step : (bs : List ℕ) (i : ℕ) (whole : Bool) → i < length bs → whole ≡ has_trigraph (drop i bs)
    → starts_with (codes "??") (take (length bs - i) (drop i bs)) ≡ false → whole ≡ has_trigraph (drop (i + 1) bs)
trigraph-step bs i whole h e s =
    e ∙ at_drop_more has_trigraph bs i 0 h
    ∙ ap (λ x. x || has_trigraph (drop (i + 1) bs)) (sym (ap (starts_with (codes "??")) (take_rest bs i ∙ drop_more bs i 0 h)) ∙ s)

none_first : (seen : List ℕ) (t : meant.Token) (ts : List meant.Token) → is_header t ≡ false → headers_first seen (t ∷ ts) ≡ not (list_any is_header ts)
none_first seen (meant.Word w) ts h = refl
none_first seen (meant.IntegerConstant n s) ts h = refl
none_first seen (meant.StringLiteral cs o) ts h = refl
none_first seen (meant.Punctuator s) ts h = refl
none_first seen (meant.Header n) ts h = absurd (true_is_not_false h)
  where
    true_is_not_false : true ≡ false → ⊥
    true_is_not_false e = cc
none_first seen (meant.Line n) ts h = refl

-- a token of the code has the header of the token that it stands for
abbrev SameHeader : TokenKind → meant.Token → Type 0
SameHeader k (meant.Header h) = header_in k ≡ Some h
SameHeader k (meant.Word w) = header_in k ≡ None
SameHeader k (meant.IntegerConstant n s) = header_in k ≡ None
SameHeader k (meant.StringLiteral cs o) = header_in k ≡ None
SameHeader k (meant.Punctuator s) = header_in k ≡ None
SameHeader k (meant.Line n) = header_in k ≡ None

same_header : (k : TokenKind) (m : meant.Token) → IsKind k m → SameHeader k m
same_header Identifier (meant.Word w) h = refl
same_header (IntegerConstant v s) (meant.IntegerConstant n t) h = refl
same_header (StringLiteral o) (meant.StringLiteral cs p) h = refl
same_header (Punctuator s) (meant.Punctuator t) h = refl
same_header (Include i) (meant.Header n) h = ap Some h
same_header Line (meant.Line n) h = refl
same_header k m h = absurd h

step_with : (seen : Option (List ℕ)) (o : Option ℕ) (t : Token) (ts : List Token) → header_in t.kind ≡ o → headers_from seen (t ∷ ts) ≡ header_step seen o (λ next. headers_from next ts)
step_with seen o t ts e = ap (λ x. header_step seen x (λ next. headers_from next ts)) e

behind_step : (m : meant.Token) (ms : List meant.Token) (t : Token) (ts : List Token) → SameHeader t.kind m → headers_from None ts ≡ not (list_any is_header ms)
    → headers_from None (t ∷ ts) ≡ not (list_any is_header (m ∷ ms))
behind_step (meant.Word w) ms t ts e ih = step_with None None t ts e ∙ ih
behind_step (meant.IntegerConstant n s) ms t ts e ih = step_with None None t ts e ∙ ih
behind_step (meant.StringLiteral cs o) ms t ts e ih = step_with None None t ts e ∙ ih
behind_step (meant.Punctuator s) ms t ts e ih = step_with None None t ts e ∙ ih
behind_step (meant.Header h) ms t ts e ih = step_with None (Some h) t ts e
behind_step (meant.Line n) ms t ts e ih = step_with None None t ts e ∙ ih

headers_behind : (ts : List Token) (ms : List meant.Token) → StandFor ts ms → headers_from None ts ≡ not (list_any is_header ms)
headers_behind [] [] h = refl
headers_behind [] (m ∷ ms) h = absurd h
headers_behind (t ∷ ts) [] h = absurd h
headers_behind (t ∷ ts) (m ∷ ms) h = behind_step m ms t ts (same_header t.kind m h.0.0) (headers_behind ts ms h.1)

front_step : (seen : List ℕ) (m : meant.Token) (ms : List meant.Token) (t : Token) (ts : List Token) → SameHeader t.kind m → headers_from None ts ≡ not (list_any is_header ms)
    → ((seen : List ℕ) → headers_from (Some seen) ts ≡ headers_first seen ms) → headers_from (Some seen) (t ∷ ts) ≡ headers_first seen (m ∷ ms)
front_step seen (meant.Word w) ms t ts e b ih = step_with (Some seen) None t ts e ∙ b
front_step seen (meant.IntegerConstant n s) ms t ts e b ih = step_with (Some seen) None t ts e ∙ b
front_step seen (meant.StringLiteral cs o) ms t ts e b ih = step_with (Some seen) None t ts e ∙ b
front_step seen (meant.Punctuator s) ms t ts e b ih = step_with (Some seen) None t ts e ∙ b
front_step seen (meant.Header h) ms t ts e b ih = step_with (Some seen) (Some h) t ts e ∙ ap (λ x. not (list_any (nat_eq h) seen) && x) (ih (h ∷ seen))
front_step seen (meant.Line n) ms t ts e b ih = step_with (Some seen) None t ts e ∙ b

pub headers-meant : (seen : List ℕ) (ts : List Token) (ms : List meant.Token) → StandFor ts ms → headers_from (Some seen) ts ≡ headers_first seen ms
headers-meant seen [] [] h = refl
headers-meant seen [] (m ∷ ms) h = absurd h
headers-meant seen (t ∷ ts) [] h = absurd h
headers-meant seen (t ∷ ts) (m ∷ ms) h =
    front_step seen m ms t ts (same_header t.kind m h.0.0) (headers_behind ts ms h.1) (λ more. headers-meant more ts ms h.1)

-- the word `PRIu64`
stands_word : {v rest w : List ℕ} → Stands v rest (meant.Word w) → v ≡ w
stands_word (word h k) = refl

place_is : (text : List ℕ) (start n : ℕ) → start + n ≤ length text → ((n == 6) && starts_with (codes "PRIu64") (drop start text)) ≡ pointwise nat_eq (take n (drop start text)) (codes "PRIu64")
place_is text start n h = go (n == 6) refl (pointwise nat_eq (take n (drop start text)) (codes "PRIu64")) refl
  where
    go : (x : Bool) → (n == 6) ≡ x → (y : Bool) → pointwise nat_eq (take n (drop start text)) (codes "PRIu64") ≡ y → (x && starts_with (codes "PRIu64") (drop start text)) ≡ y
    go true e y d = sym (front-is_word (codes "PRIu64") (drop start text)) ∙ sym (ap (λ m. pointwise nat_eq (take m (drop start text)) (codes "PRIu64")) (eqb-true n 6 e)) ∙ d
    go false e false d = refl
    go false e true d =
        absurd (eqb-false n 6 e (let l : length (take n (drop start text)) ≡ n = length-take-le n (drop start text) (let k = length-drop start text in omega arith) in
        let six : length (take n (drop start text)) ≡ 6 = ap length (same_bytes (take n (drop start text)) (codes "PRIu64") d) in omega arith))

abbrev SamePlace : List ℕ → Token → meant.Token → List meant.Token → Type 0
SamePlace text t m ms = is_place text t ≡ starts_with_place (m ∷ ms)

same_place : (text : List ℕ) (t : Token) (k : TokenKind) (m : meant.Token) (ms : List meant.Token) → t.kind ≡ k → IsKind k m → t.start + t.length ≤ length text → IsAt text (span_of t) m → SamePlace text t m ms
same_place text t Identifier (meant.Word w) ms e h b a =
    ap (λ k. is_word k && ((t.length == 6) && starts_with (codes "PRIu64") (drop t.start text))) e ∙ place_is text t.start t.length b
    ∙ ap (λ v. pointwise nat_eq v (codes "PRIu64")) (stands_word a)
same_place text t (IntegerConstant v s) (meant.IntegerConstant n u) ms e h b a = ap (λ k. is_word k && ((t.length == 6) && starts_with (codes "PRIu64") (drop t.start text))) e
same_place text t (StringLiteral o) (meant.StringLiteral cs p) ms e h b a = ap (λ k. is_word k && ((t.length == 6) && starts_with (codes "PRIu64") (drop t.start text))) e
same_place text t (Punctuator s) (meant.Punctuator u) ms e h b a = ap (λ k. is_word k && ((t.length == 6) && starts_with (codes "PRIu64") (drop t.start text))) e
same_place text t (Include i) (meant.Header n) ms e h b a = ap (λ k. is_word k && ((t.length == 6) && starts_with (codes "PRIu64") (drop t.start text))) e
same_place text t Line (meant.Line n) ms e h b a = ap (λ k. is_word k && ((t.length == 6) && starts_with (codes "PRIu64") (drop t.start text))) e
same_place text t k m ms e h b a = absurd h

open_step : (k : TokenKind) (m : meant.Token) (ms : List meant.Token) → IsKind k m → ((not (is_open k) || starts_with_place ms) && places_follow ms) ≡ places_follow (m ∷ ms)
open_step Identifier (meant.Word w) ms h = refl
open_step (IntegerConstant v s) (meant.IntegerConstant n u) ms h = refl
open_step (StringLiteral true) (meant.StringLiteral cs true) ms h = refl
open_step (StringLiteral false) (meant.StringLiteral cs false) ms h = refl
open_step (StringLiteral true) (meant.StringLiteral cs false) ms h = cc
open_step (StringLiteral false) (meant.StringLiteral cs true) ms h = cc
open_step (Punctuator s) (meant.Punctuator u) ms h = refl
open_step (Include i) (meant.Header n) ms h = refl
open_step Line (meant.Line n) ms h = refl
open_step k m ms h = absurd h

places-due : (due : Bool) (text : List ℕ) (p : ℕ) (ts : List Token) (ms : List meant.Token) → StandFor ts ms → AreAt text p (spans_of ts) ms
    → places_from due text ts ≡ ((not due || starts_with_place ms) && places_follow ms)
places-due true text p [] [] h a = refl
places-due false text p [] [] h a = refl
places-due due text p [] (m ∷ ms) h a = absurd h
places-due due text p (t ∷ ts) [] h a = absurd h
places-due due text p (t ∷ ts) (m ∷ ms) h a =
    ap (λ x. (not due || x) && places_from (is_open t.kind) text ts) (same_place text t t.kind m ms refl h.0.0 a.1 a.2)
    ∙ ap (λ x. (not due || starts_with_place (m ∷ ms)) && x) (places-due (is_open t.kind) text (t.start + t.length) ts ms h.1 a.3 ∙ open_step t.kind m ms h.0.0)

pub places-meant : (text : List ℕ) (ts : List Token) (ms : List meant.Token) → StandFor ts ms → AreAt text 0 (spans_of ts) ms → places_from false text ts ≡ places_follow ms
places-meant text ts ms h a = places-due false text 0 ts ms h a

pub passed : (text : List ℕ) (ts : List Token) → CutSo text ts None → passes text ts ≡ true → AreTokensOf text ts
passed text ts c h =
    let bytes = and_parts _ _ h in
    let plain = and_parts (not (has_trigraph text)) _ bytes.1 in
    let headers = and_parts (headers_from (Some []) ts) (places_from false text ts) plain.1 in
    record {
      meant = c.0;
      cut = record {
        bytes = bytes.0;
        plain = not-true (has_trigraph text) plain.0;
        cut = c.1;
        headers = sym (headers-meant [] ts c.0 c.2) ∙ headers.0;
        places = sym (places-meant text ts c.0 c.2 c.3) ∙ headers.1;
      };
      stand = c.2;
      placed = c.3;
    }

pub failed_check : (text : List ℕ) (ts : List Token) → CutSo text ts None → passes text ts ≡ false → HasNoTokens text
failed_check text ts c h us t =
    let same : us ≡ c.0 = one_cut t.cut c.1 in
    both_ways (passes text ts) h
    (and_from _ _ t.bytes
    (and_from (not (has_trigraph text)) _ (ap not t.plain)
    (and_from (headers_from (Some []) ts) (places_from false text ts)
    (headers-meant [] ts c.0 c.2 ∙ sym (ap (headers_first []) same) ∙ t.headers)
    (places-meant text ts c.0 c.2 c.3 ∙ sym (ap places_follow same) ∙ t.places))))

pub failed_cut : (text : List ℕ) (ts : List Token) (at : ℕ) → CutSo text ts (Some at) → HasNoTokens text
failed_cut text ts at c us t = c.1 us t.cut

-- what is found at the end, from the cut and the checks
pub scanned_ok : (text : List ℕ) (ts slice : List Token) (fault failure found : Option ℕ) → CutSo text ts fault → slice ≡ ts → is_none failure ≡ passes text slice
    → is_none found ≡ (is_none fault && is_none failure) → found ≡ None → AreTokensOf text ts
scanned_ok text ts slice None failure found c s e h d = passed text ts c (ap (passes text) (sym s) ∙ sym e ∙ sym h ∙ ap is_none d)
scanned_ok text ts slice (Some at) failure found c s e h d = absurd (both_ways false refl (sym h ∙ ap is_none d))

pub scanned_err : (text : List ℕ) (ts slice : List Token) (fault failure found : Option ℕ) (at : ℕ) → CutSo text ts fault → slice ≡ ts → is_none failure ≡ passes text slice
    → is_none found ≡ (is_none fault && is_none failure) → found ≡ Some at → HasNoTokens text
scanned_err text ts slice None failure found at c s e h d = failed_check text ts c (ap (passes text) (sym s) ∙ sym e ∙ sym h ∙ ap is_none d)
scanned_err text ts slice (Some k) failure found at c s e h d = failed_cut text ts k c
