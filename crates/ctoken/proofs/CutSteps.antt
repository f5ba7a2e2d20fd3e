-- How far a text is cut: any cut of it goes through here, and any cut of what is left makes one.
use Rattle.std.specs.Prelude.{ℕ, suc, Bool, true, false, not, ◌==◌, ◌&&◌, ◌≡◌, ◌+◌, ◌-◌, ◌<◌, ◌≤◌, min, List, [], ◌∷◌, ◌++◌, Option, Some, None, length, take, drop, IsAscii}
use Rattle.std.specs.List.{list_all, AllByRecursion}
use Rattle.std.proofs.Common.{cond, refl, sym, ap, ◌∙◌, subst, arith, add-one}
use Rattle.std.proofs.lemmas.List.{drop-drop, append_assoc, append-nil, length-drop, length-take, length_push, drop_all, take_rest, map_push}
use Rattle.std.proofs.lemmas.List.Elements.{All-from_recursion, All-take}
use Rattle.std.proofs.lemmas.Str.Ascii.{IsAscii-nil, IsAscii-cons}
use Rattle.std.proofs.Math.Seq.{take-add}
use Rattle.semantics.specs.Source.Text.{starts_with, is_directive_line}
use Rattle.semantics.specs.Source.Token as meant
use Rattle.semantics.specs.Source.Cuts.{Stands, word, is_letter, is_word_byte, is_name, stops, is_line, header_of, Cuts, end}
use Rattle.semantics.specs.Source.Spans.{Span, spanned, IsWholeLine, line_ends, IsAt, AreAt}
use Rattle.semantics.proofs.EraseTokenLaw.{first_of, second_of, true-is_not-false}
use Rattle.ktree.specs.declared.place.Place.{Place}
use Rattle.ctoken.specs.declared.piece.Piece as code
use Rattle.ctoken.specs.declared.piece.Piece.TheVariants as found
use Rattle.ctoken.specs.Pieces.{IsFront}
use Rattle.ctoken.specs.declared.token.TokenKind.{TokenKind}
use Rattle.ctoken.specs.declared.token.TokenKind.TheVariants as kinds
use Rattle.ctoken.specs.declared.token.Token.{Token}
use Rattle.ctoken.specs.Front.{Piece, Gap, Turn, Took, front}
use Rattle.ctoken.specs.Meant.{IsKind, IsLineOf, StandsFor, StandFor, span_of, spans_of, CutSo, LiesIn, LieIn}
use Rattle.ctoken.proofs.FrontLaw.{not_true, Next, next_at, into_next}
use Rattle.ctoken.proofs.FrontSound.{IsRestOfLine, Placed, Gaps, Turns, Takes, Says, says}

pub record Reached (text : List ℕ) (tokens : List Token) (position line start : ℕ) (fresh : Bool) : Type 0 where
  pub done : List meant.Token
  pub within : position ≤ length text
  pub from : start ≤ position
  pub few : line ≤ position + 1
  pub count : length tokens ≤ position
  pub lines : line ≡ suc (line_ends (take position text))
  pub stand : StandFor tokens done
  pub sound : (ts : List meant.Token) → Cuts fresh line (drop position text) ts → Cuts true 1 text (done ++ ts)
  pub complete : (us : List meant.Token) → Cuts true 1 text us → (ts : List meant.Token) × (us ≡ done ++ ts) × Cuts fresh line (drop position text) ts
  pub placed : (ss : List Span) (ts : List meant.Token) → AreAt text position ss ts → AreAt text 0 (spans_of tokens ++ ss) (done ++ ts)

-- bytes of words
letter_ascii : (b : ℕ) → is_letter b ≡ true → b < 128
letter_ascii b h = grind arith

word_byte_ascii : (b : ℕ) → is_word_byte b ≡ true → b < 128
word_byte_ascii b h = grind arith

-- line ends
line_ends-append : (a b : List ℕ) → line_ends (a ++ b) ≡ line_ends a + line_ends b
line_ends-append [] b = omega arith
line_ends-append (c ∷ a) b = go (line_ends-append a b) (c == 10)
  where
    go : line_ends (a ++ b) ≡ line_ends a + line_ends b → (x : Bool) → cond x (suc (line_ends (a ++ b))) (line_ends (a ++ b)) ≡ cond x (suc (line_ends a)) (line_ends a) + line_ends b
    go ih true = omega arith
    go ih false = ih

line_ends-line : (a : List ℕ) → is_line a ≡ true → line_ends a ≡ 0
line_ends-line [] h = refl
line_ends-line (c ∷ a) h =
    ap (λ x. cond x (suc (line_ends a)) (line_ends a)) (not_true (c == 10) (first_of _ _ h)) ∙ line_ends-line a (second_of (not (c == 10)) _ h)

line_before : (a b : List ℕ) → is_line (a ++ b) ≡ true → is_line a ≡ true
line_before [] b h = refl
line_before (c ∷ a) b h =
    ap (λ x. x && is_line a) (first_of (not (c == 10)) _ h) ∙ line_before a b (second_of (not (c == 10)) _ h)

same_line : (text : List ℕ) (position line k : ℕ) → line ≡ suc (line_ends (take position text)) → is_line (take k (drop position text)) ≡ true → line ≡ suc (line_ends (take (position + k) text))
same_line text position line k e h =
    let whole : line_ends (take (position + k) text) ≡ line_ends (take position text ++ take k (drop position text)) = ap line_ends (take-add position k text) in
    let parts : line_ends (take position text ++ take k (drop position text)) ≡ line_ends (take position text) + line_ends (take k (drop position text)) = line_ends-append (take position text) (take k (drop position text)) in
    let none : line_ends (take k (drop position text)) ≡ 0 = line_ends-line (take k (drop position text)) h in
    omega arith

-- tokens that stand behind a later place stand behind an earlier one
earlier : (text : List ℕ) (p q : ℕ) (ss : List Span) (ts : List meant.Token) → p ≤ q → AreAt text q ss ts → AreAt text p ss ts
earlier text p q [] [] h k = tt
earlier text p q [] (t ∷ ts) h k = k
earlier text p q (s ∷ ss) [] h k = k
earlier text p q (s ∷ ss) (t ∷ ts) h k = (let from : q ≤ s.first = k.0 in omega arith, k.1, k.2, k.3)

says_at : (f : Bool) (n : ℕ) (bs : List ℕ) (o : Option Piece) → front f n bs ≡ o → Says f n bs o
says_at f n bs o e = subst (Says f n bs) e (says f n bs)

pub reached_gap : {text : List ℕ} {tokens : List Token} {position line start : ℕ} {fresh : Bool} (k : ℕ) → Reached text tokens position line start fresh
    → front fresh line (drop position text) ≡ Some (Gap k) → Reached text tokens (position + k) line start false
reached_gap {text} {tokens} {position} {line} {start} {fresh} k r e =
    let gap : Gaps fresh line k (drop position text) = says_at fresh line (drop position text) (Some (Gap k)) e in
    record {
      done = r.done;
      within = let w = gap.within in let l = length-drop position text in let o = r.within in omega arith;
      from = let f = r.from in omega arith;
      few = let f = r.few in omega arith;
      count = let c = r.count in omega arith;
      lines = same_line text position line k r.lines gap.line;
      stand = r.stand;
      sound = λ ts q. r.sound ts (gap.cuts ts (subst (λ v. Cuts false line v ts) (sym (drop-drop k position text)) q));
      complete = λ us q. let w = r.complete us q in (w.0, w.1, subst (λ v. Cuts false line v w.0) (drop-drop k position text) (next_at fresh line (drop position text) w.0 (Some (Gap k)) e w.2));
      placed = λ ss ts h. r.placed ss ts (earlier text position (position + k) ss ts (omega arith) h);
    }

pub reached_turn : {text : List ℕ} {tokens : List Token} {position line start : ℕ} {fresh : Bool} → Reached text tokens position line start fresh
    → front fresh line (drop position text) ≡ Some Turn → Reached text tokens (position + 1) (line + 1) (position + 1) true
reached_turn {text} {tokens} {position} {line} {start} {fresh} r e =
    let turn : Turns fresh line (drop position text) = says_at fresh line (drop position text) (Some Turn) e in
    record {
      done = r.done;
      within = let w = ap length turn.begins in let l = length-drop position text in let o = r.within in omega arith;
      from = omega arith;
      few = let f = r.few in omega arith;
      count = let c = r.count in omega arith;
      lines =
          let whole : line_ends (take (position + 1) text) ≡ line_ends (take position text ++ take 1 (drop position text)) = ap line_ends (take-add position 1 text) in
          let parts : line_ends (take position text ++ take 1 (drop position text)) ≡ line_ends (take position text) + line_ends (take 1 (drop position text)) = line_ends-append (take position text) (take 1 (drop position text)) in
          let one : line_ends (take 1 (drop position text)) ≡ 1 = ap (λ v. line_ends (take 1 v)) turn.begins in
          let l = r.lines in omega arith;
      stand = r.stand;
      sound = λ ts q. r.sound ts (turn.cuts ts (subst (λ n. Cuts true n (drop 1 (drop position text)) ts) (add-one line) (subst (λ v. Cuts true (line + 1) v ts) (sym (drop-drop 1 position text)) q)));
      complete = λ us q. let w = r.complete us q in
          (w.0, w.1, subst (λ v. Cuts true (line + 1) v w.0) (drop-drop 1 position text) (subst (λ n. Cuts true n (drop 1 (drop position text)) w.0) (sym (add-one line)) (next_at fresh line (drop position text) w.0 (Some Turn) e w.2)));
      placed = λ ss ts h. r.placed ss ts (earlier text position (position + 1) ss ts (omega arith) h);
    }

-- the code has the rest of a text as a part of it
pub front_at : (text : List ℕ) (position n : ℕ) (fresh : Bool) (o : Option Piece) → front fresh n (take (length text - position) (drop position text)) ≡ o → front fresh n (drop position text) ≡ o
front_at text position n fresh o e = sym (ap (front fresh n) (take_rest text position)) ∙ e

pub gap_front : (text : List ℕ) (position n k : ℕ) (fresh : Bool) (p : code.Piece) → p ≡ found.Gap k
    → ((m : ℕ) → IsFront p (front fresh m (take (length text - position) (drop position text)))) → front fresh n (drop position text) ≡ Some (Gap k)
gap_front text position n k fresh p e h =
    front_at text position n fresh (Some (Gap k)) (subst (λ q. IsFront q (front fresh n (take (length text - position) (drop position text)))) e (h n))

pub turn_front : (text : List ℕ) (position n : ℕ) (fresh : Bool) (p : code.Piece) → p ≡ found.LineEnd
    → ((m : ℕ) → IsFront p (front fresh m (take (length text - position) (drop position text)))) → front fresh n (drop position text) ≡ Some Turn
turn_front text position n fresh p e h =
    front_at text position n fresh (Some Turn) (subst (λ q. IsFront q (front fresh n (take (length text - position) (drop position text)))) e (h n))

pub token_front : (text : List ℕ) (position n lead k : ℕ) (kind : TokenKind) (fresh : Bool) (p : code.Piece) → p ≡ found.Token kind lead k
    → ((m : ℕ) → IsFront p (front fresh m (take (length text - position) (drop position text)))) → (t : meant.Token) × (front fresh n (drop position text) ≡ Some (Took lead k t)) × IsKind kind t
token_front text position n lead k kind fresh p e h =
    let w : IsFront (found.Token kind lead k) (front fresh n (take (length text - position) (drop position text))) = subst (λ q. IsFront q (front fresh n (take (length text - position) (drop position text)))) e (h n) in
    (w.0, front_at text position n fresh (Some (Took lead k w.0)) w.1, w.2)

-- what the front says is within the text
pub gap_within : (text : List ℕ) (position n k : ℕ) (fresh : Bool) → position ≤ length text → front fresh n (drop position text) ≡ Some (Gap k) → (0 < k) × (position + k ≤ length text)
gap_within text position n k fresh h e =
    let gap : Gaps fresh n k (drop position text) = says_at fresh n (drop position text) (Some (Gap k)) e in
    (gap.some, let w = gap.within in let l = length-drop position text in omega arith)

pub token_within : (text : List ℕ) (position n lead k : ℕ) (t : meant.Token) (fresh : Bool) → position ≤ length text → front fresh n (drop position text) ≡ Some (Took lead k t) → (0 < k) × (position + lead + k ≤ length text)
token_within text position n lead k t fresh h e =
    let token : Takes fresh n lead k (drop position text) t = says_at fresh n (drop position text) (Some (Took lead k t)) e in
    (token.some, let w = token.within in let l = length-drop position text in omega arith)

-- a token of the code
abbrev pub token_at : TokenKind → ℕ → ℕ → Place → Token
token_at kind start k place = record { kind = kind; start = start; length = k; place = place }

stand_push : (ts : List Token) (ms : List meant.Token) (t : Token) (m : meant.Token) → StandFor ts ms → StandsFor t m → StandFor (ts ++ t ∷ []) (ms ++ m ∷ [])
stand_push [] [] t m h k = (k, tt)
stand_push [] (n ∷ ms) t m h k = absurd h
stand_push (u ∷ ts) [] t m h k = absurd h
stand_push (u ∷ ts) (n ∷ ms) t m h k = (h.0, stand_push ts ms t m h.1 k)

line_of_token : (n lead k line : ℕ) (bs : List ℕ) (t : meant.Token) → Placed n lead k bs t → line ≡ min n 4294967295 → IsLineOf line t
line_of_token n lead k line bs (meant.Word w) p e = tt
line_of_token n lead k line bs (meant.IntegerConstant m s) p e = tt
line_of_token n lead k line bs (meant.StringLiteral cs o) p e = tt
line_of_token n lead k line bs (meant.Punctuator s) p e = tt
line_of_token n lead k line bs (meant.Header h) p e = tt
line_of_token n lead k line bs (meant.Line m) p e = e ∙ ap (λ x. min x 4294967295) (sym p.2)

token_is_at : (text : List ℕ) (position n lead k : ℕ) (t : meant.Token) → n ≡ suc (line_ends (take (position + lead) text)) → Placed n lead k (drop position text) t
    → IsAt text (record { first = position + lead; count = k }) t
token_is_at text position n lead k t e p = go t p
  where
    front_is : drop lead (drop position text) ≡ drop (position + lead) text
    front_is = drop-drop lead position text

    behind_is : drop k (drop lead (drop position text)) ≡ drop (position + lead + k) text
    behind_is = ap (drop k) front_is ∙ drop-drop k (position + lead) text

    stands : (t : meant.Token) → Stands (take k (drop lead (drop position text))) (drop k (drop lead (drop position text))) t → Stands (take k (drop (position + lead) text)) (drop (position + lead + k) text) t
    stands t s = subst (λ v. Stands (take k (drop (position + lead) text)) v t) behind_is (subst (λ v. Stands (take k v) (drop k (drop lead (drop position text))) t) front_is s)

    whole : IsRestOfLine lead k (drop position text) → IsWholeLine text (record { first = position + lead; count = k })
    whole w =
        record {
          begins = ap (λ v. starts_with (35 ∷ []) (take k v)) (sym front_is) ∙ w.begins;
          ends = ap (stops (λ b. not (b == 10))) (sym behind_is) ∙ w.ends;
        }

    go : (t : meant.Token) → Placed n lead k (drop position text) t → IsAt text (record { first = position + lead; count = k }) t
    go (meant.Word w) q = stands (meant.Word w) q
    go (meant.IntegerConstant m s) q = stands (meant.IntegerConstant m s) q
    go (meant.StringLiteral cs o) q = stands (meant.StringLiteral cs o) q
    go (meant.Punctuator s) q = stands (meant.Punctuator s) q
    go (meant.Header h) q = (ap (λ v. is_line (take k v)) (sym front_is) ∙ q.0, ap (λ v. header_of (take k v)) (sym front_is) ∙ q.1, whole q.2)
    go (meant.Line m) q = (ap (λ v. is_line (take k v)) (sym front_is) ∙ q.0, ap (λ v. is_directive_line (take k v)) (sym front_is) ∙ q.1, q.2 ∙ e, whole q.3)

pub reached_token : {text : List ℕ} {tokens : List Token} {position line start : ℕ} {fresh : Bool} (kind : TokenKind) (place : Place) (lead k : ℕ) (t : meant.Token)
    → Reached text tokens position line start fresh → front fresh line (drop position text) ≡ Some (Took lead k t) → IsKind kind t → place.line ≡ min line 4294967295
    → Reached text (tokens ++ token_at kind (position + lead) k place ∷ []) (position + lead + k) line start false
reached_token {text} {tokens} {position} {line} {start} {fresh} kind place lead k t r e is d =
    let took : Takes fresh line lead k (drop position text) t = says_at fresh line (drop position text) (Some (Took lead k t)) e in
    let behind_is : drop k (drop lead (drop position text)) ≡ drop (position + lead + k) text = ap (drop k) (drop-drop lead position text) ∙ drop-drop k (position + lead) text in
    let some = (token_within text position line lead k t fresh r.within e).0 in
    let within : position + lead + k ≤ length text = (token_within text position line lead k t fresh r.within e).1 in
    let line_here : line ≡ suc (line_ends (take (position + lead) text)) =
    same_line text position line lead r.lines (line_before (take lead (drop position text)) (take k (drop lead (drop position text))) (ap is_line (sym (take-add lead k (drop position text))) ∙ took.line)) in
    let span : Span = record { first = position + lead; count = k } in
    record {
      done = r.done ++ t ∷ [];
      within = within;
      from = let f = r.from in omega arith;
      few = let f = r.few in omega arith;
      count = let c = r.count in let l = length_push tokens (token_at kind (position + lead) k place) in omega arith;
      lines = same_line text position line (lead + k) r.lines took.line ∙ ap (λ m. suc (line_ends (take m text))) (let a : position + (lead + k) ≡ position + lead + k = omega arith in a);
      stand = stand_push tokens r.done (token_at kind (position + lead) k place) t r.stand (is, line_of_token line lead k place.line (drop position text) t took.placed d);
      sound = λ ts q. subst (Cuts true 1 text) (sym (append_assoc r.done (t ∷ []) ts)) (r.sound (t ∷ ts) (took.cuts ts (subst (λ v. Cuts false line v ts) (sym behind_is) q)));
      complete = λ us q.
          let w = r.complete us q in
          let after : Next fresh line (drop position text) w.0 (Some (Took lead k t)) = next_at fresh line (drop position text) w.0 (Some (Took lead k t)) e w.2 in
          (after.0, w.1 ∙ ap (λ xs. r.done ++ xs) after.1 ∙ sym (append_assoc r.done (t ∷ []) after.0), subst (λ v. Cuts false line v after.0) behind_is after.2);
      placed = λ ss ts h.
          subst (λ v. AreAt text 0 v ((r.done ++ t ∷ []) ++ ts)) (sym (ap (λ xs. xs ++ ss) (map_push span_of tokens (token_at kind (position + lead) k place)) ∙ append_assoc (spans_of tokens) (span ∷ []) ss))
          (subst (AreAt text 0 (spans_of tokens ++ span ∷ ss)) (sym (append_assoc r.done (t ∷ []) ts))
          (r.placed (span ∷ ss) (t ∷ ts) (omega arith, within, token_is_at text position line lead k t line_here took.placed, h)));
    }

-- the text's end
no_rest : (text : List ℕ) (position : ℕ) → length text ≤ position → drop position text ≡ []
no_rest text position h = drop_all position text h

pub reached_end : {text : List ℕ} {tokens : List Token} {position line start : ℕ} → Reached text tokens position line start true → length text ≤ position → CutSo text tokens None
reached_end {text} {tokens} {position} {line} r h = (
  r.done,
  subst (Cuts true 1 text) (append-nil r.done) (r.sound [] (subst (λ v. Cuts true line v []) (sym (no_rest text position h)) end)),
  r.stand,
  subst (λ v. AreAt text 0 v r.done) (append-nil (spans_of tokens)) (subst (AreAt text 0 (spans_of tokens ++ [])) (append-nil r.done) (r.placed [] [] tt)),
)

pub reached_inside : {text : List ℕ} {tokens : List Token} {position line start : ℕ} → Reached text tokens position line start false → length text ≤ position → CutSo text tokens (Some (length text))
reached_inside {text} {tokens} {position} {line} r h =
    (omega arith, λ us q. let w = r.complete us q in true-is_not-false (sym (into_next (subst (λ v. Cuts false line v w.0) (no_rest text position h) w.2)).0))

-- what is cut so far lies in the text
name_ascii : (w : List ℕ) → list_all is_word_byte w ≡ true → IsAscii w
name_ascii [] h = IsAscii-nil
name_ascii (b ∷ w) h = IsAscii-cons b w (word_byte_ascii b (first_of (is_word_byte b) _ h)) (name_ascii w (second_of (is_word_byte b) _ h))

whole_name : (w : List ℕ) → is_name w ≡ true → IsAscii w
whole_name [] h = IsAscii-nil
whole_name (b ∷ w) h = IsAscii-cons b w (letter_ascii b (first_of (is_letter b) _ h)) (name_ascii w (second_of (is_letter b) _ h))

stands_ascii : {w rest v : List ℕ} → Stands w rest (meant.Word v) → IsAscii w
stands_ascii (word {w = w} h k) = whole_name w h

word_ascii : (text : List ℕ) (t : Token) (m : meant.Token) → IsKind t.kind m → IsAt text (span_of t) m → t.kind ≡ kinds.Identifier → IsAscii (spanned text (span_of t))
word_ascii text t (meant.Word w) k p e = stands_ascii p
word_ascii text t (meant.IntegerConstant n s) k p e = absurd (subst (λ x. IsKind x (meant.IntegerConstant n s)) e k)
word_ascii text t (meant.StringLiteral cs o) k p e = absurd (subst (λ x. IsKind x (meant.StringLiteral cs o)) e k)
word_ascii text t (meant.Punctuator s) k p e = absurd (subst (λ x. IsKind x (meant.Punctuator s)) e k)
word_ascii text t (meant.Header h) k p e = absurd (subst (λ x. IsKind x (meant.Header h)) e k)
word_ascii text t (meant.Line n) k p e = absurd (subst (λ x. IsKind x (meant.Line n)) e k)

each_lies : (text : List ℕ) (from : ℕ) (ts : List Token) (ms : List meant.Token) → StandFor ts ms → AreAt text from (spans_of ts) ms → AllByRecursion (LiesIn text) ts
each_lies text from [] ms h p = tt
each_lies text from (t ∷ ts) [] h p = absurd h
each_lies text from (t ∷ ts) (m ∷ ms) h p =
    (record { within = p.1; ascii = word_ascii text t m h.0.0 p.2 }, each_lies text (t.start + t.length) ts ms h.1 p.3)

pub reached_lie : {text : List ℕ} {tokens : List Token} {position line start : ℕ} {fresh : Bool} → Reached text tokens position line start fresh → LieIn text tokens
reached_lie {text} {tokens} {position} r =
    record {
      each = All-from_recursion (LiesIn text) tokens (each_lies text 0 tokens r.done r.stand
          (subst (λ v. AreAt text 0 v r.done) (append-nil (spans_of tokens)) (subst (AreAt text 0 (spans_of tokens ++ [])) (append-nil r.done) (r.placed [] [] tt))));
      count = let c = r.count in let w = r.within in omega arith;
    }

-- and so does a part of it from the front
pub taken_lie : (text : List ℕ) (tokens : List Token) (n : ℕ) → LieIn text tokens → LieIn text (take n tokens)
taken_lie text tokens n h = record { each = All-take (LiesIn text) n tokens h.each; count = let c = h.count in let l = length-take n tokens in omega arith }

-- no token begins here
pub reached_fault : {text : List ℕ} {tokens : List Token} {position line start : ℕ} {fresh : Bool} (at : ℕ) → Reached text tokens position line start fresh → position < length text
    → front fresh line (drop position text) ≡ None → at ≤ length (take (length text - position) (drop position text)) → CutSo text tokens (Some (position + at))
reached_fault {text} {tokens} {position} {line} {start} {fresh} at r h e b = (
  let l = length-drop position text in let t = ap length (take_rest text position) in omega arith,
  λ us q. let w = r.complete us q in
      let after : Next fresh line (drop position text) w.0 None = next_at fresh line (drop position text) w.0 None e w.2 in
      let none = ap length after.1 in let l = length-drop position text in absurd (omega arith),
)

-- the steps of the loop, from what the code found in the rest
pub gap_step : {text : List ℕ} {tokens : List Token} {position line start : ℕ} {fresh : Bool} (k : ℕ) {p : code.Piece} → Reached text tokens position line start fresh → p ≡ found.Gap k
    → ((m : ℕ) → IsFront p (front fresh m (take (length text - position) (drop position text)))) → (0 < k) × (position + k ≤ length text) × Reached text tokens (position + k) line start false
gap_step {text} {tokens} {position} {line} {start} {fresh} k {p} r e h =
    let is : front fresh line (drop position text) ≡ Some (Gap k) = gap_front text position line k fresh p e h in
    let within = gap_within text position line k fresh r.within is in
    (within.0, within.1, reached_gap k r is)

pub turn_step : {text : List ℕ} {tokens : List Token} {position line start : ℕ} {fresh : Bool} {p : code.Piece} → Reached text tokens position line start fresh → p ≡ found.LineEnd
    → ((m : ℕ) → IsFront p (front fresh m (take (length text - position) (drop position text)))) → Reached text tokens (position + 1) (line + 1) (position + 1) true
turn_step {text} {tokens} {position} {line} {start} {fresh} {p} r e h = reached_turn r (turn_front text position line fresh p e h)

pub token_step : {text : List ℕ} {tokens : List Token} {position line start : ℕ} {fresh : Bool} (kind : TokenKind) (lead k : ℕ) {p : code.Piece} → Reached text tokens position line start fresh
    → p ≡ found.Token kind lead k → ((m : ℕ) → IsFront p (front fresh m (take (length text - position) (drop position text))))
    → (0 < k) × (position + lead + k ≤ length text)
    × ((place : Place) → place.line ≡ min line 4294967295 → Reached text (tokens ++ token_at kind (position + lead) k place ∷ []) (position + lead + k) line start false)
token_step {text} {tokens} {position} {line} {start} {fresh} kind lead k {p} r e h =
    let t = token_front text position line lead k kind fresh p e h in
    let within = token_within text position line lead k t.0 fresh r.within t.1 in
    (within.0, within.1, λ place d. reached_token kind place lead k t.0 r t.1 t.2 d)

pub fault_step : {text : List ℕ} {tokens : List Token} {position line start : ℕ} {fresh : Bool} (at : ℕ) → Reached text tokens position line start fresh → position < length text
    → ((m : ℕ) → (at ≤ length (take (length text - position) (drop position text))) × (front fresh m (take (length text - position) (drop position text)) ≡ None))
    → (position + at ≤ length text) × CutSo text tokens (Some (position + at))
fault_step {text} {tokens} {position} {line} {start} {fresh} at r h g =
    let so : CutSo text tokens (Some (position + at)) = reached_fault at r h (front_at text position line fresh None (g line).1) (g line).0 in
    (so.0, so)
