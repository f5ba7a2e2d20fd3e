-- What the front of a text says is right: a cut of what is left makes a cut of the whole, and a token stands there.
use Rattle.std.specs.Prelude.{ℕ, suc, Bool, true, false, not, ◌==◌, ◌&&◌, ◌||◌, ◌≡◌, ◌+◌, ◌<◌, ◌≤◌, List, [], ◌∷◌, ◌++◌, Option, Some, None, option_map, codes, length, take, drop, map, nat_eq}
use Rattle.std.specs.List.{list_all, list_any}
use lib.Pointwise.{pointwise}
use Rattle.std.proofs.Common.{cond, refl, sym, ap, ◌∙◌, subst, arith, ◌⊎◌, inl, inr}
use Rattle.std.proofs.lemmas.Bool.{eqb-true, cond-true, cond-false, cond_both, and_parts}
use Rattle.std.proofs.lemmas.List.{take_at, drop_at, append_assoc, append-nil, length-append, length-take-le, take-append-drop}
use Rattle.semantics.specs.Tree.{Suffix, Bare, Ull}
use Rattle.semantics.specs.Source.Text.{is_blank, skip_blanks, first_line, starts_with, behind, is_hash_rest, is_directive_line}
use Rattle.semantics.specs.Source.Token.{Token, Word, Punctuator, Header, Line, Symbol, Slash}
use Rattle.semantics.specs.Source.Cuts.{is_digit, is_letter, is_word_byte, is_printable, stops, is_decimal, suffix_text, symbol_text, is_whole, Spells, done, percent, byte, line_feed, backslash, quote, two_percents, Stands, word, number, text, symbol, is_line, is_plain_directive, after_hash, header_of, is_comment_text, is_comment, Cuts, blank, line_end, comment_line, comment, directive, header, token}
use Rattle.semantics.proofs.EraseTokenLaw.{first_of, second_of, and_true, other, true-is_not-false, line_of, token_line}
use Rattle.ctoken.specs.Front.{run, digits_length, Piece, Gap, Turn, Took, literal, suffixed, Mode, Plain, Escape, Percented, one_more, string_end, spelled, string_of, is_comment_byte, comment_end, slash, long_signs, short_signs, sign_of, sign_or, sign, inside, begins_hash, header_piece, hash_line, front}
use Rattle.ctoken.specs.Front as at
use Rattle.ctoken.proofs.FrontLaw.{is_string_byte, spelled_whole, not_true, into_next, behind_line, blanks_and_rest}

line_append : (a b : List ℕ) → is_line a ≡ true → is_line b ≡ true → is_line (a ++ b) ≡ true
line_append [] b h k = k
line_append (c ∷ a) b h k = and_true _ _ (first_of (not (c == 10)) (is_line a) h) (line_append a b (second_of (not (c == 10)) (is_line a) h) k)

pub same_bytes : (v w : List ℕ) → pointwise nat_eq v w ≡ true → v ≡ w
same_bytes [] [] h = refl
same_bytes [] (c ∷ w) h = absurd (true-is_not-false (sym h))
same_bytes (b ∷ v) [] h = absurd (true-is_not-false (sym h))
same_bytes (b ∷ v) (c ∷ w) h = ap (λ x. x ∷ v) (eqb-true b c (first_of (b == c) _ h)) ∙ ap (λ xs. c ∷ xs) (same_bytes v w (second_of (b == c) _ h))

-- the bytes of a kind, and what follows them
pub run_all : (p : ℕ → Bool) (bs : List ℕ) → list_all p (take (run p bs) bs) ≡ true
run_all p [] = refl
run_all p (b ∷ bs) = go (p b) refl (run_all p bs)
  where
    go : (x : Bool) → p b ≡ x → list_all p (take (run p bs) bs) ≡ true → list_all p (take (cond x (suc (run p bs)) 0) (b ∷ bs)) ≡ true
    go true e ih = and_true (p b) _ e ih
    go false e ih = refl

pub run_stops : (p : ℕ → Bool) (bs : List ℕ) → stops p (drop (run p bs) bs) ≡ true
run_stops p [] = refl
run_stops p (b ∷ bs) = go (p b) refl (run_stops p bs)
  where
    go : (x : Bool) → p b ≡ x → stops p (drop (run p bs) bs) ≡ true → stops p (drop (cond x (suc (run p bs)) 0) (b ∷ bs)) ≡ true
    go true e ih = ih
    go false e ih = ap not e

pub run_within : (p : ℕ → Bool) (bs : List ℕ) → run p bs ≤ length bs
run_within p [] = omega arith
run_within p (b ∷ bs) = go (p b) (run_within p bs)
  where
    go : (x : Bool) → run p bs ≤ length bs → cond x (suc (run p bs)) 0 ≤ suc (length bs)
    go true ih = omega arith
    go false ih = omega arith

pub starts_split : (w bs : List ℕ) → starts_with w bs ≡ true → bs ≡ w ++ behind w bs
starts_split [] bs h = refl
starts_split (c ∷ w) [] h = absurd (true-is_not-false (sym h))
starts_split (c ∷ w) (b ∷ bs) h =
    ap (λ x. x ∷ bs) (sym (eqb-true c b (first_of (c == b) _ h))) ∙ ap (λ xs. c ∷ xs) (starts_split w bs (second_of (c == b) _ h))

-- so many bytes behind so many blanks are all that their line has, from the `#` on
pub record IsRestOfLine (lead k : ℕ) (bs : List ℕ) : Type 0 where
  pub begins : starts_with (35 ∷ []) (take k (drop lead bs)) ≡ true
  pub ends : stops (λ b. not (b == 10)) (drop k (drop lead bs)) ≡ true

-- where a token stands behind so many blanks
abbrev pub Placed : ℕ → ℕ → ℕ → List ℕ → Token → Type 0
Placed n lead k bs (Header h) = (is_line (take k (drop lead bs)) ≡ true) × (header_of (take k (drop lead bs)) ≡ Some h) × IsRestOfLine lead k bs
Placed n lead k bs (Line m) = (is_line (take k (drop lead bs)) ≡ true) × (is_directive_line (take k (drop lead bs)) ≡ true) × (m ≡ n) × IsRestOfLine lead k bs
Placed n lead k bs t = Stands (take k (drop lead bs)) (drop k (drop lead bs)) t

pub record Gaps (f : Bool) (n k : ℕ) (bs : List ℕ) : Type 0 where
  pub some : 0 < k
  pub within : k ≤ length bs
  pub line : is_line (take k bs) ≡ true
  pub cuts : (ts : List Token) → Cuts false n (drop k bs) ts → Cuts f n bs ts

pub record Turns (f : Bool) (n : ℕ) (bs : List ℕ) : Type 0 where
  pub begins : bs ≡ 10 ∷ drop 1 bs
  pub cuts : (ts : List Token) → Cuts true (suc n) (drop 1 bs) ts → Cuts f n bs ts

pub record Takes (f : Bool) (n lead k : ℕ) (bs : List ℕ) (t : Token) : Type 0 where
  pub some : 0 < k
  pub within : lead + k ≤ length bs
  pub line : is_line (take (lead + k) bs) ≡ true
  pub placed : Placed n lead k bs t
  pub cuts : (ts : List Token) → Cuts false n (drop k (drop lead bs)) ts → Cuts f n bs (t ∷ ts)

-- what the front of a text says
abbrev pub Says : Bool → ℕ → List ℕ → Option Piece → Type 0
Says f n bs None = Unit {0}
Says f n bs (Some (Gap k)) = Gaps f n k bs
Says f n bs (Some Turn) = Turns f n bs
Says f n bs (Some (Took lead k t)) = Takes f n lead k bs t

-- a token at the front
takes_token : (f : Bool) (n k : ℕ) (w rest bs : List ℕ) (t : Token) → bs ≡ w ++ rest → length w ≡ k → 0 < k → Stands w rest t
    → (Stands (take k bs) (drop k bs) t → Placed n 0 k bs t) → Takes f n 0 k bs t
takes_token f n k w rest bs t e l positive s p =
    record {
      some = positive;
      within = omega (arith, ap length e, length-append w rest);
      line = ap is_line (front_is (0 + k) (omega arith)) ∙ token_line s;
      placed = p (subst (λ v. Stands v (drop k bs) t) (sym (front_is k (sym l))) (subst (λ v. Stands w v t) (sym rest_is) s));
      cuts = λ ts r. subst (λ v. Cuts f n v (t ∷ ts)) (sym e) (token s (subst (λ v. Cuts false n v ts) rest_is r));
    }
  where
    front_is : (m : ℕ) → m ≡ length w → take m bs ≡ w
    front_is m d = ap (take m) e ∙ take_at w rest m (sym d)

    rest_is : drop k bs ≡ rest
    rest_is = ap (drop k) e ∙ drop_at w rest k l

says_word : (f : Bool) (n b : ℕ) (bs : List ℕ) → is_letter b ≡ true → Says f n (b ∷ bs) (Some (Took 0 (suc (run is_word_byte bs)) (Word (b ∷ take (run is_word_byte bs) bs))))
says_word f n b bs h =
    takes_token f n (suc (run is_word_byte bs)) (b ∷ take (run is_word_byte bs) bs) (drop (run is_word_byte bs) bs) (b ∷ bs) _
    (ap (λ xs. b ∷ xs) (sym (take-append-drop (run is_word_byte bs) bs))) (ap suc (length-take-le _ bs (run_within is_word_byte bs))) (omega arith)
    (word (and_true (is_letter b) _ h (run_all is_word_byte bs)) (run_stops is_word_byte bs)) (λ s. s)

-- the digits of a literal
digits_are : (b : ℕ) (bs : List ℕ) → is_digit b ≡ true → is_decimal (take (digits_length (b ∷ bs)) (b ∷ bs)) ≡ true
digits_are b bs h = go (b == 48) refl
  where
    more : (x : Bool) → is_digit b ≡ x → (b == 48) ≡ false → is_decimal (take (cond x (suc (run is_digit bs)) 0) (b ∷ bs)) ≡ true
    more false e d = absurd (true-is_not-false (sym h ∙ e))
    more true e d = some_digits (take (run is_digit bs) bs) (run_all is_digit bs)
      where
        some_digits : (ds : List ℕ) → list_all is_digit ds ≡ true → is_decimal (b ∷ ds) ≡ true
        some_digits [] k = h
        some_digits (c ∷ ds) k = and_true (is_digit b) _ h (and_true (not (b == 48)) _ (ap not d) k)

    go : (x : Bool) → (b == 48) ≡ x → is_decimal (take (cond x 1 (run is_digit (b ∷ bs))) (b ∷ bs)) ≡ true
    go true e = h
    go false e = more (is_digit b) refl e

digits_some : (ds : List ℕ) → is_decimal ds ≡ true → 0 < length ds
digits_some [] h = absurd (true-is_not-false (sym h))
digits_some (b ∷ ds) h = omega arith

says_literal : (f : Bool) (n : ℕ) (bs ds : List ℕ) (s : Suffix) (rest : List ℕ) → is_decimal ds ≡ true → bs ≡ (ds ++ suffix_text s) ++ rest → Says f n bs (literal ds s rest)
says_literal f n bs ds s rest h e =
    cond_both (stops (λ b. is_word_byte b || (b == 46)) rest) _ None (Says f n bs)
    (λ k. takes_token f n (length ds + length (suffix_text s)) (ds ++ suffix_text s) rest bs _ e (length-append ds (suffix_text s)) (let p : 0 < length ds = digits_some ds h in omega arith) (number ds s h k) (λ s. s))
    (λ k. tt)

says_number : (f : Bool) (n b : ℕ) (bs : List ℕ) → is_digit b ≡ true → Says f n (b ∷ bs) (at.number (b ∷ bs))
says_number f n b bs h =
    cond_both (starts_with (suffix_text Ull) rest) _ _ (Says f n (b ∷ bs))
    (λ k. says_literal f n (b ∷ bs) ds Ull (behind (suffix_text Ull) rest) (digits_are b bs h)
    (whole ∙ ap (λ xs. ds ++ xs) (starts_split (suffix_text Ull) rest k) ∙ sym (append_assoc ds (suffix_text Ull) (behind (suffix_text Ull) rest))))
    (λ k. says_literal f n (b ∷ bs) ds Bare rest (digits_are b bs h) (whole ∙ ap (λ xs. xs ++ rest) (sym (append-nil ds))))
  where
    ds : List ℕ
    ds = take (digits_length (b ∷ bs)) (b ∷ bs)

    rest : List ℕ
    rest = drop (digits_length (b ∷ bs)) (b ∷ bs)

    whole : b ∷ bs ≡ ds ++ rest
    whole = sym (take-append-drop (digits_length (b ∷ bs)) (b ∷ bs))

-- a string that goes on in this mode
abbrev prefix : Mode → List ℕ
prefix Plain = []
prefix Escape = 92 ∷ []
prefix Percented = 37 ∷ []

pub record Ends (mode : Mode) (bs : List ℕ) (k : ℕ) (o : Bool) : Type 0 where
  pub closed : bs ≡ take k bs ++ 34 ∷ drop (suc k) bs
  pub within : k < length bs
  pub spells : (cs : List ℕ) × Spells (prefix mode ++ take k bs) cs o

abbrev EndsSo : Mode → List ℕ → Option (ℕ × Bool) → Type 0
EndsSo mode bs None = Unit {0}
EndsSo mode bs (Some r) = Ends mode bs r.0 r.1

ends_more : (mode : Mode) (b : ℕ) (bs : List ℕ) (o : Option (ℕ × Bool))
    → ((ds cs : List ℕ) (open' : Bool) → Spells ds cs open' → (es : List ℕ) × Spells (prefix mode ++ b ∷ ds) es open') → EndsSo Plain bs o → EndsSo mode (b ∷ bs) (one_more o)
ends_more mode b bs None f h = tt
ends_more mode b bs (Some r) f h =
    record {
      closed = ap (λ xs. b ∷ xs) h.closed;
      within = let w = h.within in omega arith;
      spells = f (take r.0 bs) h.spells.0 r.1 h.spells.1;
    }

mode_more : (mode : Mode) (b : ℕ) (bs : List ℕ) (o : Option (ℕ × Bool)) → prefix mode ≡ b ∷ [] → EndsSo mode bs o → EndsSo Plain (b ∷ bs) (one_more o)
mode_more mode b bs None e h = tt
mode_more mode b bs (Some r) e h =
    record {
      closed = ap (λ xs. b ∷ xs) h.closed;
      within = let w = h.within in omega arith;
      spells = (h.spells.0, subst (λ p. Spells (p ++ take r.0 bs) h.spells.0 r.1) e h.spells.1);
    }

escaped : (b : ℕ) (bs : List ℕ) (o : Option (ℕ × Bool)) → ((b == 110) || ((b == 92) || (b == 34))) ≡ true → EndsSo Plain bs o → EndsSo Escape (b ∷ bs) (one_more o)
escaped b bs o h r = ends_more Escape b bs o go r
  where
    at_byte : (c : ℕ) → (b == c) ≡ true → ((ds cs : List ℕ) (open' : Bool) → Spells ds cs open' → (es : List ℕ) × Spells (92 ∷ c ∷ ds) es open')
        → (ds cs : List ℕ) (open' : Bool) → Spells ds cs open' → (es : List ℕ) × Spells (92 ∷ b ∷ ds) es open'
    at_byte c e f ds cs o' s = subst (λ d. (es : List ℕ) × Spells (92 ∷ d ∷ ds) es o') (sym (eqb-true b c e)) (f ds cs o' s)

    cases : (x y z : Bool) → (b == 110) ≡ x → (b == 92) ≡ y → (b == 34) ≡ z → (x || (y || z)) ≡ true
        → (ds cs : List ℕ) (open' : Bool) → Spells ds cs open' → (es : List ℕ) × Spells (92 ∷ b ∷ ds) es open'
    cases true y z e d k q = at_byte 110 e (λ ds cs o' s. (10 ∷ cs, line_feed s))
    cases false true z e d k q = at_byte 92 d (λ ds cs o' s. (92 ∷ cs, backslash s))
    cases false false true e d k q = at_byte 34 k (λ ds cs o' s. (34 ∷ cs, quote s))
    cases false false false e d k q = absurd (true-is_not-false (sym q))

    go : (ds cs : List ℕ) (open' : Bool) → Spells ds cs open' → (es : List ℕ) × Spells (92 ∷ b ∷ ds) es open'
    go = cases (b == 110) (b == 92) (b == 34) refl refl refl h

plain_byte : (b : ℕ) → (b == 34) ≡ false → (b == 92) ≡ false → (b == 37) ≡ false → is_printable b ≡ true → is_string_byte b ≡ true
plain_byte b e d k p = and_true (is_printable b) _ p (ap (λ x. not (x || ((b == 92) || (b == 37)))) e ∙ ap (λ x. not (x || (b == 37))) d ∙ ap not k)

closes_here : (mode : Mode) (b : ℕ) (bs : List ℕ) (o : Bool) → (b == 34) ≡ true → (cs : List ℕ) × Spells (prefix mode ++ []) cs o → Ends mode (b ∷ bs) 0 o
closes_here mode b bs o e s =
    record { closed = ap (λ c. c ∷ bs) (eqb-true b 34 e); within = omega arith; spells = s }

pub string_ends : (mode : Mode) (bs : List ℕ) → EndsSo mode bs (string_end mode bs)
string_ends Plain [] = tt
string_ends Escape [] = tt
string_ends Percented [] = tt
string_ends Plain (b ∷ bs) =
    let plain : EndsSo Plain bs (string_end Plain bs) = string_ends Plain bs in
    let escape : EndsSo Escape bs (string_end Escape bs) = string_ends Escape bs in
    let percent' : EndsSo Percented bs (string_end Percented bs) = string_ends Percented bs in
    cond_both (b == 34) _ _ (EndsSo Plain (b ∷ bs)) (λ e. closes_here Plain b bs false e ([], done))
    (λ e. cond_both (b == 92) _ _ (EndsSo Plain (b ∷ bs)) (λ d. mode_more Escape b bs (string_end Escape bs) (ap (λ c. c ∷ []) (sym (eqb-true b 92 d))) escape)
    (λ d. cond_both (b == 37) _ _ (EndsSo Plain (b ∷ bs)) (λ k. mode_more Percented b bs (string_end Percented bs) (ap (λ c. c ∷ []) (sym (eqb-true b 37 k))) percent')
    (λ k. cond_both (is_printable b) _ None (EndsSo Plain (b ∷ bs)) (λ p. ends_more Plain b bs (string_end Plain bs) (λ ds cs o s. (b ∷ cs, byte (plain_byte b e d k p) s)) plain) (λ p. tt))))
string_ends Escape (b ∷ bs) =
    let plain : EndsSo Plain bs (string_end Plain bs) = string_ends Plain bs in
    cond_both ((b == 110) || ((b == 92) || (b == 34))) _ None (EndsSo Escape (b ∷ bs)) (λ h. escaped b bs (string_end Plain bs) h plain) (λ h. tt)
string_ends Percented (b ∷ bs) =
    let plain : EndsSo Plain bs (string_end Plain bs) = string_ends Plain bs in
    cond_both (b == 34) _ _ (EndsSo Percented (b ∷ bs)) (λ e. closes_here Percented b bs true e ([], percent))
    (λ e. cond_both (b == 37) _ None (EndsSo Percented (b ∷ bs))
    (λ k. ends_more Percented b bs (string_end Plain bs) (λ ds cs o s. (37 ∷ cs, subst (λ c. Spells (37 ∷ c ∷ ds) (37 ∷ cs) o) (sym (eqb-true b 37 k)) (two_percents s))) plain) (λ k. tt))

says_string : (f : Bool) (n : ℕ) (bs : List ℕ) → Says f n (34 ∷ bs) (string_of bs (string_end Plain bs))
says_string f n bs = go (string_end Plain bs) (string_ends Plain bs)
  where
    go : (o : Option (ℕ × Bool)) → EndsSo Plain bs o → Says f n (34 ∷ bs) (string_of bs o)
    go None h = tt
    go (Some r) h =
        takes_token f n (r.0 + 2) (34 ∷ (take r.0 bs ++ 34 ∷ [])) (drop (suc r.0) bs) (34 ∷ bs) _
        (ap (λ xs. 34 ∷ xs) (h.closed ∙ sym (append_assoc (take r.0 bs) (34 ∷ []) (drop (suc r.0) bs))))
        (let l : length (take r.0 bs) ≡ r.0 = length-take-le r.0 bs (let w = h.within in omega arith) in omega (arith, l, length-append (take r.0 bs) (34 ∷ [])))
        (omega arith)
        (text (subst (λ cs. Spells (take r.0 bs) cs r.1) (sym (spelled_whole h.spells.1)) h.spells.1)) (λ s. s)

-- the end of a comment
pub record Closes (bs : List ℕ) (k : ℕ) : Type 0 where
  pub closed : bs ≡ take k bs ++ 42 ∷ 47 ∷ drop (suc (suc k)) bs
  pub within : k + 2 ≤ length bs
  pub plain : is_comment_text (take k bs) ≡ true
  pub first : is_comment (take k bs ++ 42 ∷ []) ≡ true

abbrev ClosesSo : List ℕ → Option ℕ → Type 0
ClosesSo bs None = Unit {0}
ClosesSo bs (Some k) = Closes bs k

starts_cut : (b : ℕ) (xs r : List ℕ) → starts_with (codes "*/") (b ∷ (xs ++ 42 ∷ r)) ≡ starts_with (codes "*/") (b ∷ (xs ++ 42 ∷ []))
starts_cut b [] r = refl
starts_cut b (x ∷ xs) r = refl

comment_more : (b : ℕ) (bs : List ℕ) (o : Option ℕ) → starts_with (codes "*/") (b ∷ bs) ≡ false → is_comment_byte b ≡ true → ClosesSo bs o → ClosesSo (b ∷ bs) (option_map suc o)
comment_more b bs None e p h = tt
comment_more b bs (Some k) e p h =
    record {
      closed = ap (λ xs. b ∷ xs) h.closed;
      within = let w = h.within in omega arith;
      plain = and_true (is_comment_byte b) _ p h.plain;
      first = and_true _ _ (ap not (sym (starts_cut b (take k bs) (47 ∷ drop (suc (suc k)) bs)) ∙ sym (ap (λ xs. starts_with (codes "*/") (b ∷ xs)) h.closed) ∙ e)) h.first;
    }

pub comment_closes : (bs : List ℕ) → ClosesSo bs (comment_end bs)
comment_closes [] = tt
comment_closes (b ∷ bs) =
    let ih : ClosesSo bs (comment_end bs) = comment_closes bs in
    cond_both (starts_with (codes "*/") (b ∷ bs)) (Some 0) _ (ClosesSo (b ∷ bs))
    (λ e. record {
      closed = starts_split (codes "*/") (b ∷ bs) e ∙ ap (λ xs. 42 ∷ 47 ∷ xs) (two_behind (b ∷ bs));
      within = omega (arith, ap length (starts_split (codes "*/") (b ∷ bs) e));
      plain = refl;
      first = refl;
    })
    (λ e. cond_both (is_comment_byte b) _ None (ClosesSo (b ∷ bs)) (λ p. comment_more b bs (comment_end bs) e p ih) (λ p. tt))
  where
    two_behind : (xs : List ℕ) → behind (codes "*/") xs ≡ drop 2 xs
    two_behind [] = refl
    two_behind (x ∷ []) = refl
    two_behind (x ∷ y ∷ xs) = refl

-- where a line comment stops, the line does
comment_stops : (n : ℕ) (bs : List ℕ) (ts : List Token) → stops is_comment_byte bs ≡ true → Cuts false n bs ts → (rest : List ℕ) × (bs ≡ 10 ∷ rest) × Cuts true (suc n) rest ts
comment_stops n [] ts h r = absurd (true-is_not-false (sym (into_next r).0))
comment_stops n (b ∷ bs) ts h r = go (b == 10) (b == 92) refl refl (not_true _ h)
  where
    no_cut : (bs : List ℕ) → Cuts false n (92 ∷ bs) ts → ⊥
    no_cut [] q = true-is_not-false (sym (into_next q).0)
    no_cut (c ∷ bs) q = true-is_not-false (sym (into_next q).0)

    go : (x y : Bool) → (b == 10) ≡ x → (b == 92) ≡ y → is_comment_byte b ≡ false → (rest : List ℕ) × (b ∷ bs ≡ 10 ∷ rest) × Cuts true (suc n) rest ts
    go true y e d k = (bs, ap (λ c. c ∷ bs) (eqb-true b 10 e), into_next (subst (λ c. Cuts false n (c ∷ bs) ts) (eqb-true b 10 e) r))
    go false true e d k = absurd (no_cut bs (subst (λ c. Cuts false n (c ∷ bs) ts) (eqb-true b 92 d) r))
    go false false e d k = absurd (true-is_not-false (sym (ap (λ x. not (x || (b == 92))) e ∙ ap not d) ∙ k))

says_line_comment : (f : Bool) (n : ℕ) (bs : List ℕ) → Gaps f n (run is_comment_byte bs + 2) (47 ∷ 47 ∷ bs)
says_line_comment f n bs =
    record {
      some = omega arith;
      within = let w : m ≤ length bs = run_within is_comment_byte bs in omega arith;
      line = ap (λ k. is_line (take k (47 ∷ 47 ∷ bs))) two ∙ line_of is_comment_byte refl (take m bs) (run_all is_comment_byte bs);
      cuts = λ ts r. made ts (comment_stops n (drop m bs) ts (run_stops is_comment_byte bs) (subst (λ k. Cuts false n (drop k (47 ∷ 47 ∷ bs)) ts) two r));
    }
  where
    m : ℕ
    m = run is_comment_byte bs

    two : m + 2 ≡ suc (suc m)
    two = omega arith

    made : (ts : List Token) → (rest : List ℕ) × (drop m bs ≡ 10 ∷ rest) × Cuts true (suc n) rest ts → Cuts f n (47 ∷ 47 ∷ bs) ts
    made ts p =
        subst (λ xs. Cuts f n (47 ∷ 47 ∷ xs) ts) (ap (λ xs. take m bs ++ xs) (sym p.1) ∙ take-append-drop m bs)
        (comment_line (take m bs) (run_all is_comment_byte bs) p.2)

says_block_comment : (f : Bool) (n : ℕ) (bs : List ℕ) → Says f n (47 ∷ 42 ∷ bs) (option_map (λ k. Gap (k + 4)) (comment_end bs))
says_block_comment f n bs = go (comment_end bs) (comment_closes bs)
  where
    go : (o : Option ℕ) → ClosesSo bs o → Says f n (47 ∷ 42 ∷ bs) (option_map (λ k. Gap (k + 4)) o)
    go None h = tt
    go (Some k) h =
        record {
          some = omega arith;
          within = let w = h.within in omega arith;
          line =
              ap (λ j. is_line (take j (47 ∷ 42 ∷ bs))) four ∙ ap is_line closed_front
              ∙ line_append (take k bs) (42 ∷ 47 ∷ []) (line_of is_comment_byte refl (take k bs) h.plain) refl;
          cuts = λ ts r. subst (λ xs. Cuts f n (47 ∷ 42 ∷ xs) ts) (sym h.closed) (comment (take k bs) h.plain h.first (subst (λ j. Cuts false n (drop j (47 ∷ 42 ∷ bs)) ts) four r));
        }
      where
        four : k + 4 ≡ suc (suc (suc (suc k)))
        four = omega arith

        regrouped : bs ≡ (take k bs ++ 42 ∷ 47 ∷ []) ++ drop (suc (suc k)) bs
        regrouped = h.closed ∙ sym (append_assoc (take k bs) (42 ∷ 47 ∷ []) (drop (suc (suc k)) bs))

        closed_front : take (suc (suc k)) bs ≡ take k bs ++ 42 ∷ 47 ∷ []
        closed_front =
            ap (take (suc (suc k))) regrouped
            ∙ take_at (take k bs ++ 42 ∷ 47 ∷ []) (drop (suc (suc k)) bs) (suc (suc k))
            (let l : length (take k bs) ≡ k = length-take-le k bs (let w = h.within in omega arith) in omega (arith, l, length-append (take k bs) (42 ∷ 47 ∷ [])))

-- a symbol at the front
takes_sign : (f : Bool) (n : ℕ) (s : Symbol) (rest bs : List ℕ) → bs ≡ symbol_text s ++ rest → 0 < length (symbol_text s) → is_whole (symbol_text s) rest ≡ true → Takes f n 0 (length (symbol_text s)) bs (Punctuator s)
takes_sign f n s rest bs e p h = takes_token f n (length (symbol_text s)) (symbol_text s) rest bs (Punctuator s) e refl p (symbol {s = s} h) (λ k. k)

says_slash : (f : Bool) (n : ℕ) (bs : List ℕ) → Says f n (47 ∷ bs) (slash bs)
says_slash f n [] = takes_sign f n Slash [] (47 ∷ []) refl (omega arith) refl
says_slash f n (c ∷ bs) =
    cond_both (c == 47) _ _ (Says f n (47 ∷ c ∷ bs)) (λ e. subst (λ d. Gaps f n (run is_comment_byte bs + 2) (47 ∷ d ∷ bs)) (sym (eqb-true c 47 e)) (says_line_comment f n bs))
    (λ e. cond_both (c == 42) _ _ (Says f n (47 ∷ c ∷ bs))
    (λ d. subst (λ b. Says f n (47 ∷ b ∷ bs) (option_map (λ k. Gap (k + 4)) (comment_end bs))) (sym (eqb-true c 42 d)) (says_block_comment f n bs))
    (λ d. takes_sign f n Slash (c ∷ bs) (47 ∷ c ∷ bs) refl (omega arith) (ap (λ x. not ((x && true) || ((c == 42) && true || false))) e ∙ ap (λ x. not (x && true || false)) d)))

-- the symbol that is found is spelled so
pub sign_found : (ss : List Symbol) (w : List ℕ) (s : Symbol) → sign_of ss w ≡ Some s → w ≡ symbol_text s
sign_found [] w s h = absurd (symbol_is_none h)
  where
    symbol_is_none : (let o : Option Symbol = None in o) ≡ Some s → ⊥
    symbol_is_none e = cc
sign_found (x ∷ ss) w s h = go (sign_found ss w s) (pointwise nat_eq w (symbol_text x)) refl
  where
    go : (sign_of ss w ≡ Some s → w ≡ symbol_text s) → (y : Bool) → pointwise nat_eq w (symbol_text x) ≡ y → w ≡ symbol_text s
    go ih true e = same_bytes w (symbol_text x) e ∙ ap symbol_text (same_symbol (sym (cond-true _ (Some x) (sign_of ss w) e) ∙ h))
      where
        same_symbol : Some x ≡ Some s → x ≡ s
        same_symbol d = cc
    go ih false e = ih (sym (cond-false _ (Some x) (sign_of ss w) e) ∙ h)

no_sign : (ss : List Symbol) (w : List ℕ) → sign_of ss w ≡ None → list_any (pointwise nat_eq w) (map symbol_text ss) ≡ false
no_sign [] w h = refl
no_sign (x ∷ ss) w h = go (no_sign ss w) (pointwise nat_eq w (symbol_text x)) refl
  where
    go : (sign_of ss w ≡ None → list_any (pointwise nat_eq w) (map symbol_text ss) ≡ false) → (y : Bool) → pointwise nat_eq w (symbol_text x) ≡ y
        → (pointwise nat_eq w (symbol_text x) || list_any (pointwise nat_eq w) (map symbol_text ss)) ≡ false
    go ih true e = absurd (symbol_is_none (sym (sym (cond-true _ (Some x) (sign_of ss w) e) ∙ h)))
      where
        symbol_is_none : None ≡ Some x → ⊥
        symbol_is_none e = cc
    go ih false e = ap (λ y. y || list_any (pointwise nat_eq w) (map symbol_text ss)) e ∙ ih (sym (cond-false _ (Some x) (sign_of ss w) e) ∙ h)

says_short : (f : Bool) (n b : ℕ) (rest : List ℕ) (o : Option Symbol) → sign_of short_signs (b ∷ []) ≡ o → is_whole (b ∷ []) rest ≡ true → Says f n (b ∷ rest) (sign_or o None)
says_short f n b rest None e h = tt
says_short f n b rest (Some s) e h =
    let is : b ∷ [] ≡ symbol_text s = sign_found short_signs (b ∷ []) s e in
    takes_sign f n s rest (b ∷ rest) (ap (λ w. w ++ rest) is) (omega (arith, ap length is)) (ap (λ w. is_whole w rest) (sym is) ∙ h)

says_long : (f : Bool) (n b c : ℕ) (rest : List ℕ) (o : Option Symbol) → sign_of long_signs (b ∷ c ∷ []) ≡ o → (b == 47) ≡ false → Says f n (b ∷ c ∷ rest) (sign_or o (sign_or (sign_of short_signs (b ∷ [])) None))
says_long f n b c rest (Some s) e d =
    let is : b ∷ c ∷ [] ≡ symbol_text s = sign_found long_signs (b ∷ c ∷ []) s e in
    takes_sign f n s rest (b ∷ c ∷ rest) (ap (λ w. w ++ rest) is) (omega (arith, ap length is)) (ap (λ w. is_whole w rest) (sym is))
says_long f n b c rest None e d =
    says_short f n b (c ∷ rest) (sign_of short_signs (b ∷ [])) refl
    (ap not (ap (λ x. (x && ((c == 47) && true)) || ((x && ((c == 42) && true)) || list_any (pointwise nat_eq (b ∷ c ∷ [])) (map symbol_text long_signs))) d ∙ no_sign long_signs (b ∷ c ∷ []) e))

says_sign : (f : Bool) (n b : ℕ) (bs : List ℕ) → (b == 47) ≡ false → Says f n (b ∷ bs) (at.sign b bs)
says_sign f n b [] d = says_short f n b [] (sign_of short_signs (b ∷ [])) refl refl
says_sign f n b (c ∷ bs) d = says_long f n b c bs (sign_of long_signs (b ∷ c ∷ [])) refl d

says_inside : (f : Bool) (n : ℕ) (bs : List ℕ) → Says f n bs (inside bs)
says_inside f n [] = tt
says_inside f n (b ∷ bs) =
    cond_both (is_letter b) _ _ (Says f n (b ∷ bs)) (λ h. says_word f n b bs h)
    (λ _. cond_both (is_digit b) _ _ (Says f n (b ∷ bs)) (λ h. says_number f n b bs h)
    (λ _. cond_both (is_blank b) _ _ (Says f n (b ∷ bs)) (λ h. record { some = omega arith; within = omega arith; line = ap (λ x. not x && true) (other is_blank b 10 h refl); cuts = λ ts r. blank h r })
    (λ _. cond_both (b == 10) _ _ (Says f n (b ∷ bs)) (λ h. record { begins = ap (λ c. c ∷ bs) (eqb-true b 10 h); cuts = λ ts r. subst (λ c. Cuts f n (c ∷ bs) ts) (sym (eqb-true b 10 h)) (line_end r) })
    (λ _. cond_both (b == 34) _ _ (Says f n (b ∷ bs)) (λ h. subst (λ c. Says f n (c ∷ bs) (string_of bs (string_end Plain bs))) (sym (eqb-true b 34 h)) (says_string f n bs))
    (λ _. cond_both (b == 47) _ _ (Says f n (b ∷ bs)) (λ h. subst (λ c. Says f n (c ∷ bs) (slash bs)) (sym (eqb-true b 47 h)) (says_slash f n bs))
    (λ h. says_sign f n b bs h))))))

-- a text is its first line, and behind that its end or a line end
first_line_is_line : (bs : List ℕ) → is_line (first_line bs) ≡ true
first_line_is_line [] = refl
first_line_is_line (b ∷ bs) = go (first_line_is_line bs) (b == 10) refl
  where
    go : is_line (first_line bs) ≡ true → (x : Bool) → (b == 10) ≡ x → is_line (cond x [] (b ∷ first_line bs)) ≡ true
    go ih true e = refl
    go ih false e = and_true _ _ (ap not e) ih

pub line_and_rest : (bs : List ℕ) → bs ≡ first_line bs ++ drop (length (first_line bs)) bs
line_and_rest [] = refl
line_and_rest (b ∷ bs) = go (line_and_rest bs) (b == 10)
  where
    go : bs ≡ first_line bs ++ drop (length (first_line bs)) bs → (x : Bool) → b ∷ bs ≡ cond x [] (b ∷ first_line bs) ++ drop (length (cond x [] (b ∷ first_line bs))) (b ∷ bs)
    go ih true = refl
    go ih false = ap (λ xs. b ∷ xs) ih

rest_begins : (bs : List ℕ) → (drop (length (first_line bs)) bs ≡ []) ⊎ ((rest : List ℕ) × (drop (length (first_line bs)) bs ≡ 10 ∷ rest))
rest_begins [] = inl refl
rest_begins (b ∷ bs) = go (rest_begins bs) (b == 10) refl
  where
    go : (drop (length (first_line bs)) bs ≡ []) ⊎ ((rest : List ℕ) × (drop (length (first_line bs)) bs ≡ 10 ∷ rest)) → (x : Bool) → (b == 10) ≡ x
        → (drop (length (cond x [] (b ∷ first_line bs))) (b ∷ bs) ≡ []) ⊎ ((rest : List ℕ) × (drop (length (cond x [] (b ∷ first_line bs))) (b ∷ bs) ≡ 10 ∷ rest))
    go ih true e = inr (bs, ap (λ c. c ∷ bs) (eqb-true b 10 e))
    go ih false e = ih

-- what is cut behind a line goes on with the next
line_goes_on : (n : ℕ) (line bs : List ℕ) (ts : List Token) → (drop (length line) bs ≡ []) ⊎ ((rest : List ℕ) × (drop (length line) bs ≡ 10 ∷ rest))
    → Cuts false n (drop (length line) bs) ts → (rest : List ℕ) × (drop (length line) bs ≡ 10 ∷ rest) × Cuts true (suc n) rest ts
line_goes_on n line bs ts (inl e) r = absurd (true-is_not-false (sym (into_next (subst (λ v. Cuts false n v ts) e r)).0))
line_goes_on n line bs ts (inr p) r = (p.0, p.1, into_next (subst (λ v. Cuts false n v ts) p.1 r))

-- blanks in front of a line
skip_skip : (bs : List ℕ) → skip_blanks (skip_blanks bs) ≡ skip_blanks bs
skip_skip [] = refl
skip_skip (b ∷ bs) = go (skip_skip bs) (is_blank b) refl
  where
    go : skip_blanks (skip_blanks bs) ≡ skip_blanks bs → (x : Bool) → is_blank b ≡ x → skip_blanks (cond x (skip_blanks bs) (b ∷ bs)) ≡ cond x (skip_blanks bs) (b ∷ bs)
    go ih true e = ih
    go ih false e = cond-false _ _ _ e

skip_drops : (line rest : List ℕ) → drop (run is_blank line) (line ++ rest) ≡ skip_blanks line ++ rest
skip_drops [] rest = refl
skip_drops (b ∷ line) rest = go (skip_drops line rest) (is_blank b)
  where
    go : drop (run is_blank line) (line ++ rest) ≡ skip_blanks line ++ rest → (x : Bool) → drop (cond x (suc (run is_blank line)) 0) (b ∷ (line ++ rest)) ≡ cond x (skip_blanks line) (b ∷ line) ++ rest
    go ih true = ih
    go ih false = refl

skip_line : (line : List ℕ) → is_line line ≡ true → is_line (skip_blanks line) ≡ true
skip_line [] h = h
skip_line (b ∷ line) h = cond_both (is_blank b) (skip_blanks line) (b ∷ line) (λ v. is_line v ≡ true) (λ e. skip_line line (second_of (not (b == 10)) _ h)) (λ e. h)

hash_some : (bs : List ℕ) → begins_hash bs ≡ true → 0 < length bs
hash_some [] h = absurd (true-is_not-false (sym h))
hash_some (b ∷ bs) h = omega arith

begins_so : (bs : List ℕ) → begins_hash bs ≡ true → starts_with (35 ∷ []) bs ≡ true
begins_so [] h = absurd (true-is_not-false (sym h))
begins_so (b ∷ bs) h = ap (λ c. starts_with (35 ∷ []) (c ∷ bs)) (eqb-true b 35 h)

line_ends_here : (bs : List ℕ) → (bs ≡ []) ⊎ ((rest : List ℕ) × (bs ≡ 10 ∷ rest)) → stops (λ b. not (b == 10)) bs ≡ true
line_ends_here bs (inl e) = ap (stops (λ b. not (b == 10))) e
line_ends_here bs (inr p) = ap (stops (λ b. not (b == 10))) p.1

-- a line that begins with `#`, at the front
takes_line : (n : ℕ) (bs : List ℕ) (t : Token) → begins_hash (skip_blanks (first_line bs)) ≡ true
    → (take (length (skip_blanks (first_line bs))) (drop (run is_blank (first_line bs)) bs) ≡ skip_blanks (first_line bs)
    → IsRestOfLine (run is_blank (first_line bs)) (length (skip_blanks (first_line bs))) bs
    → Placed n (run is_blank (first_line bs)) (length (skip_blanks (first_line bs))) bs t)
    → ((rest : List ℕ) (ts : List Token) → Cuts true (suc n) rest ts → Cuts true n (first_line bs ++ 10 ∷ rest) (t ∷ ts))
    → Takes true n (run is_blank (first_line bs)) (length (skip_blanks (first_line bs))) bs t
takes_line n bs t h p c =
    record {
      some = hash_some (skip_blanks line) h;
      within = omega (arith, blanks_and_rest line, ap length whole, length-append line (drop (length line) bs));
      line = ap (λ k. is_line (take k bs)) (blanks_and_rest line) ∙ ap is_line (ap (take (length line)) whole ∙ take_at line (drop (length line) bs) (length line) refl) ∙ first_line_is_line bs;
      placed = p front_is (record { begins = ap (starts_with (35 ∷ [])) front_is ∙ begins_so (skip_blanks line) h; ends = ap (stops (λ b. not (b == 10))) behind_is ∙ line_ends_here (drop (length line) bs) (rest_begins bs) });
      cuts = λ ts r. made ts (line_goes_on n line bs ts (rest_begins bs) (subst (λ xs. Cuts false n xs ts) behind_is r));
    }
  where
    line : List ℕ
    line = first_line bs

    whole : bs ≡ line ++ drop (length line) bs
    whole = line_and_rest bs

    front_is : take (length (skip_blanks line)) (drop (run is_blank line) bs) ≡ skip_blanks line
    front_is =
        ap (λ xs. take (length (skip_blanks line)) (drop (run is_blank line) xs)) whole ∙ ap (take (length (skip_blanks line))) (skip_drops line (drop (length line) bs))
        ∙ take_at (skip_blanks line) (drop (length line) bs) _ refl

    behind_is : drop (length (skip_blanks line)) (drop (run is_blank line) bs) ≡ drop (length line) bs
    behind_is = ap (λ xs. drop (length (skip_blanks line)) (drop (run is_blank line) xs)) whole ∙ behind_line line (drop (length line) bs)

    made : (ts : List Token) → (rest : List ℕ) × (drop (length line) bs ≡ 10 ∷ rest) × Cuts true (suc n) rest ts → Cuts true n bs (t ∷ ts)
    made ts q = subst (λ xs. Cuts true n xs (t ∷ ts)) (sym (whole ∙ ap (λ xs. line ++ xs) q.1)) (c q.0 ts q.2)

says_header : (n : ℕ) (bs : List ℕ) → begins_hash (skip_blanks (first_line bs)) ≡ true → Says true n bs (header_piece (first_line bs) (header_of (first_line bs)))
says_header n bs h = go (header_of (first_line bs)) refl
  where
    go : (o : Option ℕ) → header_of (first_line bs) ≡ o → Says true n bs (header_piece (first_line bs) o)
    go None e = tt
    go (Some m) e =
        takes_line n bs (Header m) h
        (λ d w. (ap is_line d ∙ skip_line (first_line bs) (first_line_is_line bs), ap header_of d ∙ ap after_hash (skip_skip (first_line bs)) ∙ e, w))
        (λ rest ts r. header (first_line bs) (first_line_is_line bs) e r)

says_hash : (n : ℕ) (bs : List ℕ) → begins_hash (skip_blanks (first_line bs)) ≡ true → Says true n bs (hash_line n (first_line bs))
says_hash n bs h =
    cond_both (is_directive_line (first_line bs)) _ _ (Says true n bs)
    (λ e. cond_both (is_plain_directive (first_line bs)) _ None (Says true n bs)
    (λ k. takes_line n bs (Line n) h
    (λ d w. (ap is_line d ∙ skip_line (first_line bs) (first_line_is_line bs), ap is_directive_line d ∙ ap is_hash_rest (skip_skip (first_line bs)) ∙ e, refl, w))
    (λ rest ts r. directive (first_line bs) (first_line_is_line bs) e k r))
    (λ k. tt))
    (λ e. says_header n bs h)

-- a line begins as the text does
hash_of_line : (bs : List ℕ) → begins_hash (skip_blanks bs) ≡ true → begins_hash (skip_blanks (first_line bs)) ≡ true
hash_of_line [] h = h
hash_of_line (b ∷ bs) h = go (hash_of_line bs) (b == 10) refl (is_blank b) refl
  where
    go : (begins_hash (skip_blanks bs) ≡ true → begins_hash (skip_blanks (first_line bs)) ≡ true) → (x : Bool) → (b == 10) ≡ x → (y : Bool) → is_blank b ≡ y
        → begins_hash (skip_blanks (cond x [] (b ∷ first_line bs))) ≡ true
    go ih true e y d = absurd (true-is_not-false (sym (sym (ap (λ c. begins_hash (skip_blanks (c ∷ bs))) (eqb-true b 10 e)) ∙ h)))
    go ih false e true d = ap begins_hash (cond-true _ _ _ d) ∙ ih (sym (ap begins_hash (cond-true _ (skip_blanks bs) (b ∷ bs) d)) ∙ h)
    go ih false e false d = ap begins_hash (cond-false _ _ _ d) ∙ sym (ap begins_hash (cond-false _ (skip_blanks bs) (b ∷ bs) d)) ∙ h

-- what the front says is so
pub says : (f : Bool) (n : ℕ) (bs : List ℕ) → Says f n bs (front f n bs)
says f n bs =
    cond_both (begins_hash (skip_blanks bs) && f) _ _ (Says f n bs)
    (λ h. let both = and_parts (begins_hash (skip_blanks bs)) f h in
    subst (λ g. Says g n bs (hash_line n (first_line bs))) (sym both.1) (says_hash n bs (hash_of_line bs both.0)))
    (λ h. says_inside f n bs)
