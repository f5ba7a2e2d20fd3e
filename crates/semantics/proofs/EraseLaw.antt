-- A text that is cut into tokens is cut into the tokens without its directive lines, where these are erased.
use Rattle.std.specs.Prelude.{ℕ, Bool, true, false, not, ◌==◌, ◌&&◌, ◌||◌, ◌≡◌, List, [], ◌∷◌, ◌++◌, Some, None, codes, drop}
use Rattle.std.proofs.Common.{cond, refl, sym, ap, ◌∙◌, subst}
use Rattle.std.proofs.lemmas.Bool.{eqb-true}
use Rattle.semantics.specs.Source.Text.{is_blank, skip_blanks, first_line, starts_with, behind, pragma_word, is_omp_rest, is_directive_line, is_hash_rest, is_pragma_rest, erase_from}
use Rattle.semantics.specs.Source.Token.{Token}
use Rattle.semantics.specs.Source.Cuts.{is_line, is_comment_text, include_rest, after_hash, header_of, Cuts, end, blank, line_end, comment_line, comment, directive, header, token}
use Rattle.semantics.proofs.StripLaw.{drop_lines}
use Rattle.semantics.proofs.EraseTokenLaw.{none_is_not_some, other, kept, dropped, line_first, line_of, no_directive, starts, token_line, token_left, token_stays}

-- the kind of the line in which a text goes on: a fresh line's own
abbrev kind : Bool → List ℕ → Bool
kind true bs = is_directive_line (first_line bs)
kind false bs = false

kind_false : (f : Bool) (bs : List ℕ) → is_directive_line (first_line bs) ≡ false → kind f bs ≡ false
kind_false true bs h = h
kind_false false bs h = refl

-- a blank in front changes nothing
blank_plain : (b : ℕ) (bs : List ℕ) → is_blank b ≡ true → is_directive_line (first_line bs) ≡ false → is_directive_line (first_line (b ∷ bs)) ≡ false
blank_plain b bs h e =
    ap (λ x. is_directive_line (cond x [] (b ∷ first_line bs))) (other is_blank b 10 h refl)
    ∙ ap (λ x. is_hash_rest (cond x (skip_blanks (first_line bs)) (b ∷ first_line bs))) h ∙ e

-- an include line is no directive line
include_plain : {h : ℕ} (bs : List ℕ) → include_rest bs ≡ Some h → is_pragma_rest bs ≡ false
include_plain [] e = refl
include_plain {h} (c ∷ cs) e = go (112 == c) refl
  where
    go : (x : Bool) → (112 == c) ≡ x → ((x && starts_with (drop 1 (codes "pragma")) cs) && is_omp_rest (behind pragma_word (c ∷ cs))) ≡ false
    go false k = refl
    go true k = absurd (none_is_not_some (subst (λ d. include_rest (d ∷ cs) ≡ Some h) (sym (eqb-true 112 c k)) e))

hash_plain : {h : ℕ} (l : List ℕ) → after_hash l ≡ Some h → is_hash_rest l ≡ false
hash_plain [] e = refl
hash_plain {h} (b ∷ bs) e = go (b == 35) refl
  where
    go : (x : Bool) → (b == 35) ≡ x → (x && is_pragma_rest (skip_blanks bs)) ≡ false
    go false k = refl
    go true k = include_plain (skip_blanks bs) (sym (ap (λ x. cond x (include_rest (skip_blanks bs)) None) k) ∙ e)

header_plain : {h : ℕ} (line : List ℕ) → header_of line ≡ Some h → is_directive_line line ≡ false
header_plain line e = hash_plain (skip_blanks line) e

-- what goes on in a line is no directive line
inside_plain : {n : ℕ} {bs : List ℕ} {ts : List Token} → Cuts false n bs ts → is_directive_line (first_line bs) ≡ false
inside_plain (blank {b = b} {bs = bs} h r) = blank_plain b bs h (inside_plain r)
inside_plain (line_end r) = refl
inside_plain (comment_line cs h r) = refl
inside_plain (comment cs h k r) = refl
inside_plain (token {w = w} {bs = bs} s r) = no_directive (w ++ bs) (starts s bs)

at_bytes : {f : Bool} {n : ℕ} {xs ys : List ℕ} {ts : List Token} → xs ≡ ys → Cuts f n ys ts → Cuts f n xs ts
at_bytes {f} {n} {xs} {ys} {ts} e r = subst (λ zs. Cuts f n zs ts) (sym e) r

-- bytes of a line that is not dropped
kept_in : (f : Bool) (w bs : List ℕ) → is_line w ≡ true → is_directive_line (first_line (w ++ bs)) ≡ false → erase_from (kind f (w ++ bs)) (w ++ bs) ≡ w ++ erase_from false bs
kept_in f w bs h k = ap (λ x. erase_from x (w ++ bs)) (kind_false f (w ++ bs) k) ∙ kept w bs h

not_both : (b : ℕ) (bs : List ℕ) → is_blank b ≡ true → is_line (b ∷ []) ≡ true
not_both b bs h = ap (λ x. not x && true) (other is_blank b 10 h refl)

comment_text_line : (cs : List ℕ) → is_comment_text cs ≡ true → is_line cs ≡ true
comment_text_line cs h = line_of (λ b. not ((b == 10) || (b == 92))) refl cs h

pub cut_erased : {f : Bool} {n : ℕ} {bs : List ℕ} {ts : List Token} → Cuts f n bs ts → Cuts f n (erase_from (kind f bs) bs) (drop_lines ts)
cut_erased end = end
cut_erased (blank {fresh = f} {b = b} {bs = bs} h r) =
    at_bytes (kept_in f (b ∷ []) bs (not_both b bs h) (blank_plain b bs h (inside_plain r))) (blank h (cut_erased r))
cut_erased (line_end r) = line_end (cut_erased r)
cut_erased (comment_line {fresh = f} cs {bs = bs} h r) =
    at_bytes (kept_in f (47 ∷ 47 ∷ cs) (10 ∷ bs) (comment_text_line cs h) refl) (comment_line cs h (cut_erased r))
cut_erased (comment {fresh = f} cs {bs = bs} h k r) =
    at_bytes (kept_in f (47 ∷ 42 ∷ cs) (42 ∷ 47 ∷ bs) (comment_text_line cs h) refl) (comment cs h k (cut_erased r))
cut_erased (directive line {bs = bs} h k l r) =
    at_bytes (ap (λ x. erase_from x (line ++ 10 ∷ bs)) (ap is_directive_line (line_first line bs h) ∙ k) ∙ dropped line bs h) (line_end (cut_erased r))
cut_erased (header line {bs = bs} h k r) =
    at_bytes (kept_in true line (10 ∷ bs) h (ap is_directive_line (line_first line bs h) ∙ header_plain line k)) (header line h k (cut_erased r))
cut_erased (token {fresh = f} {n = n} {w = w} {bs = bs} {ts = ts} s r) =
    at_bytes (kept_in f w bs (token_line s) (no_directive (w ++ bs) (starts s bs)))
    (subst (λ us. Cuts f n (w ++ erase_from false bs) us) (sym (token_stays s ts)) (token (token_left s) (cut_erased r)))
