-- The erased text, line by line.
use Rattle.std.specs.Prelude.{ℕ, Bool, true, false, ◌==◌, ◌≡◌, List, [], ◌∷◌, ◌++◌, ◌-◌, length, take, drop}
use Rattle.std.proofs.Common.{cond, refl, sym, ap, ◌∙◌}
use Rattle.std.proofs.lemmas.List.{append_assoc, append-nil, take_rest}
use Rattle.semantics.specs.Source.Text.{first_line, is_directive_line, erase, erase_from}

-- what is kept of a line
abbrev pub kept_of : Bool → List ℕ → List ℕ
kept_of dropping line = cond dropping [] line

-- what follows a line: the text's end, or a line end and the rest
abbrev pub follows : List ℕ → List ℕ
follows [] = []
follows (b ∷ bs) = 10 ∷ erase bs

erase_from-line : (dropping : Bool) (bs : List ℕ) → erase_from dropping bs ≡ kept_of dropping (first_line bs) ++ follows (drop (length (first_line bs)) bs)
erase_from-line true [] = refl
erase_from-line false [] = refl
erase_from-line dropping (b ∷ bs) = go (λ d. erase_from-line d bs) (b == 10) dropping
  where
    go : ((d : Bool) → erase_from d bs ≡ kept_of d (first_line bs) ++ follows (drop (length (first_line bs)) bs)) → (x d : Bool)
        → cond x (10 ∷ erase_from (is_directive_line (first_line bs)) bs) (cond d (erase_from true bs) (b ∷ erase_from false bs))
        ≡ kept_of d (cond x [] (b ∷ first_line bs)) ++ follows (drop (length (cond x [] (b ∷ first_line bs))) (b ∷ bs))
    go ih true true = refl
    go ih true false = refl
    go ih false true = ih true
    go ih false false = ap (λ xs. b ∷ xs) (ih false)

pub erase-line : (bs : List ℕ) → erase bs ≡ kept_of (is_directive_line (first_line bs)) (first_line bs) ++ follows (drop (length (first_line bs)) bs)
erase-line bs = erase_from-line (is_directive_line (first_line bs)) bs

rest_is : (rest line : List ℕ) → line ≡ first_line rest → take (length rest - length line) (drop (length line) rest) ≡ drop (length (first_line rest)) rest
rest_is rest line e = take_rest rest (length line) ∙ ap (λ l. drop (length l) rest) e

line_is : (rest line : List ℕ) → line ≡ first_line rest → erase rest ≡ kept_of (is_directive_line line) line ++ follows (drop (length (first_line rest)) rest)
line_is rest line e = erase-line rest ∙ ap (λ l. kept_of (is_directive_line l) l ++ follows (drop (length (first_line rest)) rest)) (sym e)

-- behind the last line
pub erase_end : (whole before now rest line : List ℕ) → before ++ erase rest ≡ whole → line ≡ first_line rest → now ≡ before ++ kept_of (is_directive_line line) line
    → take (length rest - length line) (drop (length line) rest) ≡ [] → now ≡ whole
erase_end whole before now rest line h e k d =
    k ∙ ap (λ xs. before ++ xs) (sym (append-nil (kept_of (is_directive_line line) line)) ∙ ap (λ xs. kept_of (is_directive_line line) line ++ follows xs) (sym (sym (rest_is rest line e) ∙ d)) ∙ sym (line_is rest line e)) ∙ h

-- behind a line and its end
pub erase_step : (whole before now rest line more : List ℕ) (b : ℕ) → before ++ erase rest ≡ whole → line ≡ first_line rest → now ≡ before ++ kept_of (is_directive_line line) line
    → take (length rest - length line) (drop (length line) rest) ≡ b ∷ more → (now ++ 10 ∷ []) ++ erase more ≡ whole
erase_step whole before now rest line more b h e k d =
    append_assoc now (10 ∷ []) (erase more) ∙ ap (λ xs. xs ++ 10 ∷ erase more) k ∙ append_assoc before (kept_of (is_directive_line line) line) (10 ∷ erase more)
    ∙ ap (λ xs. before ++ xs) (ap (λ xs. kept_of (is_directive_line line) line ++ follows xs) (sym (sym (rest_is rest line e) ∙ d)) ∙ sym (line_is rest line e)) ∙ h
