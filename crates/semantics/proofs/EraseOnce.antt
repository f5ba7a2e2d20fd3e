-- Erasing again changes nothing.
use Rattle.std.specs.Prelude.{ℕ, Bool, true, false, ◌≡◌, ◌==◌, List, [], ◌∷◌}
use Rattle.std.proofs.Common.{refl, ap, ◌∙◌, cond}
use Rattle.semantics.specs.Source.Text.{is_directive_line, first_line, erase, erase_from}
use Rattle.semantics.specs.Laws.{ErasesOnce}

-- the rest of a dropped line is gone
dropped_line : (bs : List ℕ) → first_line (erase_from true bs) ≡ []
dropped_line [] = refl
dropped_line (b ∷ bs) = go (dropped_line bs) (b == 10)
  where
    go : first_line (erase_from true bs) ≡ [] → (end : Bool) → first_line (cond end (10 ∷ erase bs) (erase_from true bs)) ≡ []
    go rest true = refl
    go rest false = rest

-- the rest of a kept line stays
kept_line : (bs : List ℕ) → first_line (erase_from false bs) ≡ first_line bs
kept_line [] = refl
kept_line (b ∷ bs) = go (kept_line bs) (b == 10) refl
  where
    go : first_line (erase_from false bs) ≡ first_line bs → (end : Bool) → (b == 10) ≡ end → first_line (cond end (10 ∷ erase bs) (b ∷ erase_from false bs)) ≡ cond end [] (b ∷ first_line bs)
    go rest true e = refl
    go rest false e = ap (λ t. cond t [] (b ∷ first_line (erase_from false bs))) e ∙ ap (λ l. b ∷ l) rest

-- so no line of an erased text is a directive
first_kept : (bs : List ℕ) → is_directive_line (first_line (erase bs)) ≡ false
first_kept bs = go (is_directive_line (first_line bs)) refl
  where
    go : (k : Bool) → is_directive_line (first_line bs) ≡ k → is_directive_line (first_line (erase_from k bs)) ≡ false
    go true e = ap is_directive_line (dropped_line bs)
    go false e = ap is_directive_line (kept_line bs) ∙ e

again : (k : Bool) (bs : List ℕ) → erase_from false (erase_from k bs) ≡ erase_from k bs
again k [] = refl
again true (b ∷ bs) = go (again (is_directive_line (first_line bs)) bs) (again true bs) (b == 10)
  where
    go : erase_from false (erase bs) ≡ erase bs → erase_from false (erase_from true bs) ≡ erase_from true bs → (end : Bool) → erase_from false (cond end (10 ∷ erase bs) (erase_from true bs)) ≡ cond end (10 ∷ erase bs) (erase_from true bs)
    go next rest true = ap (λ k. 10 ∷ erase_from k (erase bs)) (first_kept bs) ∙ ap (λ l. 10 ∷ l) next
    go next rest false = rest
again false (b ∷ bs) = go (again (is_directive_line (first_line bs)) bs) (again false bs) (b == 10) refl
  where
    go : erase_from false (erase bs) ≡ erase bs → erase_from false (erase_from false bs) ≡ erase_from false bs → (end : Bool) → (b == 10) ≡ end → erase_from false (cond end (10 ∷ erase bs) (b ∷ erase_from false bs)) ≡ cond end (10 ∷ erase bs) (b ∷ erase_from false bs)
    go next rest true e = ap (λ k. 10 ∷ erase_from k (erase bs)) (first_kept bs) ∙ ap (λ l. 10 ∷ l) next
    go next rest false e = ap (λ t. cond t (10 ∷ erase (erase_from false bs)) (b ∷ erase_from false (erase_from false bs))) e ∙ ap (λ l. b ∷ l) rest

pub erases_once : ErasesOnce
erases_once text = ap (λ k. erase_from k (erase text)) (first_kept text) ∙ again (is_directive_line (first_line text)) text
