-- Slices that are put back over all of a list.
use Rattle.std.proofs.Common.{◌≡◌, ℕ, zero, suc, List, [], ◌∷◌, ◌++◌, length, take, drop, append-nil, refl, ap, ◌∙◌, arith}
use Rattle.std.proofs.lemmas.List.{drop_all}

-- what a slice over all of a list puts back
pub put_back : (n : ℕ) (new old : List ℕ) → length new ≡ n → length old ≡ n → take n (new ++ drop (length new) old) ≡ new
put_back n new old e f =
    ap (λ l. take n (new ++ l)) (drop_all (length new) old (omega arith)) ∙ ap (take n) (append-nil new) ∙ take_whole n new e
  where
    take_whole : (n : ℕ) (xs : List ℕ) → length xs ≡ n → take n xs ≡ xs
    take_whole zero [] e = refl
    take_whole zero (x ∷ xs) e = absurd (omega arith)
    take_whole (suc n) [] e = refl
    take_whole (suc n) (x ∷ xs) e = ap (λ l. x ∷ l) (take_whole n xs (omega arith))
