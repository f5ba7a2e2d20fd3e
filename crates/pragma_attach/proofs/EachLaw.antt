-- A list of which each is resolved, one after another.
use Rattle.std.specs.Prelude.{ℕ, zero, suc, ◌+◌, ◌≡◌, ◌<◌, ◌≤◌, List, [], ◌∷◌, ◌++◌, length, map, get_or, drop, Option, Some, None}
use Rattle.std.proofs.Common.{add-one, drop-cons, refl, sym, ap, ◌∙◌, arith}
use Rattle.semantics.specs.Meaning.Value.{map_option, both}

module _ {A B X Y : Type 0} (one : A → Option B) (all : List A → Option (List B)) (none : all [] ≡ Some []) (more : (a : A) (as' : List A) → all (a ∷ as') ≡ both (λ b bs. b ∷ bs) (one a) (all as'))
    (seen : X → A) (view : Y → B) (xs : List X) where
  -- these are found, of the first so many
  abbrev pub Left : ℕ → List Y → Type 0
  Left i found = all (map seen xs) ≡ map_option (λ bs. map view found ++ bs) (all (map seen (drop i xs)))

  kept : (o : Option (List B)) → map_option (λ bs. bs) o ≡ o
  kept None = refl
  kept (Some bs) = refl

  pub started : Left 0 []
  started = sym (kept (all (map seen xs)))

  next : (i : ℕ) (x : X) → i < length xs → x ≡ get_or xs i x → all (map seen (drop i xs)) ≡ both (λ b bs. b ∷ bs) (one (seen x)) (all (map seen (drop (i + 1) xs)))
  next i x lt e =
      let here : drop i xs ≡ x ∷ drop (i + 1) xs = rw add-one (drop-cons xs i x lt ∙ ap (λ y. y ∷ drop (suc i) xs) (sym e)) in
      ap (λ ys. all (map seen ys)) here ∙ more (seen x) (map seen (drop (i + 1) xs))

  last : (found : List Y) (y : Y) (bs : List B) → map view found ++ (view y ∷ bs) ≡ map view (found ++ y ∷ []) ++ bs
  last [] y bs = refl
  last (f ∷ found) y bs = ap (λ cs. view f ∷ cs) (last found y bs)

  joined : (found : List Y) (y : Y) (o : Option (List B)) → map_option (λ bs. map view found ++ bs) (both (λ b bs. b ∷ bs) (Some (view y)) o) ≡ map_option (λ bs. map view (found ++ y ∷ []) ++ bs) o
  joined found y None = refl
  joined found y (Some bs) = ap Some (last found y bs)

  -- one more
  pub one_more : (i : ℕ) (x : X) → i < length xs → x ≡ get_or xs i x → (found : List Y) (y : Y) → Left i found → one (seen x) ≡ Some (view y) → Left (i + 1) (found ++ y ∷ [])
  one_more i x lt e found y left is =
      left ∙ ap (map_option (λ bs. map view found ++ bs)) (next i x lt e ∙ ap (λ o. both (λ b bs. b ∷ bs) o (all (map seen (drop (i + 1) xs)))) is)
      ∙ joined found y (all (map seen (drop (i + 1) xs)))

  -- one that is not resolved
  pub one_missing : (i : ℕ) (x : X) → i < length xs → x ≡ get_or xs i x → (found : List Y) → Left i found → one (seen x) ≡ None → all (map seen xs) ≡ None
  one_missing i x lt e found left is =
      left ∙ ap (map_option (λ bs. map view found ++ bs)) (next i x lt e ∙ ap (λ o. both (λ b bs. b ∷ bs) o (all (map seen (drop (i + 1) xs)))) is)

  past : (ys : List X) (i : ℕ) → length ys ≤ i → drop i ys ≡ []
  past [] zero le = refl
  past [] (suc i) le = refl
  past (y ∷ ys) zero le = absurd (omega (arith, le))
  past (y ∷ ys) (suc i) le = past ys i (omega (arith, le))

  whole : (bs : List B) → bs ++ [] ≡ bs
  whole [] = refl
  whole (b ∷ bs) = ap (λ cs. b ∷ cs) (whole bs)

  -- all of them
  pub ended : (i : ℕ) (found : List Y) → Left i found → length xs ≤ i → all (map seen xs) ≡ Some (map view found)
  ended i found left le =
      left ∙ ap (λ ys. map_option (λ bs. map view found ++ bs) (all (map seen ys))) (past xs i le) ∙ ap (map_option (λ bs. map view found ++ bs)) none ∙ ap Some (whole (map view found))
