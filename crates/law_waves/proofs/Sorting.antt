-- Iterations sorted by a number.
use Rattle.std.specs.Prelude.{ℕ, zero, suc, Bool, true, false, ◌≡◌, ◌==◌, ◌<◌, ◌≤◌, ◌⊎◌, List, [], ◌∷◌, ◌++◌, filter, flat_map}
use Rattle.std.specs.List.{AllByRecursion as Each}
use Rattle.std.proofs.Common.{refl, sym, ap, ◌∙◌, subst, cond, inl, inr, arith}
use Rattle.std.proofs.lemmas.Bool.{eqb-true, eq-eqb, true≢false, cases_lt}
use Rattle.std.proofs.lemmas.List.{append-nil, append_assoc}
use Rattle.semantics.specs.Meaning.Places.{below}
use Rattle.law_commute.proofs.Lists.{each_join}

flat-append : {A B : Type 0} (g : A → List B) (xs ys : List A) → flat_map g (xs ++ ys) ≡ flat_map g xs ++ flat_map g ys
flat-append g [] ys = refl
flat-append g (x ∷ xs) ys = ap (λ zs. g x ++ zs) (flat-append g xs ys) ∙ sym (append_assoc (g x) (flat_map g xs) (flat_map g ys))

module _ {A : Type 0} (f : A → ℕ) where
  -- those of this number
  abbrev pub picked_at : List A → ℕ → List A
  picked_at us i = filter (λ u. f u == i) us

  -- those of a lower number, the lowest first
  abbrev pub sorted : List A → ℕ → List A
  sorted us k = flat_map (picked_at us) (below k)

  pub sorted_more : (us : List A) (k : ℕ) → sorted us (suc k) ≡ sorted us k ++ picked_at us k
  sorted_more us k = flat-append (picked_at us) (below k) (k ∷ []) ∙ ap (λ zs. sorted us k ++ zs) (append-nil (picked_at us k))

  -- none of none
  pub sorted_none : (k : ℕ) → sorted [] k ≡ []
  sorted_none zero = refl
  sorted_none (suc k) = sorted_more [] k ∙ append-nil (sorted [] k) ∙ sorted_none k

  pub picked_other : (u : A) (us : List A) (i : ℕ) → (f u == i) ≡ false → picked_at (u ∷ us) i ≡ picked_at us i
  picked_other u us i h = ap (λ b. cond b (u ∷ picked_at us i) (picked_at us i)) h

  pub picked_first : (u : A) (us : List A) (i : ℕ) → (f u == i) ≡ true → picked_at (u ∷ us) i ≡ u ∷ picked_at us i
  picked_first u us i h = ap (λ b. cond b (u ∷ picked_at us i) (picked_at us i)) h

  differs : (a b : ℕ) → (a ≡ b → ⊥) → (a == b) ≡ false
  differs a b h = at (a == b) refl
    where
      at : (c : Bool) → (a == b) ≡ c → (a == b) ≡ false
      at true e = absurd (h (eqb-true a b e))
      at false e = e

  -- a higher number is not met
  sorted_below : (u : A) (us : List A) (k : ℕ) → k ≤ f u → sorted (u ∷ us) k ≡ sorted us k
  sorted_below u us zero h = refl
  sorted_below u us (suc k) h =
      sorted_more (u ∷ us) k
      ∙ (λ i. sorted_below u us k (omega (arith, h)) i ++ picked_other u us k (differs (f u) k (λ e. absurd (omega (arith, h, e)))) i)
      ∙ sym (sorted_more us k)

  -- one more stands behind those of a lower number
  pub record Inserted (u : A) (us : List A) (k : ℕ) : Type 0 where
    pub highs : List A
    pub without : sorted us k ≡ sorted us (f u) ++ highs
    pub with_it : sorted (u ∷ us) k ≡ sorted us (f u) ++ (u ∷ highs)

  pub inserted : (u : A) (us : List A) (k : ℕ) → f u < k → Inserted u us k
  inserted u us zero h = absurd (omega (arith, h))
  inserted u us (suc k) h = at (f u == k) refl (λ lt. inserted u us k lt)
    where
      at : (b : Bool) → (f u == k) ≡ b → (f u < k → Inserted u us k) → Inserted u us (suc k)
      at true e rest =
          let same : k ≡ f u = sym (eqb-true (f u) k e) in
          record {
            highs = picked_at us k;
            without = sorted_more us k ∙ ap (λ m. sorted us m ++ picked_at us k) same;
            with_it =
                sorted_more (u ∷ us) k ∙ (λ i. sorted_below u us k (omega (arith, same)) i ++ picked_first u us k e i)
                ∙ ap (λ m. sorted us m ++ (u ∷ picked_at us k)) same;
          }
      at false e rest =
          let apart : f u ≡ k → ⊥ = λ q. true≢false (sym (eq-eqb (f u) k q) ∙ e) in
          let r = rest (omega (arith, h, apart)) in
          record {
            highs = r.highs ++ picked_at us k;
            without = sorted_more us k ∙ ap (λ zs. zs ++ picked_at us k) r.without ∙ append_assoc (sorted us (f u)) r.highs (picked_at us k);
            with_it =
                sorted_more (u ∷ us) k ∙ (λ i. r.with_it i ++ picked_other u us k e i) ∙ append_assoc (sorted us (f u)) (u ∷ r.highs) (picked_at us k);
          }

  -- so many of the waves come first
  pub record Begun (us : List A) (i k : ℕ) : Type 0 where
    pub rest : List A
    pub is : sorted us k ≡ sorted us i ++ rest

  pub begun : (us : List A) (i k : ℕ) → i ≤ k → Begun us i k
  begun us i zero h =
      let none : i ≡ 0 = omega (arith, h) in
      record { rest = []; is = sym (append-nil (sorted us i) ∙ ap (sorted us) none) }
  begun us i (suc k) h = at (cases_lt i (suc k)) (λ le. begun us i k le)
    where
      at : (i < suc k) ⊎ (suc k ≤ i) → (i ≤ k → Begun us i k) → Begun us i (suc k)
      at (inl lt) rest =
          let r = rest (omega (arith, lt)) in
          record { rest = r.rest ++ picked_at us k; is = sorted_more us k ∙ ap (λ zs. zs ++ picked_at us k) r.is ∙ append_assoc (sorted us i) r.rest (picked_at us k) }
      at (inr le) rest =
          let same : i ≡ suc k = omega (arith, le, h) in
          record { rest = []; is = sym (append-nil (sorted us i) ∙ ap (sorted us) same) }

  -- ---- what holds of each

  pub picked_each : (P : A → Type 0) (us : List A) (i : ℕ) → Each (λ u. f u ≡ i → P u) us → Each P (picked_at us i)
  picked_each P [] i h = tt
  picked_each P (u ∷ us) i h = at (f u == i) refl (picked_each P us i h.1)
    where
      at : (b : Bool) → (f u == i) ≡ b → Each P (picked_at us i) → Each P (picked_at (u ∷ us) i)
      at true e rest = subst (Each P) (sym (picked_first u us i e)) (h.0 (eqb-true (f u) i e), rest)
      at false e rest = subst (Each P) (sym (picked_other u us i e)) rest

  weaker : (P Q : A → Type 0) (us : List A) → ((u : A) → P u → Q u) → Each P us → Each Q us
  weaker P Q [] h k = tt
  weaker P Q (u ∷ us) h k = (h u k.0, weaker P Q us h k.1)

  pub sorted_each : (P : A → Type 0) (us : List A) (k : ℕ) → Each (λ u. f u < k → P u) us → Each P (sorted us k)
  sorted_each P us zero h = tt
  sorted_each P us (suc k) h =
      subst (Each P) (sym (sorted_more us k))
      (each_join P (sorted us k) (picked_at us k)
      (sorted_each P us k (weaker (λ u. f u < suc k → P u) (λ u. f u < k → P u) us (λ u q lt. q (omega (arith, lt))) h))
      (picked_each P us k (weaker (λ u. f u < suc k → P u) (λ u. f u ≡ k → P u) us (λ u q e. q (omega (arith, e))) h)))
