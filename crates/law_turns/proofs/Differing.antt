-- Different iterations differ in the steps of some loop.
use Rattle.std.specs.Prelude.{ℕ, zero, suc, Bool, true, false, ◌≡◌, ◌≢◌, ◌<◌, ◌≤◌, ℤ, pos, List, [], ◌∷◌, length, map, ◌⊎◌, unsigned_abs, nat_lt}
use Rattle.std.specs.Ordering.{int_eq}
use Rattle.std.proofs.Common.{refl, sym, inl, inr, ap, ◌∙◌, arith, ⊎_elim}
use Rattle.std.proofs.lemmas.Bool.Decides.{Decides-int_eq, Decides-ltb, nat_tests}
use Rattle.std.proofs.lemmas.Bool.{cases_order}
use Rattle.semantics.specs.Meaning.State.{State}
use Rattle.semantics.specs.Loops.Nest.{Loop, Vector}
use Rattle.pairtest_counter.specs.Levels.{Nesting}
use Rattle.law_turns.specs.Turns.{IsIteration}
use Rattle.law_turns.proofs.Standing.{values_same}

-- they agree from one number up to another
abbrev AgreeFrom : ℕ → ℕ → (ℕ → ℤ) → (ℕ → ℤ) → Type 0
AgreeFrom m n a b = (j : ℕ) → m ≤ j → j < n → a j ≡ b j

-- they differ there
abbrev DifferFrom : ℕ → ℕ → (ℕ → ℤ) → (ℕ → ℤ) → Type 0
DifferFrom m n a b = (j : ℕ) × (m ≤ j) × (j < n) × (a j ≢ b j)

not_lower : (m n : ℕ) → nat_lt n m ≡ false → m ≤ n
not_lower m n e = grind (arith, nat_tests)

either : (m n : ℕ) (a b : ℕ → ℤ) → AgreeFrom m n a b ⊎ DifferFrom m n a b
either m zero a b = inl (λ j le lt. absurd (omega arith))
either m (suc n) a b = ⊎_elim (λ same. by same (int_eq (a n) (b n)) refl (nat_lt n m) refl) (λ d. let lt = d.2 in inr (d.0, d.1, omega arith, d.3)) (either m n a b)
  where
    last : AgreeFrom m n a b → a n ≡ b n → AgreeFrom m (suc n) a b
    last same e j le lt = ⊎_elim (λ q. ap a q ∙ e ∙ sym (ap b q)) (λ o. ⊎_elim (λ less. same j le less) (λ more. absurd (omega arith)) o) (cases_order j n)

    below : n < m → AgreeFrom m (suc n) a b
    below less j le lt = absurd (omega arith)

    by : AgreeFrom m n a b → (s : Bool) → int_eq (a n) (b n) ≡ s → (t : Bool) → nat_lt n m ≡ t → AgreeFrom m (suc n) a b ⊎ DifferFrom m (suc n) a b
    by same true e t f = inl (last same ((Decides-int_eq (a n) (b n)).0 e))
    by same false e true f = inl (below ((Decides-ltb n m).0 f))
    by same false e false f = inr (n, not_lower m n f, omega arith, λ (q : a n ≡ b n). let yes = (Decides-int_eq (a n) (b n)).1 q in absurd cc)

numbers_same : (u v : Vector) → map pos u ≡ map pos v → u ≡ v
numbers_same [] [] e = refl
numbers_same [] (y ∷ v) e = absurd cc
numbers_same (x ∷ u) [] e = absurd cc
numbers_same (x ∷ u) (y ∷ v) e =
    let first : pos x ≡ pos y = cc in
    let rest : map pos u ≡ map pos v = cc in
    let same : x ≡ y = ap unsigned_abs first in
    ap (λ z. z ∷ u) same ∙ ap (λ (w : Vector). y ∷ w) (numbers_same u v rest)

pub same_iteration : (before after : Nesting) (hs : List Loop) (outer : ℕ → ℤ) (s : State) (u v : Vector) (steps others : ℕ → ℤ)
    → IsIteration before after hs outer s u steps → IsIteration before after hs outer s v others → AgreeFrom (length before.levels) (length after.levels) steps others → u ≡ v
same_iteration before after hs outer s u v steps others p q same =
    numbers_same u v
    (p.values
    ∙ ap (λ (f : ℕ → ℤ). map (λ h. f h.variable) hs) (values_same after.levels steps others (λ j lt. at j lt (nat_lt j (length before.levels)) refl))
    ∙ sym q.values)
  where
    at : (j : ℕ) → j < length after.levels → (b : Bool) → nat_lt j (length before.levels) ≡ b → steps j ≡ others j
    at j lt true e = let less = (Decides-ltb j (length before.levels)).0 e in p.outer_same j less ∙ sym (q.outer_same j less)
    at j lt false e = same j (not_lower (length before.levels) j e) lt

pub differ_in_steps : (before after : Nesting) (hs : List Loop) (outer : ℕ → ℤ) (s : State) (u v : Vector) (steps others : ℕ → ℤ)
    → IsIteration before after hs outer s u steps → IsIteration before after hs outer s v others → u ≢ v → DifferFrom (length before.levels) (length after.levels) steps others
differ_in_steps before after hs outer s u v steps others p q apart =
    ⊎_elim (λ same. absurd (apart (same_iteration before after hs outer s u v steps others p q same))) (λ d. d) (either (length before.levels) (length after.levels) steps others)
