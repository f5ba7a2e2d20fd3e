-- The limits of forms, and the refusals of those that pass them.
use Rattle.std.specs.Prelude.{◌≡◌, ℕ, ℤ, ◌≤◌, ◌^◌, ◌⊎◌, unsigned_abs, List, length, All}
use Rattle.ktree.specs.declared.place.Place.{Place}
use Rattle.ktree.specs.declared.refusal.Refusal.{Refusal}
use Rattle.ktree.specs.declared.refusal.Refusal.TheVariants.{Limit, OutOfMemory}
use Rattle.affine.specs.declared.term.Term.{Term}
use Rattle.affine.specs.Affine.{Affine, IsCanonical}

-- a number is at most so large in absolute value
abbrev pub IsWithin : ℕ → ℤ → Type 0
IsWithin limit n = unsigned_abs n ≤ limit

-- so are all coefficients
abbrev pub CoefficientsWithin : ℕ → List Term → Type 0
CoefficientsWithin limit ts = All (λ t. IsWithin limit t.coefficient) ts

-- all numbers of a form are
pub record NumbersWithin (limit : ℕ) (form : Affine) : Type 0 where
  pub constant : IsWithin limit form.constant
  pub coefficients : CoefficientsWithin limit form.terms

-- the coefficients are within 2^62, and the variables at most 64
pub record TermsFit (ts : List Term) : Type 0 where
  pub numbers : CoefficientsWithin (2 ^ 62) ts
  pub variables : length ts ≤ 64

-- a form keeps the limits: its numbers are within 2^62, and its variables at most 64
pub record Fits (form : Affine) : Type 0 where
  pub constant : IsWithin (2 ^ 62) form.constant
  pub terms : TermsFit form.terms

-- a form as the code holds it
pub record IsForm (form : Affine) : Type 0 where
  pub fits : Fits form
  pub canonical : IsCanonical form.terms

-- memory ran out, or this form passes the limits and the refusal says so at this place
abbrev pub Refuses : Place → Affine → Refusal → Type 0
Refuses place form refusal = (refusal ≡ OutOfMemory) ⊎ ((refusal ≡ Limit place) × (¬ (Fits form)))
