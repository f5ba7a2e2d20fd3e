-- Affine forms as data: a whole number, and variables with whole numbers as coefficients.
use Rattle.std.specs.Prelude.{◌≢◌, ◌<◌, ◌==◌, ℤ, pos, ◌+ℤ◌, ◌*ℤ◌, List, [], ◌∷◌, All, if◌then◌else◌}
use Rattle.semantics.specs.Tree.{Variable}
use Rattle.affine.specs.declared.term.Term.{Term}

-- the form constant + coefficient * variable + ..
pub record Affine : Type 0 where
  pub constant : ℤ
  pub terms : List Term

-- the sum of the terms where the variables have these values
abbrev pub term_sum : List Term → (Variable → ℤ) → ℤ
term_sum [] values = pos 0
term_sum (t ∷ ts) values = t.coefficient *ℤ values t.variable.0 +ℤ term_sum ts values

-- the whole number that a form stands for where the variables have these values
abbrev pub value : Affine → (Variable → ℤ) → ℤ
value form values = form.constant +ℤ term_sum form.terms values

-- a variable's coefficient, 0 where no term names it
abbrev pub coefficient_at : List Term → Variable → ℤ
coefficient_at [] x = pos 0
coefficient_at (t ∷ ts) x = if t.variable.0 == x then t.coefficient else coefficient_at ts x

-- the values after one variable is given another
abbrev pub with_value : (Variable → ℤ) → Variable → ℤ → Variable → ℤ
with_value values x v y = if y == x then v else values y

-- each variable stands once, in rising order, and with a coefficient that is not 0
abbrev pub IsCanonical : List Term → Type 0
IsCanonical [] = Unit {0}
IsCanonical (t ∷ ts) = (t.coefficient ≢ pos 0) × All (λ u. t.variable.0 < u.variable.0) ts × IsCanonical ts
