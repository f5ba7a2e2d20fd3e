-- Sums, multiples and substitutions of affine forms, exactly: their terms are canonical where those of the parts are.
use Rattle.std.specs.Prelude.{◌==◌, nat_lt, ℤ, pos, ◌+ℤ◌, ◌*ℤ◌, List, [], ◌∷◌, if◌then◌else◌}
use Rattle.std.specs.Ordering.{int_eq}
use Rattle.semantics.specs.Tree.{Variable}
use Rattle.affine.specs.declared.term.Term.{Term}
use Rattle.affine.specs.Affine.{Affine, coefficient_at}

-- the form that is this number everywhere
abbrev pub constant_form : ℤ → Affine
constant_form n = record { constant = n; terms = [] }

-- a variable with a coefficient
abbrev pub term : Variable → ℤ → Term
term x c = record { variable = record { 0 = x }; coefficient = c }

-- the form that is this variable
abbrev pub variable_form : Variable → Affine
variable_form x = record { constant = pos 0; terms = term x (pos 1) ∷ [] }

-- a variable's term before others, and none at the coefficient 0
abbrev pub term_before : Variable → ℤ → List Term → List Term
term_before x c ts = if int_eq c (pos 0) then ts else term x c ∷ ts

-- terms in rising order with so much more of a variable
abbrev pub with_more : Variable → ℤ → List Term → List Term
with_more x c [] = term_before x c []
with_more x c (t ∷ ts) =
    if nat_lt x t.variable.0
    then term_before x c (t ∷ ts)
    else (if t.variable.0 == x then term_before x (t.coefficient +ℤ c) ts else t ∷ with_more x c ts)

-- terms and a multiple of others
abbrev pub with_multiple : ℤ → List Term → List Term → List Term
with_multiple factor [] ts = ts
with_multiple factor (u ∷ us) ts = with_more u.variable.0 (factor *ℤ u.coefficient) (with_multiple factor us ts)

-- a form and a multiple of another
abbrev pub plus_multiple : Affine → ℤ → Affine → Affine
plus_multiple a factor b =
    record { constant = a.constant +ℤ factor *ℤ b.constant; terms = with_multiple factor b.terms a.terms }

-- the sum of two forms
abbrev pub sum_form : Affine → Affine → Affine
sum_form a b = plus_multiple a (pos 1) b

-- a multiple of a form
abbrev pub multiple_form : Affine → ℤ → Affine
multiple_form a factor = plus_multiple (constant_form (pos 0)) factor a

-- terms without the first that names this variable
abbrev pub terms_without : Variable → List Term → List Term
terms_without x [] = []
terms_without x (t ∷ ts) = if t.variable.0 == x then ts else t ∷ terms_without x ts

-- a form with another in place of a variable
abbrev pub substituted : Affine → Variable → Affine → Affine
substituted a x by = plus_multiple (record a { terms = terms_without x a.terms }) (coefficient_at a.terms x) by
