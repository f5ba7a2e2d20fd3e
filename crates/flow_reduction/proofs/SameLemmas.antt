-- Subscripts that are compared one by one.
use Rattle.std.specs.Prelude.{ℕ, ◌≡◌, ◌==◌, ◌≤◌, List, [], ◌∷◌, length, drop}
use Rattle.std.proofs.Common.{refl, sym, ap, ◌∙◌, arith}
use Rattle.std.proofs.lemmas.Bool.{ne_eqb}
use Rattle.std.proofs.lemmas.List.{drop_all}
use Rattle.semantics.specs.Tree.{no_exprs}
use Rattle.law_roles.specs.Updates.{same_exprs}
use Rattle.ktree.specs.View.{exprs_of}
use Rattle.ktree.specs.declared.expression.Expr.{Expr}

no_others : (others : List Expr) → (length others == 0) ≡ same_exprs no_exprs (exprs_of others)
no_others [] = refl
no_others (e ∷ es) = ne_eqb (length (e ∷ es)) 0 (λ p. omega arith)

-- none of the one is left: the same where none of the other is
pub none_left : (left others : List Expr) (i : ℕ) → length left ≤ i → (length others == 0) ≡ same_exprs (exprs_of (drop i left)) (exprs_of others)
none_left left others i over = no_others others ∙ sym (ap (λ es. same_exprs (exprs_of es) (exprs_of others)) (drop_all i left over))
