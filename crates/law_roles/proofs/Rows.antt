-- A loop that keeps its roles.
use Rattle.std.specs.Prelude.{Bool, true, false, not, ◌≡◌, ◌==◌, ◌||◌, ◌⊎◌, [], ◌∷◌, Some, None}
use Rattle.std.proofs.Common.{refl, sym, subst, cond, inl, inr, arith}
use Rattle.std.proofs.lemmas.Bool.{true≢false, eqb-true, or_cases}
use Rattle.std.proofs.lemmas.Option.{none-some}
use Rattle.semantics.specs.Tree.{Variable}
use Rattle.semantics.specs.Meaning.Definite.{known_with}
use Rattle.semantics.specs.Meaning.Agrees.{is_among, visible_behind}
use Rattle.semantics.specs.Loops.Operator.{ReduceOp, Sum}
use Rattle.law_roles.specs.Sharing.{IsScalar, HoldsNumber, KeepsRoles}
use Rattle.law_roles.specs.Rows.{summing, twice, summing_roles, before_summing}

-- of the two variables
of_both : (P : Variable → Type 0) → P 3 → P 0 → (x : Variable) → is_among (3 ∷ 0 ∷ []) x ≡ true → P x
of_both P one two x h = at (or_cases (3 == x) ((0 == x) || false) h)
  where
    second : ((0 == x) ≡ true) ⊎ (false ≡ true) → P x
    second (inl e) = subst P (eqb-true 0 x e) two
    second (inr e) = absurd (true≢false (sym e))

    at : ((3 == x) ≡ true) ⊎ (((0 == x) || false) ≡ true) → P x
    at (inl e) = subst P (eqb-true 3 x e) one
    at (inr e) = second (or_cases (0 == x) false e)

pub kept_is : KeepsRoles summing_roles twice summing before_summing
kept_is = record {
  no_firsts = refl;
  no_conditionals = refl;
  whole = record { names = refl; steady = (refl, tt, (refl, tt), refl, ((refl, tt), ((refl, tt), tt))) };
  inside = record { names = refl; steady = ((refl, tt), ((refl, tt), tt)) };
  declares_none = of_both (λ x. visible_behind twice x ≡ true) refl refl;
  scalars = of_both (IsScalar before_summing) (inr (record { outside = refl; there = refl; alone = λ i is. refl })) (inr (record { outside = refl; there = refl; alone = λ i is. refl }));
  apart = refl;
  first = refl;
  last = record { known = known_with (λ x. not (is_among (3 ∷ []) x)) 3 true; is = refl; each = λ x h. last x (or_cases (3 == x) false h) };
  updates = refl;
  different = refl;
  taken = inl refl;
  numbers = λ x op h. number x (0 == x) refl h;
}
  where
    last : (x : Variable) → ((3 == x) ≡ true) ⊎ (false ≡ true) → known_with (λ y. not (is_among (3 ∷ []) y)) 3 true x ≡ true
    last x (inl e) = subst (λ z. known_with (λ y. not (is_among (3 ∷ []) y)) 3 true z ≡ true) (eqb-true 3 x e) refl
    last x (inr e) = absurd (true≢false (sym e))

    number : (x : Variable) (b : Bool) → (0 == x) ≡ b → {op : ReduceOp} → cond b (Some Sum) None ≡ Some op → HoldsNumber before_summing x
    number x true e h = subst (HoldsNumber before_summing) (eqb-true 0 x e) (5, refl, omega arith)
    number x false e {op = op} h = absurd (none-some op h)
