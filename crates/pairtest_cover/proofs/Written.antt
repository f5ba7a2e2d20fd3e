-- What stands in a subscript.
use Rattle.std.proofs.Common.{◌≡◌, ◌↔◌, ◌⊎◌, inl, inr, ⊎_elim, ℕ, ℤ, pos, ◌+◌, ◌-◌, ◌<◌, ◌≤◌, Bool, true, false, List, length, Option, Some, None, is_some, not, MatchOption, refl, sym, ap, ◌∙◌, arith}
use Rattle.std.proofs.lemmas.Bool.{cases_order}
use Rattle.pairtest.specs.declared.access.Subscript.{Subscript}
use Rattle.pairtest.specs.declared.access.Nest.{Nest}
use Rattle.pairtest.specs.DirectionVectors.{coefficient}
use Rattle.pairtest_cover.specs.Covered.{StandsIn, IsSimple}
use Rattle.pairtest_cover.specs.Along.{IsFirstFrom}

-- only serial counters stand there
pub none_stands : (nest : Nest) (s : Subscript) → ((i : ℕ) → length nest.serial.items ≤ i → coefficient s.coefficients.items i ≡ pos 0) → IsSimple nest s
none_stands nest s none = record {
  no_inner = λ i l. none i (omega (arith, l));
  one = λ k l n m. absurd (n (none (length nest.serial.items + k) (omega arith)));
}

-- the first counter that is not serial
module _ (nest : Nest) (s : Subscript) (serial p : ℕ) (is : serial ≡ length nest.serial.items) (first : IsFirstFrom s.coefficients.items serial p) where
  abbrev pub cs : List ℤ
  cs = s.coefficients.items

  -- a loop of the nest has it, and none stands behind it
  pub one_stands : p - serial < length nest.loops.items → ((i : ℕ) → p + 1 ≤ i → coefficient cs i ≡ pos 0) → IsSimple nest s
  one_stands small rest = record { no_inner = λ i l. rest i (omega (arith, l, small, is, first.behind)); one = λ k l n m. let a = only k n in let b = only l m in omega (arith, a, b) }
    where
      only : (k : ℕ) → StandsIn nest k s → length nest.serial.items + k ≡ p
      only k n =
          ⊎_elim (λ (e : length nest.serial.items + k ≡ p). e)
          (λ o. ⊎_elim (λ (lt : length nest.serial.items + k < p). absurd (n (first.before (length nest.serial.items + k) (omega (arith, is)) lt)))
          (λ (gt : p < length nest.serial.items + k). absurd (n (rest (length nest.serial.items + k) (omega (arith, gt))))) o)
          (cases_order (length nest.serial.items + k) p)

  place : StandsIn nest (p - serial) s
  place e = let same : length nest.serial.items + (p - serial) ≡ p = omega (arith, is, first.behind) in first.stands (sym (ap (coefficient cs) same) ∙ e)

  -- it is one of the nest's
  pub first_inside : IsSimple nest s → p - serial < length nest.loops.items
  first_inside simple = inside (cases_order (p - serial) (length nest.loops.items))
    where
      inside : ((p - serial) ≡ length nest.loops.items) ⊎ (((p - serial) < length nest.loops.items) ⊎ (length nest.loops.items < p - serial)) → p - serial < length nest.loops.items
      inside (inl e) = absurd (first.stands (simple.no_inner p (omega (arith, e, is, first.behind))))
      inside (inr (inl l)) = l
      inside (inr (inr g)) = absurd (first.stands (simple.no_inner p (omega (arith, g, is, first.behind))))

  -- and the only one
  second_none : IsSimple nest s → (q : ℕ) → IsFirstFrom cs (p + 1) q → ⊥
  second_none simple q other =
      let behind : p + 1 ≤ q = other.behind in
      let same : length nest.serial.items + (q - serial) ≡ q = omega (arith, is, first.behind, behind) in
      let one : p - serial ≡ q - serial = simple.one (p - serial) (q - serial) place (λ e. other.stands (sym (ap (coefficient cs) same) ∙ e)) in
      omega (arith, one, first.behind, behind)

  pub simple_decided : (o : Option ℕ) (b : Bool) → is_some o ≡ not b → p - serial < length nest.loops.items
      → MatchOption o ((i : ℕ) → p + 1 ≤ i → coefficient cs i ≡ pos 0) (λ q. IsFirstFrom cs (p + 1) q) → (b ≡ true) ↔ IsSimple nest s
  simple_decided None true e small rest = (λ t. one_stands small rest, λ simple. refl)
  simple_decided None false e small rest = absurd cc
  simple_decided (Some q) true e small other = absurd cc
  simple_decided (Some q) false e small other = (λ (t : false ≡ true). absurd cc, λ simple. absurd (second_none simple q other))
