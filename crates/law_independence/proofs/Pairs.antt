-- A pair that is not shown to be independent, and the sites of its accesses.
use Rattle.std.specs.Prelude.{ℕ, zero, suc, Bool, true, false, IsTrue, ◌≡◌, ◌⊎◌, ◌==◌, ◌+◌, List, [], ◌∷◌, drop, Some, slice_get}
use Rattle.std.proofs.Common.{refl, sym, inl, inr, ap, ◌∙◌, subst, arith, ⊎_elim}
use Rattle.std.proofs.lemmas.Bool.{eqb-true, eqb-false}
use Rattle.std.proofs.lemmas.Option.{none-some, same_Some}
use Rattle.semantics.specs.Loops.Order.{Distance}
use Rattle.pairtest.specs.declared.access.Access.{Access}
use Rattle.pairtest.specs.declared.access.Nest.{Nest}
use Rattle.pairtest.specs.declared.access.Mode.{Mode}
use Rattle.pairtest.specs.declared.access.Mode.TheVariants.{Reads, Writes}
use Rattle.pairtest_cover.specs.Covered.{IsOrdered}
use Rattle.pairtest_access.specs.Sites.{Site}
use Rattle.pairtest_access.specs.Found.{AreMet, IsFound, IsMet}
use Rattle.deptest_verdict.specs.Pairs.{IsPair, IsFirstPair}

-- two accesses are a pair where nothing follows from it that is not so anyway
is_pair : (R : Type 0) (x y : Access) → ((IsPair x y → R) → ⊥) → IsPair x y
is_pair R x y more = counted x.is_counted refl y.is_counted refl
  where
    go : (b : Bool) → (x.array.0 == y.array.0) ≡ b → (m : Mode) → x.mode ≡ m → (n : Mode) → y.mode ≡ n → (x.array ≡ y.array) × ((x.mode ≡ Writes) ⊎ (y.mode ≡ Writes))
    go false e m p n q = absurd (more (λ pair. absurd (eqb-false x.array.0 y.array.0 e (ap (λ a. a.0) pair.0))))
    go true e Writes p n q = (λ i. record { 0 = eqb-true x.array.0 y.array.0 e i }, inl p)
    go true e Reads p Writes q = (λ i. record { 0 = eqb-true x.array.0 y.array.0 e i }, inr q)
    go true e Reads p Reads q = absurd (more (λ pair. absurd (⊎_elim (λ (w : x.mode ≡ Writes). apart (sym p ∙ w)) (λ (w : y.mode ≡ Writes). apart (sym q ∙ w)) pair.1)))
      where
        apart : Reads ≡ Writes → ⊥
        apart w = cc

    counted : (b : Bool) → x.is_counted ≡ b → (d : Bool) → y.is_counted ≡ d → IsPair x y
    counted false e d f = absurd (more (λ pair. let t = sym e ∙ pair.2 in absurd (cc t)))
    counted true e false f = absurd (more (λ pair. let t = sym f ∙ pair.3 in absurd (cc t)))
    counted true e true f = let alike = go (x.array.0 == y.array.0) refl x.mode refl y.mode refl in (alike.0, alike.1, e, f)

-- what stands behind some elements
drop_at : {A : Type 0} (xs : List A) (i j : ℕ) → slice_get (drop i xs) j ≡ slice_get xs (i + j)
drop_at xs zero j = ap (slice_get xs) (let none : j ≡ 0 + j = omega arith in none)
drop_at [] (suc i) j = refl
drop_at (x ∷ xs) (suc i) j = drop_at xs i j ∙ ap (slice_get (x ∷ xs)) (let more : suc (i + j) ≡ suc i + j = omega arith in more)

-- the first pair that is not shown is a pair
pub first_is_pair : (nest : Nest) (sinks : List Distance) (xs : List Access) (i j : ℕ) (x y : Access) → IsFirstPair nest sinks xs i j → slice_get xs i ≡ Some x → slice_get xs j ≡ Some y → IsPair x y
first_is_pair nest sinks xs i j x y is p q =
    let one : is.access ≡ x = same_Some is.access x (sym is.there ∙ p) in
    let other : is.first.access ≡ y = same_Some is.first.access y (sym is.first.there ∙ drop_at xs i is.behind ∙ ap (slice_get xs) (sym is.second) ∙ q) in
    subst (λ z. IsPair x z) other (subst (λ z. IsPair z is.first.access) one (is_pair (IsOrdered nest sinks is.access is.first.access) is.access is.first.access is.first.not_shown))

-- the site of an access that was met and is counted
pub site_of : (outer : ℕ) (ss : List Site) (fs : List Access) (k : ℕ) (f : Access) → AreMet outer ss fs → slice_get fs k ≡ Some f → IsTrue f.is_counted
    → (s : Site) × (slice_get ss k ≡ Some s) × IsFound outer s f
site_of outer [] [] k f are e counted = absurd (none-some f e)
site_of outer [] (g ∷ fs) k f are e counted = absurd are
site_of outer (s ∷ ss) [] k f are e counted = absurd are
site_of outer (s ∷ ss) (g ∷ fs) zero f are e counted = (s, refl, found_of (subst (IsMet outer s) (same_Some g f e) are.0))
  where
    found_of : IsMet outer s f → IsFound outer s f
    found_of (inl k) = k
    found_of (inr k) = let t = sym k.counted ∙ counted in absurd (cc t)
site_of outer (s ∷ ss) (g ∷ fs) (suc k) f are e counted = site_of outer ss fs k f are.1 e counted
