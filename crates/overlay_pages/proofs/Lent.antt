-- A lent store is known by its lists, and a chunk that wrote nothing sees its cells.
use Rattle.std.proofs.Common.{ℕ, zero, suc, ◌≡◌, List, [], ◌∷◌, replicate, Option, None, refl, ap, ◌∙◌}
use Rattle.store.specs.Kept.{Kept}
use Rattle.overlay_pages.specs.Over.{written_over, writes_in}
use Rattle.overlay_pages.specs.Seen.{lent_of}
use Rattle.overlay_pages.proofs.Overlays.{over_nothing}

first_list : List (List ℕ) → List ℕ
first_list [] = []
first_list (xs ∷ xss) = xs

others : List (List ℕ) → List (List ℕ)
others [] = []
others (xs ∷ xss) = xss

pub lent_is : (ks js : List Kept) → lent_of ks ≡ lent_of js → ks ≡ js
unfolding first_list others
lent_is [] [] e = refl
lent_is [] (j ∷ js) e = absurd cc
lent_is (k ∷ ks) [] e = absurd cc
lent_is (k ∷ ks) (j ∷ js) e =
    let lengths : k.lengths ≡ j.lengths = ap first_list e in
    let values : k.values ≡ j.values = ap (λ l. first_list (others l)) e in
    let rest : ks ≡ js = lent_is ks js (ap (λ l. others (others l)) e) in
    λ i. record { lengths = lengths i; values = values i } ∷ rest i

none_in : (n p : ℕ) → writes_in (replicate n None) p ≡ None
none_in zero p = refl
none_in (suc n) zero = refl
none_in (suc n) (suc p) = none_in n p

-- where nothing is written the cells are the store's
pub unwritten_cells : (os : List (Option ℕ)) (n : ℕ) (ns : List ℕ) → os ≡ replicate n None → written_over (writes_in os) ns ≡ ns
unwritten_cells os n ns e = over_nothing (writes_in os) ns (λ p. ap (λ l. writes_in l p) e ∙ none_in n p)
