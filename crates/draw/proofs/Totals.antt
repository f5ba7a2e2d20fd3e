-- Totals over a list of views, of whatever type, where a view is looked up by its number.
use Rattle.std.proofs.Common.{◌≡◌, ℕ, zero, suc, ◌+◌, ◌≤◌, List, [], ◌∷◌, ◌++◌, set, sum_by, sym, ap, refl, arith}
use Rattle.std.proofs.lemmas.List.Sums.{sum_by-cons}
use mathlib.Core.Option.{some, some-injective, some-ne-none}
use lib.ListN.{get_elem?}

-- a view changes
pub total-set : {V : Type 0} (f : V → ℕ) (views : List V) (id : ℕ) (v w : V) → get_elem? views id ≡ some v → sum_by f (set views id w) + f v ≡ sum_by f views + f w
total-set f [] id v w e = absurd (some-ne-none v (sym e))
total-set f (x ∷ xs) zero v w e =
    let is : f x ≡ f v = ap f (some-injective x v e) in
    omega (arith, sum_by-cons f x xs, sum_by-cons f w xs)
total-set f (x ∷ xs) (suc id) v w e =
    omega (arith, total-set f xs id v w e, sum_by-cons f x xs, sum_by-cons f x (set xs id w))

-- a view is added
pub total-snoc : {V : Type 0} (f : V → ℕ) (views : List V) (v : V) → sum_by f (views ++ v ∷ []) ≡ sum_by f views + f v
total-snoc f [] v = omega (arith, sum_by-cons f v [])
total-snoc f (x ∷ xs) v = omega (arith, total-snoc f xs v, sum_by-cons f x xs, sum_by-cons f x (xs ++ v ∷ []))

-- one view has no more than all
pub total-at : {V : Type 0} (f : V → ℕ) (views : List V) (id : ℕ) (v : V) → get_elem? views id ≡ some v → f v ≤ sum_by f views
total-at f [] id v e = absurd (some-ne-none v (sym e))
total-at f (x ∷ xs) zero v e =
    let is : f x ≡ f v = ap f (some-injective x v e) in
    omega (arith, sum_by-cons f x xs)
total-at f (x ∷ xs) (suc id) v e = omega (arith, total-at f xs id v e, sum_by-cons f x xs)

-- what is no more of each view is no more in all
pub total-le : {V : Type 0} (f g : V → ℕ) (views : List V) → ((id : ℕ) (v : V) → get_elem? views id ≡ some v → f v ≤ g v) → sum_by f views ≤ sum_by g views
total-le f g [] h = omega arith
total-le f g (x ∷ xs) h =
    omega (arith, h 0 x refl, total-le f g xs (λ id v e. h (suc id) v e), sum_by-cons f x xs, sum_by-cons g x xs)

-- where who has none of g has none of f, and nobody has any of g, nobody has any of f
total_none : {V : Type 0} (f g : V → ℕ) (views : List V) → ((id : ℕ) (v : V) → get_elem? views id ≡ some v → g v ≡ 0 → f v ≡ 0) → sum_by g views ≡ 0 → sum_by f views ≡ 0
total_none f g [] h e = refl
total_none f g (x ∷ xs) h e =
    let split = sum_by-cons g x xs in
    let here = h 0 x refl (omega arith) in
    omega (arith, total_none f g xs (λ id v at. h (suc id) v at) (omega arith), sum_by-cons f x xs)

-- where one view has all of g, and who has none of g has none of f, it has all of f
pub total_only : {V : Type 0} (f g : V → ℕ) (views : List V) (id : ℕ) (v : V) → get_elem? views id ≡ some v → ((i : ℕ) (u : V) → get_elem? views i ≡ some u → g u ≡ 0 → f u ≡ 0) → sum_by g views ≡ g v → sum_by f views ≡ f v
total_only f g [] id v at h e = absurd (some-ne-none v (sym at))
total_only f g (x ∷ xs) zero v at h e =
    let is : f x ≡ f v = ap f (some-injective x v at) in
    let is' : g x ≡ g v = ap g (some-injective x v at) in
    let split = sum_by-cons g x xs in
    omega (arith, total_none f g xs (λ id u t. h (suc id) u t) (omega arith), sum_by-cons f x xs)
total_only f g (x ∷ xs) (suc id) v at h e =
    let le = total-at g xs id v at in
    let split = sum_by-cons g x xs in
    let here = h 0 x refl (omega arith) in
    omega (arith, total_only f g xs id v at (λ i u t. h (suc i) u t) (omega arith), sum_by-cons f x xs)
