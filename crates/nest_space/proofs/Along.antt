-- The vectors of a row.
use Rattle.std.specs.Prelude.{ℕ, zero, suc, ◌≡◌, ◌+◌, ◌-◌, ◌*◌, ◌%◌, ◌<◌, ◌≤◌, ◌^◌, List, [], ◌∷◌, ◌++◌, Some, slice_get}
use Rattle.std.proofs.Common.{refl, sym, ap, ◌∙◌, subst, arith}
use Rattle.std.proofs.Math.Nat.{mul_assoc, mul_comm, mul-add, mod-eq_of_lt, mul-add-mod_self_right}
use Rattle.std.proofs.lemmas.Option.{none-some, same_Some}
use Rattle.semantics.specs.Loops.Nest.{Vector}
use Rattle.nest_loop.specs.declared.stride.Direction.{Direction}
use Rattle.nest_loop.specs.declared.stride.Direction.TheVariants.{Rising, Falling}
use Rattle.nest_space.specs.Space.{Turns, moved, values_of, vectors, product, LastFits, IsTurns}
use Rattle.nest_space.specs.Rows.{with_last, turns_inside, growth, IsRow}
use Rattle.nest_space.proofs.Counted.{found_at, fits_before, value_there}
use Rattle.nest_space.proofs.Places.{length-vectors, never_empty, number_law, pair_at}

-- ---- the innermost loop

pub turns_inside_last : (ts : List Turns) (t : Turns) → turns_inside (ts ++ t ∷ []) ≡ t.count
turns_inside_last [] t = refl
turns_inside_last (s ∷ []) t = refl
turns_inside_last (s ∷ r ∷ ts) t = turns_inside_last (r ∷ ts) t

product_last : (ts : List Turns) (t : Turns) → product (ts ++ t ∷ []) ≡ product ts * t.count
product_last [] t = omega arith
product_last (s ∷ ts) t = ap (λ n. s.count * n) (product_last ts t) ∙ sym (mul_assoc s.count (product ts) t.count)

-- no vector of it and of loops round it is empty
some_value : (ts : List Turns) (t : Turns) (n : ℕ) → slice_get (vectors (ts ++ t ∷ [])) n ≡ Some [] → ⊥
some_value [] t n e = never_empty (values_of t) ([] ∷ []) n e
some_value (s ∷ ts) t n e = never_empty (values_of s) (vectors (ts ++ t ∷ [])) n e

only_vector : (n : ℕ) (u : Vector) → slice_get ([] ∷ []) n ≡ Some u → (n ≡ 0) × (u ≡ [])
only_vector zero u e = (refl, sym (same_Some [] u e))
only_vector (suc n) u e = absurd (none-some u e)

last_on : (x : ℕ) (u : Vector) (y : ℕ) → (u ≡ [] → ⊥) → with_last (x ∷ u) y ≡ x ∷ with_last u y
last_on x [] y some = absurd (some refl)
last_on x (v ∷ u) y some = refl

-- so far behind a vector stands the same one with another last value, as long as the innermost loop has one
pub row_there : (ts : List Turns) (t : Turns) (n k x : ℕ) (us : Vector) → slice_get (vectors (ts ++ t ∷ [])) n ≡ Some us
    → slice_get (values_of t) (n % t.count + k) ≡ Some x → slice_get (vectors (ts ++ t ∷ [])) (n + k) ≡ Some (with_last us x)
row_there ts t n k x [] e f = absurd (some_value ts t n e)
row_there [] t n k x (y ∷ u) e f =
    let p = pair_at (values_of t) ([] ∷ []) n y u e in
    let only = only_vector p.inner u p.vector in
    let turn = (found_at t p.outer y p.value).turn in
    let here : n ≡ p.outer = (let place = p.place in let none = only.0 in omega (arith, place, none)) in
    let lt : n < t.count = omega (arith, here, turn) in
    let value : slice_get (values_of t) (n + k) ≡ Some x = ap (λ m. slice_get (values_of t) (m + k)) (sym (mod-eq_of_lt lt)) ∙ f in
    let there : n + k ≡ (n + k) * product [] + 0 = omega arith in
    ap (slice_get (vectors (t ∷ []))) there ∙ number_law t [] (n + k) 0 x [] value refl ∙ ap (λ v. Some (with_last (y ∷ v) x)) (sym only.1)
row_there (s ∷ ts) t n k x (y ∷ u) e f =
    let rest : List Turns = ts ++ t ∷ [] in
    let p = pair_at (values_of s) (vectors rest) n y u e in
    let whole : n ≡ p.outer * product rest + p.inner = p.place ∙ ap (λ m. p.outer * m + p.inner) (length-vectors rest) in
    let parted : n ≡ p.outer * product ts * t.count + p.inner = whole ∙ ap (λ m. m + p.inner) (ap (λ m. p.outer * m) (product_last ts t) ∙ sym (mul_assoc p.outer (product ts) t.count)) in
    let turn : n % t.count ≡ p.inner % t.count = ap (λ m. m % t.count) parted ∙ mul-add-mod_self_right (p.outer * product ts) t.count p.inner in
    let inner = row_there ts t p.inner k x u p.vector (ap (λ m. slice_get (values_of t) (m + k)) (sym turn) ∙ f) in
    let there : n + k ≡ p.outer * product rest + (p.inner + k) = omega (arith, whole) in
    ap (slice_get (vectors (s ∷ rest))) there ∙ number_law s rest p.outer (p.inner + k) y (with_last u x) p.value inner
    ∙ ap Some (sym (last_on y u x (λ none. some_value ts t p.inner (p.vector ∙ ap Some none))))

-- ---- its values, modulo 2^64

grown : (d : Direction) (first by m k : ℕ) → 1 ≤ by → by ≤ 2 ^ 64 → first < 2 ^ 64 → LastFits d first (by * (m + k))
    → moved d first (by * (m + k)) ≡ (moved d first (by * m) + k * growth d by) % 2 ^ 64
grown Rising first by m k some most small fits =
    let sum = mul-add by m k in
    let turned = mul_comm k by in
    omega (arith, sum, turned, fits)
grown Falling first by m k some most small fits =
    let sum = mul-add by m k in
    let turned = mul_comm k by in
    let both : k * (2 ^ 64 - by) + k * by ≡ k * 2 ^ 64 = sym (mul-add k (2 ^ 64 - by) by) ∙ ap (λ n. k * n) (let all : 2 ^ 64 - by + by ≡ 2 ^ 64 = omega arith in all) in
    omega (arith, sum, turned, fits, both)

pub value_grown : (t : Turns) (turn k first by : ℕ) → IsTurns t → t.stride.by ≤ 2 ^ 64 → t.first < 2 ^ 64 → turn + k < t.count
    → first ≡ moved t.stride.direction t.first (t.stride.by * turn) → by ≡ growth t.stride.direction t.stride.by
    → slice_get (values_of t) (turn + k) ≡ Some ((first + k * by) % 2 ^ 64)
value_grown t turn k first by is most small lt begins grows =
    value_there t.stride t.first t.count (turn + k) lt
    ∙ ap Some (grown t.stride.direction t.first t.stride.by turn k is.steps most small (fits_before t (turn + k) is lt)
    ∙ ap (λ n. (n + k * growth t.stride.direction t.stride.by) % 2 ^ 64) (sym begins)
    ∙ ap (λ n. (first + k * n) % 2 ^ 64) (sym grows))

-- ---- a row

-- where there is a vector the innermost loop turns
pub turns_some : (ls ts : List Turns) (t : Turns) (n : ℕ) → ls ≡ ts ++ t ∷ [] → n < product ls → 0 < t.count
turns_some ls ts t n is lt = factor (product ts) t.count (subst (λ m. n < m) (ap product is ∙ product_last ts t) lt)
  where
    factor : (a b : ℕ) → n < a * b → 0 < b
    factor a zero h = let none : a * 0 ≡ 0 = omega arith in absurd (omega (arith, none, h))
    factor a (suc b) h = omega arith

pub inside_is : (ls ts : List Turns) (t : Turns) → ls ≡ ts ++ t ∷ [] → turns_inside ls ≡ t.count
inside_is ls ts t is = ap turns_inside is ∙ turns_inside_last ts t

pub row_is : (ls ts : List Turns) (t : Turns) (n turn first by count : ℕ) → ls ≡ ts ++ t ∷ [] → turn ≡ n % t.count
    → ((k : ℕ) → k < count → slice_get (values_of t) (turn + k) ≡ Some ((first + k * by) % 2 ^ 64)) → IsRow (vectors ls) n first by count
row_is ls ts t n turn first by count is at values us e k lt =
    ap (λ l. slice_get (vectors l) (n + k)) is
    ∙ row_there ts t n k ((first + k * by) % 2 ^ 64) us (ap (λ l. slice_get (vectors l) n) (sym is) ∙ e)
    (ap (λ m. slice_get (values_of t) (m + k)) (sym at) ∙ values k lt)
