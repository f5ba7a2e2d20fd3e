-- Which vector stands at a number.
use Rattle.std.specs.Prelude.{ℕ, zero, suc, ◌≡◌, ◌+◌, ◌*◌, ◌/◌, ◌%◌, ◌<◌, List, [], ◌∷◌, ◌++◌, map, flat_map, length, get_or, drop, ◌⊎◌, Option, Some, None, slice_get, option_map}
use Rattle.std.proofs.Common.{refl, sym, inl, inr, ap, ◌∙◌, subst, arith}
use Rattle.std.proofs.Math.Nat.{suc-mul, div-div-eq-div-mul, mul_comm, mul-lt-mul_of_pos_left}
use Rattle.std.proofs.Math.Arith.{mod-mul}
use Rattle.std.proofs.lemmas.Nat.{div_below, mod_below, div-add-mod'}
use Rattle.std.proofs.lemmas.List.{length-map, length-append}
use Rattle.std.proofs.lemmas.List.Concat.{flat_map-cons}
use Rattle.std.proofs.lemmas.Option.{slice_get-map, slice_get-get_or, slice_get_within, same_Some, none-some}
use Rattle.semantics.specs.Loops.Nest.{Vector}
use Rattle.nest_space.specs.Space.{Turns, values_of, vectors, product}
use Rattle.nest_space.specs.Numbers.{EachTurns}
use Rattle.nest_space.proofs.Counted.{length-counted}

-- every value before every vector
abbrev pub pairs : List ℕ → List Vector → List Vector
pairs vs us = flat_map (λ v. map (λ u. v ∷ u) us) vs

length-pairs : (vs : List ℕ) (us : List Vector) → length (pairs vs us) ≡ length vs * length us
length-pairs [] us = omega arith
length-pairs (v ∷ vs) us =
    ap length (flat_map-cons (λ v. map (λ u. v ∷ u) us) v vs)
    ∙ length-append (map (λ u. v ∷ u) us) (pairs vs us)
    ∙ ap (λ n. n + length (pairs vs us)) (length-map us (λ u. v ∷ u))
    ∙ ap (λ n. length us + n) (length-pairs vs us)
    ∙ sym (suc-mul (length vs) (length us) ∙ omega arith)

pub length-vectors : (ts : List Turns) → length (vectors ts) ≡ product ts
length-vectors [] = refl
length-vectors (t ∷ ts) =
    length-pairs (values_of t) (vectors ts)
    ∙ ap (λ n. n * length (vectors ts)) (length-counted t.stride t.first t.count)
    ∙ ap (λ n. t.count * n) (length-vectors ts)

-- an element of the first list, or of the second
front : {A : Type 0} (xs ys : List A) (k : ℕ) (x : A) → slice_get xs k ≡ Some x → slice_get (xs ++ ys) k ≡ Some x
front [] ys k x e = absurd (none-some x e)
front (y ∷ xs) ys zero x e = e
front (y ∷ xs) ys (suc k) x e = front xs ys k x e

further : {A : Type 0} (xs ys : List A) (k : ℕ) → slice_get (xs ++ ys) (length xs + k) ≡ slice_get ys k
further [] ys k = ap (slice_get ys) (let none : 0 + k ≡ k = omega arith in none)
further (x ∷ xs) ys k = ap (slice_get (x ∷ xs ++ ys)) (let more : suc (length xs) + k ≡ suc (length xs + k) = omega arith in more) ∙ further xs ys k

pairs_at : (vs : List ℕ) (us : List Vector) (q r v : ℕ) (u : Vector) → slice_get vs q ≡ Some v → slice_get us r ≡ Some u → slice_get (pairs vs us) (q * length us + r) ≡ Some (v ∷ u)
pairs_at [] us q r v u e f = absurd (none-some v e)
pairs_at (w ∷ vs) us zero r v u e f =
    let none : 0 * length us + r ≡ r = omega arith in
    ap (slice_get (pairs (w ∷ vs) us)) none
    ∙ ap (λ l. slice_get l r) (flat_map-cons (λ v. map (λ u. v ∷ u) us) w vs)
    ∙ front (map (λ u. w ∷ u) us) (pairs vs us) r (v ∷ u)
    (slice_get-map (λ u. w ∷ u) us r ∙ ap (option_map (λ u. w ∷ u)) f ∙ ap (λ w. Some (w ∷ u)) (same_Some w v e))
pairs_at (w ∷ vs) us (suc q) r v u e f =
    let place : suc q * length us + r ≡ length us + (q * length us + r) = omega (arith, suc-mul q (length us)) in
    ap (slice_get (pairs (w ∷ vs) us)) (place ∙ ap (λ n. n + (q * length us + r)) (sym (length-map us (λ u. w ∷ u))))
    ∙ ap (λ l. slice_get l (length (map (λ u. w ∷ u) us) + (q * length us + r))) (flat_map-cons (λ v. map (λ u. v ∷ u) us) w vs)
    ∙ further (map (λ u. w ∷ u) us) (pairs vs us) (q * length us + r)
    ∙ pairs_at vs us q r v u e f

above : (a b : ℕ) → 0 < a → 0 < b → 0 < a * b
above a b p q = let more = mul-lt-mul_of_pos_left q p in omega (arith, more)

pub product_above : (ts : List Turns) → EachTurns ts → 0 < product ts
product_above [] h = omega arith
product_above (t ∷ ts) h = above t.count (product ts) h.0 (product_above ts h.1)

-- each loop turns where there is a vector
pub each_turns : (ts : List Turns) → 0 < product ts → EachTurns ts
each_turns [] h = tt
each_turns (t ∷ ts) h = (factor t.count (product ts) h, each_turns ts (factor (product ts) t.count (subst (λ n. 0 < n) (mul_comm t.count (product ts)) h)))
  where
    factor : (a b : ℕ) → 0 < a * b → 0 < a
    factor zero b h = absurd (omega (arith, h))
    factor (suc a) b h = omega arith

-- the vector at a number: the outer loop goes on once the others are through
pub vector_law : (t : Turns) (ts : List Turns) (n v : ℕ) (u : Vector) → EachTurns (t ∷ ts)
    → slice_get (values_of t) (n / product ts % t.count) ≡ Some v → slice_get (vectors ts) (n % product ts) ≡ Some u
    → slice_get (vectors (t ∷ ts)) (n % product (t ∷ ts)) ≡ Some (v ∷ u)
vector_law t ts n v u h e f =
    ap (slice_get (vectors (t ∷ ts))) (mod-mul n h.0 (product_above ts h.1) ∙ ap (λ m. n / product ts % t.count * m + n % product ts) (sym (length-vectors ts)))
    ∙ pairs_at (values_of t) (vectors ts) (n / product ts % t.count) (n % product ts) v u e f

-- and so many times it goes on
pub rest_law : (t : Turns) (ts : List Turns) (n : ℕ) → n / product ts / t.count ≡ n / product (t ∷ ts)
rest_law t ts n = div-div-eq-div-mul n (product ts) t.count ∙ ap (λ m. n / m) (mul_comm (product ts) t.count)

-- what stands among the pairs is a value before a vector
pub record IsPair (vs : List ℕ) (us : List Vector) (x : ℕ) (u : Vector) : Type 0 where
  pub outer : ℕ
  pub inner : ℕ
  pub value : slice_get vs outer ≡ Some x
  pub vector : slice_get us inner ≡ Some u

-- an element of two lists is one of the first or of the second
either_part : {A : Type 0} (xs ys : List A) (k : ℕ) (x : A) → slice_get (xs ++ ys) k ≡ Some x → (slice_get xs k ≡ Some x) ⊎ ((j : ℕ) × (slice_get ys j ≡ Some x))
either_part [] ys k x e = inr (k, e)
either_part (y ∷ xs) ys zero x e = inl e
either_part (y ∷ xs) ys (suc k) x e = either_part xs ys k x e

mapped_at : (v x : ℕ) (us : List Vector) (k : ℕ) (u : Vector) → slice_get (map (λ u. v ∷ u) us) k ≡ Some (x ∷ u) → (v ≡ x) × (slice_get us k ≡ Some u)
mapped_at v x us k u e = go (slice_get us k) refl (sym (slice_get-map (λ u. v ∷ u) us k) ∙ e)
  where
    go : (o : Option Vector) → slice_get us k ≡ o → option_map (λ u. v ∷ u) o ≡ Some (x ∷ u) → (v ≡ x) × (slice_get us k ≡ Some u)
    go None q f = absurd (none-some (x ∷ u) f)
    go (Some w) q f = let same = same_Some (v ∷ w) (x ∷ u) f in (ap (λ l. get_or l 0 0) same, q ∙ ap Some (ap (λ l. drop 1 l) same))

among : (v : ℕ) (vs : List ℕ) (us : List Vector) (k x : ℕ) (u : Vector) → ((j : ℕ) → slice_get (pairs vs us) j ≡ Some (x ∷ u) → IsPair vs us x u)
    → (slice_get (map (λ u. v ∷ u) us) k ≡ Some (x ∷ u)) ⊎ ((j : ℕ) × (slice_get (pairs vs us) j ≡ Some (x ∷ u))) → IsPair (v ∷ vs) us x u
among v vs us k x u rest (inl f) = let at = mapped_at v x us k u f in record { outer = 0; inner = k; value = ap Some at.0; vector = at.1 }
among v vs us k x u rest (inr (j, f)) = let p = rest j f in record { outer = suc p.outer; inner = p.inner; value = p.value; vector = p.vector }

pub pair_found : (vs : List ℕ) (us : List Vector) (k x : ℕ) (u : Vector) → slice_get (pairs vs us) k ≡ Some (x ∷ u) → IsPair vs us x u
pair_found [] us k x u e = absurd (none-some (x ∷ u) e)
pair_found (v ∷ vs) us k x u e =
    among v vs us k x u (λ j f. pair_found vs us j x u f)
    (either_part (map (λ u. v ∷ u) us) (pairs vs us) k (x ∷ u) (sym (ap (λ l. slice_get l k) (flat_map-cons (λ v. map (λ u. v ∷ u) us) v vs)) ∙ e))

-- no vector of loops is empty
mapped_never : (v : ℕ) (o : Option Vector) → option_map (λ u. v ∷ u) o ≡ Some [] → ⊥
mapped_never v None f = none-some [] f
mapped_never v (Some w) f = let same = ap length (same_Some (v ∷ w) [] f) in absurd (omega (arith, same))

neither : (v : ℕ) (vs : List ℕ) (us : List Vector) (k : ℕ) → ((j : ℕ) → slice_get (pairs vs us) j ≡ Some [] → ⊥)
    → (slice_get (map (λ u. v ∷ u) us) k ≡ Some []) ⊎ ((j : ℕ) × (slice_get (pairs vs us) j ≡ Some [])) → ⊥
neither v vs us k rest (inl f) = mapped_never v (slice_get us k) (sym (slice_get-map (λ u. v ∷ u) us k) ∙ f)
neither v vs us k rest (inr (j, f)) = rest j f

pub never_empty : (vs : List ℕ) (us : List Vector) (k : ℕ) → slice_get (pairs vs us) k ≡ Some [] → ⊥
never_empty [] us k e = absurd (none-some [] e)
never_empty (v ∷ vs) us k e =
    neither v vs us k (λ j f. never_empty vs us j f)
    (either_part (map (λ u. v ∷ u) us) (pairs vs us) k [] (sym (ap (λ l. slice_get l k) (flat_map-cons (λ v. map (λ u. v ∷ u) us) v vs)) ∙ e))

-- the number of a vector
pub number_law : (t : Turns) (ts : List Turns) (q r x : ℕ) (u : Vector) → slice_get (values_of t) q ≡ Some x → slice_get (vectors ts) r ≡ Some u
    → slice_get (vectors (t ∷ ts)) (q * product ts + r) ≡ Some (x ∷ u)
number_law t ts q r x u e f =
    ap (λ n. slice_get (vectors (t ∷ ts)) (q * n + r)) (sym (length-vectors ts)) ∙ pairs_at (values_of t) (vectors ts) q r x u e f

-- it is below the product
pub number_below : (t : Turns) (ts : List Turns) (q r x : ℕ) (u : Vector) → slice_get (values_of t) q ≡ Some x → slice_get (vectors ts) r ≡ Some u
    → q * product ts + r < product (t ∷ ts)
number_below t ts q r x u e f =
    let lt = slice_get_within (vectors (t ∷ ts)) (q * product ts + r) (x ∷ u) (number_law t ts q r x u e f) in
    subst (λ n. q * product ts + r < n) (length-vectors (t ∷ ts)) lt

-- and where it stands
pub record IsPairAt (vs : List ℕ) (us : List Vector) (k x : ℕ) (u : Vector) : Type 0 where
  pub outer : ℕ
  pub inner : ℕ
  pub value : slice_get vs outer ≡ Some x
  pub vector : slice_get us inner ≡ Some u
  pub place : k ≡ outer * length us + inner

pub pair_at : (vs : List ℕ) (us : List Vector) (k x : ℕ) (u : Vector) → slice_get (pairs vs us) k ≡ Some (x ∷ u) → IsPairAt vs us k x u
pair_at vs us k x u e =
    let below : k < length vs * length us = subst (λ n. k < n) (length-pairs vs us) (slice_get_within (pairs vs us) k (x ∷ u) e) in
    let some : 0 < length us = factor (length vs) (length us) k below in
    let value = slice_get-get_or vs (k / length us) 0 (div_below k (length us) (length vs) some below) in
    let vector = slice_get-get_or us (k % length us) [] (mod_below k (length us) some) in
    let same : get_or vs (k / length us) 0 ∷ get_or us (k % length us) [] ≡ x ∷ u =
    same_Some _ _ (sym (pairs_at vs us (k / length us) (k % length us) (get_or vs (k / length us) 0) (get_or us (k % length us) []) value vector)
    ∙ ap (slice_get (pairs vs us)) (div-add-mod' k (length us)) ∙ e) in
    record {
      outer = k / length us;
      inner = k % length us;
      value = value ∙ ap Some (ap (λ l. get_or l 0 0) same);
      vector = vector ∙ ap Some (ap (λ l. drop 1 l) same);
      place = sym (div-add-mod' k (length us));
    }
  where
    factor : (a b k : ℕ) → k < a * b → 0 < b
    factor a zero k lt = let none : a * 0 ≡ 0 = omega arith in absurd (omega (arith, none, lt))
    factor a (suc b) k lt = omega arith
