-- The vector of a number, and the one behind it.
use Rattle.std.specs.Prelude.{ℕ, zero, suc, ◌≡◌, ◌+◌, ◌*◌, ◌/◌, ◌%◌, ◌<◌, ◌≤◌, List, [], ◌∷◌, take, drop, set, length, get_or, Some, slice_get}
use Rattle.std.proofs.Common.{refl, sym, ap, ◌∙◌, subst, arith}
use Rattle.std.proofs.Math.Nat.{add-mul, div-one, mod-one, mod-eq_of_lt}
use Rattle.std.proofs.lemmas.List.{drop_all, drop_more, drop-set, take_more, take-set, length-set, same_from_push}
use Rattle.std.proofs.lemmas.Option.{none-some}
use Rattle.semantics.specs.Loops.Nest.{Vector}
use Rattle.nest_loop.specs.declared.stride.Direction.{Direction}
use Rattle.nest_loop.specs.declared.stride.Direction.TheVariants.{Rising, Falling}
use Rattle.nest_space.specs.Space.{Turns, moved, values_of, vectors, product}
use Rattle.nest_space.specs.Numbers.{EachTurns}
use Rattle.nest_space.proofs.Counted.{value_there}
use Rattle.nest_space.proofs.Places.{length-vectors, vector_law, rest_law, number_law, pair_at}

-- the inner loops' vector of a number, and how often they were through before
pub record IsPlaced (us : List Turns) (vs : Vector) (number outer : ℕ) : Type 0 where
  pub outer_is : outer ≡ number / product us
  pub vector : slice_get (vectors us) (number % product us) ≡ Some vs

pub turns_from : (ts : List Turns) (i : ℕ) → EachTurns ts → EachTurns (drop i ts)
turns_from ts zero h = h
turns_from [] (suc i) h = tt
turns_from (t ∷ ts) (suc i) h = turns_from ts i h.1

pub placed_none : (us : List Turns) (vs : Vector) (number : ℕ) → us ≡ [] → vs ≡ [] → IsPlaced us vs number number
placed_none [] [] number e f = record { outer_is = sym (div-one number); vector = ap (slice_get (vectors [])) (mod-one number) }
placed_none [] (v ∷ vs) number e f = absurd cc
placed_none (u ∷ us) vs number e f = absurd cc

pub placed_more : (us us' : List Turns) (vs vs' : Vector) (t : Turns) (x number outer : ℕ) → us' ≡ t ∷ us → vs' ≡ x ∷ vs → EachTurns us'
    → IsPlaced us vs number outer → slice_get (values_of t) (outer % t.count) ≡ Some x → IsPlaced us' vs' number (outer / t.count)
placed_more us us' vs vs' t x number outer e f h is there =
    subst (λ (us : List Turns). IsPlaced us vs' number (outer / t.count)) (sym e)
    (subst (λ (vs : Vector). IsPlaced (t ∷ us) vs number (outer / t.count)) (sym f) (record {
      outer_is = ap (λ n. n / t.count) is.outer_is ∙ rest_law t us number;
      vector = vector_law t us number x vs (subst EachTurns e h) (ap (λ n. slice_get (values_of t) (n % t.count)) (sym is.outer_is) ∙ there) is.vector;
    }))

pub placed_all : (ts : List Turns) (vs : Vector) (number outer i : ℕ) → number < product ts → i ≡ 0 → IsPlaced (drop i ts) (drop i vs) number outer → slice_get (vectors ts) number ≡ Some vs
placed_all ts vs number outer zero lt e is = ap (slice_get (vectors ts)) (sym (mod-eq_of_lt lt)) ∙ is.vector
placed_all ts vs number outer (suc i) lt e is = absurd (omega (arith, e))

-- a vector, and what the one behind it is
abbrev pub Follows : List Turns → Vector → Vector → Type 0
Follows ts us vs = (n : ℕ) → slice_get (vectors ts) n ≡ Some us → slice_get (vectors ts) (n + 1) ≡ Some vs

-- the last vector, and the first
pub record IsLast (ts : List Turns) (n : ℕ) (vs : Vector) : Type 0 where
  pub last : n + 1 ≡ product ts
  pub first : slice_get (vectors ts) 0 ≡ Some vs

abbrev pub IsThrough : List Turns → Vector → Vector → Type 0
IsThrough ts us vs = (n : ℕ) → slice_get (vectors ts) n ≡ Some us → IsLast ts n vs

pub through_none : (ts : List Turns) (us vs : Vector) → ts ≡ [] → us ≡ vs → IsThrough ts us vs
through_none [] us vs e f zero g = record { last = refl; first = g ∙ ap Some f }
through_none [] us vs e f (suc n) g = absurd (none-some us g)
through_none (t ∷ ts) us vs e f n g = absurd cc

-- a loop goes on where those inside it are through
goes_on : (t : Turns) (ts : List Turns) (x y : ℕ) (us vs : Vector) → ((k : ℕ) → slice_get (values_of t) k ≡ Some x → slice_get (values_of t) (k + 1) ≡ Some y)
    → IsThrough ts us vs → Follows (t ∷ ts) (x ∷ us) (y ∷ vs)
goes_on t ts x y us vs next inner n e =
    let p = pair_at (values_of t) (vectors ts) n x us e in
    let last = inner p.inner p.vector in
    let whole : n ≡ p.outer * product ts + p.inner = p.place ∙ ap (λ m. p.outer * m + p.inner) (length-vectors ts) in
    let more : (p.outer + 1) * product ts ≡ p.outer * product ts + 1 * product ts = add-mul p.outer 1 (product ts) in
    let end = last.last in
    let there : n + 1 ≡ (p.outer + 1) * product ts + 0 = omega (arith, whole, more, end) in
    ap (slice_get (vectors (t ∷ ts))) there ∙ number_law t ts (p.outer + 1) 0 y vs (next p.outer p.value) last.first

-- it is through with them at its last value
ends : (t : Turns) (ts : List Turns) (x : ℕ) (us vs : Vector) → ((k : ℕ) → slice_get (values_of t) k ≡ Some x → k + 1 ≡ t.count)
    → IsThrough ts us vs → IsThrough (t ∷ ts) (x ∷ us) (t.first ∷ vs)
ends t ts x us vs last inner n e =
    let p = pair_at (values_of t) (vectors ts) n x us e in
    let inside = inner p.inner p.vector in
    let turn = last p.outer p.value in
    let whole : n ≡ p.outer * product ts + p.inner = p.place ∙ ap (λ m. p.outer * m + p.inner) (length-vectors ts) in
    let more : (p.outer + 1) * product ts ≡ p.outer * product ts + 1 * product ts = add-mul p.outer 1 (product ts) in
    let end = inside.last in
    let all : (p.outer + 1) * product ts ≡ product (t ∷ ts) = ap (λ m. m * product ts) turn in
    let turns : 0 < t.count = omega (arith, turn) in
    record {
      last = omega (arith, whole, more, end, all);
      first = ap (slice_get (vectors (t ∷ ts))) (let none : 0 ≡ 0 * product ts + 0 = omega arith in none)
          ∙ number_law t ts 0 0 t.first vs (begins turns) inside.first;
    }
  where
    none_on : (d : Direction) (v by : ℕ) → moved d v (by * 0) ≡ v
    none_on Rising v by = let none : by * 0 ≡ 0 = omega arith in omega (arith, none)
    none_on Falling v by = let none : by * 0 ≡ 0 = omega arith in omega (arith, none)

    begins : 0 < t.count → slice_get (values_of t) 0 ≡ Some t.first
    begins lt = value_there t.stride t.first t.count 0 lt ∙ ap Some (none_on t.stride.direction t.first t.stride.by)

-- the loops outside stay where they are
same_outside : (t : Turns) (ts : List Turns) (x : ℕ) (us vs : Vector) → Follows ts us vs → Follows (t ∷ ts) (x ∷ us) (x ∷ vs)
same_outside t ts x us vs inner n e =
    let p = pair_at (values_of t) (vectors ts) n x us e in
    let whole : n ≡ p.outer * product ts + p.inner = p.place ∙ ap (λ m. p.outer * m + p.inner) (length-vectors ts) in
    let there : n + 1 ≡ p.outer * product ts + (p.inner + 1) = omega (arith, whole) in
    ap (slice_get (vectors (t ∷ ts))) there ∙ number_law t ts p.outer (p.inner + 1) x vs p.value (inner p.inner p.vector)

pub follows_inside : (ts : List Turns) (us vs : Vector) (i : ℕ) → length us ≡ length ts → length vs ≡ length ts → i ≤ length ts → take i us ≡ take i vs
    → Follows (drop i ts) (drop i us) (drop i vs) → Follows ts us vs
follows_inside ts us vs zero p q le same inner = inner
follows_inside [] us vs (suc i) p q le same inner = absurd (omega (arith, le))
follows_inside (t ∷ ts) [] vs (suc i) p q le same inner = absurd (omega (arith, p))
follows_inside (t ∷ ts) (x ∷ us) [] (suc i) p q le same inner = absurd (omega (arith, q))
follows_inside (t ∷ ts) (x ∷ us) (y ∷ vs) (suc i) p q le same inner =
    let rest = follows_inside ts us vs i (omega (arith, p)) (omega (arith, q)) (omega (arith, le)) (ap (λ l. drop 1 l) same) inner in
    subst (λ z. Follows (t ∷ ts) (x ∷ us) (z ∷ vs)) (ap (λ l. get_or l 0 0) same) (same_outside t ts x us vs rest)

-- so far the inner loops were through, and the outer ones are where they were
pub record AreThrough (ts : List Turns) (old new : Vector) (i : ℕ) : Type 0 where
  pub inner : IsThrough (drop i ts) (drop i old) (drop i new)
  pub outer : take i new ≡ take i old

pub first_through : (ts : List Turns) (old : Vector) → length old ≡ length ts → AreThrough ts old old (length ts)
first_through ts old same = record {
  inner = through_none (drop (length ts) ts) (drop (length ts) old) (drop (length ts) old) (drop_all (length ts) ts (omega arith)) refl;
  outer = refl;
}

-- the same heads of both lists, and the same values behind them
pub record IsOutside (i : ℕ) (old new : Vector) : Type 0 where
  pub outer : take i new ≡ take i old
  pub value : get_or new i 0 ≡ get_or old i 0

outside : (i : ℕ) (old new : Vector) → i < length old → i < length new → take (i + 1) new ≡ take (i + 1) old → IsOutside i old new
outside i old new lt lt' e =
    let p = same_from_push (take i new) (take i old) (get_or new i 0) (get_or old i 0) (sym (take_more new i 0 lt') ∙ e ∙ take_more old i 0 lt) in
    record { outer = p.0; value = p.1 }

module _ (ts : List Turns) (old new : Vector) (i y : ℕ) (t : Turns) (lt : i < length ts) (same : length old ≡ length ts) (same' : length new ≡ length ts)
    (is : drop i ts ≡ t ∷ drop (i + 1) ts) (through : AreThrough ts old new (i + 1)) where
  within : i < length old
  within = omega (arith, same, lt)

  within' : i < length new
  within' = omega (arith, same', lt)

  out : IsOutside i old new
  out = outside i old new within within' through.outer

  old_is : drop i old ≡ get_or new i 0 ∷ drop (i + 1) old
  old_is = drop_more old i 0 within ∙ ap (λ v. v ∷ drop (i + 1) old) (sym out.value)

  new_is : drop i (set new i y) ≡ y ∷ drop (i + 1) new
  new_is = drop-set new i y within'

  -- at a loop's last value
  pub more_through : y ≡ t.first → ((k : ℕ) → slice_get (values_of t) k ≡ Some (get_or new i 0) → k + 1 ≡ t.count) → AreThrough ts old (set new i y) i
  more_through first last = record {
    inner = subst (λ (us : List Turns). IsThrough us (drop i old) (drop i (set new i y))) (sym is)
        (subst (λ (us : Vector). IsThrough (t ∷ drop (i + 1) ts) us (drop i (set new i y))) (sym old_is)
        (subst (λ (vs : Vector). IsThrough (t ∷ drop (i + 1) ts) (get_or new i 0 ∷ drop (i + 1) old) vs) (sym (new_is ∙ ap (λ v. v ∷ drop (i + 1) new) first))
        (ends t (drop (i + 1) ts) (get_or new i 0) (drop (i + 1) old) (drop (i + 1) new) last through.inner)));
    outer = take-set new i y ∙ out.outer;
  }

  -- at another one
  pub stepped : ((k : ℕ) → slice_get (values_of t) k ≡ Some (get_or new i 0) → slice_get (values_of t) (k + 1) ≡ Some y) → Follows ts old (set new i y)
  stepped next =
      follows_inside ts old (set new i y) i same (length-set new i y ∙ same') (omega (arith, lt)) (sym (take-set new i y ∙ out.outer))
      (subst (λ (us : List Turns). Follows us (drop i old) (drop i (set new i y))) (sym is)
      (subst (λ (us : Vector). Follows (t ∷ drop (i + 1) ts) us (drop i (set new i y))) (sym old_is)
      (subst (λ (vs : Vector). Follows (t ∷ drop (i + 1) ts) (get_or new i 0 ∷ drop (i + 1) old) vs) (sym new_is)
      (goes_on t (drop (i + 1) ts) (get_or new i 0) y (drop (i + 1) old) (drop (i + 1) new) next through.inner))))

-- behind all loops there is no next vector
pub none_behind : (ts : List Turns) (old new : Vector) (i : ℕ) → i ≡ 0 → AreThrough ts old new i → (n : ℕ) → n + 1 < length (vectors ts) → slice_get (vectors ts) n ≡ Some old → ⊥
none_behind ts old new zero e are n lt is =
    let last = are.inner n is in
    let end = last.last in
    let size = length-vectors ts in
    omega (arith, lt, end, size)
none_behind ts old new (suc i) e are n lt is = absurd (omega (arith, e))
