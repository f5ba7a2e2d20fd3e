-- The iterations of a nest of rising loops lie in the order of the loops, and each sink has a smaller number.
use Rattle.std.specs.Prelude.{ℕ, zero, suc, Bool, true, false, ◌≡◌, ◌+◌, ◌<◌, ◌≤◌, ◌==◌, ◌&&◌, ◌||◌, nat_lt, nat_eq, List, [], ◌∷◌, ◌++◌, map, length, slice_get, Option, Some, None}
use Rattle.std.specs.List.{list_all, cons_option}
use Rattle.std.proofs.Common.{refl, sym, ap, ◌∙◌, subst, cond, arith}
use Rattle.std.proofs.lemmas.Bool.Decides.{nat_tests}
use Rattle.std.proofs.lemmas.Bool.{lt-ltb}
use Rattle.std.proofs.lemmas.List.Concat.{flat_map-cons}
use Rattle.std.proofs.lemmas.Option.{slice_get_within, same_Some, none-some}
use lib.Pointwise.{pointwise}
use Rattle.semantics.specs.Loops.Nest.{Vector}
use Rattle.semantics.specs.Loops.Order.{Distance, is_ahead, before_by, among, inside, sinks_of, one_above, level_by, level}
use Rattle.waves.proofs.Earlier.{earlier, sink_earlier, same_vector, in_turn, not_itself}
use Rattle.nest_loop.specs.declared.stride.Direction.TheVariants.{Rising}
use Rattle.nest_loop.specs.declared.stride.Stride.{Stride}
use Rattle.nest_space.specs.Space.{Turns, moved, counted, vectors}
use Rattle.nest_space.proofs.Places.{pairs}
use Rattle.nest_space.specs.Rises.{EachRises}

-- each vector of a list lies later
abbrev Later : Vector → List Vector → Type 0
Later u [] = Unit {0}
Later u (v ∷ vs) = (earlier u v ≡ true) × Later u vs

-- each vector lies later than those before it
abbrev pub Sorted : List Vector → Type 0
Sorted [] = Unit {0}
Sorted (u ∷ us) = Later u us × Sorted us

-- the head of each vector is at least this
abbrev FromHead : ℕ → List Vector → Type 0
FromHead v [] = Unit {0}
FromHead v ([] ∷ us) = ⊥
FromHead v ((x ∷ xs) ∷ us) = (v ≤ x) × FromHead v us

later_both : (u : Vector) (xs ys : List Vector) → Later u xs → Later u ys → Later u (xs ++ ys)
later_both u [] ys h k = k
later_both u (x ∷ xs) ys h k = (h.0, later_both u xs ys h.1 k)

later_map : (v : ℕ) (u : Vector) (us : List Vector) → Later u us → Later (v ∷ u) (map (λ u. v ∷ u) us)
later_map v u [] h = tt
later_map v u (w ∷ ws) h = (one (earlier u w) h.0, later_map v u ws h.1)
  where
    one : (b : Bool) → b ≡ true → (nat_lt v v || ((v == v) && b)) ≡ true
    one b e = grind (arith, nat_tests)

sorted_map : (v : ℕ) (us : List Vector) → Sorted us → Sorted (map (λ u. v ∷ u) us)
sorted_map v [] h = tt
sorted_map v (u ∷ us) h = (later_map v u us h.0, sorted_map v us h.1)

-- a greater head is later
later_head : (v w : ℕ) (u : Vector) (us : List Vector) → v < w → FromHead w us → Later (v ∷ u) us
later_head v w u [] lt h = tt
later_head v w u ([] ∷ us) lt h = absurd h
later_head v w u ((x ∷ xs) ∷ us) lt h =
    let le = h.0 in
    let less : v < x = omega arith in
    (ap (λ t. t || ((v == x) && earlier u xs)) (lt-ltb v x less), later_head v w u us lt h.1)

sorted_both : (v w : ℕ) (us ys : List Vector) → v < w → Sorted (map (λ u. v ∷ u) us) → Sorted ys → FromHead w ys → Sorted (map (λ u. v ∷ u) us ++ ys)
sorted_both v w [] ys lt h k from = k
sorted_both v w (u ∷ us) ys lt h k from =
    (later_both (v ∷ u) (map (λ u. v ∷ u) us) ys h.0 (later_head v w u ys lt from), sorted_both v w us ys lt h.1 k from)

from_both : (v : ℕ) (xs ys : List Vector) → FromHead v xs → FromHead v ys → FromHead v (xs ++ ys)
from_both v [] ys h k = k
from_both v ([] ∷ xs) ys h k = absurd h
from_both v ((x ∷ u) ∷ xs) ys h k = (h.0, from_both v xs ys h.1 k)

from_map : (w v : ℕ) (us : List Vector) → w ≤ v → FromHead w (map (λ u. v ∷ u) us)
from_map w v [] le = tt
from_map w v (u ∷ us) le = (le, from_map w v us le)

from_pairs : (s : Stride) (w v n : ℕ) (us : List Vector) → s.direction ≡ Rising → w ≤ v → FromHead w (pairs (counted s v n) us)
from_pairs s w v zero us rise le = tt
from_pairs s w v (suc n) us rise le =
    let next : moved s.direction v s.by ≡ v + s.by = ap (λ d. moved d v s.by) rise in
    subst (FromHead w) (sym (flat_map-cons (λ v. map (λ u. v ∷ u) us) v (counted s (moved s.direction v s.by) n)))
    (from_both w (map (λ u. v ∷ u) us) (pairs (counted s (moved s.direction v s.by) n) us) (from_map w v us le)
    (from_pairs s w (moved s.direction v s.by) n us rise (omega arith)))

sorted_pairs : (s : Stride) (v n : ℕ) (us : List Vector) → s.direction ≡ Rising → 1 ≤ s.by → Sorted us → Sorted (pairs (counted s v n) us)
sorted_pairs s v zero us rise step h = tt
sorted_pairs s v (suc n) us rise step h =
    let next : moved s.direction v s.by ≡ v + s.by = ap (λ d. moved d v s.by) rise in
    subst Sorted (sym (flat_map-cons (λ v. map (λ u. v ∷ u) us) v (counted s (moved s.direction v s.by) n)))
    (sorted_both v (moved s.direction v s.by) us (pairs (counted s (moved s.direction v s.by) n) us) (omega arith) (sorted_map v us h)
    (sorted_pairs s (moved s.direction v s.by) n us rise step h)
    (from_pairs s (moved s.direction v s.by) (moved s.direction v s.by) n us rise (omega arith)))

-- the iterations of rising loops are sorted
pub sorted_vectors : (ts : List Turns) → EachRises ts → Sorted (vectors ts)
sorted_vectors [] h = (tt, tt)
sorted_vectors (t ∷ ts) h = sorted_pairs t.stride t.first t.count (vectors ts) h.0 h.1 (sorted_vectors ts h.2)

later_at : (x : Vector) (us : List Vector) (j : ℕ) (w : Vector) → Later x us → slice_get us j ≡ Some w → earlier x w ≡ true
later_at x [] j w h e = absurd (none-some w e)
later_at x (u ∷ us) zero w h e = subst (λ (v : Vector). earlier x v ≡ true) (same_Some u w e) h.0
later_at x (u ∷ us) (suc j) w h e = later_at x us j w h.1 e

never : (u w : Vector) → earlier u w ≡ true → earlier w u ≡ true → ⊥
never u w h k = let a = in_turn u w u h k in let b = not_itself u in absurd cc

-- what lies earlier has a smaller number
pub in_order : (space : List Vector) (j k : ℕ) (w u : Vector) → Sorted space → slice_get space j ≡ Some w → slice_get space k ≡ Some u → earlier w u ≡ true → j < k
in_order [] j k w u s e f h = absurd (none-some w e)
in_order (x ∷ xs) zero zero w u s e f h =
    let same : w ≡ u = sym (same_Some x w e) ∙ same_Some x u f in
    absurd (never w w (subst (λ (v : Vector). earlier w v ≡ true) (sym same) h) (subst (λ (v : Vector). earlier w v ≡ true) (sym same) h))
in_order (x ∷ xs) zero (suc k) w u s e f h = omega arith
in_order (x ∷ xs) (suc j) zero w u s e f h =
    let same = same_Some x u f in
    absurd (never x w (later_at x xs j w s.0 e) (subst (λ (v : Vector). earlier w v ≡ true) (sym same) h))
in_order (x ∷ xs) (suc j) (suc k) w u s e f h =
    let lt = in_order xs j k w u s.1 e f h in omega arith

-- the number of a vector of the list
pub record IsFound (space : List Vector) (w : Vector) : Type 0 where
  pub number : ℕ
  pub is : slice_get space number ≡ Some w

pub found : (space : List Vector) (w : Vector) → among space w ≡ true → IsFound space w
found [] w e = absurd cc
found (v ∷ vs) w e = go (pointwise nat_eq w v) refl e (found vs w)
  where
    go : (b : Bool) → pointwise nat_eq w v ≡ b → (b || among vs w) ≡ true → (among vs w ≡ true → IsFound vs w) → IsFound (v ∷ vs) w
    go true s h rest = record { number = 0; is = ap Some (same_vector w v s) }
    go false s h rest = let f = rest h in record { number = suc f.number; is = f.is }

-- a sink of the iteration at a number stands at a smaller one
pub record IsSunk (space : List Vector) (k : ℕ) (w : Vector) : Type 0 where
  pub number : ℕ
  pub less : number < k
  pub is : slice_get space number ≡ Some w

pub sunk_at : (space : List Vector) (k j : ℕ) (u w : Vector) (d : Distance) → Sorted space → is_ahead d ≡ true → slice_get space k ≡ Some u → before_by u d ≡ Some w
    → slice_get space j ≡ Some w → j < k
sunk_at space k j u w d s ahead at e f = in_order space j k w u s f at (sink_earlier u d w ahead e)

inside_sunk : (space : List Vector) (k : ℕ) (u : Vector) (d : Distance) (o : Option Vector) → Sorted space → is_ahead d ≡ true → slice_get space k ≡ Some u → before_by u d ≡ o
    → (v : Vector) → inside space o ≡ Some v → IsSunk space k v
inside_sunk space k u d None s ahead at e v q = absurd (none-some v q)
inside_sunk space k u d (Some w) s ahead at e v q = go (among space w) refl q
  where
    go : (b : Bool) → among space w ≡ b → (let o : Option Vector = cond b (Some w) None in o) ≡ Some v → IsSunk space k v
    go true h r =
        let f = found space w h in
        subst (IsSunk space k) (same_Some w v r) (record { number = f.number; less = sunk_at space k f.number u w d s ahead at e f.is; is = f.is })
    go false h r = absurd (none-some v r)

first_of : (a b : Bool) → (a && b) ≡ true → a ≡ true
first_of true b e = refl
first_of false b e = absurd cc

second_of : (a b : Bool) → (a && b) ≡ true → b ≡ true
second_of true b e = e
second_of false b e = absurd cc

-- what two functions do alike on an iteration's sinks
module _ (space : List Vector) (k : ℕ) (u : Vector) (s : Sorted space) (at : slice_get space k ≡ Some u) (f g : Vector → ℕ) (same : (v : Vector) → IsSunk space k v → f v ≡ g v) where
  alike_one : (o : Option Vector) (vs : List Vector) → ((v : Vector) → o ≡ Some v → IsSunk space k v) → map f vs ≡ map g vs → map f (cons_option o vs) ≡ map g (cons_option o vs)
  alike_one None vs sunk rest = rest
  alike_one (Some v) vs sunk rest = let h = same v (sunk v refl) in cc

  alike : (ds : List Distance) → list_all is_ahead ds ≡ true → map f (sinks_of space ds u) ≡ map g (sinks_of space ds u)
  alike [] ahead = refl
  alike (d ∷ ds) ahead =
      alike_one (inside space (before_by u d)) (sinks_of space ds u)
      (inside_sunk space k u d (before_by u d) s (first_of (is_ahead d) (list_all is_ahead ds) ahead) at refl)
      (alike ds (second_of (is_ahead d) (list_all is_ahead ds) ahead))

-- levels with more steps down than the number are all the same
enough : (space : List Vector) (ds : List Distance) → Sorted space → list_all is_ahead ds ≡ true → (n m k : ℕ) (u : Vector) → slice_get space k ≡ Some u → k < n → k < m
    → level_by n space ds u ≡ level_by m space ds u
enough space ds s ahead zero m k u at p q = absurd (omega arith)
enough space ds s ahead (suc n) zero k u at p q = absurd (omega arith)
enough space ds s ahead (suc n) (suc m) k u at p q =
    ap one_above
    (alike space k u s at (level_by n space ds) (level_by m space ds)
    (λ v h. let less = h.less in enough space ds s ahead n m h.number v h.is (omega arith) (omega arith)) ds ahead)

-- an iteration's level by those of its sinks
pub level_step : (space : List Vector) (ds : List Distance) (k : ℕ) (u : Vector) → Sorted space → list_all is_ahead ds ≡ true → slice_get space k ≡ Some u
    → level space ds u ≡ one_above (map (level space ds) (sinks_of space ds u))
level_step space ds k u s ahead at = go (length space) refl (slice_get_within space k u at)
  where
    go : (n : ℕ) → length space ≡ n → k < length space → level_by (length space) space ds u ≡ one_above (map (level_by (length space) space ds) (sinks_of space ds u))
    go zero e lt = absurd (omega arith)
    go (suc n) e lt =
        ap (λ m. level_by m space ds u) e
        ∙ ap one_above
        (alike space k u s at (level_by n space ds) (level_by (length space) space ds)
        (λ v h. let less = h.less in enough space ds s ahead n (length space) h.number v h.is (omega arith) (omega arith)) ds ahead)
