-- Levels of a nest's iterations: what conflicts with one that stands earlier has a higher level.
use Rattle.std.specs.Prelude.{ℕ, zero, suc, true, ◌≡◌, ◌≢◌, ◌&&◌, ◌||◌, ◌<◌, ◌≤◌, ◌+◌, ◌⊎◌, nat_eq, List, [], ◌∷◌, ◌++◌, length, Contains, slice_index_or}
use Rattle.std.specs.List.{AllPairs, AllByRecursion as Each, list_all}
use Rattle.std.proofs.Common.{refl, sym, ap, ◌∙◌, inl, inr, arith}
use Rattle.std.proofs.lemmas.Bool.{eq-eqb, or_right, cases_lt}
use Rattle.std.proofs.lemmas.List.{append_assoc, length-append, get_or-append-add}
use lib.Pointwise.{pointwise}
use Rattle.semantics.specs.Tree.{Stmt}
use Rattle.semantics.specs.Meaning.State.{State}
use Rattle.semantics.specs.Loops.Nest.{Loop, Vector}
use Rattle.semantics.specs.Loops.Access.{Conflict}
use Rattle.semantics.specs.Loops.Order.{Distance, is_ahead, among, Before, sink, through, Respects, level, wave_count}
use Rattle.semantics.proofs.Levels.{levels_above, one_wave_each}

-- ---- levels

-- what comes before another has a lower level
pub level_less : (space : List Vector) (ds : List Distance) → list_all is_ahead ds ≡ true → {u v : Vector} → Before space ds u v → level space ds u < level space ds v
level_less space ds ahead (sink {u = u} {v = v} s) = levels_above space ds u v ahead s
level_less space ds ahead (through {u = u} {v = v} {w = w} h k) =
    let a = level_less space ds ahead h in
    let b = level_less space ds ahead k in
    omega (arith, a, b)

same_found : (u : Vector) → pointwise nat_eq u u ≡ true
same_found [] = refl
same_found (x ∷ xs) = λ i. eq-eqb x x refl i && same_found xs i

pub weaker : (P Q : Vector → Type 0) (us : List Vector) → ((u : Vector) → P u → Q u) → Each P us → Each Q us
weaker P Q [] h k = tt
weaker P Q (u ∷ us) h k = (h u k.0, weaker P Q us h k.1)

all_among : (us : List Vector) → Each (λ u. among us u ≡ true) us
all_among [] = tt
all_among (u ∷ us) = (
  ap (λ b. b || among us u) (same_found u),
  weaker (λ v. among us v ≡ true) (λ v. among (u ∷ us) v ≡ true) us (λ v h. or_right (pointwise nat_eq v u) (among us v) h) (all_among us),
)

-- each level is one of those that are counted
pub levels_below : (us : List Vector) (ds : List Distance) → Each (λ u. level us ds u < wave_count us ds) us
levels_below us ds = weaker (λ u. among us u ≡ true) (λ u. level us ds u < wave_count us ds) us (λ u h. (one_wave_each us ds u h).0) (all_among us)

-- ---- the order of the nest

-- an iteration stands at one place
one_place : (us : List Vector) → AllPairs (λ u v. u ≢ v) us → (i j : ℕ) (d : Vector) → i < length us → j < length us → slice_index_or us i d ≡ slice_index_or us j d → i ≡ j
one_place us different i j d a b e = at (cases_lt i j) (cases_lt j i)
  where
    at : (i < j) ⊎ (j ≤ i) → (j < i) ⊎ (i ≤ j) → i ≡ j
    at (inl lt) q = absurd (different i j d lt b e)
    at (inr le) (inl lt) = absurd (different j i d lt a (sym e))
    at (inr le) (inr ge) = omega (arith, le, ge)

-- none comes before one that stands earlier
pub none_before : (us : List Vector) (ds : List Distance) → AllPairs (λ u v. u ≢ v) us → Respects us ds us → AllPairs (λ u v. Before us ds v u → ⊥) us
none_before us ds different respects i j d lt below h =
    let r = respects (slice_index_or us j d) (slice_index_or us i d) h in
    let front = r.0 in
    let middle = r.1 in
    let back = r.2 in
    let v = slice_index_or us j d in
    let u = slice_index_or us i d in
    let once : us ≡ front ++ (v ∷ (middle ++ u ∷ back)) = r.3 in
    let again : us ≡ (front ++ (v ∷ middle)) ++ (u ∷ back) = once ∙ sym (append_assoc front (v ∷ middle) (u ∷ back)) in
    let p = length front + 0 in
    let q = length (front ++ (v ∷ middle)) + 0 in
    let long : length us ≡ length (front ++ (v ∷ middle)) + length (u ∷ back) = ap (λ zs. length zs) again ∙ length-append (front ++ (v ∷ middle)) (u ∷ back) in
    let part : length (front ++ (v ∷ middle)) ≡ length front + length (v ∷ middle) = length-append front (v ∷ middle) in
    let at_p : slice_index_or us p d ≡ v = ap (λ zs. slice_index_or zs p d) once ∙ get_or-append-add front (v ∷ (middle ++ u ∷ back)) 0 d in
    let at_q : slice_index_or us q d ≡ u = ap (λ zs. slice_index_or zs q d) again ∙ get_or-append-add (front ++ (v ∷ middle)) (u ∷ back) 0 d in
    let p_is : p ≡ j = one_place us different p j d (omega (arith, long, part)) below at_p in
    let q_is : q ≡ i = one_place us different q i d (omega (arith, long)) (omega (arith, lt, below)) at_q in
    omega (arith, lt, p_is, q_is, part)

-- ---- iterations that do not conflict

module _ (f : Vector → ℕ) (R : Vector → Vector → Type 0) where
  -- of two, the one that stands earlier with no lower number is so with the other
  abbrev pub Settled : Vector → Vector → Type 0
  Settled u v = f v ≤ f u → R u v

  abbrev pub AllSettled : List Vector → Type 0
  AllSettled [] = Unit {0}
  AllSettled (u ∷ us) = Each (Settled u) us × AllSettled us

  each_index : (P : Vector → Type 0) (xs : List Vector) → ((i : ℕ) (d : Vector) → i < length xs → P (slice_index_or xs i d)) → Each P xs
  each_index P [] h = tt
  each_index P (x ∷ xs) h = (h 0 x (omega arith), each_index P xs (λ i d lt. h (suc i) d (omega (arith, lt))))

  pub all_settled : (us : List Vector) → AllPairs Settled us → AllSettled us
  all_settled [] h = tt
  all_settled (u ∷ us) h = (
    each_index (Settled u) us (λ i d lt. h 0 (suc i) d (omega arith) (omega (arith, lt))),
    all_settled us (λ i j d lt below. h (suc i) (suc j) d (omega (arith, lt)) (omega (arith, below))),
  )

module _ (us : List Vector) (ds : List Distance) (loops : List Loop) (body : Stmt) (outer : State) (ahead : list_all is_ahead ds ≡ true) (different : AllPairs (λ u v. u ≢ v) us) (respects : Respects us ds us)
    (covered : (u v : Vector) → Contains us u → Contains us v → Conflict loops body outer u v → Before us ds u v ⊎ Before us ds v u) where
  there : (i : ℕ) (d : Vector) → i < length us → Contains us (slice_index_or us i d)
  there i d lt = (i, lt, other i us lt (slice_index_or us i d))
    where
      other : (i : ℕ) (xs : List Vector) → i < length xs → (z : Vector) → slice_index_or xs i z ≡ slice_index_or xs i d
      other i [] lt z = absurd (omega (arith, lt))
      other zero (x ∷ xs) lt z = refl
      other (suc i) (x ∷ xs) lt z = other i xs (omega (arith, lt)) z

  -- an iteration does not conflict with a later one of no higher level
  pub no_conflict : AllPairs (λ u v. (u ≢ v) × (level us ds v ≤ level us ds u → Conflict loops body outer u v → ⊥)) us
  no_conflict i j d lt below = (different i j d lt below, λ le c. never le (covered (slice_index_or us i d) (slice_index_or us j d) (there i d (omega (arith, lt, below))) (there j d below) c))
    where
      never : level us ds (slice_index_or us j d) ≤ level us ds (slice_index_or us i d)
          → Before us ds (slice_index_or us i d) (slice_index_or us j d) ⊎ Before us ds (slice_index_or us j d) (slice_index_or us i d) → ⊥
      never le (inl h) = let less = level_less us ds ahead h in omega (arith, le, less)
      never le (inr h) = none_before us ds different respects i j d lt below h
