-- Iterations of rising loops rise.
use Rattle.std.specs.Prelude.{ℕ, suc, true, ◌≡◌, ◌<◌, ◌==◌, ◌&&◌, ◌||◌, nat_lt, List, [], ◌∷◌, ◌++◌, length, map, Option, Some, None, Contains, slice_index_or, option_and_then}
use Rattle.std.specs.List.{AllPairs, AllByRecursion as Each}
use Rattle.std.proofs.Common.{refl, sym, ap, subst, arith}
use Rattle.std.proofs.lemmas.Bool.{eq-eqb, lt-ltb, or_right}
use Rattle.std.proofs.lemmas.List.Elements.{All-from_recursion}
use Rattle.std.proofs.lemmas.List.Kept.{AllPairs-cons}
use Rattle.std.proofs.lemmas.Option.{same_Some, none-some}
use Rattle.semantics.specs.Meaning.State.{State}
use Rattle.semantics.specs.Meaning.Value.{map_option}
use Rattle.semantics.specs.Loops.Nest.{Loop, Vector, at_value, loop_values, concat_options, iterations}
use Rattle.law_commute.proofs.Lists.{each_join}
use Rattle.law_commute.proofs.Paths.{both_there}
use Rattle.law_waves.specs.Rising.{is_earlier, TheyRise, RisingLoopsRise}

-- each pair of a list, by recursion
abbrev pub Pairs : {A : Type 0} → (A → A → Type 0) → List A → Type 0
Pairs R [] = Unit {0}
Pairs R (x ∷ xs) = Each (R x) xs × Pairs R xs

pub all_pairs : {A : Type 0} (R : A → A → Type 0) (xs : List A) → Pairs R xs → AllPairs R xs
all_pairs R [] h = λ i j d lt below. absurd (omega (arith, below))
all_pairs R (x ∷ xs) h = AllPairs-cons R x xs (All-from_recursion (R x) xs h.0) (all_pairs R xs h.1)

each_index : {A : Type 0} (P : A → Type 0) (xs : List A) → ((i : ℕ) (d : A) → i < length xs → P (slice_index_or xs i d)) → Each P xs
each_index P [] h = tt
each_index P (x ∷ xs) h = (h 0 x (omega arith), each_index P xs (λ i d lt. h (suc i) d (omega (arith, lt))))

pub pairs_of : {A : Type 0} (R : A → A → Type 0) (xs : List A) → AllPairs R xs → Pairs R xs
pairs_of R [] h = tt
pairs_of R (x ∷ xs) h = (
  each_index (R x) xs (λ i d lt. h 0 (suc i) d (omega arith) (omega (arith, lt))),
  pairs_of R xs (λ i j d lt below. h (suc i) (suc j) d (omega (arith, lt)) (omega (arith, below))),
)

pairs_join : {A : Type 0} (R : A → A → Type 0) (xs ys : List A) → Pairs R xs → Pairs R ys → Each (λ x. Each (R x) ys) xs → Pairs R (xs ++ ys)
pairs_join R [] ys h k far = k
pairs_join R (x ∷ xs) ys h k far = (each_join (R x) xs ys h.0 far.0, pairs_join R xs ys h.1 k far.1)

-- ---- vectors behind one value

abbrev Before : Vector → Vector → Type 0
Before u v = is_earlier u v ≡ true

same_first : (v : ℕ) (a b : Vector) → Before a b → Before (v ∷ a) (v ∷ b)
same_first v a b h = or_right (nat_lt v v) ((v == v) && is_earlier a b) (λ i. eq-eqb v v refl i && h i)

less_first : (v w : ℕ) (a b : Vector) → v < w → Before (v ∷ a) (w ∷ b)
less_first v w a b h = ap (λ c. c || ((v == w) && is_earlier a b)) (lt-ltb v w h)

all_behind : (v : ℕ) (a : Vector) (us : List Vector) → Each (Before a) us → Each (Before (v ∷ a)) (map (λ us. v ∷ us) us)
all_behind v a [] h = tt
all_behind v a (u ∷ us) h = (same_first v a u h.0, all_behind v a us h.1)

behind : (v : ℕ) (us : List Vector) → Pairs Before us → Pairs Before (map (λ us. v ∷ us) us)
behind v [] h = tt
behind v (u ∷ us) h = (all_behind v u us h.0, behind v us h.1)

weaker : (P Q : Vector → Type 0) (us : List Vector) → ((u : Vector) → P u → Q u) → Each P us → Each Q us
weaker P Q [] h k = tt
weaker P Q (u ∷ us) h k = (h u k.0, weaker P Q us h k.1)

-- above all numbers that are below each of these
abbrev Above : List ℕ → Vector → Type 0
Above ws u = (v : ℕ) × (rest : Vector) × (u ≡ v ∷ rest) × ((n : ℕ) → Each (λ z. n < z) ws → n < v)

module _ (l : Loop) (ls : List Loop) (s : State) where
  abbrev of : ℕ → Option (List Vector)
  of v = map_option (map (λ us. v ∷ us)) (iterations ls (at_value s l.variable v))

  -- what the turns at these values come to
  record Parted (vs : List ℕ) (us : List Vector) : Type 0 where
    pairs : Pairs Before us
    above : Each (Above vs) us

  one : (v : ℕ) (o : Option (List Vector)) (us : List Vector) → ((zs : List Vector) → o ≡ Some zs → Pairs Before zs) → map_option (map (λ us. v ∷ us)) o ≡ Some us → (zs : List Vector) × (us ≡ map (λ us. v ∷ us) zs) × Pairs Before zs
  one v None us h e = absurd (none-some us e)
  one v (Some zs) us h e = (zs, sym (same_Some (map (λ us. v ∷ us) zs) us e), h zs refl)

  across : (v : ℕ) (vs : List ℕ) (us : List Vector) → Each (λ w. v < w) vs → Each (Above vs) us → (a : Vector) → Each (Before (v ∷ a)) us
  across v vs [] less h a = tt
  across v vs (u ∷ us) less h a = (subst (Before (v ∷ a)) (sym h.0.2) (less_first v h.0.0 a h.0.1 (h.0.3 v less)), across v vs us less h.1 a)

  all_across : (v : ℕ) (vs : List ℕ) (zs us : List Vector) → Each (λ w. v < w) vs → Each (Above vs) us → Each (λ x. Each (Before x) us) (map (λ us. v ∷ us) zs)
  all_across v vs [] us less h = tt
  all_across v vs (z ∷ zs) us less h = (across v vs us less h z, all_across v vs zs us less h)

  here_above : (v : ℕ) (vs : List ℕ) (zs : List Vector) → Each (Above (v ∷ vs)) (map (λ us. v ∷ us) zs)
  here_above v vs [] = tt
  here_above v vs (z ∷ zs) = ((v, z, refl, λ n h. h.0), here_above v vs zs)

  parted : (vs : List ℕ) (us : List Vector) → Pairs (λ v w. v < w) vs → Each (λ v. (zs : List Vector) → iterations ls (at_value s l.variable v) ≡ Some zs → Pairs Before zs) vs → concat_options (map of vs) ≡ Some us → Parted vs us
  parted [] us rise inner e = subst (Parted []) (same_Some [] us e) (record { pairs = tt; above = tt })
  parted (v ∷ vs) us rise inner e =
      let p = both_there (λ a b. a ++ b) (of v) (concat_options (map of vs)) us e in
      let first = one v (iterations ls (at_value s l.variable v)) p.left inner.0 p.first in
      let rest = parted vs p.right rise.1 inner.1 p.second in
      subst (Parted (v ∷ vs)) p.is
      (subst (λ (zs : List Vector). Parted (v ∷ vs) (zs ++ p.right)) (sym first.1)
      (record {
        pairs = pairs_join Before (map (λ us. v ∷ us) first.0) p.right (behind v first.0 first.2) rest.pairs (all_across v vs first.0 p.right rise.0 rest.above);
        above = each_join (Above (v ∷ vs)) (map (λ us. v ∷ us) first.0) p.right (here_above v vs first.0) (weaker (Above vs) (Above (v ∷ vs)) p.right (λ u h. (h.0, h.1, h.2, λ n k. h.3 n k.1)) rest.above);
      }))

contains_first : (x : ℕ) (xs : List ℕ) → Contains (x ∷ xs) x
contains_first x xs = (0, omega arith, refl)

contains_later : (x y : ℕ) (xs : List ℕ) → Contains xs y → Contains (x ∷ xs) y
contains_later x y xs h = (suc h.0, (let lt = h.1 in omega (arith, lt)), h.2)

each_contains : (P : ℕ → Type 0) (xs : List ℕ) → ((x : ℕ) → Contains xs x → P x) → Each P xs
each_contains P [] h = tt
each_contains P (x ∷ xs) h = (h x (contains_first x xs), each_contains P xs (λ y k. h y (contains_later x y xs k)))

rise_all : (loops : List Loop) (s : State) (us : List Vector) → TheyRise loops s → iterations loops s ≡ Some us → Pairs Before us
rise_all [] s us h e = subst (Pairs Before) (same_Some ([] ∷ []) us e) (tt, tt)
rise_all (l ∷ ls) s us h e = at (loop_values l s) refl e (λ t zs k q. rise_all ls t zs k q)
  where
    at : (o : Option (List ℕ)) → loop_values l s ≡ o → option_and_then (λ vs. concat_options (map (of l ls s) vs)) o ≡ Some us
        → ((t : State) (zs : List Vector) → TheyRise ls t → iterations ls t ≡ Some zs → Pairs Before zs) → Pairs Before us
    at None k q inner = absurd (none-some us q)
    at (Some vs) k q inner =
        let r = h vs k in
        (parted l ls s vs us (pairs_of (λ v w. v < w) vs r.0)
        (each_contains (λ v. (zs : List Vector) → iterations ls (at_value s l.variable v) ≡ Some zs → Pairs Before zs) vs (λ v c zs i. inner (at_value s l.variable v) zs (r.1 v c) i)) q).pairs

pub rise : RisingLoopsRise
rise loops outer us h e = all_pairs Before us (rise_all loops outer us h e)
