-- The vectors behind each value of a loop, put together.
use Rattle.std.specs.Prelude.{ℕ, zero, suc, ◌≡◌, ◌≢◌, ◌<◌, ◌++◌, List, [], ◌∷◌, length, map, Contains, Option, Some, None, IsSome, slice_get, slice_index_or}
use Rattle.std.specs.List.{AllPairs}
use Rattle.std.proofs.Common.{refl, sym, ap, ◌∙◌, subst, arith, ⊎_elim}
use Rattle.std.proofs.lemmas.Option.{none-some, same_Some}
use Rattle.std.proofs.lemmas.List.Elements.{Contains-append_left, Contains-append_right, Contains-append_cases, Contains-get_or}
use Rattle.std.proofs.lemmas.List.Kept.{AllPairs-cons}
use Rattle.semantics.specs.Meaning.Value.{both, map_option}
use Rattle.semantics.specs.Loops.Nest.{Vector, concat_options}

-- ---- elements of lists

pub contains_cases : {X : Type 0} {P : Type 0} (x u : X) (xs : List X) → (x ≡ u → P) → (Contains xs u → P) → Contains (x ∷ xs) u → P
contains_cases {X} {P} x u xs first later h = go h.0 h.1 h.2
  where
    go : (k : ℕ) → k < length (x ∷ xs) → slice_index_or (x ∷ xs) k u ≡ u → P
    go zero lt e = first e
    go (suc k) lt e = later (k, omega arith, e)

pub contains_none : {X : Type 0} (u : X) → Contains [] u → ⊥
contains_none u h = let lt = h.1 in absurd (omega arith)

pub contains_first : {X : Type 0} (x : X) (xs : List X) → Contains (x ∷ xs) x
contains_first x xs = (0, omega arith, refl)

pub contains_later : {X : Type 0} (x u : X) (xs : List X) → Contains xs u → Contains (x ∷ xs) u
contains_later x u xs h = let lt = h.1 in (suc h.0, omega arith, h.2)

-- a vector of one value more
pub contains_longer : (v : ℕ) (w : Vector) (ws : List Vector) → Contains ws w → Contains (map (λ us. v ∷ us) ws) (v ∷ w)
contains_longer v w [] h = absurd (contains_none w h)
contains_longer v w (x ∷ ws) h =
    contains_cases x w ws
    (λ e. subst (λ (y : Vector). Contains (map (λ us. v ∷ us) (x ∷ ws)) (v ∷ y)) e (contains_first (v ∷ x) (map (λ us. v ∷ us) ws)))
    (λ c. contains_later (v ∷ x) (v ∷ w) (map (λ us. v ∷ us) ws) (contains_longer v w ws c)) h

pub record IsLonger (v : ℕ) (ws : List Vector) (u : Vector) : Type 0 where
  pub rest : Vector
  pub among : Contains ws rest
  pub is : u ≡ v ∷ rest

pub longer_contains : (v : ℕ) (u : Vector) (ws : List Vector) → Contains (map (λ us. v ∷ us) ws) u → IsLonger v ws u
longer_contains v u [] h = absurd (contains_none u h)
longer_contains v u (x ∷ ws) h =
    contains_cases (v ∷ x) u (map (λ us. v ∷ us) ws)
    (λ e. record { rest = x; among = contains_first x ws; is = sym e })
    (λ c. let l = longer_contains v u ws c in record { rest = l.rest; among = contains_later x l.rest ws l.among; is = l.is }) h

-- ---- no element stands twice

abbrev pub IsDistinct : {X : Type 0} → List X → Type 0
IsDistinct [] = Unit {0}
IsDistinct (x ∷ xs) = (Contains xs x → ⊥) × IsDistinct xs

pub all_pairs : {X : Type 0} (xs : List X) → IsDistinct xs → AllPairs (λ x y. x ≢ y) xs
all_pairs {X} [] h i j d lt within e = absurd (omega arith)
all_pairs {X} (x ∷ xs) h i j d lt within e =
    AllPairs-cons (λ x y. x ≢ y) x xs (λ k d lt e. h.0 (subst (Contains xs) (sym e) (Contains-get_or xs k d lt))) (all_pairs xs h.1) i j d lt within e

distinct_append : {X : Type 0} (xs ys : List X) → IsDistinct xs → IsDistinct ys → ((u : X) → Contains xs u → Contains ys u → ⊥) → IsDistinct (xs ++ ys)
distinct_append [] ys p q apart = q
distinct_append (x ∷ xs) ys p q apart = (
  λ h. ⊎_elim p.0 (apart x (contains_first x xs)) (Contains-append_cases xs ys x h),
  distinct_append xs ys p.1 q (λ u a b. apart u (contains_later x u xs a) b),
)

same_rest : (v w : ℕ) (x y : Vector) → v ∷ x ≡ w ∷ y → x ≡ y
same_rest v w x y e = cc

same_first : (v w : ℕ) (x y : Vector) → v ∷ x ≡ w ∷ y → v ≡ w
same_first v w x y e = cc

distinct_longer : (v : ℕ) (ws : List Vector) → IsDistinct ws → IsDistinct (map (λ us. v ∷ us) ws)
distinct_longer v [] h = tt
distinct_longer v (x ∷ ws) h = (
  λ c. let l = longer_contains v (v ∷ x) ws c in h.0 (subst (Contains ws) (sym (same_rest v v x l.rest l.is)) l.among),
  distinct_longer v ws h.1,
)

-- each value stands once
abbrev pub AreDifferent : List ℕ → Type 0
AreDifferent [] = Unit {0}
AreDifferent (v ∷ vs) = ((k x : ℕ) → slice_get vs k ≡ Some x → v ≢ x) × AreDifferent vs

pub different_by : (vs : List ℕ) → ((j k x : ℕ) → slice_get vs j ≡ Some x → slice_get vs k ≡ Some x → j ≡ k) → AreDifferent vs
different_by [] h = tt
different_by (v ∷ vs) h = (
  λ k x at e. let same = h 0 (suc k) x (ap Some e) at in absurd (omega arith),
  different_by vs (λ j k x p q. let same = h (suc j) (suc k) x p q in omega arith),
)

-- ---- lists that may not be there

pub record AreJoined (o p : Option (List Vector)) (us : List Vector) : Type 0 where
  pub front : List Vector
  pub back : List Vector
  pub first : o ≡ Some front
  pub second : p ≡ Some back
  pub is : front ++ back ≡ us

joined_of : (o p : Option (List Vector)) (us : List Vector) → both (λ a b. a ++ b) o p ≡ Some us → AreJoined o p us
joined_of None p us e = absurd (none-some us e)
joined_of (Some a) None us e = absurd (none-some us e)
joined_of (Some a) (Some b) us e = record { front = a; back = b; first = refl; second = refl; is = same_Some (a ++ b) us e }

longer_of : (v : ℕ) (o : Option (List Vector)) (us : List Vector) → map_option (map (λ us. v ∷ us)) o ≡ Some us → (ws : List Vector) × (o ≡ Some ws) × (map (λ us. v ∷ us) ws ≡ us)
longer_of v None us e = absurd (none-some us e)
longer_of v (Some ws) us e = (ws, refl, same_Some (map (λ us. v ∷ us) ws) us e)

module _ (inner : ℕ → Option (List Vector)) where
  -- the vectors behind each of some values
  abbrev pub behind : List ℕ → Option (List Vector)
  behind vs = concat_options (map (λ v. map_option (map (λ us. v ∷ us)) (inner v)) vs)

  -- those behind the first value, and the others
  record Cut (v : ℕ) (vs : List ℕ) (us : List Vector) : Type 0 where
    own : List Vector
    others : List Vector
    own_is : inner v ≡ Some own
    others_are : behind vs ≡ Some others
    is : map (λ us. v ∷ us) own ++ others ≡ us

  cut_of : (v : ℕ) (vs : List ℕ) (us : List Vector) → behind (v ∷ vs) ≡ Some us → Cut v vs us
  cut_of v vs us e =
      let j = joined_of (map_option (map (λ us. v ∷ us)) (inner v)) (behind vs) us e in
      let l = longer_of v (inner v) j.front j.first in
      record { own = l.0; others = j.back; own_is = l.1; others_are = j.second; is = ap (λ (ws : List Vector). ws ++ j.back) l.2 ∙ j.is }

  -- where a vector comes from
  pub record IsBehind (vs : List ℕ) (u : Vector) : Type 0 where
    pub place : ℕ
    pub value : ℕ
    pub at : slice_get vs place ≡ Some value
    pub vectors : List Vector
    pub are : inner value ≡ Some vectors
    pub rest : Vector
    pub among : Contains vectors rest
    pub is : u ≡ value ∷ rest

  pub member : (vs : List ℕ) (us : List Vector) (u : Vector) → behind vs ≡ Some us → Contains us u → IsBehind vs u
  member [] us u e h = absurd (contains_none u (subst (λ (ws : List Vector). Contains ws u) (sym (same_Some [] us e)) h))
  member (v ∷ vs) us u e h =
      let c = cut_of v vs us e in
      ⊎_elim
      (λ l. let own = longer_contains v u c.own l in record { place = 0; value = v; at = refl; vectors = c.own; are = c.own_is; rest = own.rest; among = own.among; is = own.is })
      (λ r. let b = member vs c.others u c.others_are r in record { place = suc b.place; value = b.value; at = b.at; vectors = b.vectors; are = b.are; rest = b.rest; among = b.among; is = b.is })
      (Contains-append_cases (map (λ us. v ∷ us) c.own) c.others u (subst (λ (ws : List Vector). Contains ws u) (sym c.is) h))

  -- a vector behind a value is one of all
  pub is_member : (vs : List ℕ) (us : List Vector) (k v : ℕ) (ws : List Vector) (w : Vector) → behind vs ≡ Some us → slice_get vs k ≡ Some v → inner v ≡ Some ws → Contains ws w → Contains us (v ∷ w)
  is_member [] us k v ws w e at are h = absurd (none-some v at)
  is_member (x ∷ vs) us zero v ws w e at are h =
      let c = cut_of x vs us e in
      let same = same_Some x v at in
      let one : c.own ≡ ws = same_Some c.own ws (sym c.own_is ∙ ap inner same ∙ are) in
      subst (λ (ys : List Vector). Contains ys (v ∷ w)) c.is
      (subst (λ y. Contains (map (λ us. x ∷ us) c.own ++ c.others) (y ∷ w)) same
      (Contains-append_left (map (λ us. x ∷ us) c.own) c.others (x ∷ w) (contains_longer x w c.own (subst (λ (ys : List Vector). Contains ys w) (sym one) h))))
  is_member (x ∷ vs) us (suc k) v ws w e at are h =
      let c = cut_of x vs us e in
      subst (λ (ys : List Vector). Contains ys (v ∷ w)) c.is
      (Contains-append_right (map (λ us. x ∷ us) c.own) c.others (v ∷ w) (is_member vs c.others k v ws w c.others_are at are h))

  -- all are there where those behind each value are
  there_both : (v : ℕ) (o p : Option (List Vector)) → IsSome o → IsSome p → IsSome (both (λ a b. a ++ b) (map_option (map (λ us. v ∷ us)) o) p)
  there_both v None p a b = absurd cc
  there_both v (Some us) None a b = absurd cc
  there_both v (Some us) (Some ws) a b = refl

  pub all_there : (vs : List ℕ) → ((k v : ℕ) → slice_get vs k ≡ Some v → IsSome (inner v)) → IsSome (behind vs)
  all_there [] each = refl
  all_there (v ∷ vs) each = there_both v (inner v) (behind vs) (each 0 v refl) (all_there vs (λ k w at. each (suc k) w at))

  -- no vector stands twice where no value does, and none behind a value
  pub all_distinct : (vs : List ℕ) (us : List Vector) → behind vs ≡ Some us → AreDifferent vs → ((k v : ℕ) (ws : List Vector) → slice_get vs k ≡ Some v → inner v ≡ Some ws → IsDistinct ws) → IsDistinct us
  all_distinct [] us e different each = subst (λ (ws : List Vector). IsDistinct ws) (same_Some [] us e) tt
  all_distinct (v ∷ vs) us e different each =
      let c = cut_of v vs us e in
      subst (λ (ws : List Vector). IsDistinct ws) c.is
      (distinct_append (map (λ us. v ∷ us) c.own) c.others (distinct_longer v c.own (each 0 v c.own refl c.own_is))
      (all_distinct vs c.others c.others_are different.1 (λ k w ws at are. each (suc k) w ws at are))
      (λ u p q.
      let l = longer_contains v u c.own p in
      let b = member vs c.others u c.others_are q in
      different.0 b.place b.value b.at (same_first v b.value l.rest b.rest (sym l.is ∙ b.is))))
