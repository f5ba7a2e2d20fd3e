-- Loops whose flag says that all so far are so, or that one is.
use Rattle.std.proofs.Common.{◌≡◌, ◌↔◌, ◌⊎◌, inl, inr, ℕ, ◌+◌, ◌<◌, ◌&&◌, ◌||◌, Bool, true, false, List, length, get_or, take, refl, sym, ◌∙◌, subst, arith}
use Rattle.std.specs.List.{All, Any, zip}
use Rattle.std.proofs.lemmas.List.{get_or-take, length-take-le}
use Rattle.std.proofs.lemmas.List.Elements.{All-more}
use Rattle.pairtest.proofs.Summaries.{pair_at, in_zip, any_more, below_next}

-- both of two
pub both_hold : {P Q : Type 0} (b f : Bool) → ((b ≡ true) ↔ P) → ((f ≡ true) ↔ Q) → ((b && f) ≡ true) ↔ (P × Q)
both_hold true f h k = (λ t. (h.0 refl, k.0 t), λ p. k.1 p.1)
both_hold false f h k = (λ (t : false ≡ true). absurd cc, λ p. h.1 p.0)

pub all_more : {X : Type 0} (P : X → Type 0) (xs : List X) (i : ℕ) (x : X) (b f : Bool) → i < length xs
    → ((b ≡ true) ↔ All P (take i xs)) → ((f ≡ true) ↔ P (get_or xs i x)) → ((b && f) ≡ true) ↔ All P (take (i + 1) xs)
all_more {X} P xs i x b f l h here = (λ t. let p = both.0 t in All-more P xs i x l p.0 p.1, λ all. both.1 (before all, last all))
  where
    both : ((b && f) ≡ true) ↔ (All P (take i xs) × P (get_or xs i x))
    both = both_hold b f h here

    fewer : length (take i xs) ≡ i
    fewer = length-take-le i xs (omega (arith, l))

    more : length (take (i + 1) xs) ≡ i + 1
    more = length-take-le (i + 1) xs (omega (arith, l))

    before : All P (take (i + 1) xs) → All P (take i xs)
    before all k d lt =
        let small : k < i = omega (arith, lt, fewer) in
        subst P (get_or-take (i + 1) xs k d (omega (arith, small)) ∙ sym (get_or-take i xs k d small)) (all k d (omega (arith, small, more)))

    last : All P (take (i + 1) xs) → P (get_or xs i x)
    last all = subst P (get_or-take (i + 1) xs i x (omega arith)) (all i x (omega (arith, more)))

pub all_zipped : {A B : Type 0} (P : A × B → Type 0) (ks : List A) (vs : List B) (i j : ℕ) (s : A) (t : B) (b f : Bool) → j ≡ i + 1 → i < length ks → i < length vs
    → ((d : A) → s ≡ get_or ks i d) → ((d : B) → t ≡ get_or vs i d) → ((b ≡ true) ↔ All P (take i (zip ks vs))) → ((f ≡ true) ↔ P (s, t))
    → ((b && f) ≡ true) ↔ All P (take j (zip ks vs))
all_zipped {A} {B} P ks vs i j s t b f next l m es et h here =
    subst (λ (k : ℕ). ((b && f) ≡ true) ↔ All P (take k (zip ks vs))) (sym next)
    (all_more P (zip ks vs) i (s, t) b f (in_zip ks vs i l m) h (subst (λ (p : A × B). (f ≡ true) ↔ P p) (pair_at ks vs i s t l m es et (s, t)) here))

pub some_more : {X : Type 0} (P : X → Type 0) (xs : List X) (i : ℕ) (x : X) (b f : Bool) → i < length xs
    → ((b ≡ true) ↔ Any P (take i xs)) → ((f ≡ true) ↔ P (get_or xs i x)) → ((b || f) ≡ true) ↔ Any P (take (i + 1) xs)
some_more P xs i x b f l h here = (λ t. alone (more.0 t), λ a. more.1 (inr a))
  where
    alone : {A : Type 0} → ⊥ ⊎ A → A
    alone (inl e) = absurd e
    alone (inr a) = a

    more : ((b || f) ≡ true) ↔ (⊥ ⊎ Any P (take (i + 1) xs))
    more = any_more {B = ⊥} P xs i x b f (b || f) l (λ t. inr (h.0 t), λ a. h.1 (alone a)) here refl

pub some_zipped : {A B : Type 0} (P : A × B → Type 0) (ks : List A) (vs : List B) (i j : ℕ) (s : A) (t : B) (b f : Bool) → j ≡ i + 1 → i < length ks → i < length vs
    → ((d : A) → s ≡ get_or ks i d) → ((d : B) → t ≡ get_or vs i d) → ((b ≡ true) ↔ Any P (take i (zip ks vs))) → ((f ≡ true) ↔ P (s, t))
    → ((b || f) ≡ true) ↔ Any P (take j (zip ks vs))
some_zipped {A} {B} P ks vs i j s t b f next l m es et h here =
    subst (λ (k : ℕ). ((b || f) ≡ true) ↔ Any P (take k (zip ks vs))) (sym next)
    (some_more P (zip ks vs) i (s, t) b f (in_zip ks vs i l m) h (subst (λ (p : A × B). (f ≡ true) ↔ P p) (pair_at ks vs i s t l m es et (s, t)) here))

-- all numbers below, and one more
pub numbers_more : {P : ℕ → Type 0} (i : ℕ) (b f : Bool) → ((b ≡ true) ↔ ((m : ℕ) → m < i → P m)) → ((f ≡ true) ↔ P i) → ((b && f) ≡ true) ↔ ((m : ℕ) → m < i + 1 → P m)
numbers_more {P} i b f h here =
    (λ t m l. let p = both.0 t in below_next m i l (λ (k : m < i). p.0 m k) (λ (e : m ≡ i). subst P (sym e) p.1), λ all. both.1 (λ m l. all m (omega (arith, l)), all i (omega arith)))
  where
    both : ((b && f) ≡ true) ↔ (((m : ℕ) → m < i → P m) × P i)
    both = both_hold b f h here
