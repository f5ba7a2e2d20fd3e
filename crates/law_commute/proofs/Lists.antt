-- What stands in a list, by recursion.
use Rattle.std.specs.Prelude.{◌≡◌, ◌⊎◌, List, [], ◌∷◌, ◌++◌, map, Option, Some, Contains}
use Rattle.std.specs.List.{AllByRecursion as Each}
use Rattle.std.proofs.Common.{refl, inl, inr, ap, arith}
use Rattle.std.proofs.lemmas.List.Elements.{Contains-append_right}

-- it is one of them
abbrev pub Among : {A : Type 0} → List A → A → Type 0
Among [] x = ⊥
Among (y ∷ ys) x = (y ≡ x) ⊎ Among ys x

pub each_left : {A : Type 0} (P : A → Type 0) (xs ys : List A) → Each P (xs ++ ys) → Each P xs
each_left P [] ys h = tt
each_left P (x ∷ xs) ys h = (h.0, each_left P xs ys h.1)

pub each_right : {A : Type 0} (P : A → Type 0) (xs ys : List A) → Each P (xs ++ ys) → Each P ys
each_right P [] ys h = h
each_right P (x ∷ xs) ys h = each_right P xs ys h.1

pub each_join : {A : Type 0} (P : A → Type 0) (xs ys : List A) → Each P xs → Each P ys → Each P (xs ++ ys)
each_join P [] ys h k = k
each_join P (x ∷ xs) ys h k = (h.0, each_join P xs ys h.1 k)

pub each_same : {A : Type 0} (P : A → Type 0) (xs : List A) → ((x : A) → Among xs x → P x) → Each P xs
each_same P [] h = tt
each_same P (x ∷ xs) h = (h x (inl refl), each_same P xs (λ y k. h y (inr k)))

pub contains_among : {A : Type 0} (xs : List A) (x : A) → Among xs x → Contains xs x
contains_among [] x h = absurd h
contains_among (y ∷ ys) x (inl e) = (0, omega arith, e)
contains_among (y ∷ ys) x (inr h) = Contains-append_right (y ∷ []) ys x (contains_among ys x h)

pub each_contained : {A : Type 0} (xs : List A) → Each (Contains xs) xs
each_contained xs = each_same (Contains xs) xs (λ x h. contains_among xs x h)

pub among_left : {A : Type 0} (xs ys : List A) (x : A) → Among xs x → Among (xs ++ ys) x
among_left [] ys x h = absurd h
among_left (y ∷ xs) ys x (inl e) = inl e
among_left (y ∷ xs) ys x (inr h) = inr (among_left xs ys x h)

pub among_right : {A : Type 0} (xs ys : List A) (x : A) → Among ys x → Among (xs ++ ys) x
among_right [] ys x h = h
among_right (y ∷ xs) ys x h = inr (among_right xs ys x h)

pub among_map : {A B : Type 0} (f : A → B) (xs : List A) (x : A) → Among xs x → Among (map f xs) (f x)
among_map f [] x h = absurd h
among_map f (y ∷ xs) x (inl e) = inl (ap f e)
among_map f (y ∷ xs) x (inr h) = inr (among_map f xs x h)

-- results that are all there, the first and the others
pub first_there : {A B : Type 0} (f : A → Option B) (x : A) (xs : List A) (y : B) (ys : List B) → map f (x ∷ xs) ≡ map Some (y ∷ ys) → f x ≡ Some y
first_there f x xs y ys e = cc

pub others_there : {A B : Type 0} (f : A → Option B) (x : A) (xs : List A) (y : B) (ys : List B) → map f (x ∷ xs) ≡ map Some (y ∷ ys) → map f xs ≡ map Some ys
others_there f x xs y ys e = cc
