-- The turns that a run of the body reaches are among the iterations of its loops.
use Rattle.std.specs.Prelude.{ℕ, zero, suc, true, ◌≡◌, List, [], ◌∷◌, ◌++◌, map, Option, Some, None, option_and_then}
use Rattle.std.proofs.Common.{refl, sym, ap, ◌∙◌, subst, inl, inr}
use Rattle.std.proofs.lemmas.Option.{same_Some, none-some}
use Rattle.semantics.specs.Meaning.State.{State, look, overwritten}
use Rattle.semantics.specs.Meaning.Value.{source_value, holds, both, by_test, map_option}
use Rattle.semantics.specs.Meaning.Runs.{Effect, incremented, greatest_trip_count}
use Rattle.semantics.specs.Loops.Nest.{Loop, Vector, values_from, at_value, loop_values, concat_options, iterations, at_vector}
use Rattle.law_commute.proofs.Lists.{Among, among_left, among_right, among_map}

-- from this state on the loop enters its body at this value
pub data Visits (l : Loop) : State → ℕ → Type 0 where
  now : {m : State} {v : ℕ} → holds m l.test ≡ Some true → look m l.variable [] ≡ Some v → Visits l m v
  later : {m : State} {v : ℕ} {e : Effect} → holds m l.test ≡ Some true → incremented m l.step ≡ Some e → Visits l (overwritten m e.writes) v → Visits l m v

-- both were there
pub record BothThere {A B C : Type 0} (f : A → B → C) (a : Option A) (b : Option B) (c : C) : Type 0 where
  pub left : A
  pub right : B
  pub first : a ≡ Some left
  pub second : b ≡ Some right
  pub is : f left right ≡ c

pub both_there : {A B C : Type 0} (f : A → B → C) (a : Option A) (b : Option B) (c : C) → both f a b ≡ Some c → BothThere f a b c
both_there f (Some a) (Some b) c e = record { left = a; right = b; first = refl; second = refl; is = same_Some _ _ e }
both_there f (Some a) None c e = absurd (none-some c e)
both_there f None b c e = absurd (none-some c e)

pub visits_among : (l : Loop) (n : ℕ) (m : State) (vs : List ℕ) (v : ℕ) → values_from n l m ≡ Some vs → Visits l m v → Among vs v
visits_among l zero m vs v e (now t s) = absurd (none-some vs (sym (ap (λ o. by_test o None (Some [])) t) ∙ e))
visits_among l zero m vs v e (later t s r) = absurd (none-some vs (sym (ap (λ o. by_test o None (Some [])) t) ∙ e))
visits_among l (suc n) m vs v e (now t s) =
    let rest = option_and_then (λ f. values_from n l (overwritten m f.writes)) (incremented m l.step) in
    let h = both_there (λ w ws. w ∷ ws) (look m l.variable []) rest vs (sym (ap (λ o. by_test o (both (λ w ws. w ∷ ws) (look m l.variable []) rest) (Some [])) t) ∙ e) in
    subst (λ ws. Among ws v) h.is (inl (same_Some _ _ (sym h.first ∙ s)))
visits_among l (suc n) m vs v e (later {e = f} t s r) =
    let rest = option_and_then (λ f. values_from n l (overwritten m f.writes)) (incremented m l.step) in
    let h = both_there (λ w ws. w ∷ ws) (look m l.variable []) rest vs (sym (ap (λ o. by_test o (both (λ w ws. w ∷ ws) (look m l.variable []) rest) (Some [])) t) ∙ e) in
    let one : values_from n l (overwritten m f.writes) ≡ Some h.right = sym (ap (option_and_then (λ f. values_from n l (overwritten m f.writes))) s) ∙ h.second in
    subst (λ ws. Among ws v) h.is (inr (visits_among l n (overwritten m f.writes) h.right v one r))

-- these values of a nest are reached, from the outside
abbrev pub Path : List Loop → Vector → State → Type 0
Path [] [] m = Unit {0}
Path [] (v ∷ vs) m = ⊥
Path (l ∷ ls) [] m = ⊥
Path (l ∷ ls) (v ∷ vs) m =
    (first : ℕ) × (source_value m l.start ≡ Some first) × Visits l (at_value m l.variable first) v × Path ls vs (at_value m l.variable v)

-- one of the lists that are joined
pub record OneOf {A B : Type 0} (f : A → Option (List B)) (v : A) (all : List B) : Type 0 where
  pub list : List B
  pub is : f v ≡ Some list
  pub among : (z : B) → Among list z → Among all z

one_of : {A B : Type 0} (f : A → Option (List B)) (vs : List A) (v : A) (all : List B) → concat_options (map f vs) ≡ Some all → Among vs v → OneOf f v all
one_of f [] v all e h = absurd h
one_of f (u ∷ vs) v all e (inl q) =
    let h = both_there (λ a b. a ++ b) (f u) (concat_options (map f vs)) all e in
    record { list = h.left; is = ap f (sym q) ∙ h.first; among = λ z k. subst (λ zs. Among zs z) h.is (among_left h.left h.right z k) }
one_of f (u ∷ vs) v all e (inr q) =
    let h = both_there (λ a b. a ++ b) (f u) (concat_options (map f vs)) all e in
    let r = one_of f vs v h.right h.second q in
    record { list = r.list; is = r.is; among = λ z k. subst (λ zs. Among zs z) h.is (among_right h.left h.right z (r.among z k)) }

pub path_among : (ls : List Loop) (w : Vector) (m : State) (turns : List Vector) → Path ls w m → iterations ls m ≡ Some turns → Among turns w
path_among [] [] m turns p e = subst (λ ts. Among ts []) (same_Some _ _ e) (inl refl)
path_among [] (v ∷ vs) m turns p e = absurd p
path_among (l ∷ ls) [] m turns p e = absurd p
path_among (l ∷ ls) (v ∷ vs) m turns p e = at (values_from greatest_trip_count l (at_value m l.variable p.0)) refl (λ ts k. path_among ls vs (at_value m l.variable v) ts p.3 k)
  where
    there : (o : Option (List Vector)) (ts : List Vector) → map_option (map (λ us. v ∷ us)) o ≡ Some ts → ((us : List Vector) → o ≡ Some us → Among us vs) → Among ts (v ∷ vs)
    there None ts q k = absurd (none-some ts q)
    there (Some us) ts q k = subst (λ zs. Among zs (v ∷ vs)) (same_Some _ _ q) (among_map (λ us. v ∷ us) us vs (k us refl))

    at : (o : Option (List ℕ)) → values_from greatest_trip_count l (at_value m l.variable p.0) ≡ o → ((us : List Vector) → iterations ls (at_value m l.variable v) ≡ Some us → Among us vs) → Among turns (v ∷ vs)
    at None q k =
        let start : loop_values l m ≡ None = ap (option_and_then (λ u. values_from greatest_trip_count l (at_value m l.variable u))) p.1 ∙ q in
        absurd (none-some turns (sym (ap (option_and_then (λ us. concat_options (map (λ u. map_option (map (λ us. u ∷ us)) (iterations ls (at_value m l.variable u))) us))) start) ∙ e))
    at (Some us) q k =
        let start : loop_values l m ≡ Some us = ap (option_and_then (λ u. values_from greatest_trip_count l (at_value m l.variable u))) p.1 ∙ q in
        let joined = sym (ap (option_and_then (λ us. concat_options (map (λ u. map_option (map (λ us. u ∷ us)) (iterations ls (at_value m l.variable u))) us))) start) ∙ e in
        let one = one_of (λ u. map_option (map (λ us. u ∷ us)) (iterations ls (at_value m l.variable u))) us v turns joined (visits_among l greatest_trip_count (at_value m l.variable p.0) us v q p.2) in
        one.among (v ∷ vs) (there (iterations ls (at_value m l.variable v)) one.list one.is k)

-- one loop further inside
pub path_more : (ls : List Loop) (w : Vector) (m : State) (l : Loop) (v first : ℕ) → Path ls w m → source_value (at_vector ls w m) l.start ≡ Some first → Visits l (at_value (at_vector ls w m) l.variable first) v → Path (ls ++ l ∷ []) (w ++ v ∷ []) m
path_more [] [] m l v first p e h = (first, e, h, tt)
path_more [] (u ∷ us) m l v first p e h = absurd p
path_more (k ∷ ls) [] m l v first p e h = absurd p
path_more (k ∷ ls) (u ∷ us) m l v first p e h = (p.0, p.1, p.2, path_more ls us (at_value m k.variable u) l v first p.3 e h)

pub at_vector_more : (ls : List Loop) (w : Vector) (m : State) (l : Loop) (v : ℕ) → Path ls w m → at_vector (ls ++ l ∷ []) (w ++ v ∷ []) m ≡ at_value (at_vector ls w m) l.variable v
at_vector_more [] [] m l v p = refl
at_vector_more [] (u ∷ us) m l v p = absurd p
at_vector_more (k ∷ ls) [] m l v p = absurd p
at_vector_more (k ∷ ls) (u ∷ us) m l v p = at_vector_more ls us (at_value m k.variable u) l v p.3
