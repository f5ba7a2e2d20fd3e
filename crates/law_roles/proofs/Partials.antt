-- Partials, in whatever order they are combined.
use Rattle.std.specs.Prelude.{ℕ, zero, suc, Bool, true, false, ◌≡◌, ◌==◌, ◌&&◌, ◌||◌, ◌⊎◌, ◌+◌, ◌<◌, ◌^◌, nat_lt, List, [], ◌∷◌, length, Option, Some, None, slice_get}
use Rattle.std.proofs.Common.{refl, sym, ap, ◌∙◌, cond, inl, inr, arith}
use Rattle.std.proofs.lemmas.Bool.{true≢false, lt-ltb, eqb-true}
use Rattle.std.proofs.lemmas.Bool.Decides.{nat_tests}
use Rattle.semantics.specs.Tree.{Variable}
use Rattle.semantics.specs.Meaning.State.{Write, Declared, Assigned}
use Rattle.semantics.specs.Loops.Arrangement.{once, times, EachOnceBelow, with_found, picked}
use Rattle.semantics.specs.Loops.Operator.{ReduceOp, Sum, Product, And, Or, Xor, AndAlso, OrElse, Max, Min, apply, identity, combined, combined_all, is_set, one_if, IsLawful}
use Rattle.semantics.specs.Loops.OperatorLaw.{operators_are_lawful}
use Rattle.semantics.specs.Meaning.Places.{below}
use Rattle.law_commute.proofs.Orders.{picked_all, below_once}
use Rattle.law_roles.specs.Reducing.{joined_with, partial_of}
use Rattle.law_roles.specs.Sharing.{begins_with, unless_same}
use Rattle.law_roles.proofs.Shadow.{is_chosen, folded, hit}
use Rattle.law_roles.proofs.Recorded.{assignments}

-- ---- assignments alone count

pub partial_assigned : (op : ReduceOp) (x : Variable) (ws : List Write) (p : Option ℕ) → partial_of op x p ws ≡ partial_of op x p (assignments ws)
partial_assigned op x [] p = refl
partial_assigned op x (Declared y v ∷ ws) p = partial_assigned op x ws p
partial_assigned op x (Assigned y is n ∷ ws) p = partial_assigned op x ws (cond (y == x) (joined_with op p n) p)

pub folded_assigned : (op : ReduceOp) (x : Variable) (ws : List Write) (v : ℕ) → folded op x ws v ≡ folded op x (assignments ws) v
folded_assigned op x [] v = refl
folded_assigned op x (Declared y w ∷ ws) v = folded_assigned op x ws v
folded_assigned op x (Assigned y is n ∷ ws) v = folded_assigned op x ws (cond (y == x) (apply op v n) v)

-- there is one where the variable is assigned, and nowhere else
pub partial_none : (op : ReduceOp) (x : Variable) (ws : List Write) (p : Option ℕ) → hit x ws ≡ false → partial_of op x p ws ≡ p
partial_none op x [] p h = refl
partial_none op x (Declared y v ∷ ws) p h = partial_none op x ws p h
partial_none op x (Assigned y is n ∷ ws) p h = at (y == x) h (λ q k. partial_none op x ws q k)
  where
    at : (b : Bool) → (b || hit x ws) ≡ false → ((q : Option ℕ) → hit x ws ≡ false → partial_of op x q ws ≡ q) → partial_of op x (cond b (joined_with op p n) p) ws ≡ p
    at true k rest = absurd (true≢false k)
    at false k rest = rest p k

partial_stays : (op : ReduceOp) (x : Variable) (ws : List Write) (p : ℕ) → (q : ℕ) × (partial_of op x (Some p) ws ≡ Some q)
partial_stays op x [] p = (p, refl)
partial_stays op x (Declared y v ∷ ws) p = partial_stays op x ws p
partial_stays op x (Assigned y is n ∷ ws) p = at (y == x) (partial_stays op x ws (apply op p n)) (partial_stays op x ws p)
  where
    at : (b : Bool) → (q : ℕ) × (partial_of op x (Some (apply op p n)) ws ≡ Some q) → (q : ℕ) × (partial_of op x (Some p) ws ≡ Some q)
        → (q : ℕ) × (partial_of op x (cond b (Some (apply op p n)) (Some p)) ws ≡ Some q)
    at true one two = one
    at false one two = two

pub partial_there : (op : ReduceOp) (x : Variable) (ws : List Write) → hit x ws ≡ true → (q : ℕ) × (partial_of op x None ws ≡ Some q)
partial_there op x [] h = absurd (true≢false (sym h))
partial_there op x (Declared y v ∷ ws) h = partial_there op x ws h
partial_there op x (Assigned y is n ∷ ws) h = at (y == x) h (λ k. partial_there op x ws k)
  where
    at : (b : Bool) → (b || hit x ws) ≡ true → (hit x ws ≡ true → (q : ℕ) × (partial_of op x None ws ≡ Some q)) → (q : ℕ) × (partial_of op x (cond b (Some n) None) ws ≡ Some q)
    at true k rest = partial_stays op x ws n
    at false k rest = rest k

-- ---- laws of one operator

module _ (op : ReduceOp) where
  law : IsLawful op
  law = operators_are_lawful op

  swapped : (a b c : ℕ) → apply op (apply op a b) c ≡ apply op (apply op a c) b
  swapped a b c = law.associative a b c ∙ ap (apply op a) (law.commutative b c) ∙ sym (law.associative a c b)

  commuted : (w : ℕ) (p q : Option ℕ) → combined op (combined op w p) q ≡ combined op (combined op w q) p
  commuted w None None = refl
  commuted w None (Some b) = refl
  commuted w (Some a) None = refl
  commuted w (Some a) (Some b) = swapped w a b

  moved_last : (v : ℕ) (p : Option ℕ) (ps : List (Option ℕ)) → combined_all op (combined op v p) ps ≡ combined op (combined_all op v ps) p
  moved_last v p [] = refl
  moved_last v p (q ∷ ps) = ap (λ w. combined_all op w ps) (commuted v p q) ∙ moved_last (combined op v q) p ps

  -- ---- in any order

  repeated : ℕ → Option ℕ → ℕ → ℕ
  repeated zero p w = w
  repeated (suc n) p w = combined op (repeated n p w) p

  -- each so often
  weighed : List (Option ℕ) → (ℕ → ℕ) → ℕ → ℕ
  weighed [] k v = v
  weighed (p ∷ ps) k v = repeated (k 0) p (weighed ps (λ c. k (suc c)) v)

  weighed_same : (ps : List (Option ℕ)) (k j : ℕ → ℕ) (v : ℕ) → ((c : ℕ) → k c ≡ j c) → weighed ps k v ≡ weighed ps j v
  unfolding weighed
  weighed_same [] k j v h = refl
  weighed_same (p ∷ ps) k j v h = λ i. repeated (h 0 i) p (weighed_same ps (λ c. k (suc c)) (λ c. j (suc c)) v (λ c. h (suc c)) i)

  repeated_moved : (n : ℕ) (p q : Option ℕ) (w : ℕ) → repeated n p (combined op w q) ≡ combined op (repeated n p w) q
  unfolding repeated
  repeated_moved zero p q w = refl
  repeated_moved (suc n) p q w = ap (λ z. combined op z p) (repeated_moved n p q w) ∙ commuted (repeated n p w) q p

  abbrev with_one : Option (Option ℕ) → ℕ → ℕ
  with_one None w = w
  with_one (Some p) w = combined op w p

  one_more : (ps : List (Option ℕ)) (c : ℕ) (k : ℕ → ℕ) (v : ℕ) → weighed ps (λ d. once d c + k d) v ≡ with_one (slice_get ps c) (weighed ps k v)
  unfolding weighed repeated
  one_more [] c k v = refl
  one_more (p ∷ ps) zero k v =
      (λ i. repeated ((let e : once 0 0 + k 0 ≡ suc (k 0) = omega arith in e) i) p (weighed_same ps (λ c. once (suc c) 0 + k (suc c)) (λ c. k (suc c)) v (λ c. let e : once (suc c) 0 + k (suc c) ≡ k (suc c) = grind (arith, nat_tests) in e) i))
  one_more (p ∷ ps) (suc c) k v =
      (λ i. repeated ((let e : once 0 (suc c) + k 0 ≡ k 0 = grind (arith, nat_tests) in e) i) p
      (weighed_same ps (λ d. once (suc d) (suc c) + k (suc d)) (λ d. once d c + k (suc d)) v (λ d. let e : once (suc d) (suc c) + k (suc d) ≡ once d c + k (suc d) = grind (arith, nat_tests) in e) i))
      ∙ ap (repeated (k 0) p) (one_more ps c (λ d. k (suc d)) v) ∙ at (slice_get ps c)
    where
      at : (o : Option (Option ℕ)) → repeated (k 0) p (with_one o (weighed ps (λ d. k (suc d)) v)) ≡ with_one o (repeated (k 0) p (weighed ps (λ d. k (suc d)) v))
      at None = refl
      at (Some q) = repeated_moved (k 0) p q (weighed ps (λ d. k (suc d)) v)

  weighed_zero : (ps : List (Option ℕ)) (v : ℕ) → weighed ps (λ c. 0) v ≡ v
  unfolding weighed repeated
  weighed_zero [] v = refl
  weighed_zero (p ∷ ps) v = weighed_zero ps v

  picked_weighed : (ps : List (Option ℕ)) (order : List ℕ) (v : ℕ) → combined_all op v (picked ps order) ≡ weighed ps (λ c. times c order) v
  picked_weighed ps [] v = sym (weighed_zero ps v)
  picked_weighed ps (c ∷ cs) v = at (slice_get ps c) ∙ ap (with_one (slice_get ps c)) (picked_weighed ps cs v) ∙ sym (one_more ps c (λ d. times d cs) v)
    where
      at : (o : Option (Option ℕ)) → combined_all op v (with_found o (picked ps cs)) ≡ with_one o (combined_all op v (picked ps cs))
      at None = refl
      at (Some p) = moved_last v p (picked ps cs)

  pub in_any_order : (ps : List (Option ℕ)) (order : List ℕ) (v : ℕ) → EachOnceBelow (length ps) order → combined_all op v (picked ps order) ≡ combined_all op v ps
  in_any_order ps order v each =
      picked_weighed ps order v
      ∙ weighed_same ps (λ c. times c order) (λ c. times c (below (length ps))) v (λ c. each c ∙ sym (below_once (length ps) c))
      ∙ sym (picked_weighed ps (below (length ps)) v) ∙ ap (combined_all op v) (picked_all ps)

  -- ---- what a copy began with counts for nothing

  module _ (v : ℕ) (fits : v < 2 ^ 64) where
    -- what becomes of it
    abbrev pub Grown : ℕ → Type 0
    Grown w = (w ≡ v) ⊎ ((z : ℕ) × (w ≡ apply op v z))

    grows : (w : ℕ) (p : Option ℕ) → Grown w → Grown (combined op w p)
    grows w None g = g
    grows w (Some n) (inl e) = inr (n, ap (λ z. apply op z n) e)
    grows w (Some n) (inr g) = inr (apply op g.0 n, ap (λ z. apply op z n) g.1 ∙ law.associative v g.0 n)

    -- two that combine to the same
    abbrev pub Counts : Option ℕ → Option ℕ → Type 0
    Counts q p = (w : ℕ) → Grown w → combined op w q ≡ combined op w p

    abbrev pub AllCount : List (Option ℕ) → List (Option ℕ) → Type 0
    AllCount [] [] = Unit {0}
    AllCount [] (p ∷ ps) = ⊥
    AllCount (q ∷ qs) [] = ⊥
    AllCount (q ∷ qs) (p ∷ ps) = Counts q p × AllCount qs ps

    all_combine : (qs ps : List (Option ℕ)) (w : ℕ) → Grown w → AllCount qs ps → combined_all op w qs ≡ combined_all op w ps
    all_combine [] [] w g h = refl
    all_combine [] (p ∷ ps) w g h = absurd h
    all_combine (q ∷ qs) [] w g h = absurd h
    all_combine (q ∷ qs) (p ∷ ps) w g h = ap (λ z. combined_all op z qs) (h.0 w g) ∙ all_combine qs ps (combined op w p) (grows w p g) h.1

    pub all_count : (qs ps : List (Option ℕ)) → AllCount qs ps → combined_all op v qs ≡ combined_all op v ps
    all_count qs ps h = all_combine qs ps v (inl refl) h

    -- from the number itself on
    from_itself : (a b : ℕ) → apply op v a ≡ apply op v b → (w : ℕ) → Grown w → apply op w a ≡ apply op w b
    from_itself a b e w (inl g) = ap (λ z. apply op z a) g ∙ e ∙ sym (ap (λ z. apply op z b) g)
    from_itself a b e w (inr g) =
        ap (λ z. apply op z a) g.1 ∙ swapped v g.0 a ∙ ap (λ z. apply op z g.0) e ∙ swapped v b g.0 ∙ sym (ap (λ z. apply op z b) g.1)

    fits_test : nat_lt v (2 ^ 64) ≡ true
    fits_test = lt-ltb v (2 ^ 64) fits

  set_twice : (b c : Bool) → one_if (is_set (one_if (b && true)) && c) ≡ one_if (b && c)
  set_twice true c = refl
  set_twice false c = refl

  set_either : (b c : Bool) → one_if (is_set (one_if (b || false)) || c) ≡ one_if (b || c)
  set_either true c = refl
  set_either false c = refl

-- an identity that was combined with it
past_identity : (op : ReduceOp) (v p : ℕ) → nat_lt v (2 ^ 64) ≡ true → apply op (apply op v (identity op)) p ≡ apply op v p
past_identity Sum v p h = ap (λ z. apply Sum z p) ((operators_are_lawful Sum).right v h)
past_identity Product v p h = ap (λ z. apply Product z p) ((operators_are_lawful Product).right v h)
past_identity And v p h = ap (λ z. apply And z p) ((operators_are_lawful And).right v h)
past_identity Or v p h = ap (λ z. apply Or z p) ((operators_are_lawful Or).right v h)
past_identity Xor v p h = ap (λ z. apply Xor z p) ((operators_are_lawful Xor).right v h)
past_identity AndAlso v p h = set_twice AndAlso (is_set v) (is_set p)
past_identity OrElse v p h = set_either OrElse (is_set v) (is_set p)
past_identity Max v p h = ap (λ z. apply Max z p) ((operators_are_lawful Max).right v h)
past_identity Min v p h = ap (λ z. apply Min z p) ((operators_are_lawful Min).right v h)

chosen_identity : (op : ReduceOp) (v : ℕ) → nat_lt v (2 ^ 64) ≡ true → is_chosen op ≡ true → apply op v (identity op) ≡ v
chosen_identity Max v h k = (operators_are_lawful Max).right v h
chosen_identity Min v h k = (operators_are_lawful Min).right v h
chosen_identity _ v h k = absurd (true≢false (sym k))

-- what a copy holds, where it was updated
pub updated_counts : (op : ReduceOp) (v : ℕ) (fits : v < 2 ^ 64) (p : ℕ) → Counts op v fits (Some (apply op (identity op) p)) (Some p)
updated_counts op v fits p w g =
    from_itself op v fits (apply op (identity op) p) p (sym ((operators_are_lawful op).associative v (identity op) p) ∙ past_identity op v p (fits_test op v fits)) w g

-- and where it was not, although there was an operand
pub kept_counts : (op : ReduceOp) (v : ℕ) (fits : v < 2 ^ 64) (p : ℕ) → is_chosen op ≡ true → apply op (identity op) p ≡ identity op → Counts op v fits None (Some p)
kept_counts op v fits p chosen same w g = sym (at g)
  where
    to_identity : apply op w p ≡ apply op w (identity op)
    to_identity = sym (updated_counts op v fits p w g) ∙ ap (apply op w) same

    at : Grown op v fits w → apply op w p ≡ w
    at (inl e) = to_identity ∙ ap (λ z. apply op z (identity op)) e ∙ chosen_identity op v (fits_test op v fits) chosen ∙ sym e
    at (inr h) =
        to_identity ∙ ap (λ z. apply op z (identity op)) h.1 ∙ swapped op v h.0 (identity op)
        ∙ ap (λ z. apply op z h.0) (chosen_identity op v (fits_test op v fits) chosen) ∙ sym h.1

-- ---- where a chunk begins without a copy

and_twice : (b c : Bool) → one_if (b && is_set (one_if (b && c))) ≡ one_if (b && c)
and_twice true true = refl
and_twice true false = refl
and_twice false c = refl

or_twice : (b c : Bool) → one_if (b || is_set (one_if (b || c))) ≡ one_if (b || c)
or_twice true c = refl
or_twice false true = refl
or_twice false false = refl

-- what it began with counts for nothing
past_start : (op : ReduceOp) (v p : ℕ) → nat_lt v (2 ^ 64) ≡ true → apply op v (apply op (begins_with op v) p) ≡ apply op v p
past_start Sum v p h = sym ((operators_are_lawful Sum).associative v (identity Sum) p) ∙ past_identity Sum v p h
past_start Product v p h = sym ((operators_are_lawful Product).associative v (identity Product) p) ∙ past_identity Product v p h
past_start And v p h = sym ((operators_are_lawful And).associative v (identity And) p) ∙ past_identity And v p h
past_start Or v p h = sym ((operators_are_lawful Or).associative v (identity Or) p) ∙ past_identity Or v p h
past_start Xor v p h = sym ((operators_are_lawful Xor).associative v (identity Xor) p) ∙ past_identity Xor v p h
past_start AndAlso v p h = and_twice (is_set v) (is_set p)
past_start OrElse v p h = or_twice (is_set v) (is_set p)
past_start Max v p h = sym ((operators_are_lawful Max).associative v (identity Max) p) ∙ past_identity Max v p h
past_start Min v p h = sym ((operators_are_lawful Min).associative v (identity Min) p) ∙ past_identity Min v p h

-- and so does an operand that changes nothing in the chunk
unchanged : (op : ReduceOp) (v p : ℕ) → nat_lt v (2 ^ 64) ≡ true → apply op (begins_with op v) p ≡ begins_with op v → apply op v p ≡ v
unchanged Sum v p h e = sym (past_start Sum v p h) ∙ ap (apply Sum v) e ∙ (operators_are_lawful Sum).right v h
unchanged Product v p h e = sym (past_start Product v p h) ∙ ap (apply Product v) e ∙ (operators_are_lawful Product).right v h
unchanged And v p h e = sym (past_start And v p h) ∙ ap (apply And v) e ∙ (operators_are_lawful And).right v h
unchanged Or v p h e = sym (past_start Or v p h) ∙ ap (apply Or v) e ∙ (operators_are_lawful Or).right v h
unchanged Xor v p h e = sym (past_start Xor v p h) ∙ ap (apply Xor v) e ∙ (operators_are_lawful Xor).right v h
unchanged AndAlso v p h e = e
unchanged OrElse v p h e = e
unchanged Max v p h e = sym (past_start Max v p h) ∙ ap (apply Max v) e ∙ (operators_are_lawful Max).right v h
unchanged Min v p h e = sym (past_start Min v p h) ∙ ap (apply Min v) e ∙ (operators_are_lawful Min).right v h

pub in_place_counts : (op : ReduceOp) (v : ℕ) (fits : v < 2 ^ 64) (p : Option ℕ) → Counts op v fits (unless_same (Some (begins_with op v)) (Some (combined op (begins_with op v) p))) p
in_place_counts op v fits None = at (begins_with op v == begins_with op v) (let n : ℕ = begins_with op v in let e : (n == n) ≡ true = grind (arith, nat_tests) in e)
  where
    at : (b : Bool) → b ≡ true → Counts op v fits (cond b None (Some (begins_with op v))) None
    at true e w g = refl
    at false e w g = absurd (true≢false (sym e))
in_place_counts op v fits (Some p) = at (apply op (begins_with op v) p == begins_with op v) refl
  where
    small : nat_lt v (2 ^ 64) ≡ true
    small = fits_test op v fits

    stays : apply op v p ≡ v → (w : ℕ) → Grown op v fits w → w ≡ apply op w p
    stays e w (inl is) = is ∙ sym e ∙ sym (ap (λ z. apply op z p) is)
    stays e w (inr h) = h.1 ∙ ap (λ z. apply op z h.0) (sym e) ∙ swapped op v p h.0 ∙ sym (ap (λ z. apply op z p) h.1)

    at : (b : Bool) → (apply op (begins_with op v) p == begins_with op v) ≡ b → Counts op v fits (cond b None (Some (apply op (begins_with op v) p))) (Some p)
    at true e w g = stays (unchanged op v p small (eqb-true (apply op (begins_with op v) p) (begins_with op v) e)) w g
    at false e w g = from_itself op v fits (apply op (begins_with op v) p) p (past_start op v p small) w g
