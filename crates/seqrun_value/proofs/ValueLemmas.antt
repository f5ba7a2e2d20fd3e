-- How a place is found index by index.
use Rattle.std.proofs.Common.{add-one, add-zero, length-drop, drop-cons, get_or-drop, ◌≡◌, ℕ, suc, ◌+◌, ◌*◌, ◌<◌, ◌≤◌, Bool, true, false, cond, List, [], ◌∷◌, length, get_or, drop, Option, Some, None, IsSome, Vec, Global, refl, sym, ap, ◌∙◌, subst, arith}
use Rattle.std.specs.Prelude.{◌&&◌, nat_lt, slice_get, option_and_then}
use Rattle.std.proofs.Math.Nat.{mul-le-mul_left}
use Rattle.std.proofs.lemmas.Bool.{ltb-true}
use Rattle.std.proofs.lemmas.List.{drop-drop, drop_all}
use Rattle.std.proofs.lemmas.Option.{get_or_from_slice_get, slice_get_within}
use Rattle.semantics.specs.Meaning.State.{State, Outside, look, look_in}
use Rattle.semantics.specs.Meaning.Value.{both, value, values}
use Rattle.semantics.specs.Meaning.Places.{within, place_from, place}
use Rattle.store.specs.Kept.{Kept, cell_of}
use Rattle.seqrun_value.specs.Standing.{offset_from, way_from, place_in, cell_in, cell_among, standing}
use Rattle.seqrun_value.specs.declared.frame.Slot.{Slot}
use Rattle.ktree.specs.View.{expr_of, exprs_of}
use Rattle.ktree.specs.declared.place.VarId.{VarId}
use Rattle.ktree.specs.declared.expression.NamePlaces.{NamePlaces}
use Rattle.ktree.specs.declared.expression.Expr.{Expr, Object}
use Rattle.ktree.proofs.Trees.{object_of}

no_some : {A : Type 0} (o : Option A) → o ≡ None → IsSome o → ⊥
no_some None e h = cc
no_some (Some x) e h = cc

pub guard : {A : Type 0} (b : Bool) (o : Option A) (k : A) → cond b o None ≡ Some k → (b ≡ true) × (o ≡ Some k)
guard true o k e = (refl, e)
guard false o k e = cc

pub at_most : (ns is : List ℕ) (at k : ℕ) → offset_from at ns is ≡ Some k → at ≤ k
at_most [] [] at k e = grind arith
at_most [] (i ∷ is) at k e = cc
at_most (n ∷ ns) [] at k e = cc
at_most (n ∷ ns) (i ∷ is) at k e =
    let g = guard (nat_lt i n) (offset_from (at * n + i) ns is) k e in
    let below : i < n = ltb-true i n g.0 in
    let one : 1 ≤ n = omega arith in
    omega (arith, at_most ns is (at * n + i) k g.1, mul-le-mul_left at one)

-- one index more
pub record Step (at : ℕ) (ns : List ℕ) (v : Option ℕ) (vs : Option (List ℕ)) (k : ℕ) : Type 0 where
  pub index : ℕ
  pub is : v ≡ Some index
  pub inside : 0 < length ns
  pub rest : way_from (at * get_or ns 0 0 + index) (drop 1 ns) vs ≡ Some k
  pub fits : at * get_or ns 0 0 + index ≤ k

pub step : (at : ℕ) (ns : List ℕ) (v : Option ℕ) (vs : Option (List ℕ)) (k : ℕ) → way_from at ns (both (λ i is. i ∷ is) v vs) ≡ Some k → Step at ns v vs k
step at ns None vs k e = cc
step at ns (Some i) None k e = cc
step at [] (Some i) (Some is) k e = cc
step at (n ∷ ns) (Some i) (Some is) k e =
    let g = guard (nat_lt i n) (offset_from (at * n + i) ns is) k e in
    record { index = i; is = refl; inside = omega arith; rest = g.1; fits = at_most ns is _ k g.1 }

-- an element that is there
pub record Found (a : Kept) (ks : Option (List ℕ)) : Type 0 where
  pub at : ℕ
  pub value : ℕ
  pub place : place_in a ks ≡ Some at
  pub holds : slice_get a.values at ≡ Some value

pub found : (a : Kept) (ks : Option (List ℕ)) → IsSome (cell_in a ks) → Found a ks
found a ks h = go (place_in a ks) refl h
  where
    inner : (k : ℕ) → place_in a ks ≡ Some k → (v : Option ℕ) → slice_get a.values k ≡ v → IsSome v → Found a ks
    inner k e None f h = cc
    inner k e (Some v) f h = record { at = k; value = v; place = e; holds = f }

    go : (o : Option ℕ) → place_in a ks ≡ o → IsSome (option_and_then (λ k. slice_get a.values k) o) → Found a ks
    go None e h = cc
    go (Some k) e h = inner k e (slice_get a.values k) refl h

-- one turn of the way over the indexes
pub record Turn (s : State) (lengths : List ℕ) (items : List Expr) (d at k : ℕ) (e : Expr) : Type 0 where
  pub index : ℕ
  pub is : value s (expr_of e) ≡ Some index
  pub inside : d < length lengths
  pub next : way_from (at * get_or lengths d 0 + index) (drop (d + 1) lengths) (values s (exprs_of (drop (d + 1) items))) ≡ Some k
  pub fits : at * get_or lengths d 0 + index ≤ k

pub turn : (s : State) (lengths : List ℕ) (items : List Expr) (d at k : ℕ) (e : Expr) → d < length items → e ≡ get_or items d e → way_from at (drop d lengths) (values s (exprs_of (drop d items))) ≡ Some k → Turn s lengths items d at k e
turn s lengths items d at k e lt is h =
    let here : drop d items ≡ e ∷ drop (d + 1) items = rw add-one (drop-cons items d e lt ∙ ap (λ x. x ∷ drop (suc d) items) (sym is)) in
    let h' = subst (λ xs. way_from at (drop d lengths) (values s (exprs_of xs)) ≡ Some k) here h in
    let t = step at (drop d lengths) (value s (expr_of e)) (values s (exprs_of (drop (d + 1) items))) k h' in
    let n : get_or (drop d lengths) 0 0 ≡ get_or lengths d 0 = get_or-drop d lengths 0 0 ∙ ap (λ i. get_or lengths i 0) (add-zero d) in
    let rest : drop 1 (drop d lengths) ≡ drop (d + 1) lengths = drop-drop 1 d lengths in
    record {
      index = t.index;
      is = t.is;
      inside = omega (arith, length-drop d lengths, t.inside);
      next = rw (← n, ← rest) t.rest;
      fits = rw (← n) t.fits;
    }

offset_is : (at : ℕ) (ns is : List ℕ) → offset_from at ns is ≡ cond (within ns is) (Some (place_from at ns is)) None
offset_is at [] [] = refl
offset_is at [] (i ∷ is) = refl
offset_is at (n ∷ ns) [] = refl
offset_is at (n ∷ ns) (i ∷ is) = go (nat_lt i n) (offset_is (at * n + i) ns is)
  where
    go : (b : Bool) → offset_from (at * n + i) ns is ≡ cond (within ns is) (Some (place_from (at * n + i) ns is)) None → cond b (offset_from (at * n + i) ns is) None ≡ cond (b && within ns is) (Some (place_from (at * n + i) ns is)) None
    go true e = e
    go false e = refl

-- what an element holds is what stands at its offset
pub cell_is : (a : Kept) (is : List ℕ) → cell_of (Some a) is ≡ cell_in a (Some is)
cell_is a is = go (within a.lengths is) ∙ ap (λ o. option_and_then (λ k. slice_get a.values k) o) (sym (offset_is 0 a.lengths is))
  where
    go : (b : Bool) → cond b (slice_get a.values (place a.lengths is)) None ≡ option_and_then (λ k. slice_get a.values k) (cond b (Some (place a.lengths is)) None)
    go true = refl
    go false = refl

module _ (a : Kept) (s : State) (items : List Expr) (d at : ℕ) (there : IsSome (cell_in a (values s (exprs_of items)))) (way : way_from at (drop d a.lengths) (values s (exprs_of (drop d items))) ≡ place_in a (values s (exprs_of items))) where
  -- so does its first half
  pub product_below : (e : Expr) → d < length items → e ≡ get_or items d e → at * get_or a.lengths d 0 < length a.values
  product_below e lt is =
      let f = found a (values s (exprs_of items)) there in
      let t = turn s a.lengths items d at f.at e lt is (way ∙ f.place) in
      let k : f.at < length a.values = slice_get_within a.values f.at f.value f.holds in
      let fits : at * get_or a.lengths d 0 + t.index ≤ f.at = t.fits in
      omega arith

  -- a turn stays below the array's length
  pub turn_below : (e : Expr) (i : ℕ) → d < length items → e ≡ get_or items d e → value s (expr_of e) ≡ Some i → at * get_or a.lengths d 0 + i < length a.values
  turn_below e i lt is v =
      let f = found a (values s (exprs_of items)) there in
      let t = turn s a.lengths items d at f.at e lt is (way ∙ f.place) in
      let same : t.index ≡ i = grind (arith, t.is, v) in
      let k : f.at < length a.values = slice_get_within a.values f.at f.value f.holds in
      let fits : at * get_or a.lengths d 0 + i ≤ f.at = rw (← same) t.fits in
      omega arith

  -- a turn goes on along the way
  pub turn_goes_on : (e : Expr) (i : ℕ) → d < length items → e ≡ get_or items d e → value s (expr_of e) ≡ Some i → way_from (at * get_or a.lengths d 0 + i) (drop (d + 1) a.lengths) (values s (exprs_of (drop (d + 1) items))) ≡ place_in a (values s (exprs_of items))
  turn_goes_on e i lt is v =
      let f = found a (values s (exprs_of items)) there in
      let t = turn s a.lengths items d at f.at e lt is (way ∙ f.place) in
      let same : t.index ≡ i = grind (arith, t.is, v) in
      rw (← same) t.next ∙ sym f.place

  -- the end of the way
  pub way_ends : length items ≤ d → place_in a (values s (exprs_of items)) ≡ Some at
  way_ends le =
      let f = found a (values s (exprs_of items)) there in
      let none : drop d items ≡ [] = drop_all d items le in
      f.place ∙ ap Some (sym (last (drop d a.lengths) f.at (subst (λ xs. way_from at (drop d a.lengths) (values s (exprs_of xs)) ≡ Some f.at) none (way ∙ f.place))))
    where
      last : (ns : List ℕ) (k : ℕ) → offset_from at ns [] ≡ Some k → at ≡ k
      last [] k e = grind arith
      last (n ∷ ns) k e = cc

pub found_within : (a : Kept) (ks : Option (List ℕ)) (i : ℕ) → IsSome (cell_in a ks) → place_in a ks ≡ Some i → i < length a.values
found_within a ks i h e =
    let f = found a ks h in
    let same : f.at ≡ i = grind (arith, f.place, e) in
    rw (← same) (slice_get_within a.values f.at f.value f.holds)

pub found_value : (a : Kept) (ks : Option (List ℕ)) (i : ℕ) → IsSome (cell_in a ks) → place_in a ks ≡ Some i → cell_in a ks ≡ Some (get_or a.values i 0)
found_value a ks i h e =
    let f = found a ks h in
    let same : f.at ≡ i = grind (arith, f.place, e) in
    let read : get_or a.values i 0 ≡ f.value = rw (← same) (get_or_from_slice_get a.values f.at f.value 0 f.holds) in
    ap (λ o. option_and_then (λ k. slice_get a.values k) o) f.place ∙ f.holds ∙ ap Some (sym read)

-- an object that is no local lies among the variables
pub object_among : (frame : List Slot) (store : List Kept) (x : VarId) (subs : Vec Expr Global) (mention : NamePlaces) → (standing frame store).locals x.0 ≡ Outside → value (standing frame store) (expr_of (Object x subs mention)) ≡ cell_among store x.0 (values (standing frame store) (exprs_of subs.items))
object_among frame store x subs mention out =
    ap (value s) (object_of x subs mention) ∙ along (values s (exprs_of subs.items)) ∙ lies (values s (exprs_of subs.items)) (slice_get store x.0)
  where
    s : State
    s = standing frame store

    along : (ks : Option (List ℕ)) → option_and_then (λ ks. look s x.0 ks) ks ≡ option_and_then (λ ks. s.cells x.0 ks) ks
    along None = refl
    along (Some ks) = ap (λ slot. look_in slot s x.0 ks) out

    lies : (ks : Option (List ℕ)) (o : Option Kept) → option_and_then (λ ks. cell_of o ks) ks ≡ option_and_then (λ a. cell_in a ks) o
    lies None None = refl
    lies None (Some a) = refl
    lies (Some ks) None = refl
    lies (Some ks) (Some a) = cell_is a ks

-- which is there
pub among_there : (store : List Kept) (x : ℕ) (ks : Option (List ℕ)) → IsSome (cell_among store x ks) → x < length store
among_there store x ks h = go (slice_get store x) refl h
  where
    go : (o : Option Kept) → slice_get store x ≡ o → IsSome (option_and_then (λ a. cell_in a ks) o) → x < length store
    go None e h = cc
    go (Some a) e h = slice_get_within store x a e

module _ (a : Kept) (s : State) (items : List Expr) (there : IsSome (cell_in a (values s (exprs_of items)))) where
  -- a subscript of an element that is there has a value
  first_turn : (e : Expr) → 0 < length items → e ≡ get_or items 0 e → (k : ℕ) → place_in a (values s (exprs_of items)) ≡ Some k → Turn s a.lengths items 0 0 k e
  first_turn e lt is k p = turn s a.lengths items 0 0 k e lt is p

  pub first_some : (e : Expr) → 0 < length items → e ≡ get_or items 0 e → IsSome (value s (expr_of e))
  first_some e lt is =
      let f = found a (values s (exprs_of items)) there in
      subst IsSome (sym (first_turn e lt is f.at f.place).is) refl

  -- the place of one subscript
  pub one_place_is : (e : Expr) (i : ℕ) → length items ≡ 1 → e ≡ get_or items 0 e → value s (expr_of e) ≡ Some i → place_in a (values s (exprs_of items)) ≡ Some i
  one_place_is e i n is v =
      let lt : 0 < length items = omega arith in
      let on = turn_goes_on a s items 0 0 there refl e i lt is v in
      let le : length items ≤ 0 + 1 = omega arith in
      let end = way_ends a s items (0 + 1) (0 * get_or a.lengths 0 0 + i) there on le in
      let same : 0 * get_or a.lengths 0 0 + i ≡ i = omega arith in
      end ∙ ap Some same

  -- and of two
  module _ (e f : Expr) (i : ℕ) (n : length items ≡ 2) (is : e ≡ get_or items 0 e) (isn : f ≡ get_or items 1 f) (v : value s (expr_of e) ≡ Some i) where
    along_first : way_from i (drop 1 a.lengths) (values s (exprs_of (drop 1 items))) ≡ place_in a (values s (exprs_of items))
    along_first =
        let lt : 0 < length items = omega arith in
        let same : 0 * get_or a.lengths 0 0 + i ≡ i = omega arith in
        subst (λ at. way_from at (drop 1 a.lengths) (values s (exprs_of (drop 1 items))) ≡ place_in a (values s (exprs_of items))) same (turn_goes_on a s items 0 0 there refl e i lt is v)

    pub second_some : IsSome (value s (expr_of f))
    second_some =
        let g = found a (values s (exprs_of items)) there in
        let lt : 1 < length items = omega arith in
        subst IsSome (sym (turn s a.lengths items 1 i g.at f lt isn (along_first ∙ g.place)).is) refl

    pub second_inside : 1 < length a.lengths
    second_inside =
        let g = found a (values s (exprs_of items)) there in
        let lt : 1 < length items = omega arith in
        (turn s a.lengths items 1 i g.at f lt isn (along_first ∙ g.place)).inside

    pub row_below : i * get_or a.lengths 1 0 < length a.values
    row_below = let lt : 1 < length items = omega arith in product_below a s items 1 i there along_first f lt isn

    pub two_below : (j : ℕ) → value s (expr_of f) ≡ Some j → i * get_or a.lengths 1 0 + j < length a.values
    two_below j w = let lt : 1 < length items = omega arith in turn_below a s items 1 i there along_first f j lt isn w

    pub two_place_is : (j : ℕ) → value s (expr_of f) ≡ Some j → place_in a (values s (exprs_of items)) ≡ Some (i * get_or a.lengths 1 0 + j)
    two_place_is j w =
        let lt : 1 < length items = omega arith in
        let le : length items ≤ 1 + 1 = omega arith in
        way_ends a s items (1 + 1) (i * get_or a.lengths 1 0 + j) there (turn_goes_on a s items 1 i there along_first f j lt isn w) le
