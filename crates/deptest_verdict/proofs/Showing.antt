-- What is shown of pairs, one after another.
use Rattle.std.specs.Prelude.{ℕ, zero, suc, Bool, true, false, nat_lt, ◌≡◌, ◌↔◌, ◌≤◌, ◌+◌, IsTrue, IfOk, List, [], ◌∷◌, ◌++◌, length, take, drop, slice_get, Option, Some, None, MatchOption, IfSome, ◌-◌, All}
use Rattle.std.proofs.Math.Seq.{take-length}
use Rattle.std.proofs.lemmas.List.{take_more, length-drop}
use Rattle.std.proofs.lemmas.List.Elements.{All-push}
use Rattle.std.proofs.lemmas.Option.{same_Some, slice_get_within, get_or_from_slice_get}
use Rattle.std.proofs.lemmas.Bool.Decides.{Decides-ltb, nat_tests}
use Rattle.std.proofs.Common.{inl, inr, refl, sym, ap, ◌∙◌, subst, arith}
use Rattle.std.specs.declared.result.Result.{Result}
use Rattle.std.proofs.lemmas.Result.{IfOk-weaker}
use Rattle.semantics.specs.Loops.Order.{Distance}
use Rattle.pairtest.specs.declared.access.Access.{Access}
use Rattle.pairtest.specs.declared.access.Nest.{Nest}
use Rattle.ktree.specs.declared.place.Place.{Place}
use Rattle.pairtest.specs.DirectionVectors.{AllWithin}
use Rattle.pairtest_cover.specs.Covered.{IsOrdered}
use Rattle.deptest_verdict.specs.declared.pairs.Behind.{Behind}
use Rattle.deptest_verdict.specs.declared.pairs.Pair.{Pair}
use Rattle.deptest_verdict.specs.Pairs.{IsPair, IsShown, AreShownBefore, IsFirstBehind, IsFirstPair, IsLargeBehind, AreNamed, StandsAt}
use Rattle.deptest_verdict.specs.Refused.{IsTooLarge}

pub shown_of_pair : {E : Type 0} (nest : Nest) (sinks : List Distance) (x y : Access) (r : Result Bool E) → IsPair x y → IfOk r (λ b. IsTrue b ↔ IsOrdered nest sinks x y) → IfOk r (λ b. IsTrue b ↔ IsShown nest sinks x y)
shown_of_pair nest sinks x y r pair h =
    IfOk-weaker r (λ b. IsTrue b ↔ IsOrdered nest sinks x y) (λ b. IsTrue b ↔ IsShown nest sinks x y)
    (λ b k. (λ (t : IsTrue b). λ (p : IsPair x y). k.0 t, λ (s : IsShown nest sinks x y). k.1 (s pair))) h

-- one access more is shown to be independent
pub one_more : (nest : Nest) (sinks : List Distance) (x y : Access) (ys : List Access) (j : ℕ) → slice_get ys j ≡ Some y → All (IsShown nest sinks x) (take j ys) → IsShown nest sinks x y → All (IsShown nest sinks x) (take (j + 1) ys)
one_more nest sinks x y ys j e h s =
    subst (All (IsShown nest sinks x)) (sym (take_more ys j y (slice_get_within ys j y e) ∙ ap (λ (z : Access). take j ys ++ z ∷ []) (get_or_from_slice_get ys j y y e)))
    (All-push (IsShown nest sinks x) (take j ys) y h s)

-- all of them are
pub all_behind : (nest : Nest) (sinks : List Distance) (x : Access) (ys : List Access) (j : ℕ) → j ≡ length ys → All (IsShown nest sinks x) (take j ys) → All (IsShown nest sinks x) ys
all_behind nest sinks x ys j e h = subst (All (IsShown nest sinks x)) (take-length ys) (subst (λ (n : ℕ). All (IsShown nest sinks x) (take n ys)) e h)

pub found_behind : (nest : Nest) (sinks : List Distance) (x y : Access) (ys : List Access) (j : ℕ) → slice_get ys j ≡ Some y → All (IsShown nest sinks x) (take j ys) → (IsShown nest sinks x y → ⊥) → IsFirstBehind nest sinks x ys j
found_behind nest sinks x y ys j e h s = record { before = h; access = y; there = e; not_shown = s }

-- one access more is shown to be independent of itself and those behind it
pub shown_more : (nest : Nest) (sinks : List Distance) (x : Access) (xs : List Access) (i : ℕ) → slice_get xs i ≡ Some x → AreShownBefore nest sinks xs i → IsTrue x.is_counted → All (IsShown nest sinks x) (drop i xs) → AreShownBefore nest sinks xs (i + 1)
shown_more nest sinks x xs i e h counted s k y l f = go (nat_lt k i) refl
  where
    go : (b : Bool) → nat_lt k i ≡ b → IsTrue y.is_counted × All (IsShown nest sinks y) (drop k xs)
    go true t = h k y ((Decides-ltb k i).0 t) f
    go false t =
        let same : i ≡ k = grind (arith, nat_tests) in
        let found : Some x ≡ Some y = sym e ∙ ap (slice_get xs) same ∙ f in
        subst (λ (n : ℕ). IsTrue y.is_counted × All (IsShown nest sinks y) (drop n xs)) same
        (subst (λ (z : Access). IsTrue z.is_counted × All (IsShown nest sinks z) (drop i xs)) (same_Some x y found) (counted, s))

pub pair_found : (nest : Nest) (sinks : List Distance) (x : Access) (xs : List Access) (i j : ℕ) → slice_get xs i ≡ Some x → AreShownBefore nest sinks xs i → IsFirstBehind nest sinks x (drop i xs) j → IsFirstPair nest sinks xs i (i + j)
pair_found nest sinks x xs i j e h f = record { before = h; access = x; there = e; behind = j; second = refl; first = f }

-- the accesses from one on, as a part of the list
pub rest_is : (xs : List Access) (i : ℕ) → i ≤ length xs → take (length xs - i) (drop i xs) ≡ drop i xs
rest_is xs i le = ap (λ (n : ℕ). take n (drop i xs)) (sym (length-drop i xs)) ∙ take-length (drop i xs)

pub some_found : (P : Type 0) (Q : Behind → Type 0) (o : Option Behind) (j : Behind) → MatchOption o P Q → o ≡ Some j → Q j
some_found P Q None j h e = absurd (cc e)
some_found P Q (Some k) j h e = subst Q (same_Some k j e) h

pub none_found : (P : Type 0) (Q : Behind → Type 0) (o : Option Behind) → MatchOption o P Q → ((j : Behind) → o ≡ Some j → ⊥) → P
none_found P Q None h f = h
none_found P Q (Some k) h f = absurd (f k refl)

-- the elements from one on
pub from_on : {A : Type 0} (xs : List A) (i j n : ℕ) → n ≡ i + j → slice_get (drop i xs) j ≡ slice_get xs n
from_on xs zero j n e = ap (slice_get xs) (sym (the_same e))
  where
    the_same : n ≡ 0 + j → n ≡ j
    the_same e = omega (arith, e)
from_on [] (suc i) j n e = refl
from_on (x ∷ xs) (suc i) j zero e = absurd (omega (arith, e))
from_on (x ∷ xs) (suc i) j (suc n) e = from_on xs i j n (omega (arith, e))

-- an access found among those from another on
stands_from : (xs : List Access) (i j : ℕ) (place : Place) → StandsAt (drop i xs) j place → StandsAt xs (i + j) place
stands_from xs i j place (x, there, at) = (x, sym (from_on xs i j (i + j) refl) ∙ there, at)

-- ---- too large numbers

pub large_behind : (nest : Nest) (sinks : List Distance) (x y : Access) (ys : List Access) (j : ℕ) → slice_get ys j ≡ Some y → All (IsShown nest sinks x) (take j ys) → IsPair x y → (AllWithin nest x y → ⊥) → IsLargeBehind nest sinks x ys
large_behind nest sinks x y ys j e h p l = record { behind = j; other = y; there = e; shown = h; pair = p; large = l }

pub too_large : (nest : Nest) (sinks : List Distance) (x : Access) (xs : List Access) (i : ℕ) (place : Place) → slice_get xs i ≡ Some x → AreShownBefore nest sinks xs i → IsLargeBehind nest sinks x (drop i xs) → place ≡ x.place
    → IsTooLarge nest sinks xs place
too_large nest sinks x xs i place e h k at =
    record { first = i; before = h; one = x; one_is = e; large = inr k; at = at }

pub not_counted : (nest : Nest) (sinks : List Distance) (x : Access) (xs : List Access) (i : ℕ) (place : Place) → slice_get xs i ≡ Some x → AreShownBefore nest sinks xs i → x.is_counted ≡ false → place ≡ x.place → IsTooLarge nest sinks xs place
not_counted nest sinks x xs i place e h k at = record { first = i; before = h; one = x; one_is = e; large = inl k; at = at }

-- ---- a pair's array and places

pub are_named : (xs : List Access) (x : Access) (i j : ℕ) (pair : Pair) → slice_get xs i ≡ Some x → StandsAt (drop i xs) j pair.second_place → pair.first ≡ i → pair.second ≡ i + j → pair.array ≡ x.array → pair.first_place ≡ x.place → AreNamed xs pair
are_named xs x i j pair e other first second array place =
    let k = stands_from xs i j pair.second_place other in
    record {
      one = x;
      other = k.0;
      one_is = ap (slice_get xs) first ∙ e;
      other_is = ap (slice_get xs) second ∙ k.1;
      array = array;
      one_place = place;
      other_place = k.2;
    }

pub some_stands : (P : Behind → Type 0) (o : Option Behind) (j : Behind) → IfSome o P → o ≡ Some j → P j
some_stands P None j h e = absurd (cc e)
some_stands P (Some k) j h e = subst P (same_Some k j e) h
