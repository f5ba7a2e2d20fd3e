-- Numbers that stand once, by those that were seen before.
use Rattle.std.specs.Prelude.{ℕ, ◌+◌, Bool, true, false, not, ◌&&◌, ◌||◌, ◌==◌, nat_eq, cond, ◌≡◌, ◌<◌, List, [], ◌∷◌, length, map, get_or, drop}
use Rattle.std.specs.List.{list_any}
use Rattle.std.specs.HashSet.{HashSet, IsEmpty}
use Rattle.pragma_mention.specs.Sets.{holds}
use Rattle.std.proofs.Common.{add-one, drop-cons, refl, sym, ap, ◌∙◌, arith}
use Rattle.std.proofs.lemmas.Bool.Decides.{nat_tests}
use Rattle.semantics.specs.Meaning.Agrees.{is_among}
use Rattle.semantics.specs.Directives.Naming.{are_distinct}

-- none of these was seen, or stands twice
abbrev pub fresh : (ℕ → Bool) → List ℕ → Bool
fresh seen [] = true
fresh seen (x ∷ xs) = not (seen x) && fresh (λ q. cond (nat_eq x q) true (seen q)) xs

pub fresh_same : (f g : ℕ → Bool) (xs : List ℕ) → ((q : ℕ) → f q ≡ g q) → fresh f xs ≡ fresh g xs
fresh_same f g [] e = refl
fresh_same f g (x ∷ xs) e =
    ap (λ b. not b && fresh (λ q. cond (nat_eq x q) true (f q)) xs) (e x)
    ∙ ap (λ b. not (g x) && b) (fresh_same (λ q. cond (nat_eq x q) true (f q)) (λ q. cond (nat_eq x q) true (g q)) xs (λ q. ap (cond (nat_eq x q) true) (e q)))

abbrev none_of : (ℕ → Bool) → List ℕ → Bool
none_of f [] = true
none_of f (x ∷ xs) = not (f x) && none_of f xs

shuffle : (e f a n : Bool) → (not (cond e true f) && (not a && n)) ≡ (not (e || a) && (not f && n))
shuffle true f a n = refl
shuffle false true true n = refl
shuffle false true false n = refl
shuffle false false true n = refl
shuffle false false false n = refl

swapped : (x y : ℕ) → nat_eq x y ≡ (y == x)
swapped x y = grind (arith, nat_tests)

none_more : (x : ℕ) (f : ℕ → Bool) (xs : List ℕ) → none_of (λ q. cond (nat_eq x q) true (f q)) xs ≡ (not (is_among xs x) && none_of f xs)
none_more x f [] = refl
none_more x f (y ∷ ys) =
    ap (λ b. not (cond (nat_eq x y) true (f y)) && b) (none_more x f ys) ∙ shuffle (nat_eq x y) (f y) (is_among ys x) (none_of f ys)
    ∙ ap (λ b. not (b || is_among ys x) && (not (f y) && none_of f ys)) (swapped x y)

regroup : (a b c d : Bool) → (a && ((b && c) && d)) ≡ ((a && c) && (b && d))
regroup true true c d = refl
regroup true false true d = refl
regroup true false false d = refl
regroup false b c d = refl

fresh_parts : (f : ℕ → Bool) (xs : List ℕ) → fresh f xs ≡ (none_of f xs && are_distinct xs)
fresh_parts f [] = refl
fresh_parts f (x ∷ xs) =
    ap (λ b. not (f x) && b) (fresh_parts (λ q. cond (nat_eq x q) true (f q)) xs)
    ∙ ap (λ b. not (f x) && (b && are_distinct xs)) (none_more x f xs)
    ∙ regroup (not (f x)) (not (is_among xs x)) (none_of f xs) (are_distinct xs)

none_seen : (xs : List ℕ) → none_of (λ q. false) xs ≡ true
none_seen [] = refl
none_seen (x ∷ xs) = none_seen xs

-- an empty set has none
pub none_held : {S : Type 0} (s : HashSet ℕ S) → IsEmpty s → (q : ℕ) → holds s q ≡ false
none_held s e q = ap (list_any (nat_eq q)) e

-- where nothing was seen they stand once
pub fresh_first : (f : ℕ → Bool) (xs : List ℕ) → ((q : ℕ) → f q ≡ false) → fresh f xs ≡ are_distinct xs
fresh_first f xs e = fresh_same f (λ q. false) xs e ∙ fresh_parts (λ q. false) xs ∙ ap (λ b. b && are_distinct xs) (none_seen xs)

module _ {X : Type 0} (number : X → ℕ) (xs : List X) (i : ℕ) (d : X) (lt : i < length xs) (seen : ℕ → Bool) (whole : Bool) (left : fresh seen (map number (drop i xs)) ≡ whole) where
  -- one that is new
  pub one_new : (now : ℕ → Bool) → true ≡ not (seen (number (get_or xs i d))) → ((q : ℕ) → now q ≡ cond (nat_eq (number (get_or xs i d)) q) true (seen q))
      → fresh now (map number (drop (i + 1) xs)) ≡ whole
  one_new now is same =
      let rest = map number (drop (i + 1) xs) in
      let more : ℕ → Bool = λ q. cond (nat_eq (number (get_or xs i d)) q) true (seen q) in
      let here : drop i xs ≡ get_or xs i d ∷ drop (i + 1) xs = rw add-one (drop-cons xs i d lt) in
      fresh_same now more rest same ∙ ap (λ b. b && fresh more rest) is ∙ sym (ap (λ ys. fresh seen (map number ys)) here) ∙ left
