-- The accesses that write, by their numbers, and pairs of one that reads with them.
use Rattle.std.specs.Prelude.{ℕ, zero, suc, Bool, true, false, nat_lt, ◌≡◌, ◌⊎◌, ◌<◌, ◌≤◌, ◌+◌, ◌-◌, List, [], ◌∷◌, ◌++◌, length, take, drop, slice_get, Some, All}
use Rattle.std.proofs.Common.{refl, sym, ap, ◌∙◌, subst, inl, inr, arith, get_or}
use Rattle.std.proofs.lemmas.List.Elements.{All-from_get_or}
use Rattle.std.proofs.lemmas.Option.{same_Some, slice_get_within, slice_get-get_or}
use Rattle.std.proofs.lemmas.Bool.Decides.{Decides-ltb, nat_tests}
use Rattle.semantics.specs.Loops.Order.{Distance}
use Rattle.pairtest.specs.declared.access.Access.{Access}
use Rattle.pairtest.specs.declared.access.Mode.TheVariants.{Writes}
use Rattle.pairtest.specs.declared.access.Nest.{Nest}
use Rattle.pairtest.specs.DirectionVectors.{AllWithin}
use Rattle.pairtest_cover.specs.Covered.{IsOrdered}
use Rattle.deptest_verdict.specs.Pairs.{IsPair, IsShown, IsFirstBehind, IsLargeBehind, AreWritesBefore, AreWrites}
use Rattle.deptest_verdict.proofs.Showing.{from_on}

-- ---- lists by their numbers

by_number : {X : Type 0} (P : X → Type 0) (xs : List X) (d : X) → ((j : ℕ) (x : X) → slice_get xs j ≡ Some x → P x) → All P xs
by_number P xs d h = All-from_get_or P xs d (λ i lt. h i (get_or xs i d) (slice_get-get_or xs i d lt))

taken : {X : Type 0} (xs : List X) (n j : ℕ) (x : X) → slice_get (take n xs) j ≡ Some x → (j < n) × (slice_get xs j ≡ Some x)
taken xs zero j x e = absurd (cc e)
taken [] (suc n) j x e = absurd (cc e)
taken (y ∷ ys) (suc n) zero x e = (omega arith, e)
taken (y ∷ ys) (suc n) (suc j) x e = let t = taken ys n j x e in (let l = t.0 in omega arith, t.1)

there_before : (ns : List ℕ) (m k n : ℕ) → slice_get ns k ≡ Some n → slice_get (ns ++ m ∷ []) k ≡ Some n
there_before [] m k n e = absurd (cc e)
there_before (i ∷ ns) m zero n e = e
there_before (i ∷ ns) m (suc k) n e = there_before ns m k n e

there_last : (ns : List ℕ) (m : ℕ) → slice_get (ns ++ m ∷ []) (length ns) ≡ Some m
there_last [] m = refl
there_last (i ∷ ns) m = there_last ns m

old_or_last : (ns : List ℕ) (m k n : ℕ) → slice_get (ns ++ m ∷ []) k ≡ Some n → (slice_get ns k ≡ Some n) ⊎ ((k ≡ length ns) × (n ≡ m))
old_or_last [] m zero n e = inr (refl, sym (same_Some m n e))
old_or_last [] m (suc k) n e = absurd (cc e)
old_or_last (i ∷ ns) m zero n e = inl e
old_or_last (i ∷ ns) m (suc k) n e = go (old_or_last ns m k n e)
  where
    go : (slice_get ns k ≡ Some n) ⊎ ((k ≡ length ns) × (n ≡ m)) → (slice_get ns k ≡ Some n) ⊎ ((suc k ≡ suc (length ns)) × (n ≡ m))
    go (inl o) = inl o
    go (inr l) = inr (ap suc l.0, l.1)

-- ---- the numbers of those that write, one access after another

pub none_before : (xs : List Access) → AreWritesBefore xs [] 0
none_before xs = record { each = λ n x lt e w. absurd (omega (arith, lt)); within = λ k n e. absurd (cc e); rising = λ k l m n lt e f. absurd (cc e) }

pub one_reads : (xs : List Access) (ns : List ℕ) (i : ℕ) (x : Access) → slice_get xs i ≡ Some x → (x.mode ≡ Writes → ⊥) → AreWritesBefore xs ns i → AreWritesBefore xs ns (i + 1)
one_reads xs ns i x there reads h =
    record {
      each = λ n y lt e w. go n y lt e w (nat_lt n i) refl;
      within = λ k n e. let l = h.within k n e in omega (arith, l);
      rising = h.rising;
    }
  where
    go : (n : ℕ) (y : Access) → n < i + 1 → slice_get xs n ≡ Some y → y.mode ≡ Writes → (b : Bool) → nat_lt n i ≡ b → (k : ℕ) × (slice_get ns k ≡ Some n)
    go n y lt e w true t = h.each n y ((Decides-ltb n i).0 t) e w
    go n y lt e w false t =
        let same : n ≡ i = grind (arith, nat_tests) in
        let found : Some y ≡ Some x = sym e ∙ ap (slice_get xs) same ∙ there in
        absurd (reads (ap (λ (a : Access). a.mode) (sym (same_Some y x found)) ∙ w))

pub one_writes : (xs : List Access) (ns : List ℕ) (i : ℕ) → AreWritesBefore xs ns i → AreWritesBefore xs (ns ++ i ∷ []) (i + 1)
one_writes xs ns i h =
    record { each = λ n y lt e w. go n y lt e w (nat_lt n i) refl; within = λ k n e. below k n (old_or_last ns i k n e); rising = λ k l m n lt e f. up k l m n lt (old_or_last ns i k m e) (old_or_last ns i l n f) }
  where
    go : (n : ℕ) (y : Access) → n < i + 1 → slice_get xs n ≡ Some y → y.mode ≡ Writes → (b : Bool) → nat_lt n i ≡ b → (k : ℕ) × (slice_get (ns ++ i ∷ []) k ≡ Some n)
    go n y lt e w true t = let at = h.each n y ((Decides-ltb n i).0 t) e w in (at.0, there_before ns i at.0 n at.1)
    go n y lt e w false t =
        let same : i ≡ n = grind (arith, nat_tests) in
        (length ns, there_last ns i ∙ ap Some same)

    below : (k n : ℕ) → (slice_get ns k ≡ Some n) ⊎ ((k ≡ length ns) × (n ≡ i)) → n < i + 1
    below k n (inl o) = let l = h.within k n o in omega (arith, l)
    below k n (inr l) = let e = l.1 in omega (arith, e)

    up : (k l m n : ℕ) → k < l → (slice_get ns k ≡ Some m) ⊎ ((k ≡ length ns) × (m ≡ i)) → (slice_get ns l ≡ Some n) ⊎ ((l ≡ length ns) × (n ≡ i)) → m < n
    up k l m n lt (inl o) (inl p) = h.rising k l m n lt o p
    up k l m n lt (inl o) (inr q) = let b = h.within k m o in let e = q.1 in omega (arith, b, e)
    up k l m n lt (inr q) (inl p) = let b = slice_get_within ns l n p in let e = q.0 in absurd (omega (arith, lt, b, e))
    up k l m n lt (inr q) (inr r) = let e = q.0 in let f = r.0 in absurd (omega (arith, lt, e, f))

-- ---- pairs of an access that reads

-- from a number on, those of the first so many that write are shown to be independent of an access
abbrev pub AreShownWrites : Nest → List Distance → Access → ℕ → List Access → List ℕ → ℕ → Type 0
AreShownWrites nest sinks x from xs ns k = (l n : ℕ) (y : Access) → l < k → slice_get ns l ≡ Some n → from ≤ n → slice_get xs n ≡ Some y → IsShown nest sinks x y

module _ (nest : Nest) (sinks : List Distance) (x : Access) (reads : x.mode ≡ Writes → ⊥) (from : ℕ) (xs : List Access) (ns : List ℕ) (are : AreWrites xs ns) where
  unless_it_writes : (y : Access) → (y.mode ≡ Writes → IsShown nest sinks x y) → IsShown nest sinks x y
  unless_it_writes y h p = go p.1
    where
      go : (x.mode ≡ Writes) ⊎ (y.mode ≡ Writes) → IsOrdered nest sinks x y
      go (inl w) = absurd (reads w)
      go (inr w) = h w p

  among : (j : ℕ) (y : Access) → slice_get (drop from xs) j ≡ Some y → slice_get xs (from + j) ≡ Some y
  among j y e = sym (from_on xs from j (from + j) refl) ∙ e

  its_number : (j : ℕ) (y : Access) → slice_get (drop from xs) j ≡ Some y → y.mode ≡ Writes → (k : ℕ) × (slice_get ns k ≡ Some (from + j))
  its_number j y e w = are.each (from + j) y (slice_get_within xs (from + j) y (among j y e)) (among j y e) w

  pub none_behind : (k : ℕ) → k ≡ length ns → AreShownWrites nest sinks x from xs ns k → All (IsShown nest sinks x) (drop from xs)
  none_behind k end h =
      by_number (IsShown nest sinks x) (drop from xs) x
      (λ j y e. unless_it_writes y (λ w. let at = its_number j y e w in let b = slice_get_within ns at.0 (from + j) at.1 in h at.0 (from + j) y (omega (arith, b, end)) at.1 (omega arith) (among j y e)))

  before : (k n : ℕ) → slice_get ns k ≡ Some n → AreShownWrites nest sinks x from xs ns k → All (IsShown nest sinks x) (take (n - from) (drop from xs))
  before k n there h = by_number (IsShown nest sinks x) (take (n - from) (drop from xs)) x (λ j y e. unless_it_writes y (λ w. shown j y (taken (drop from xs) (n - from) j y e) w))
    where
      shown : (j : ℕ) (y : Access) → (j < n - from) × (slice_get (drop from xs) j ≡ Some y) → y.mode ≡ Writes → IsShown nest sinks x y
      shown j y t w = go (nat_lt at.0 k) refl (nat_lt k at.0) refl
        where
          at : (l : ℕ) × (slice_get ns l ≡ Some (from + j))
          at = its_number j y t.1 w

          go : (b : Bool) → nat_lt at.0 k ≡ b → (d : Bool) → nat_lt k at.0 ≡ d → IsShown nest sinks x y
          go true lt d f = h at.0 (from + j) y ((Decides-ltb at.0 k).0 lt) at.1 (omega arith) (among j y t.1)
          go false lt true f = let r = are.rising k at.0 n (from + j) ((Decides-ltb k at.0).0 f) there at.1 in let l = t.0 in absurd (omega (arith, r, l))
          go false lt false f =
              let same : k ≡ at.0 = grind (arith, nat_tests) in
              let number : n ≡ from + j = same_Some n (from + j) (sym there ∙ ap (slice_get ns) same ∙ at.1) in
              let l = t.0 in absurd (omega (arith, number, l))

  pub its_place : (n : ℕ) (y : Access) → from ≤ n → slice_get xs n ≡ Some y → slice_get (drop from xs) (n - from) ≡ Some y
  its_place n y le e = from_on xs from (n - from) n (omega (arith, le)) ∙ e

  pub write_found : (k n : ℕ) (y : Access) → slice_get ns k ≡ Some n → from ≤ n → slice_get xs n ≡ Some y → AreShownWrites nest sinks x from xs ns k → (IsShown nest sinks x y → ⊥)
      → IsFirstBehind nest sinks x (drop from xs) (n - from)
  write_found k n y there le e h s = record { before = before k n there h; access = y; there = its_place n y le e; not_shown = s }

  pub write_large : (k n : ℕ) (y : Access) → slice_get ns k ≡ Some n → from ≤ n → slice_get xs n ≡ Some y → AreShownWrites nest sinks x from xs ns k → IsPair x y → (AllWithin nest x y → ⊥)
      → IsLargeBehind nest sinks x (drop from xs)
  write_large k n y there le e h p l = record { behind = n - from; other = y; there = its_place n y le e; shown = before k n there h; pair = p; large = l }

  pub passed_over : (k n : ℕ) → slice_get ns k ≡ Some n → n < from → AreShownWrites nest sinks x from xs ns k → AreShownWrites nest sinks x from xs ns (k + 1)
  passed_over k n there lt h l m y less e le f = go (nat_lt l k) refl
    where
      go : (b : Bool) → nat_lt l k ≡ b → IsShown nest sinks x y
      go true t = h l m y ((Decides-ltb l k).0 t) e le f
      go false t =
          let same : k ≡ l = grind (arith, nat_tests) in
          let number : n ≡ m = same_Some n m (sym there ∙ ap (slice_get ns) same ∙ e) in
          absurd (omega (arith, number, lt, le))

  pub one_shown : (k n : ℕ) (y : Access) → slice_get ns k ≡ Some n → slice_get xs n ≡ Some y → IsShown nest sinks x y → AreShownWrites nest sinks x from xs ns k → AreShownWrites nest sinks x from xs ns (k + 1)
  one_shown k n y there e s h l m z less d le f = go (nat_lt l k) refl
    where
      go : (b : Bool) → nat_lt l k ≡ b → IsShown nest sinks x z
      go true t = h l m z ((Decides-ltb l k).0 t) d le f
      go false t =
          let same : k ≡ l = grind (arith, nat_tests) in
          let number : n ≡ m = same_Some n m (sym there ∙ ap (slice_get ns) same ∙ d) in
          let access : y ≡ z = same_Some y z (sym e ∙ ap (slice_get xs) number ∙ f) in
          subst (IsShown nest sinks x) access s
