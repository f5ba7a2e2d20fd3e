-- Tables stay sound, and hold what was written.
use Rattle.std.proofs.Common.{w64, ℕ, zero, suc, ◌≡◌, ◌≢◌, ◌+◌, ◌-◌, ◌*◌, ◌/◌, ◌%◌, ◌^◌, ◌<◌, ◌≤◌, ◌⊎◌, inl, inr, Bool, true, false, cond, List, [], ◌∷◌, ◌++◌, map, length, get_or, replicate, Some, None, refl, sym, ap, ◌∙◌, subst, arith}
use Rattle.std.specs.Prelude.{◌==◌, nat_lt, slice_index, slice_set, bit_or}
use Rattle.std.specs.List.{range_with_len}
use Rattle.std.specs.Int.{bit_at}
use Rattle.std.proofs.lemmas.Bool.{eq-eqb, eqb-true, eqb-false, ltb-true, ltb-false}
use Rattle.std.proofs.lemmas.List.{length-set, length-append, length-replicate, length_push, get_or-set_same, get_or-set_other, get_or_append_left, get_or_push, get_or_past, ext_get_or}
use Rattle.std.proofs.lemmas.List.FromFn.{length-map-range_with_len, get_or-map-range_with_len}
use Rattle.std.proofs.lemmas.Nat.Bits.{bit_at_set_same, bit_at_set_other, bit_at-zero, bit_at-lt}
use Rattle.overlay_pages.specs.Over.{writes_in}
use Rattle.overlay_pages.specs.Table.{Table, number_at, bit, spot, slot, slots, absent, IsEntered, IsSound, entering, setting}

-- a number that is not 0 stands in its list
pub inside : (ns : List ℕ) (i : ℕ) → 0 < slice_index ns i → i < length ns
inside [] i lt = absurd (omega arith)
inside (n ∷ ns) zero lt = omega arith
inside (n ∷ ns) (suc i) lt = let r = inside ns i lt in omega arith

absent_some : (ns : List ℕ) (i : ℕ) → i < length ns → slice_index ns i ≡ 0 → 0 < absent ns
absent_some [] i lt e = absurd (omega arith)
absent_some (zero ∷ ns) zero lt e = omega arith
absent_some (suc n ∷ ns) zero lt e = absurd (omega arith)
absent_some (zero ∷ ns) (suc i) lt e = omega arith
absent_some (suc n ∷ ns) (suc i) lt e = absent_some ns i (omega arith) e

absent_fewer : (ns : List ℕ) (i m : ℕ) → i < length ns → slice_index ns i ≡ 0 → suc (absent (slice_set ns i (suc m))) ≡ absent ns
absent_fewer [] i m lt e = absurd (omega arith)
absent_fewer (zero ∷ ns) zero m lt e = refl
absent_fewer (suc n ∷ ns) zero m lt e = absurd (omega arith)
absent_fewer (zero ∷ ns) (suc i) m lt e = ap suc (absent_fewer ns i m (omega arith) e)
absent_fewer (suc n ∷ ns) (suc i) m lt e = absent_fewer ns i m (omega arith) e

absent_all : (ns : List ℕ) → ((i : ℕ) → slice_index ns i ≡ 0) → absent ns ≡ length ns
absent_all [] h = refl
absent_all (zero ∷ ns) h = ap suc (absent_all ns (λ i. h (suc i)))
absent_all (suc n ∷ ns) h = let e = h 0 in absurd (omega arith)

pub same_or_not : (i j : ℕ) → (i ≡ j) ⊎ (i ≢ j)
same_or_not i j = go (i == j) refl
  where
    go : (b : Bool) → (i == j) ≡ b → (i ≡ j) ⊎ (i ≢ j)
    go true e = inl (eqb-true i j e)
    go false e = inr (eqb-false i j e)

pub is_one : (n : ℕ) → n < 2 → (n ≡ 1) ⊎ (n ≡ 0)
is_one zero lt = inr refl
is_one (suc zero) lt = inl refl
is_one (suc (suc n)) lt = absurd (omega arith)

pub bit_is : (t : Table) (p : ℕ) → (bit t p ≡ 1) ⊎ (bit t p ≡ 0)
bit_is t p = is_one (bit t p) (bit_at-lt (slice_index t.masks (p / 64)) (p % 64))

-- what is written at a place, by its bit
pub slot_set : (t : Table) (p : ℕ) → bit t p ≡ 1 → slot t p ≡ Some (slice_index t.values (spot t p))
slot_set t p e = ap (λ b. cond b (Some (slice_index t.values (spot t p))) None) (eq-eqb (bit t p) 1 e)

pub slot_clear : (t : Table) (p : ℕ) → bit t p ≡ 0 → slot t p ≡ None
slot_clear t p e = ap (λ n. cond (n == 1) (Some (slice_index t.values (spot t p))) None) e

-- the place of a written cell is within the values
pub spot_before : (t : Table) → IsSound t → (p : ℕ) → 0 < number_at t p → spot t p < 64 * suc (length t.entered)
spot_before t s p lt =
    let e = s.listed (p / 64) lt in
    let i = e.below in
    let n = e.number in
    omega arith

pub spot_within : (t : Table) → IsSound t → (p : ℕ) → 0 < number_at t p → spot t p < length t.values
spot_within t s p lt =
    let b = spot_before t s p lt in
    let z = s.sized in
    omega arith

-- a table of cells of which none is written
pub sound_empty : (t : Table) → length t.masks ≡ length t.numbers → t.size ≤ 64 * length t.numbers → 64 * suc (length t.numbers) < 2 ^ 64 → t.entered ≡ [] → 64 ≤ length t.values → ((q : ℕ) → slice_index t.numbers q ≡ 0) → ((p : ℕ) → bit t p ≡ 0) → IsSound t
sound_empty t masked covers small none sized zeros clear =
    let nothing : length t.entered ≡ 0 = ap (λ (l : List ℕ). length l) none in
    record {
      masked = masked;
      covers = covers;
      small = small;
      counted = let a = absent_all t.numbers zeros in omega arith;
      sized = omega arith;
      listed = λ q lt. let z = zeros q in absurd (omega arith);
      known = λ k lt. absurd (omega arith);
      within = λ p e. let z = clear p in absurd (omega arith);
    }

pub at_range : {X : Type 0} (f : ℕ → X) (n i : ℕ) (d : X) → i < n → get_or (map f (range_with_len 0 n)) i d ≡ f i
at_range f n i d lt = get_or-map-range_with_len f 0 n i i d lt (omega arith)

pub length_slots : (t : Table) → length (slots t) ≡ t.size
length_slots t = length-map-range_with_len (slot t) 0 t.size

pub slots_empty : (t : Table) → ((p : ℕ) → bit t p ≡ 0) → slots t ≡ replicate t.size None
slots_empty t clear = go 0 t.size
  where
    go : (a n : ℕ) → map (slot t) (range_with_len a n) ≡ replicate n None
    go a zero = refl
    go a (suc n) = λ i. slot_clear t a (clear a) i ∷ go (a + 1) n i

same_slots : (t u : Table) → t.size ≡ u.size → ((p : ℕ) → slot t p ≡ slot u p) → slots t ≡ slots u
same_slots t u e h = go 0 t.size ∙ ap (λ n. map (slot u) (range_with_len 0 n)) e
  where
    go : (a n : ℕ) → map (slot t) (range_with_len a n) ≡ map (slot u) (range_with_len a n)
    go a zero = refl
    go a (suc n) = λ i. h a i ∷ go (a + 1) n i

-- what the list of a table says of a place is what the table says
pub slots_say : (t : Table) → IsSound t → (p : ℕ) → writes_in (slots t) p ≡ slot t p
slots_say t s p = go (nat_lt p t.size) refl
  where
    go : (b : Bool) → nat_lt p t.size ≡ b → writes_in (slots t) p ≡ slot t p
    go true e = at_range (slot t) t.size p None (ltb-true p t.size e)
    go false e =
        let past = ltb-false p t.size e in
        let len = length_slots t in
        get_or_past (slots t) p None (omega arith) ∙ sym (none (bit_is t p))
      where
        none : (bit t p ≡ 1) ⊎ (bit t p ≡ 0) → slot t p ≡ None
        none (inl one) = let w = s.within p one in let past = ltb-false p t.size e in absurd (omega arith)
        none (inr z) = slot_clear t p z

-- a page that is entered
module _ (t : Table) (s : IsSound t) (q : ℕ) (lt : q < length t.numbers) (new : slice_index t.numbers q ≡ 0) where
  pub room_to_enter : length t.entered < length t.numbers
  room_to_enter = let a = absent_some t.numbers q lt new in let c = s.counted in omega arith

  here : slice_index (slice_set t.numbers q (suc (length t.entered))) q ≡ suc (length t.entered)
  here = get_or-set_same t.numbers q (suc (length t.entered)) 0 lt

  other : (r : ℕ) → r ≢ q → slice_index (slice_set t.numbers q (suc (length t.entered))) r ≡ slice_index t.numbers r
  other r ne = get_or-set_other t.numbers q r (suc (length t.entered)) 0 ne

  pub number_there : 0 < slice_index (entering t q).numbers q
  number_there = let h = here in omega arith

  listed_then : (r : ℕ) → 0 < slice_index (entering t q).numbers r → IsEntered (entering t q) r
  listed_then r more = go (same_or_not r q)
    where
      go : (r ≡ q) ⊎ (r ≢ q) → IsEntered (entering t q) r
      go (inl e) =
          record {
            at = length t.entered;
            below = let l = length_push t.entered q in omega arith;
            number = ap (λ n. slice_index (entering t q).numbers n) e ∙ here;
            names = get_or_push t.entered q 0 (length t.entered) refl ∙ sym e;
          }
      go (inr ne) =
          let o = other r ne in
          let was = s.listed r (omega arith) in
          let below = was.below in
          record {
            at = was.at;
            below = let l = length_push t.entered q in omega arith;
            number = o ∙ was.number;
            names = get_or_append_left t.entered (q ∷ []) 0 was.at below ∙ was.names;
          }

  known_then : (k : ℕ) → k < length (t.entered ++ q ∷ []) → slice_index (entering t q).numbers (slice_index (t.entered ++ q ∷ []) k) ≡ suc k
  known_then k below = go (same_or_not k (length t.entered))
    where
      go : (k ≡ length t.entered) ⊎ (k ≢ length t.entered) → slice_index (entering t q).numbers (slice_index (t.entered ++ q ∷ []) k) ≡ suc k
      go (inl e) = ap (slice_index (entering t q).numbers) (get_or_push t.entered q 0 k (sym e)) ∙ here ∙ ap suc (sym e)
      go (inr ne) =
          let less : k < length t.entered = (let l = length_push t.entered q in omega arith) in
          let old = s.known k less in
          let apart : slice_index t.entered k ≢ q = λ e. let z : slice_index t.numbers (slice_index t.entered k) ≡ 0 = ap (slice_index t.numbers) e ∙ new in absurd (omega arith) in
          ap (slice_index (entering t q).numbers) (get_or_append_left t.entered (q ∷ []) 0 k less) ∙ other (slice_index t.entered k) apart ∙ old

  pub sound_entering : IsSound (entering t q)
  sound_entering =
      record {
        masked = s.masked ∙ sym (length-set t.numbers q (suc (length t.entered)));
        covers = let l = length-set t.numbers q (suc (length t.entered)) in let c = s.covers in omega arith;
        small = let l = length-set t.numbers q (suc (length t.entered)) in let c = s.small in omega arith;
        counted =
            let l = length-set t.numbers q (suc (length t.entered)) in
            let f = absent_fewer t.numbers q (length t.entered) lt new in
            let p = length_push t.entered q in
            let c = s.counted in
            omega arith;
        sized =
            let more = 64 * suc (suc (length t.entered)) - length t.values in
            let z : ℕ = 0 in
            let a = length-append t.values (replicate more z) in
            let r : length (replicate more z) ≡ more = length-replicate more z in
            let p = length_push t.entered q in
            omega arith;
        listed = listed_then;
        known = known_then;
        within = λ p e. let w = s.within p e in (w.0, more p w.1);
      }
    where
      more : (p : ℕ) → 0 < number_at t p → 0 < number_at (entering t q) p
      more p less = go (same_or_not (p / 64) q)
        where
          go : (p / 64 ≡ q) ⊎ (p / 64 ≢ q) → 0 < number_at (entering t q) p
          go (inl e) = let n = number_there in subst (λ (r : ℕ). 0 < slice_index (entering t q).numbers r) (sym e) n
          go (inr ne) = let o = other (p / 64) ne in omega arith

  slot_entering : (p : ℕ) → slot (entering t q) p ≡ slot t p
  slot_entering p = go (bit_is t p)
    where
      go : (bit t p ≡ 1) ⊎ (bit t p ≡ 0) → slot (entering t q) p ≡ slot t p
      go (inl one) =
          let w = s.within p one in
          let apart : p / 64 ≢ q = λ e. let z : slice_index t.numbers (p / 64) ≡ 0 = ap (slice_index t.numbers) e ∙ new in absurd (omega arith) in
          let same : spot (entering t q) p ≡ spot t p = ap (λ n. 64 * n + p % 64) (other (p / 64) apart) in
          slot_set (entering t q) p one
          ∙ ap (λ n. Some (slice_index (t.values ++ replicate (64 * suc (suc (length t.entered)) - length t.values) 0) n)) same
          ∙ ap Some (get_or_append_left t.values (replicate (64 * suc (suc (length t.entered)) - length t.values) 0) 0 (spot t p) (spot_within t s p w.1))
          ∙ sym (slot_set t p one)
      go (inr z) = slot_clear (entering t q) p z ∙ sym (slot_clear t p z)

  pub slots_entering : slots (entering t q) ≡ slots t
  slots_entering = same_slots (entering t q) t refl slot_entering

-- a cell that is written
module _ (t : Table) (s : IsSound t) (p n : ℕ) (less : p < t.size) (there : 0 < number_at t p) where
  mask : ℕ
  mask = slice_index t.masks (p / 64)

  masks_reach : p / 64 < length t.masks
  masks_reach = let c = s.covers in let m = s.masked in let i = inside t.numbers (p / 64) there in omega arith

  bit_here : bit (setting t p n) p ≡ 1
  bit_here =
      ap (λ m. bit_at m (p % 64)) (get_or-set_same t.masks (p / 64) (bit_or (slice_index t.masks (p / 64)) (1 * 2 ^ (p % 64) % 2 ^ 64)) 0 masks_reach)
      ∙ bit_at_set_same w64 (slice_index t.masks (p / 64)) (p % 64) (omega arith)

  bit_other : (r : ℕ) → r ≢ p → bit (setting t p n) r ≡ bit t r
  bit_other r ne = go (same_or_not (r / 64) (p / 64))
    where
      go : (r / 64 ≡ p / 64) ⊎ (r / 64 ≢ p / 64) → bit (setting t p n) r ≡ bit t r
      go (inl e) =
          let apart : r % 64 ≢ p % 64 = λ f. ne (let z : r ≡ p = omega arith in z) in
          ap (λ m. bit_at (slice_index (setting t p n).masks m) (r % 64)) e
          ∙ ap (λ m. bit_at m (r % 64)) (get_or-set_same t.masks (p / 64) (bit_or (slice_index t.masks (p / 64)) (1 * 2 ^ (p % 64) % 2 ^ 64)) 0 masks_reach)
          ∙ bit_at_set_other w64 (slice_index t.masks (p / 64)) (p % 64) (omega arith) (r % 64) apart
          ∙ ap (λ m. bit_at (slice_index t.masks m) (r % 64)) (sym e)
      go (inr other) = ap (λ m. bit_at m (r % 64)) (get_or-set_other t.masks (p / 64) (r / 64) (bit_or (slice_index t.masks (p / 64)) (1 * 2 ^ (p % 64) % 2 ^ 64)) 0 other)

  pub sound_setting : IsSound (setting t p n)
  sound_setting =
      record {
        masked = length-set t.masks (p / 64) (bit_or (slice_index t.masks (p / 64)) (1 * 2 ^ (p % 64) % 2 ^ 64)) ∙ s.masked;
        covers = s.covers;
        small = s.small;
        counted = s.counted;
        sized = let l = length-set t.values (spot t p) n in let z = s.sized in omega arith;
        listed = λ q lt. let e = s.listed q lt in record { at = e.at; below = e.below; number = e.number; names = e.names };
        known = s.known;
        within = λ r e. go r e (same_or_not r p);
      }
    where
      go : (r : ℕ) → bit (setting t p n) r ≡ 1 → (r ≡ p) ⊎ (r ≢ p) → (r < t.size) × (0 < number_at t r)
      go r e (inl same) = subst (λ (i : ℕ). (i < t.size) × (0 < number_at t i)) (sym same) (less, there)
      go r e (inr ne) = s.within r (sym (bit_other r ne) ∙ e)

  apart : (r : ℕ) → r ≢ p → 0 < number_at t r → spot t r ≢ spot t p
  apart r ne more e =
      let a = s.listed (r / 64) more in
      let b = s.listed (p / 64) there in
      let na = a.number in
      let nb = b.number in
      let numbers : number_at t r ≡ number_at t p = omega arith in
      let rests : r % 64 ≡ p % 64 = omega arith in
      let ks : a.at ≡ b.at = omega arith in
      let pages : r / 64 ≡ p / 64 = sym a.names ∙ ap (slice_index t.entered) ks ∙ b.names in
      ne (let z : r ≡ p = omega arith in z)

  slot_here : slot (setting t p n) p ≡ Some n
  slot_here = slot_set (setting t p n) p bit_here ∙ ap Some (get_or-set_same t.values (spot t p) n 0 (spot_within t s p there))

  slot_other : (r : ℕ) → r ≢ p → slot (setting t p n) r ≡ slot t r
  slot_other r ne = go (bit_is t r)
    where
      go : (bit t r ≡ 1) ⊎ (bit t r ≡ 0) → slot (setting t p n) r ≡ slot t r
      go (inl one) =
          let w = s.within r one in
          slot_set (setting t p n) r (bit_other r ne ∙ one)
          ∙ ap Some (get_or-set_other t.values (spot t p) (spot t r) n 0 (apart r ne w.1))
          ∙ sym (slot_set t r one)
      go (inr z) = slot_clear (setting t p n) r (bit_other r ne ∙ z) ∙ sym (slot_clear t r z)

  pub slots_setting : slots (setting t p n) ≡ slice_set (slots t) p (Some n)
  slots_setting =
      ext_get_or None (slots (setting t p n)) (slice_set (slots t) p (Some n))
      (length_slots (setting t p n) ∙ sym (length-set (slots t) p (Some n) ∙ length_slots t))
      (λ r below. let len = length_slots (setting t p n) in at_range (slot (setting t p n)) t.size r None (omega arith) ∙ go r (omega arith) (same_or_not r p))
    where
      go : (r : ℕ) → r < t.size → (r ≡ p) ⊎ (r ≢ p) → slot (setting t p n) r ≡ get_or (slice_set (slots t) p (Some n)) r None
      go r below (inl e) =
          let len = length_slots t in
          subst (λ (i : ℕ). slot (setting t p n) i ≡ get_or (slice_set (slots t) p (Some n)) i None) (sym e)
          (slot_here ∙ sym (get_or-set_same (slots t) p (Some n) None (omega arith)))
      go r below (inr ne) =
          slot_other r ne
          ∙ sym (at_range (slot t) t.size r None below)
          ∙ sym (get_or-set_other (slots t) p r (Some n) None ne)

-- tables by their parts
pub entering_is : (t u : Table) (q : ℕ) → u.size ≡ t.size → u.masks ≡ t.masks → u.numbers ≡ slice_set t.numbers q (suc (length t.entered)) → u.entered ≡ t.entered ++ q ∷ [] → u.values ≡ t.values ++ replicate (64 * suc (suc (length t.entered)) - length t.values) 0 → u ≡ entering t q
entering_is t u q a b c d e = λ i. record { size = a i; masks = b i; numbers = c i; entered = d i; values = e i }

pub setting_is : (t u : Table) (p n : ℕ) → u.size ≡ t.size → u.masks ≡ (setting t p n).masks → u.numbers ≡ t.numbers → u.entered ≡ t.entered → u.values ≡ (setting t p n).values → u ≡ setting t p n
setting_is t u p n a b c d e = λ i. record { size = a i; masks = b i; numbers = c i; entered = d i; values = e i }

-- tables of zeros
zero_at : (n q : ℕ) → slice_index (replicate n 0) q ≡ 0
zero_at zero q = refl
zero_at (suc n) zero = refl
zero_at (suc n) (suc q) = zero_at n q

pub zeros_hold : (n : ℕ) (ns : List ℕ) → ns ≡ replicate n 0 → (q : ℕ) → slice_index ns q ≡ 0
zeros_hold n ns e q = ap (λ (l : List ℕ). slice_index l q) e ∙ zero_at n q

pub bits_of_zeros : (t : Table) (n : ℕ) → t.masks ≡ replicate n 0 → (p : ℕ) → bit t p ≡ 0
bits_of_zeros t n e p = ap (λ m. bit_at m (p % 64)) (zeros_hold n t.masks e (p / 64)) ∙ bit_at-zero (p % 64)

-- pages that are left while the first so many are cleared
pub record Clearing (t : Table) (i : ℕ) (numbers masks : List ℕ) : Type 0 where
  pub numbered : length numbers ≡ length t.numbers
  pub masked : length masks ≡ length t.numbers
  pub left : (q : ℕ) → 0 < slice_index numbers q → (slice_index numbers q ≡ slice_index t.numbers q) × (i < slice_index numbers q)
  pub bits : (p : ℕ) → bit_at (slice_index masks (p / 64)) (p % 64) ≡ 1 → 0 < slice_index numbers (p / 64)

pub clearing_from : (t : Table) → IsSound t → Clearing t 0 t.numbers t.masks
clearing_from t s = record { numbered = refl; masked = s.masked; left = λ q lt. (refl, lt); bits = λ p e. (s.within p e).1 }

-- the page that is cleared next is there
pub page_there : (t : Table) → IsSound t → (i : ℕ) → i < length t.entered → slice_index t.entered i < length t.numbers
page_there t s i lt = let k = s.known i lt in inside t.numbers (slice_index t.entered i) (omega arith)

module _ (t : Table) (s : IsSound t) (i : ℕ) (lt : i < length t.entered) (numbers masks : List ℕ) (c : Clearing t i numbers masks) where
  abbrev page : ℕ
  page = slice_index t.entered i

  gone : slice_index (slice_set numbers page 0) page ≡ 0
  gone = let there = page_there t s i lt in let n = c.numbered in get_or-set_same numbers page 0 0 (omega arith)

  left_then : (q : ℕ) → 0 < slice_index (slice_set numbers page 0) q → (q ≡ page) ⊎ (q ≢ page) → (slice_index (slice_set numbers page 0) q ≡ slice_index t.numbers q) × (i + 1 < slice_index (slice_set numbers page 0) q)
  left_then q more (inl e) = let z : slice_index (slice_set numbers page 0) q ≡ 0 = ap (slice_index (slice_set numbers page 0)) e ∙ gone in absurd (omega arith)
  left_then q more (inr ne) =
      let o : slice_index (slice_set numbers page 0) q ≡ slice_index numbers q = get_or-set_other numbers page q 0 0 ne in
      let was = c.left q (omega arith) in
      let same = was.0 in
      let past = was.1 in
      let entered = s.listed q (omega arith) in
      let number = entered.number in
      let later : entered.at ≢ i = λ e. ne (sym entered.names ∙ ap (slice_index t.entered) e) in
      (o ∙ same, omega arith)

  bits_then : (p : ℕ) → bit_at (slice_index (slice_set masks page 0) (p / 64)) (p % 64) ≡ 1 → (p / 64 ≡ page) ⊎ (p / 64 ≢ page) → 0 < slice_index (slice_set numbers page 0) (p / 64)
  bits_then p one (inl e) =
      let there = page_there t s i lt in
      let n = c.masked in
      let z : bit_at (slice_index (slice_set masks page 0) (p / 64)) (p % 64) ≡ 0 = ap (λ q. bit_at (slice_index (slice_set masks page 0) q) (p % 64)) e ∙ ap (λ m. bit_at m (p % 64)) (get_or-set_same masks page 0 0 (omega arith)) ∙ bit_at-zero (p % 64) in
      absurd (omega arith)
  bits_then p one (inr ne) =
      let was = c.bits p (sym (ap (λ m. bit_at m (p % 64)) (get_or-set_other masks page (p / 64) 0 0 ne)) ∙ one) in
      let o : slice_index (slice_set numbers page 0) (p / 64) ≡ slice_index numbers (p / 64) = get_or-set_other numbers page (p / 64) 0 0 ne in
      omega arith

  pub clearing_on : Clearing t (i + 1) (slice_set numbers (slice_index t.entered i) 0) (slice_set masks (slice_index t.entered i) 0)
  clearing_on =
      record {
        numbered = length-set numbers page 0 ∙ c.numbered;
        masked = length-set masks page 0 ∙ c.masked;
        left = λ q more. left_then q more (same_or_not q page);
        bits = λ p e. bits_then p e (same_or_not (p / 64) page);
      }

-- once all are cleared, nothing is left
pub cleared_numbers : (t : Table) → IsSound t → (i : ℕ) → length t.entered ≤ i → (numbers masks : List ℕ) → Clearing t i numbers masks → (q : ℕ) → slice_index numbers q ≡ 0
cleared_numbers t s i le numbers masks c q = go (slice_index numbers q) refl
  where
    go : (n : ℕ) → slice_index numbers q ≡ n → slice_index numbers q ≡ 0
    go zero e = e
    go (suc n) e =
        let was = c.left q (omega arith) in
        let same = was.0 in
        let past = was.1 in
        let entered = s.listed q (omega arith) in
        let number = entered.number in
        let below = entered.below in
        absurd (omega arith)

pub cleared_bits : (t : Table) → IsSound t → (i : ℕ) → length t.entered ≤ i → (numbers masks : List ℕ) → Clearing t i numbers masks → (p : ℕ) → bit_at (slice_index masks (p / 64)) (p % 64) ≡ 0
cleared_bits t s i le numbers masks c p = go (is_one (bit_at (slice_index masks (p / 64)) (p % 64)) (bit_at-lt (slice_index masks (p / 64)) (p % 64)))
  where
    go : (bit_at (slice_index masks (p / 64)) (p % 64) ≡ 1) ⊎ (bit_at (slice_index masks (p / 64)) (p % 64) ≡ 0) → bit_at (slice_index masks (p / 64)) (p % 64) ≡ 0
    go (inl one) = let more = c.bits p one in let z = cleared_numbers t s i le numbers masks c (p / 64) in absurd (omega arith)
    go (inr z) = z
