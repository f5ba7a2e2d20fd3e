-- Cells side by side: their bits, their values, and their entries in a table.
use Rattle.std.proofs.Common.{w64, ℕ, zero, suc, ◌≡◌, ◌≢◌, ◌+◌, ◌-◌, ◌*◌, ◌/◌, ◌%◌, ◌^◌, ◌<◌, ◌≤◌, ◌⊎◌, inl, inr, List, [], ◌∷◌, ◌++◌, length, take, drop, Option, Some, refl, sym, ap, ◌∙◌, subst, arith, mul_comm}
use Rattle.std.specs.Prelude.{slice_index, slice_set, bit_or, bit_and, max, min}
use Rattle.std.specs.Int.{bit_at}
use Rattle.std.proofs.lemmas.Bool.{cases_lt}
use Rattle.std.proofs.lemmas.List.{length-set, length-take-le, length-drop, get_or-take, get_or-drop, get_or-set_same, set-set, set-get_or, set_comm}
use Rattle.std.proofs.Math.Nat.{mul-sub, mod-eq_of_lt, pow-le-pow_right}
use Rattle.std.proofs.lemmas.Nat.{pow-add, pow_pos}
use Rattle.std.proofs.lemmas.Nat.Bits.{ones_shr, bit_at-zero, bit_at_or, bit_at_and, bit_at_set_same, bit_at_set_other, bit_at-lt, bit_at_mask_inside, bit_at_mask_below, bit_at_mask_above, same_from_bits}
use Rattle.store.specs.Kept.{overlaid}
use Rattle.store.proofs.Writing.{overlaid_none, overlaid_more}
use Rattle.lower_op.specs.Stretches.{written}
use Rattle.overlay_pages.specs.Over.{writes_in, written_over, set_beside, IsRow}
use Rattle.overlay_pages.specs.Table.{Table, number_at, bit, spot, slot, slots, IsSound, setting, StandFrom, setting_row}
use Rattle.overlay_pages.proofs.Tables.{inside, same_or_not, slot_set, spot_within, sound_setting, slots_setting}
use Rattle.overlay_pages.proofs.Overlays.{over_set}

-- ---- entries of a table

pub length_beside : (os : List (Option ℕ)) (first : ℕ) (ns : List ℕ) → length (set_beside os first ns) ≡ length os
length_beside os first [] = refl
length_beside os first (n ∷ ns) = length_beside (slice_set os first (Some n)) (first + 1) ns ∙ length-set os first (Some n)

-- numbers, and others behind them
pub beside_both : (os : List (Option ℕ)) (first : ℕ) (ns ms : List ℕ) → set_beside os first (ns ++ ms) ≡ set_beside (set_beside os first ns) (first + length ns) ms
beside_both os first [] ms = ap (λ p. set_beside os p ms) (omega arith)
beside_both os first (n ∷ ns) ms =
    beside_both (slice_set os first (Some n)) (first + 1) ns ms
    ∙ ap (λ p. set_beside (set_beside (slice_set os first (Some n)) (first + 1) ns) p ms) (omega arith)

-- an entry that lies apart from them may be set before or behind
pub beside_near : (os : List (Option ℕ)) (first : ℕ) (ns : List ℕ) (near : ℕ) (o : Option ℕ) → ((k : ℕ) → k < length ns → first + k ≢ near) → slice_set (set_beside os first ns) near o ≡ set_beside (slice_set os near o) first ns
beside_near os first [] near o apart = refl
beside_near os first (n ∷ ns) near o apart =
    beside_near (slice_set os first (Some n)) (first + 1) ns near o (λ k lt e. apart (suc k) (omega arith) (omega arith))
    ∙ ap (λ l. set_beside l (first + 1) ns) (set_comm os first near (Some n) o (λ e. apart 0 (omega arith) (omega arith)))

-- cells under a table
pub over_beside : (os : List (Option ℕ)) (cells : List ℕ) (first : ℕ) (ns : List ℕ) → length os ≡ length cells → written_over (writes_in (set_beside os first ns)) cells ≡ written first ns (written_over (writes_in os) cells)
over_beside os cells first [] e = refl
over_beside os cells first (n ∷ ns) e =
    over_beside (slice_set os first (Some n)) cells (first + 1) ns (length-set os first (Some n) ∙ e)
    ∙ ap (written (first + 1) ns) (over_set os cells first n e)

-- ---- bits

-- one bit more below a run of them
one_more : (m r l : ℕ) → r + suc l ≤ 64 → bit_or (bit_or m (1 * 2 ^ r % 2 ^ 64)) (2 ^ (suc r + l) - 2 ^ suc r) ≡ bit_or m (2 ^ (r + suc l) - 2 ^ r)
one_more m r l fits = same_from_bits (bit_or (bit_or m (1 * 2 ^ r % 2 ^ 64)) (2 ^ (suc r + l) - 2 ^ suc r)) (bit_or m (2 ^ (r + suc l) - 2 ^ r)) (λ i.
    bit_at_or (bit_or m (1 * 2 ^ r % 2 ^ 64)) (2 ^ (suc r + l) - 2 ^ suc r) i
    ∙ go i (same_or_not i r) (cases_lt i r) (cases_lt i (r + suc l))
    ∙ sym (bit_at_or m (2 ^ (r + suc l) - 2 ^ r) i))
  where
    go : (i : ℕ) → (i ≡ r) ⊎ (i ≢ r) → (i < r) ⊎ (r ≤ i) → (i < r + suc l) ⊎ (r + suc l ≤ i)
        → max (bit_at (bit_or m (1 * 2 ^ r % 2 ^ 64)) i) (bit_at (2 ^ (suc r + l) - 2 ^ suc r) i) ≡ max (bit_at m i) (bit_at (2 ^ (r + suc l) - 2 ^ r) i)
    go i (inl e) a b =
        let one : bit_at (bit_or m (1 * 2 ^ r % 2 ^ 64)) i ≡ 1 = ap (bit_at (bit_or m (1 * 2 ^ r % 2 ^ 64))) e ∙ bit_at_set_same w64 m r (omega arith) in
        let none : bit_at (2 ^ (suc r + l) - 2 ^ suc r) i ≡ 0 = bit_at_mask_below (suc r) (suc r + l) i (omega arith) in
        let all : bit_at (2 ^ (r + suc l) - 2 ^ r) i ≡ 1 = bit_at_mask_inside r (r + suc l) i (omega arith) (omega arith) in
        let few = bit_at-lt m i in
        omega arith
    go i (inr ne) (inl lt) b =
        let same : bit_at (bit_or m (1 * 2 ^ r % 2 ^ 64)) i ≡ bit_at m i = bit_at_set_other w64 m r (omega arith) i ne in
        let none : bit_at (2 ^ (suc r + l) - 2 ^ suc r) i ≡ 0 = bit_at_mask_below (suc r) (suc r + l) i (omega arith) in
        let nothing : bit_at (2 ^ (r + suc l) - 2 ^ r) i ≡ 0 = bit_at_mask_below r (r + suc l) i lt in
        omega arith
    go i (inr ne) (inr le) (inl lt) =
        let same : bit_at (bit_or m (1 * 2 ^ r % 2 ^ 64)) i ≡ bit_at m i = bit_at_set_other w64 m r (omega arith) i ne in
        let one : bit_at (2 ^ (suc r + l) - 2 ^ suc r) i ≡ 1 = bit_at_mask_inside (suc r) (suc r + l) i (omega arith) (omega arith) in
        let all : bit_at (2 ^ (r + suc l) - 2 ^ r) i ≡ 1 = bit_at_mask_inside r (r + suc l) i le lt in
        omega arith
    go i (inr ne) (inr le) (inr past) =
        let same : bit_at (bit_or m (1 * 2 ^ r % 2 ^ 64)) i ≡ bit_at m i = bit_at_set_other w64 m r (omega arith) i ne in
        let none : bit_at (2 ^ (suc r + l) - 2 ^ suc r) i ≡ 0 = bit_at_mask_above (suc r) (suc r + l) i (omega arith) in
        let nothing : bit_at (2 ^ (r + suc l) - 2 ^ r) i ≡ 0 = bit_at_mask_above r (r + suc l) i past in
        omega arith

-- a run of ones, as it is made
pub ones_are : (from count : ℕ) → 1 ≤ count → from + count ≤ 64 → 18446744073709551615 / 2 ^ (64 - count) * 2 ^ from % 18446744073709551616 ≡ 2 ^ (from + count) - 2 ^ from
ones_are from count some few =
    ap (λ n. n * 2 ^ from % 2 ^ 64) low
    ∙ ap (λ n. n % 2 ^ 64) product
    ∙ mod-eq_of_lt less
  where
    low : 18446744073709551615 / 2 ^ (64 - count) ≡ 2 ^ count - 1
    low = ones_shr 64 (64 - count) (omega arith) ∙ ap (λ n. 2 ^ n - 1) (let e : 64 - (64 - count) ≡ count = omega arith in e)

    product : (2 ^ count - 1) * 2 ^ from ≡ 2 ^ (from + count) - 2 ^ from
    product =
        mul_comm (2 ^ count - 1) (2 ^ from)
        ∙ mul-sub (2 ^ from) (2 ^ count) 1
        ∙ (let e = pow-add 2 from count in let o : 2 ^ from * 1 ≡ 2 ^ from = omega arith in omega arith)

    less : 2 ^ (from + count) - 2 ^ from < 2 ^ 64
    less =
        let more : 2 ^ (from + count) ≤ 2 ^ 64 = pow-le-pow_right (let z : 0 < 2 = omega arith in z) few in
        let some_low = pow_pos from in
        omega arith

-- where a mask has all of a run of ones, each bit of them is set
ones_set : (m from count : ℕ) → bit_and m (2 ^ (from + count) - 2 ^ from) ≡ 2 ^ (from + count) - 2 ^ from → (i : ℕ) → from ≤ i → i < from + count → bit_at m i ≡ 1
ones_set m from count e i le lt =
    let one : bit_at (2 ^ (from + count) - 2 ^ from) i ≡ 1 = bit_at_mask_inside from (from + count) i le lt in
    let both : min (bit_at m i) (bit_at (2 ^ (from + count) - 2 ^ from) i) ≡ bit_at (2 ^ (from + count) - 2 ^ from) i = sym (bit_at_and m (2 ^ (from + count) - 2 ^ from) i) ∙ ap (λ n. bit_at n i) e in
    let few = bit_at-lt m i in
    omega arith

-- and such a mask has all of them
set_ones : (m from count : ℕ) → ((i : ℕ) → from ≤ i → i < from + count → bit_at m i ≡ 1) → bit_and m (2 ^ (from + count) - 2 ^ from) ≡ 2 ^ (from + count) - 2 ^ from
set_ones m from count all = same_from_bits (bit_and m (2 ^ (from + count) - 2 ^ from)) (2 ^ (from + count) - 2 ^ from) (λ i. bit_at_and m (2 ^ (from + count) - 2 ^ from) i ∙ go i (cases_lt i from) (cases_lt i (from + count)))
  where
    go : (i : ℕ) → (i < from) ⊎ (from ≤ i) → (i < from + count) ⊎ (from + count ≤ i) → min (bit_at m i) (bit_at (2 ^ (from + count) - 2 ^ from) i) ≡ bit_at (2 ^ (from + count) - 2 ^ from) i
    go i (inl before) b =
        let none : bit_at (2 ^ (from + count) - 2 ^ from) i ≡ 0 = bit_at_mask_below from (from + count) i before in
        omega arith
    go i (inr le) (inl lt) =
        let set = all i le lt in
        let one : bit_at (2 ^ (from + count) - 2 ^ from) i ≡ 1 = bit_at_mask_inside from (from + count) i le lt in
        omega arith
    go i (inr le) (inr past) =
        let none : bit_at (2 ^ (from + count) - 2 ^ from) i ≡ 0 = bit_at_mask_above from (from + count) i past in
        omega arith

-- where a mask has none of a run of ones, no bit of them is set
none_set : (m from count : ℕ) → bit_and m (2 ^ (from + count) - 2 ^ from) ≡ 0 → (i : ℕ) → from ≤ i → i < from + count → bit_at m i ≡ 0
none_set m from count e i le lt =
    let one : bit_at (2 ^ (from + count) - 2 ^ from) i ≡ 1 = bit_at_mask_inside from (from + count) i le lt in
    let both : min (bit_at m i) (bit_at (2 ^ (from + count) - 2 ^ from) i) ≡ bit_at 0 i = sym (bit_at_and m (2 ^ (from + count) - 2 ^ from) i) ∙ ap (λ n. bit_at n i) e in
    let zero : bit_at 0 i ≡ 0 = bit_at-zero i in
    let few = bit_at-lt m i in
    omega arith

-- ---- cells of one page

-- cells that are written one after another
abbrev settings : Table → ℕ → List ℕ → Table
settings t first [] = t
settings t first (n ∷ ns) = settings (setting t first n) (first + 1) ns

-- such tables are sound, and their entries are set one after another
settled : (t : Table) (first : ℕ) (ns : List ℕ) → IsSound t → first + length ns ≤ t.size → ((k : ℕ) → k < length ns → 0 < number_at t (first + k)) → IsSound (settings t first ns) × (slots (settings t first ns) ≡ set_beside (slots t) first ns)
settled t first [] s le there = (s, refl)
settled t first (n ∷ ns) s le there =
    let here : 0 < number_at t first = subst (λ (p : ℕ). 0 < number_at t p) (let e : first + 0 ≡ first = omega arith in e) (there 0 (omega arith)) in
    let rest = settled (setting t first n) (first + 1) ns (sound_setting t s first n (omega arith) here) (omega arith)
    (λ k lt. subst (λ (p : ℕ). 0 < number_at t p) (let e : first + suc k ≡ first + 1 + k = omega arith in e) (there (suc k) (omega arith))) in
    (rest.0, rest.1 ∙ ap (λ l. set_beside l (first + 1) ns) (slots_setting t s first n (omega arith) here))

-- cells of a page from a bit and a spot on are written at once
abbrev row_from : Table → ℕ → ℕ → ℕ → List ℕ → Table
row_from t page from start ns =
    record {
      size = t.size;
      masks = slice_set t.masks page (bit_or (slice_index t.masks page) (2 ^ (from + length ns) - 2 ^ from));
      numbers = t.numbers;
      entered = t.entered;
      values = overlaid t.values start ns;
    }

-- to write no cell changes nothing
row_none : (t : Table) (page from start : ℕ) → row_from t page from start [] ≡ t
row_none t page from start = λ i. record { size = t.size; masks = masks i; numbers = t.numbers; entered = t.entered; values = overlaid_none t.values start i }
  where
    none : (m a b : ℕ) → a ≡ b → bit_or m (2 ^ a - 2 ^ b) ≡ m
    none m a b e = same_from_bits (bit_or m (2 ^ a - 2 ^ b)) m (λ i. bit_at_or m (2 ^ a - 2 ^ b) i ∙ least i (clear i (cases_lt i b)))
      where
        clear : (i : ℕ) → (i < b) ⊎ (b ≤ i) → bit_at (2 ^ a - 2 ^ b) i ≡ 0
        clear i (inl lt) = bit_at_mask_below b a i lt
        clear i (inr le) = bit_at_mask_above b a i (omega arith)

        least : (i : ℕ) → bit_at (2 ^ a - 2 ^ b) i ≡ 0 → max (bit_at m i) (bit_at (2 ^ a - 2 ^ b) i) ≡ bit_at m i
        least i z = omega arith

    masks : slice_set t.masks page (bit_or (slice_index t.masks page) (2 ^ (from + 0) - 2 ^ from)) ≡ t.masks
    masks = ap (slice_set t.masks page) (none (slice_index t.masks page) (from + 0) from (omega arith)) ∙ set-get_or t.masks page 0

-- one cell, and those behind it
row_more : (t : Table) (first n : ℕ) (ns : List ℕ) → first / 64 < length t.masks → spot t first < length t.values → first % 64 + suc (length ns) ≤ 64 → setting_row t first (n ∷ ns) ≡ row_from (setting t first n) (first / 64) (suc (first % 64)) (suc (spot t first)) ns
row_more t first n ns page inside few = λ i. record { size = t.size; masks = masks i; numbers = t.numbers; entered = t.entered; values = overlaid_more t.values (spot t first) n ns inside i }
  where
    masks : slice_set t.masks (first / 64) (bit_or (slice_index t.masks (first / 64)) (2 ^ (first % 64 + suc (length ns)) - 2 ^ (first % 64))) ≡ slice_set (setting t first n).masks (first / 64) (bit_or (slice_index (setting t first n).masks (first / 64)) (2 ^ (suc (first % 64) + length ns) - 2 ^ suc (first % 64)))
    masks =
        ap (slice_set t.masks (first / 64)) (sym (one_more (slice_index t.masks (first / 64)) (first % 64) (length ns) few))
        ∙ sym (set-set t.masks (first / 64) (bit_or (slice_index t.masks (first / 64)) (1 * 2 ^ (first % 64) % 2 ^ 64)) (bit_or (bit_or (slice_index t.masks (first / 64)) (1 * 2 ^ (first % 64) % 2 ^ 64)) (2 ^ (suc (first % 64) + length ns) - 2 ^ suc (first % 64))))
        ∙ ap (λ m. slice_set (setting t first n).masks (first / 64) (bit_or m (2 ^ (suc (first % 64) + length ns) - 2 ^ suc (first % 64)))) (sym (get_or-set_same t.masks (first / 64) (bit_or (slice_index t.masks (first / 64)) (1 * 2 ^ (first % 64) % 2 ^ 64)) 0 page))

-- at once is one after another
row_is : (t : Table) (first : ℕ) (ns : List ℕ) → first / 64 < length t.masks → spot t first + length ns ≤ length t.values → first % 64 + length ns ≤ 64 → setting_row t first ns ≡ settings t first ns
row_is t first [] page inside few = row_none t (first / 64) (first % 64) (spot t first)
row_is t first (n ∷ []) page inside few = row_more t first n [] page (omega arith) (omega arith) ∙ row_none (setting t first n) (first / 64) (suc (first % 64)) (suc (spot t first))
row_is t first (n ∷ m ∷ ms) page inside few =
    row_more t first n (m ∷ ms) page (omega arith) (omega arith)
    ∙ (λ i. row_from (setting t first n) (pages i) (froms i) (spots i) (m ∷ ms))
    ∙ row_is (setting t first n) (first + 1) (m ∷ ms)
    (omega (arith, length-set t.masks (first / 64) (bit_or (slice_index t.masks (first / 64)) (1 * 2 ^ (first % 64) % 2 ^ 64))))
    (let s = spots in let l = length-set t.values (spot t first) n in omega arith)
    (omega arith)
  where
    pages : first / 64 ≡ (first + 1) / 64
    pages = omega arith

    froms : suc (first % 64) ≡ (first + 1) % 64
    froms = omega arith

    spots : suc (spot t first) ≡ spot (setting t first n) (first + 1)
    spots = (let e : suc (64 * number_at t first + first % 64) ≡ 64 * number_at t first + suc (first % 64) = omega arith in e) ∙ (λ i. 64 * slice_index t.numbers (pages i) + froms i)

-- a table by its parts
pub row_by_parts : (t u : Table) (first : ℕ) (ns : List ℕ) → u.size ≡ t.size → u.masks ≡ (setting_row t first ns).masks → u.numbers ≡ t.numbers → u.entered ≡ t.entered → u.values ≡ (setting_row t first ns).values → u ≡ setting_row t first ns
row_by_parts t u first ns a b c d e = λ i. record { size = a i; masks = b i; numbers = c i; entered = d i; values = e i }

-- so a row of cells is written
pub row_settled : (t : Table) (first : ℕ) (ns : List ℕ) → IsSound t → first + length ns ≤ t.size → first % 64 + length ns ≤ 64 → 0 < number_at t first → IsSound (setting_row t first ns) × (slots (setting_row t first ns) ≡ set_beside (slots t) first ns)
row_settled t first ns s le few there =
    let q = inside t.numbers (first / 64) there in
    let masked = s.masked in
    let entered = s.listed (first / 64) there in
    let below = entered.below in
    let number = entered.number in
    let sized = s.sized in
    let all = settled t first ns s le (λ k lt. let same : first / 64 ≡ (first + k) / 64 = omega arith in subst (λ (p : ℕ). 0 < slice_index t.numbers p) same there) in
    subst (λ (u : Table). IsSound u × (slots u ≡ set_beside (slots t) first ns)) (sym (row_is t first ns (omega arith) (omega arith) few)) all

-- ---- a row of cells that stand side by side

-- the bits of cells of one page, by its mask
pub bits_set : (t : Table) (first count : ℕ) → first % 64 + count ≤ 64 → bit_and (slice_index t.masks (first / 64)) (2 ^ (first % 64 + count) - 2 ^ (first % 64)) ≡ 2 ^ (first % 64 + count) - 2 ^ (first % 64) → (k : ℕ) → k < count → bit t (first + k) ≡ 1
bits_set t first count few e k lt =
    let page : (first + k) / 64 ≡ first / 64 = omega arith in
    let rest : (first + k) % 64 ≡ first % 64 + k = omega arith in
    (λ i. bit_at (slice_index t.masks (page i)) (rest i))
    ∙ ones_set (slice_index t.masks (first / 64)) (first % 64) count e (first % 64 + k) (omega arith) (omega arith)

pub mask_set : (t : Table) (first count : ℕ) → first % 64 + count ≤ 64 → ((k : ℕ) → k < count → bit t (first + k) ≡ 1) → bit_and (slice_index t.masks (first / 64)) (2 ^ (first % 64 + count) - 2 ^ (first % 64)) ≡ 2 ^ (first % 64 + count) - 2 ^ (first % 64)
mask_set t first count few all = set_ones (slice_index t.masks (first / 64)) (first % 64) count (λ i le lt.
    let k = i - first % 64 in
    let page : first / 64 ≡ (first + k) / 64 = omega arith in
    let rest : i ≡ (first + k) % 64 = omega arith in
    (λ j. bit_at (slice_index t.masks (page j)) (rest j)) ∙ all k (omega arith))

-- the same of cells that are not written
pub bits_clear : (t : Table) (first count : ℕ) → first % 64 + count ≤ 64 → bit_and (slice_index t.masks (first / 64)) (2 ^ (first % 64 + count) - 2 ^ (first % 64)) ≡ 0 → (k : ℕ) → k < count → bit t (first + k) ≡ 0
bits_clear t first count few e k lt =
    let page : (first + k) / 64 ≡ first / 64 = omega arith in
    let rest : (first + k) % 64 ≡ first % 64 + k = omega arith in
    (λ i. bit_at (slice_index t.masks (page i)) (rest i))
    ∙ none_set (slice_index t.masks (first / 64)) (first % 64) count e (first % 64 + k) (omega arith) (omega arith)

-- the cells of one page behind those that are not written
pub clear_on : (t : Table) (first done part : ℕ) → ((k : ℕ) → k < done → bit t (first + k) ≡ 0) → ((k : ℕ) → k < part → bit t (first + done + k) ≡ 0) → (k : ℕ) → k < done + part → bit t (first + k) ≡ 0
clear_on t first done part before here k lt = go (cases_lt k done)
  where
    go : (k < done) ⊎ (done ≤ k) → bit t (first + k) ≡ 0
    go (inl less) = before k less
    go (inr le) =
        let i = k - done in
        let place : first + k ≡ first + done + i = omega arith in
        ap (bit t) place ∙ here i (omega arith)

-- the cells of one page behind those that stand so
pub stand_on : (t : Table) (first done part start : ℕ) → StandFrom t first done start → (first + done) % 64 + part ≤ 64 → spot t (first + done) ≡ start + done → ((k : ℕ) → k < part → bit t (first + done + k) ≡ 1) → StandFrom t first (done + part) start
stand_on t first done part start before few at set k lt = go (cases_lt k done)
  where
    go : (k < done) ⊎ (done ≤ k) → (bit t (first + k) ≡ 1) × (spot t (first + k) ≡ start + k)
    go (inl less) = before k less
    go (inr le) =
        let i = k - done in
        let place : first + k ≡ first + done + i = omega arith in
        let page : (first + k) / 64 ≡ (first + done) / 64 = omega arith in
        let rest : (first + k) % 64 ≡ (first + done) % 64 + i = omega arith in
        let there : 64 * number_at t (first + done) + ((first + done) % 64 + i) ≡ start + k = omega arith in
        (ap (bit t) place ∙ set i (omega arith), (λ j. 64 * slice_index t.numbers (page j) + rest j) ∙ there)

-- the values of such cells are all there
stand_within : (t : Table) → IsSound t → (first count start : ℕ) → StandFrom t first count start → 0 < count → start + count ≤ length t.values
stand_within t s first count start stand some =
    let last = stand (count - 1) (omega arith) in
    let at = last.1 in
    let number = (s.within (first + (count - 1)) last.0).1 in
    let below = spot_within t s (first + (count - 1)) number in
    omega arith

-- and no page stands behind them
spot_inside : (t : Table) → IsSound t → (place : ℕ) → spot t place ≤ length t.values
spot_inside t s place = go (number_at t place) refl
  where
    go : (n : ℕ) → number_at t place ≡ n → spot t place ≤ length t.values
    go zero e = let sized = s.sized in omega arith
    go (suc n) e = let below = spot_within t s place (omega arith) in omega arith

-- so where the first stands, all of them do
pub stand_room : (t : Table) → IsSound t → (first count start : ℕ) → start ≡ spot t first → StandFrom t first count start → start + count ≤ length t.values
stand_room t s first count start at stand = go count refl
  where
    go : (n : ℕ) → count ≡ n → start + count ≤ length t.values
    go zero e = let below = spot_inside t s first in omega arith
    go (suc n) e = stand_within t s first count start stand (omega arith)

-- and the spots of those that stand so are numbers of 64 bits
pub stand_fits : (t : Table) → IsSound t → (first count start : ℕ) → start < 2 ^ 64 → length t.values < 2 ^ 64 → StandFrom t first count start → start + count < 2 ^ 64
stand_fits t s first count start fits long stand = go count refl
  where
    go : (n : ℕ) → count ≡ n → start + count < 2 ^ 64
    go zero e = omega arith
    go (suc n) e = let within = stand_within t s first count start stand (omega arith) in omega arith

-- so they are a row
pub row_stands : (t : Table) (first count start : ℕ) (row : List ℕ) → StandFrom t first count start → row ≡ take count (drop start t.values) → start + count ≤ length t.values → IsRow (slot t) first count row
row_stands t first count start row stand is le =
    record {
      long = ap (λ (l : List ℕ). length l) is ∙ length-take-le count (drop start t.values) (omega (arith, length-drop start t.values));
      each = λ k lt.
          let here = stand k lt in
          slot_set t (first + k) here.0
          ∙ ap (λ n. Some (slice_index t.values n)) here.1
          ∙ ap Some (sym (ap (λ (l : List ℕ). slice_index l k) is ∙ get_or-take count (drop start t.values) k 0 lt ∙ get_or-drop start t.values k 0));
    }
