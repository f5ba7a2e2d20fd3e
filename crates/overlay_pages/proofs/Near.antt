-- Slots of which the value of one stands beside the pages.
use Rattle.std.specs.Prelude.{ℕ, ◌≡◌, ◌≢◌, ◌⊎◌, ◌<◌, ◌≤◌, ◌^◌, List, Option, Some, None, length, slice_set}
use Rattle.std.proofs.Common.{sym, ap, ◌∙◌, subst, arith, inl, inr}
use Rattle.std.proofs.lemmas.Bool.{cases_lt}
use Rattle.std.proofs.lemmas.List.{length-set, get_or-set_same, get_or-set_other, get_or_past, set_past, set-get_or}
use Rattle.overlay_pages.specs.Over.{or_else, writes_in}
use Rattle.overlay_pages.specs.Table.{Table, slots, IsSound}
use Rattle.overlay_pages.proofs.Tables.{same_or_not, length_slots}

-- at its place stands this value
pub read_here : (os : List (Option ℕ)) (k v : ℕ) → k < length os → writes_in (slice_set os k (Some v)) k ≡ Some v
read_here os k v lt = get_or-set_same os k (Some v) None lt

-- and behind the last none
pub read_past : (os : List (Option ℕ)) (k v : ℕ) → length os ≤ k → writes_in (slice_set os k (Some v)) k ≡ None
read_past os k v le = ap (λ l. writes_in l k) (set_past os k (Some v) le) ∙ get_or_past os k None le

-- what stands at the others is as it was
pub read_apart : (os : List (Option ℕ)) (k v p : ℕ) → p ≢ k → writes_in (slice_set os k (Some v)) p ≡ writes_in os p
read_apart os k v p apart = get_or-set_other os k p (Some v) None apart

-- to set what stands there changes nothing
pub set_read : (os : List (Option ℕ)) (k v : ℕ) → writes_in os k ≡ Some v → slice_set os k (Some v) ≡ os
set_read os k v is = ap (λ o. slice_set os k o) (sym is) ∙ set-get_or os k None

-- all are numbers of 64 bits
pub near_words : (os : List (Option ℕ)) (k v : ℕ) → ((p : ℕ) → or_else (writes_in os p) 0 < 2 ^ 64) → v < 2 ^ 64 → (p : ℕ) → or_else (writes_in (slice_set os k (Some v)) p) 0 < 2 ^ 64
near_words os k v fits word p = go (same_or_not p k)
  where
    word_of : Option ℕ → Type 0
    word_of o = or_else o 0 < 2 ^ 64

    here : (k < length os) ⊎ (length os ≤ k) → word_of (writes_in (slice_set os k (Some v)) k)
    here (inl lt) = subst (λ (o : Option ℕ). or_else o 0 < 2 ^ 64) (sym (read_here os k v lt)) word
    here (inr le) = subst (λ (o : Option ℕ). or_else o 0 < 2 ^ 64) (sym (read_past os k v le)) (omega arith)

    go : (p ≡ k) ⊎ (p ≢ k) → word_of (writes_in (slice_set os k (Some v)) p)
    go (inl same) = subst (λ (q : ℕ). word_of (writes_in (slice_set os k (Some v)) q)) (sym same) (here (cases_lt k (length os)))
    go (inr apart) = subst (λ (o : Option ℕ). or_else o 0 < 2 ^ 64) (sym (read_apart os k v p apart)) (fits p)

-- the greatest number of 64 bits is the place of no cell, and to set what stands there changes nothing
pub set_nowhere : (t : Table) (v : ℕ) → IsSound t → slice_set (slots t) 18446744073709551615 (Some v) ≡ slots t
set_nowhere t v sound = let covers = sound.covers in let small = sound.small in let long = length_slots t in set_past (slots t) 18446744073709551615 (Some v) (omega arith)

-- a value beside the pages changes nothing of how many cells there are
pub length_near : (t : Table) (k v : ℕ) → t.size ≡ length (slice_set (slots t) k (Some v))
length_near t k v = sym (length_slots t) ∙ sym (length-set (slots t) k (Some v))
