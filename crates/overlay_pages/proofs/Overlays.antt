-- Cells with writes over them.
use Rattle.std.proofs.Common.{◌^◌, ℕ, zero, suc, ◌≡◌, ◌≢◌, ◌+◌, ◌<◌, ◌⊎◌, inl, inr, Bool, true, false, cond, List, [], ◌∷◌, ◌++◌, length, take, drop, Option, Some, None, refl, sym, ap, ◌∙◌, arith}
use Rattle.std.specs.Prelude.{◌==◌, slice_index, slice_set}
use Rattle.std.proofs.lemmas.Bool.{eq-eqb, eqb-true, eqb-false}
use Rattle.std.proofs.lemmas.List.{length-append, length-take-le, length-drop, take_at, drop_at}
use Rattle.std.proofs.lemmas.List.Concat.{flat_map-cons}
use Rattle.store.specs.Kept.{Kept}
use Rattle.store.specs.Flat.{values_of, filled}
use Rattle.overlay_pages.specs.declared.changes.Change.{Change}
use Rattle.overlay_pages.specs.Over.{Writes, or_else, written_over, and_at, writes_in, last_of, writes_of, unless_held, changing, ChangeCells, AreOnce}

-- the writes of a list with one more at its end
pub writes_push : (cs : List Change) (c : Change) (p : ℕ) → writes_of (cs ++ c ∷ []) p ≡ and_at (writes_of cs) c.place c.value p
writes_push [] c p = refl
writes_push (d ∷ cs) c p =
    ap (λ o. last_of o (cond (p == d.place) (Some d.value) None)) (writes_push cs c p) ∙ go (p == c.place)
  where
    go : (b : Bool) → last_of (cond b (Some c.value) (writes_of cs p)) (cond (p == d.place) (Some d.value) None) ≡ cond b (Some c.value) (last_of (writes_of cs p) (cond (p == d.place) (Some d.value) None))
    go true = refl
    go false = refl

pub once_push : (cs : List Change) (c : Change) → AreOnce cs → writes_of cs c.place ≡ None → AreOnce (cs ++ c ∷ [])
once_push [] c all none = (refl, tt)
once_push (d ∷ cs) c (first, all) none =
    (writes_push cs c d.place ∙ ap (λ b. cond b (Some c.value) (writes_of cs d.place)) (other (d.place == c.place) refl) ∙ first, once_push cs c all (rest (writes_of cs c.place) refl))
  where
    rest : (o : Option ℕ) → writes_of cs c.place ≡ o → writes_of cs c.place ≡ None
    rest None e = e
    rest (Some n) e = let f : Some n ≡ None = ap (λ o. last_of o (cond (c.place == d.place) (Some d.value) None)) (sym e) ∙ none in absurd cc

    other : (b : Bool) → (d.place == c.place) ≡ b → (d.place == c.place) ≡ false
    other false e = e
    other true e =
        let same : c.place ≡ d.place = sym (eqb-true d.place c.place e) in
        let f : last_of (writes_of cs c.place) (Some d.value) ≡ None = ap (λ b. last_of (writes_of cs c.place) (cond b (Some d.value) None)) (sym (eq-eqb c.place d.place same)) ∙ none in
        absurd (there (writes_of cs c.place) f)
      where
        there : (o : Option ℕ) → last_of o (Some d.value) ≡ None → ⊥
        there None f = cc
        there (Some n) f = cc

pub length_over : (w : Writes) (ns : List ℕ) → length (written_over w ns) ≡ length ns
length_over w [] = refl
length_over w (n ∷ ns) = ap suc (length_over (λ p. w (suc p)) ns)

-- what stands at a place
pub get_over : (w : Writes) (ns : List ℕ) (p : ℕ) → p < length ns → slice_index (written_over w ns) p ≡ or_else (w p) (slice_index ns p)
get_over w [] p lt = absurd (omega arith)
get_over w (n ∷ ns) zero lt = refl
get_over w (n ∷ ns) (suc p) lt = get_over (λ q. w (suc q)) ns p (omega arith)

pub over_same : (v w : Writes) (ns : List ℕ) → ((p : ℕ) → v p ≡ w p) → written_over v ns ≡ written_over w ns
over_same v w [] h = refl
over_same v w (n ∷ ns) h = λ i. or_else (h 0 i) n ∷ over_same (λ p. v (suc p)) (λ p. w (suc p)) ns (λ p. h (suc p)) i

pub over_nothing : (w : Writes) (ns : List ℕ) → ((p : ℕ) → w p ≡ None) → written_over w ns ≡ ns
over_nothing w [] h = refl
over_nothing w (n ∷ ns) h = λ i. or_else (h 0 i) n ∷ over_nothing (λ p. w (suc p)) ns (λ p. h (suc p)) i

-- a write that a cell holds already may be left out
held_over : (o : Option ℕ) (n : ℕ) → or_else (unless_held n o) n ≡ or_else o n
held_over None n = refl
held_over (Some m) n = go (m == n) refl
  where
    go : (b : Bool) → (m == n) ≡ b → or_else (cond b None (Some m)) n ≡ m
    go true e = sym (eqb-true m n e)
    go false e = refl

pub over_changing : (w : Writes) (ns : List ℕ) → written_over (changing w ns) ns ≡ written_over w ns
over_changing w [] = refl
over_changing w (n ∷ ns) = λ i. held_over (w 0) n i ∷ over_changing (λ p. w (suc p)) ns i

-- a table has nothing behind its end
within_table : (os : List (Option ℕ)) (p n : ℕ) → writes_in os p ≡ Some n → p < length os
within_table [] p n e = absurd cc
within_table (o ∷ os) zero n e = omega arith
within_table (o ∷ os) (suc p) n e = let r = within_table os p n e in omega arith

pub change_cells : (os : List (Option ℕ)) (ns : List ℕ) (cs : List Change) → length os ≡ length ns → ((p : ℕ) → writes_of cs p ≡ changing (writes_in os) ns p) → ChangeCells ns cs
change_cells os ns cs long each p n e = go (writes_in os p) refl (sym (each p) ∙ e)
  where
    go : (o : Option ℕ) → writes_in os p ≡ o → unless_held (slice_index ns p) o ≡ Some n → (p < length ns) × (slice_index ns p ≡ n → ⊥)
    go None is f = absurd cc
    go (Some m) is f = held (m == slice_index ns p) refl f
      where
        held : (b : Bool) → (m == slice_index ns p) ≡ b → cond b None (Some m) ≡ Some n → (p < length ns) × (slice_index ns p ≡ n → ⊥)
        held true h g = absurd cc
        held false h g =
            let lt = within_table os p m is in
            (omega arith, λ q. eqb-false m (slice_index ns p) h (let s : m ≡ n = ap (λ o. or_else o 0) g in s ∙ sym q))

unlike : (i j : ℕ) → i ≢ j → (i == j) ≡ false
unlike i j ne = go (i == j) refl
  where
    go : (b : Bool) → (i == j) ≡ b → (i == j) ≡ false
    go true e = absurd (ne (eqb-true i j e))
    go false e = e

pub at_place : (w : Writes) (p n q : ℕ) → q ≡ p → and_at w p n q ≡ Some n
at_place w p n q e = ap (λ b. cond b (Some n) (w q)) (eq-eqb q p e)

pub at_another : (w : Writes) (p n q : ℕ) → q ≢ p → and_at w p n q ≡ w q
at_another w p n q ne = ap (λ b. cond b (Some n) (w q)) (unlike q p ne)

one_on : (w : Writes) (p n q : ℕ) → and_at w (suc p) n (suc q) ≡ and_at (λ r. w (suc r)) p n q
one_on w p n q = go (q == p) refl
  where
    go : (b : Bool) → (q == p) ≡ b → and_at w (suc p) n (suc q) ≡ and_at (λ r. w (suc r)) p n q
    go true e = let same = eqb-true q p e in at_place w (suc p) n (suc q) (ap suc same) ∙ sym (at_place (λ r. w (suc r)) p n q same)
    go false e = let ne = eqb-false q p e in at_another w (suc p) n (suc q) (λ h. ne (let z : q ≡ p = omega arith in z)) ∙ sym (at_another (λ r. w (suc r)) p n q ne)

-- one more write is a cell that is set
pub over_and_at : (w : Writes) (ns : List ℕ) (p n : ℕ) → written_over (and_at w p n) ns ≡ slice_set (written_over w ns) p n
over_and_at w [] p n = refl
over_and_at w (m ∷ ns) zero n =
    (λ i. or_else (at_place w 0 n 0 refl i) m ∷ over_same (λ q. and_at w 0 n (suc q)) (λ q. w (suc q)) ns (λ q. at_another w 0 n (suc q) (λ e. absurd (omega arith))) i)
over_and_at w (m ∷ ns) (suc p) n =
    (λ i. or_else (at_another w (suc p) n 0 (λ e. absurd (omega arith)) i) m ∷ over_same (λ q. and_at w (suc p) n (suc q)) (and_at (λ q. w (suc q)) p n) ns (one_on w p n) i)
    ∙ ap (λ l. or_else (w 0) m ∷ l) (over_and_at (λ q. w (suc q)) ns p n)

-- a table with one more entry
pub over_set : (os : List (Option ℕ)) (ns : List ℕ) (p n : ℕ) → length os ≡ length ns → written_over (writes_in (slice_set os p (Some n))) ns ≡ slice_set (written_over (writes_in os) ns) p n
over_set [] [] p n e = refl
over_set [] (m ∷ ns) p n e = absurd (omega arith)
over_set (o ∷ os) [] p n e = absurd (omega arith)
over_set (o ∷ os) (m ∷ ns) zero n e = refl
over_set (o ∷ os) (m ∷ ns) (suc p) n e = ap (λ l. or_else o m ∷ l) (over_set os ns p n (omega arith))

-- writes to different places go over cells in either order
pub over_commutes : (v w : Writes) (ns : List ℕ) → ((p : ℕ) → (v p ≡ None) ⊎ (w p ≡ None)) → written_over v (written_over w ns) ≡ written_over w (written_over v ns)
over_commutes v w [] h = refl
over_commutes v w (n ∷ ns) h = λ i. go (h 0) i ∷ over_commutes (λ p. v (suc p)) (λ p. w (suc p)) ns (λ p. h (suc p)) i
  where
    go : (v 0 ≡ None) ⊎ (w 0 ≡ None) → or_else (v 0) (or_else (w 0) n) ≡ or_else (w 0) (or_else (v 0) n)
    go (inl e) = ap (λ o. or_else o (or_else (w 0) n)) e ∙ ap (λ o. or_else (w 0) (or_else o n)) (sym e)
    go (inr e) = ap (λ o. or_else (v 0) (or_else o n)) e ∙ ap (λ o. or_else o (or_else (v 0) n)) (sym e)

pub read_over : (os : List (Option ℕ)) (ns : List ℕ) (p : ℕ) → length os ≡ length ns → slice_index (written_over (writes_in os) ns) p ≡ or_else (writes_in os p) (slice_index ns p)
read_over [] [] p e = refl
read_over [] (n ∷ ns) p e = absurd (omega arith)
read_over (o ∷ os) [] p e = absurd (omega arith)
read_over (o ∷ os) (n ∷ ns) zero e = refl
read_over (o ∷ os) (n ∷ ns) (suc p) e = read_over os ns p (omega arith)

-- a store that is filled twice
pub filled_self : (ks : List Kept) → filled (values_of ks) ks ≡ ks
filled_self [] = refl
filled_self (k ∷ ks) =
    let cells = flat_map-cons (λ (j : Kept). j.values) k ks in
    ap (λ l. filled l (k ∷ ks)) cells
    ∙ (λ i. record { lengths = k.lengths; values = take_at k.values (values_of ks) (length k.values) refl i } ∷ filled (drop_at k.values (values_of ks) (length k.values) refl i) ks)
    ∙ ap (λ l. k ∷ l) (filled_self ks)

pub filled_twice : (ms ns : List ℕ) (ks : List Kept) → length ns ≡ length (values_of ks) → filled ms (filled ns ks) ≡ filled ms ks
filled_twice ms ns [] e = refl
filled_twice ms ns (k ∷ ks) e =
    let both : length ns ≡ length k.values + length (values_of ks) = e ∙ ap (λ (l : List ℕ). length l) (flat_map-cons (λ (j : Kept). j.values) k ks) ∙ length-append k.values (values_of ks) in
    let same : length (take (length k.values) ns) ≡ length k.values = length-take-le (length k.values) ns (omega arith) in
    let rest : length (drop (length k.values) ns) ≡ length (values_of ks) = omega (arith, length-drop (length k.values) ns) in
    (λ i. record { lengths = k.lengths; values = take (same i) ms } ∷ filled (drop (same i) ms) (filled (drop (length k.values) ns) ks))
    ∙ ap (λ l. record { lengths = k.lengths; values = take (length k.values) ms } ∷ l) (filled_twice (drop (length k.values) ms) (drop (length k.values) ns) ks rest)

-- no change leaves a store as it was
pub changed_none : (ks : List Kept) → ks ≡ filled (written_over (writes_of []) (values_of ks)) ks
changed_none ks = sym (ap (λ l. filled l ks) (over_nothing (writes_of []) (values_of ks) (λ p. refl)) ∙ filled_self ks)

pub either_fits : (o : Option ℕ) (n : ℕ) → or_else o 0 < 2 ^ 64 → n < 2 ^ 64 → or_else o n < 2 ^ 64
either_fits None n a b = b
either_fits (Some m) n a b = a
