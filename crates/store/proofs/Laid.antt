-- Variables that lie one behind another in one list of cells.
use Rattle.std.specs.Prelude.{ℕ, zero, suc, ◌≡◌, ◌+◌, ◌-◌, ◌<◌, ◌≤◌, List, [], ◌∷◌, ◌++◌, length, take, drop, replicate, map, Option, Some, slice_get, slice_set, slice_index}
use Rattle.std.proofs.Common.{refl, sym, ap, ◌∙◌, subst, arith}
use Rattle.std.proofs.lemmas.List.{take-append-drop, drop-drop, drop_all, drop-set-lt, drop-set-add, take-set-le, length-set, length-take, length-drop, length-replicate, drop-replicate, take-replicate}
use Rattle.std.proofs.lemmas.List.Concat.{flat_map-cons}
use Rattle.std.proofs.Math.Seq.{take-set-lt}
use Rattle.semantics.specs.Meaning.Places.{size}
use Rattle.store.specs.Kept.{Kept, rewritten_at, overlaid, HasRoom}
use Rattle.store.specs.Flat.{values_of, filled, AreFilled, zeros_of}
use Rattle.store.specs.Placing.{kept_at, kept_in, Lie}
use Rattle.store.specs.declared.shape.Shape.{Shape}
use Rattle.store.specs.declared.arrays.Placed.{Placed}
use Rattle.store.proofs.Writing.{overlaid_none, overlaid_one, overlaid_more, rewritten_none, rewritten_more}

-- one more lies behind the others
pub lie_push : (from end : ℕ) (ps : List Placed) (p : Placed) → Lie from ps end → p.first ≡ end → Lie from (ps ++ p ∷ []) (end + p.shape.count)
lie_push from end [] p e f = (f ∙ sym e, ap (λ n. n + p.shape.count) e)
lie_push from end (q ∷ ps) p (e, l) f = (e, lie_push (from + q.shape.count) end ps p l f)

pub shapes_push : (ps : List Placed) (p : Placed) → map (λ (q : Placed). q.shape) (ps ++ p ∷ []) ≡ map (λ (q : Placed). q.shape) ps ++ p.shape ∷ []
shapes_push [] p = refl
shapes_push (q ∷ ps) p = ap (λ l. q.shape ∷ l) (shapes_push ps p)

lie_le : (from end : ℕ) (ps : List Placed) → Lie from ps end → from ≤ end
lie_le from end [] e = omega arith
lie_le from end (p ∷ ps) (e, l) = let r = lie_le (from + p.shape.count) end ps l in omega arith

-- a variable's cells are among them
pub lie_at : (from end : ℕ) (ps : List Placed) (i : ℕ) (p : Placed) → Lie from ps end → slice_get ps i ≡ Some p → p.first + p.shape.count ≤ end
lie_at from end [] i p l e = absurd cc
lie_at from end (q ∷ ps) zero p (f, l) e =
    let r = lie_le (from + q.shape.count) end ps l in
    let same : q ≡ p = cc in
    subst (λ (k : Placed). k.first + k.shape.count ≤ end) same (omega arith)
lie_at from end (q ∷ ps) (suc i) p (f, l) e = lie_at (from + q.shape.count) end ps i p l e

-- a list is its first so many and the rest
behind : (cells : List ℕ) (from first count : ℕ) → first ≡ from → take count (drop first cells) ++ drop (from + count) cells ≡ drop from cells
behind cells from first count e =
    ap (λ n. take count (drop n cells) ++ drop (from + count) cells) e
    ∙ ap (λ l. take count (drop from cells) ++ l) (sym (drop-drop count from cells))
    ∙ take-append-drop count (drop from cells)

-- all values are the cells
values_behind : (cells : List ℕ) (from end : ℕ) (ps : List Placed) → Lie from ps end → end ≡ length cells → values_of (kept_in cells ps) ≡ drop from cells
values_behind cells from end [] l e = sym (drop_all from cells (omega arith))
values_behind cells from end (p ∷ ps) (f, l) e =
    flat_map-cons (λ (k : Kept). k.values) (kept_at cells p) (kept_in cells ps)
    ∙ ap (λ r. take p.shape.count (drop p.first cells) ++ r) (values_behind cells (from + p.shape.count) end ps l e)
    ∙ behind cells from p.first p.shape.count f

pub values_are : (cells : List ℕ) (ps : List Placed) → Lie 0 ps (length cells) → values_of (kept_in cells ps) ≡ cells
values_are cells ps l = values_behind cells 0 (length cells) ps l refl

-- each variable has as many values as elements
pub count_at : (cells : List ℕ) (first count : ℕ) → first + count ≤ length cells → length (take count (drop first cells)) ≡ count
count_at cells first count le = omega (arith, length-take count (drop first cells), length-drop first cells)

filled_behind : (cells : List ℕ) (from end : ℕ) (ps : List Placed) → Lie from ps end → end ≡ length cells → AreFilled (kept_in cells ps)
filled_behind cells from end [] l e = tt
filled_behind cells from end (p ∷ ps) (f, l) e =
    let r = lie_le (from + p.shape.count) end ps l in
    (count_at cells p.first p.shape.count (omega arith) ∙ p.shape.counted, filled_behind cells (from + p.shape.count) end ps l e)

pub are_filled : (cells : List ℕ) (ps : List Placed) → Lie 0 ps (length cells) → AreFilled (kept_in cells ps)
are_filled cells ps l = filled_behind cells 0 (length cells) ps l refl

-- cells that are put in place of others
refilled : (cells new : List ℕ) (from end : ℕ) (ps : List Placed) → Lie from ps end → end ≡ length cells → filled (drop from new) (kept_in cells ps) ≡ kept_in new ps
refilled cells new from end [] l e = refl
refilled cells new from end (p ∷ ps) (f, l) e =
    let r = lie_le (from + p.shape.count) end ps l in
    let count : length (take p.shape.count (drop p.first cells)) ≡ p.shape.count = count_at cells p.first p.shape.count (omega arith) in
    ap (λ n. let k : Kept = record { lengths = p.shape.lengths.items; values = take n (drop from new) } in k ∷ filled (drop n (drop from new)) (kept_in cells ps)) count
    ∙ ap (λ n. let k : Kept = record { lengths = p.shape.lengths.items; values = take p.shape.count (drop n new) } in k ∷ filled (drop p.shape.count (drop from new)) (kept_in cells ps)) (sym f)
    ∙ ap (λ cs. kept_at new p ∷ filled cs (kept_in cells ps)) (drop-drop p.shape.count from new)
    ∙ ap (λ ks. kept_at new p ∷ ks) (refilled cells new (from + p.shape.count) end ps l e)

pub put_fills : (cells new : List ℕ) (ps : List Placed) (place value : ℕ) → Lie 0 ps (length cells) → new ≡ slice_set cells place value → kept_in new ps ≡ filled (slice_set (values_of (kept_in cells ps)) place value) (kept_in cells ps)
put_fills cells new ps place value l e =
    sym (refilled cells new 0 (length cells) ps l refl) ∙ ap (λ cs. filled cs (kept_in cells ps)) (e ∙ ap (λ cs. slice_set cs place value) (sym (values_are cells ps l)))

pub row_fills : (cells new : List ℕ) (ps : List Placed) (first : ℕ) (vs : List ℕ) → Lie 0 ps (length cells) → new ≡ overlaid cells first vs → kept_in new ps ≡ filled (overlaid (values_of (kept_in cells ps)) first vs) (kept_in cells ps)
row_fills cells new ps first vs l e =
    sym (refilled cells new 0 (length cells) ps l refl) ∙ ap (λ cs. filled cs (kept_in cells ps)) (e ∙ ap (λ cs. overlaid cs first vs) (sym (values_are cells ps l)))

-- variables with each element 0, that lie among so many cells
module _ (count : ℕ) (ps : List Placed) (l : Lie 0 ps count) where
  long : length {A = ℕ} (replicate count 0) ≡ count
  long = length-replicate {A = ℕ} count 0

  pub frame_count : length (values_of (kept_in (replicate count 0) ps)) ≡ count
  frame_count = ap length (values_are (replicate count 0) ps (subst (Lie 0 ps) (sym long) l)) ∙ long

  pub frame_fills : (cells : List ℕ) → filled cells (kept_in (replicate count 0) ps) ≡ kept_in cells ps
  frame_fills cells = refilled (replicate count 0) cells 0 count ps l (sym long)

pub index_outside : (xs : List ℕ) (i : ℕ) → length xs ≤ i → slice_index xs i ≡ 0
index_outside [] i le = refl
index_outside (x ∷ xs) zero le = absurd (omega arith)
index_outside (x ∷ xs) (suc i) le = index_outside xs i (omega arith)

-- a write to one cell, and the variables before it, at it and behind it
before : (cells : List ℕ) (p : Placed) (at v : ℕ) → at < p.first → kept_at (slice_set cells at v) p ≡ kept_at cells p
before cells p at v lt = λ i. record { lengths = p.shape.lengths.items; values = take p.shape.count (drop-set-lt p.first cells at v lt i) }

past : (cells : List ℕ) (p : Placed) (more v : ℕ) → p.shape.count ≤ more → kept_at (slice_set cells (p.first + more) v) p ≡ kept_at cells p
past cells p more v le = λ i. record { lengths = p.shape.lengths.items; values = (ap (take p.shape.count) (drop-set-add p.first cells more v) ∙ take-set-le p.shape.count (drop p.first cells) more v le) i }

here : (cells : List ℕ) (p : Placed) (f v : ℕ) → f < p.shape.count → p.first + p.shape.count ≤ length cells → kept_at (slice_set cells (p.first + f) v) p ≡ Rattle.store.specs.Kept.rewritten (kept_at cells p) f (v ∷ [])
here cells p f v lt le =
    let count = count_at cells p.first p.shape.count le in
    λ i. record {
      lengths = p.shape.lengths.items;
      values = (ap (take p.shape.count) (drop-set-add p.first cells f v) ∙ take-set-lt p.shape.count (drop p.first cells) f v lt ∙ sym (overlaid_one (take p.shape.count (drop p.first cells)) f v (omega arith))) i;
    }

-- those behind a cell are as they were
all_before : (cells : List ℕ) (from end at v : ℕ) (ps : List Placed) → Lie from ps end → at < from → kept_in (slice_set cells at v) ps ≡ kept_in cells ps
all_before cells from end at v [] l lt = refl
all_before cells from end at v (p ∷ ps) (f, l) lt =
    ap (λ k. k ∷ kept_in (slice_set cells at v) ps) (before cells p at v (omega arith)) ∙ ap (λ ks. kept_at cells p ∷ ks) (all_before cells (from + p.shape.count) end at v ps l (omega arith))

pub one_written : (cells : List ℕ) (from end : ℕ) (ps : List Placed) (x : ℕ) (p : Placed) (f v : ℕ) → Lie from ps end → end ≡ length cells → slice_get ps x ≡ Some p → f < p.shape.count → kept_in (slice_set cells (p.first + f) v) ps ≡ rewritten_at (kept_in cells ps) x f (v ∷ [])
one_written cells from end [] x p f v l e at lt = absurd cc
one_written cells from end (q ∷ ps) zero p f v (g, l) e at lt =
    let same : q ≡ p = cc in
    let r = lie_le (from + q.shape.count) end ps l in
    subst (λ (k : Placed). f < k.shape.count → kept_at (slice_set cells (k.first + f) v) q ∷ kept_in (slice_set cells (k.first + f) v) ps ≡ Rattle.store.specs.Kept.rewritten (kept_at cells q) f (v ∷ []) ∷ kept_in cells ps) same
    (λ less.
    ap (λ k. k ∷ kept_in (slice_set cells (q.first + f) v) ps) (here cells q f v less (omega arith))
    ∙ ap (λ ks. Rattle.store.specs.Kept.rewritten (kept_at cells q) f (v ∷ []) ∷ ks) (all_before cells (from + q.shape.count) end (q.first + f) v ps l (omega arith)))
    lt
one_written cells from end (q ∷ ps) (suc x) p f v (g, l) e at lt =
    let le : from + q.shape.count ≤ p.first = lie_from (from + q.shape.count) end ps x p l at in
    let more : p.first + f ≡ q.first + (p.first + f - q.first) = omega arith in
    ap (λ k. k ∷ kept_in (slice_set cells (p.first + f) v) ps) (ap (λ n. kept_at (slice_set cells n v) q) more ∙ past cells q (p.first + f - q.first) v (omega arith))
    ∙ ap (λ ks. kept_at cells q ∷ ks) (one_written cells (from + q.shape.count) end ps x p f v l e at lt)
  where
    lie_from : (from end : ℕ) (ps : List Placed) (x : ℕ) (p : Placed) → Lie from ps end → slice_get ps x ≡ Some p → from ≤ p.first
    lie_from from end [] x p l e = absurd cc
    lie_from from end (q ∷ ps) zero p (f, l) e = let same : q.first ≡ p.first = cc in omega arith
    lie_from from end (q ∷ ps) (suc x) p (f, l) e = let r = lie_from (from + q.shape.count) end ps x p l e in omega arith

-- values written over those of a variable
pub all_written : (cells : List ℕ) (ps : List Placed) (x : ℕ) (p : Placed) (first : ℕ) (vs : List ℕ) → Lie 0 ps (length cells) → slice_get ps x ≡ Some p → first + length vs ≤ p.shape.count → kept_in (overlaid cells (p.first + first) vs) ps ≡ rewritten_at (kept_in cells ps) x first vs
all_written cells ps x p first [] l at le = ap (λ cs. kept_in cs ps) (overlaid_none cells (p.first + first)) ∙ sym (rewritten_none (kept_in cells ps) x first)
all_written cells ps x p first (v ∷ vs) l at le =
    let inside = lie_at 0 (length cells) ps x p l at in
    let next : suc (p.first + first) ≡ p.first + suc first = omega arith in
    let set = slice_set cells (p.first + first) v in
    ap (λ cs. kept_in cs ps) (overlaid_more cells (p.first + first) v vs (omega arith) ∙ ap (λ n. overlaid set n vs) next)
    ∙ all_written set ps x p (suc first) vs (subst (Lie 0 ps) (sym (length-set cells (p.first + first) v)) l) at (omega arith)
    ∙ ap (λ ks. rewritten_at ks x (suc first) vs) (one_written cells 0 (length cells) ps x p first v l refl at (omega arith))
    ∙ sym (rewritten_more (kept_in cells ps) x first v vs (room inside))
  where
    there : (ps : List Placed) (x : ℕ) → slice_get ps x ≡ Some p → slice_get (kept_in cells ps) x ≡ Some (kept_at cells p)
    there [] x e = absurd cc
    there (q ∷ ps) zero e = let same : q ≡ p = cc in ap (λ (k : Placed). Some (kept_at cells k)) same
    there (q ∷ ps) (suc x) e = there ps x e

    room : p.first + p.shape.count ≤ length cells → HasRoom (slice_get (kept_in cells ps) x) (suc first)
    room inside = subst (λ (o : Option Kept). HasRoom o (suc first)) (sym (there ps x at)) (let c = count_at cells p.first p.shape.count inside in omega arith)

-- a variable of so many values has room for these, or there is none
pub room_at : (cells : List ℕ) (ps : List Placed) (x : ℕ) (p : Placed) (n : ℕ) → Lie 0 ps (length cells) → slice_get ps x ≡ Some p → HasRoom (slice_get (kept_in cells ps) x) n → n ≤ p.shape.count
room_at cells [] x p n l e h = absurd h
room_at cells (q ∷ ps) x p n l e h = go (q ∷ ps) x e h
  where
    inside : p.first + p.shape.count ≤ length cells
    inside = lie_at 0 (length cells) (q ∷ ps) x p l e

    go : (ps : List Placed) (x : ℕ) → slice_get ps x ≡ Some p → HasRoom (slice_get (kept_in cells ps) x) n → n ≤ p.shape.count
    go [] x e h = absurd h
    go (r ∷ ps) zero e h = let same : r ≡ p = cc in let h' = subst (λ (k : Placed). n ≤ length (take k.shape.count (drop k.first cells))) same h in let c = count_at cells p.first p.shape.count inside in omega arith
    go (r ∷ ps) (suc x) e h = go ps x e h

-- zeros
zeros_from : (ps : List Placed) (from end : ℕ) → Lie from ps end → (all : ℕ) → end ≤ all → kept_in (replicate all 0) ps ≡ map (λ (s : Shape). zeros_of s.lengths.items) (map (λ (q : Placed). q.shape) ps)
zeros_from [] from end l all le = refl
zeros_from (p ∷ ps) from end (f, l) all le =
    let r = lie_le (from + p.shape.count) end ps l in
    let z : ℕ = 0 in
    let row : take p.shape.count (drop p.first (replicate all z)) ≡ replicate (size p.shape.lengths.items) z =
    ap (take p.shape.count) (drop-replicate p.first all z) ∙ take-replicate p.shape.count (all - p.first) z (omega arith) ∙ ap (λ n. replicate n z) p.shape.counted in
    ap (λ vs. let k : Kept = record { lengths = p.shape.lengths.items; values = vs } in k ∷ kept_in (replicate all z) ps) row
    ∙ ap (λ ks. zeros_of p.shape.lengths.items ∷ ks) (zeros_from ps (from + p.shape.count) end l all le)

pub zeros_are : (ps : List Placed) (count : ℕ) (cells : List ℕ) (shapes : List Shape) → Lie 0 ps count → cells ≡ replicate count 0 → map (λ (q : Placed). q.shape) ps ≡ shapes → kept_in cells ps ≡ map (λ (s : Shape). zeros_of s.lengths.items) shapes
zeros_are ps count cells shapes l e f =
    ap (λ cs. kept_in cs ps) e ∙ zeros_from ps 0 count l count (omega arith) ∙ ap (map (λ (s : Shape). zeros_of s.lengths.items)) f

-- a variable of a store has a place
pub there : (ps : List Placed) (cells : List ℕ) (ks : List Kept) (x : ℕ) → kept_in cells ps ≡ ks → x < length ks → x < length ps
there ps cells ks x e lt = let count = count_in ps in let same = ap (λ (l : List Kept). length l) e in omega arith
  where
    count_in : (ps : List Placed) → length (kept_in cells ps) ≡ length ps
    count_in [] = refl
    count_in (p ∷ ps) = ap suc (count_in ps)

pub has_it : (ps : List Placed) (cells : List ℕ) (ks : List Kept) (x n : ℕ) → kept_in cells ps ≡ ks → HasRoom (slice_get ks x) n → x < length ps
has_it ps cells ks x n e h = there ps cells ks x e (go ks x h)
  where
    go : (ks : List Kept) (x : ℕ) → HasRoom (slice_get ks x) n → x < length ks
    go [] x h = absurd h
    go (k ∷ ks) zero h = omega arith
    go (k ∷ ks) (suc x) h = let r = go ks x h in omega arith
