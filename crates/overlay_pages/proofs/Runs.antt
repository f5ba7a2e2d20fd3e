-- Runs of changes: one behind another, and over cells.
use Rattle.std.specs.Prelude.{ℕ, zero, suc, true, false, ◌≡◌, ◌+◌, ◌-◌, ◌*◌, ◌^◌, ◌/◌, ◌%◌, ◌<◌, ◌≤◌, ◌==◌, if◌then◌else◌, List, [], ◌∷◌, ◌++◌, take, drop, length, Option, Some, None, slice_index, slice_set}
use Rattle.std.specs.Int.{bit_at}
use Rattle.std.proofs.Common.{refl, sym, ap, ◌∙◌, subst, cond, arith, append-nil, get_or}
use Rattle.std.proofs.lemmas.Bool.{ne_eqb, eqb-true}
use Rattle.std.proofs.lemmas.List.{append_assoc, length-append, length-set, length-drop, length-take, length-take-le, get_or-take, get_or-drop, take_all, take_more, take-append-le, drop-append-le}
use Rattle.std.proofs.lemmas.Nat.Bits.{bit_at_mask_inside, bit_at_mask_below, bit_at_mask_above}
use Rattle.store.specs.Kept.{Kept, overlaid}
use Rattle.store.proofs.Writing.{overlaid_none, overlaid_more}
use Rattle.store.specs.Flat.{values_of, filled}
use Rattle.lower_op.proofs.Refilled.{filled_values}
use Rattle.overlay_pages.specs.declared.changes.Change.{Change}
use Rattle.overlay_pages.specs.Over.{Writes, or_else, written_over, and_at, last_of, writes_of}
use Rattle.overlay_pages.specs.Runs.{row, cells_in, changes_in, AllDiffer}
use Rattle.overlay_pages.specs.Table.{Table, IsSound, IsWhole, Gathers}
use Rattle.overlay_pages.proofs.Overlays.{length_over, over_same, over_nothing, over_and_at, filled_twice}
use Rattle.overlay_pages.proofs.Gathered.{with_change, gathers_skip, none_between, gathers_on}

-- ---- runs one behind another

pub length_row : (place : ℕ) (vs : List ℕ) → length (row place vs) ≡ length vs
length_row place [] = refl
length_row place (v ∷ vs) = ap suc (length_row (suc place) vs)

pub cells_joined : (hs ks : List ℕ) → cells_in (hs ++ ks) ≡ cells_in hs + cells_in ks
cells_joined [] ks = omega arith
cells_joined (h ∷ hs) ks = let rest = cells_joined hs ks in omega arith

pub joined : (hs ks vs ws : List ℕ) → length vs ≡ cells_in hs → changes_in (hs ++ ks) (vs ++ ws) ≡ changes_in hs vs ++ changes_in ks ws
joined [] ks [] ws e = refl
joined [] ks (v ∷ vs) ws e = absurd (omega arith)
joined (h ∷ hs) ks vs ws e =
    let n = h % 64 + 1 in
    let le : n ≤ length vs = omega arith in
    let left : length (drop n vs) ≡ cells_in hs = omega (arith, length-drop n vs) in
    (λ i. row (h / 64) (take-append-le n vs ws le i) ++ changes_in (hs ++ ks) (drop-append-le n vs ws le i))
    ∙ ap (λ l. row (h / 64) (take n vs) ++ l) (joined hs ks (drop n vs) ws left)
    ∙ sym (append_assoc (row (h / 64) (take n vs)) (changes_in hs (drop n vs)) (changes_in ks ws))

-- one run
pub one_run : (h : ℕ) (vs : List ℕ) → length vs ≡ h % 64 + 1 → changes_in (h ∷ []) vs ≡ row (h / 64) vs
one_run h vs e = append-nil (row (h / 64) (take (h % 64 + 1) vs)) ∙ ap (row (h / 64)) (take_all (h % 64 + 1) vs (omega arith))

-- runs, and one more
pub run_added : (hs vs : List ℕ) (h place : ℕ) (ws : List ℕ) → length vs ≡ cells_in hs → h / 64 ≡ place → h % 64 + 1 ≡ length ws → changes_in (hs ++ h ∷ []) (vs ++ ws) ≡ changes_in hs vs ++ row place ws
run_added hs vs h place ws e at long = joined hs (h ∷ []) vs ws e ∙ ap (λ l. changes_in hs vs ++ l) (one_run h ws (sym long) ∙ ap (λ p. row p ws) at)

pub cells_added : (hs : List ℕ) (h : ℕ) → cells_in (hs ++ h ∷ []) ≡ cells_in hs + (h % 64 + 1)
cells_added hs h = let e = cells_joined hs (h ∷ []) in omega arith

pub length_changes : (hs vs : List ℕ) → length vs ≡ cells_in hs → length (changes_in hs vs) ≡ length vs
length_changes [] vs e = sym e
length_changes (h ∷ hs) vs e =
    let n = h % 64 + 1 in
    let front = length_row (h / 64) (take n vs) in
    let taken = length-take n vs in
    let dropped = length-drop n vs in
    let rest = length_changes hs (drop n vs) (omega arith) in
    length-append (row (h / 64) (take n vs)) (changes_in hs (drop n vs)) ∙ omega arith

-- without a value there is no run
pub none_in : (hs vs : List ℕ) → length vs ≡ cells_in hs → (length vs == 0) ≡ true → changes_in hs vs ≡ []
none_in [] vs e h = refl
none_in (h ∷ hs) vs e z = let none = eqb-true (length vs) 0 z in absurd (omega arith)

-- ---- over cells

-- one list of changes, and then another: the later ones win
pub writes_both : (xs ys : List Change) (p : ℕ) → writes_of (xs ++ ys) p ≡ last_of (writes_of ys p) (writes_of xs p)
writes_both [] ys p = at (writes_of ys p)
  where
    at : (o : Option ℕ) → o ≡ last_of o None
    at None = refl
    at (Some n) = refl
writes_both (x ∷ xs) ys p = ap (λ o. last_of o (if p == x.place then Some x.value else None)) (writes_both xs ys p) ∙ last_twice (writes_of ys p) (writes_of xs p) (if p == x.place then Some x.value else None)
  where
    last_twice : (a b c : Option ℕ) → last_of (last_of a b) c ≡ last_of a (last_of b c)
    last_twice None b c = refl
    last_twice (Some n) b c = refl

over_last : (v w : Writes) (ns : List ℕ) → written_over (λ p. last_of (w p) (v p)) ns ≡ written_over w (written_over v ns)
over_last v w [] = refl
over_last v w (n ∷ ns) = λ i. at (w 0) (v 0) n i ∷ over_last (λ p. v (suc p)) (λ p. w (suc p)) ns i
  where
    at : (a b : Option ℕ) (n : ℕ) → or_else (last_of a b) n ≡ or_else a (or_else b n)
    at None b n = refl
    at (Some m) b n = refl

over_both : (xs ys : List Change) (ns : List ℕ) → written_over (writes_of (xs ++ ys)) ns ≡ written_over (writes_of ys) (written_over (writes_of xs) ns)
over_both xs ys ns = over_same (writes_of (xs ++ ys)) (λ p. last_of (writes_of ys p) (writes_of xs p)) ns (writes_both xs ys) ∙ over_last (writes_of xs) (writes_of ys) ns

-- a store behind one list of changes, and then behind another
pub applied_both : (ks now later : List Kept) (xs ys : List Change) → now ≡ filled (written_over (writes_of xs) (values_of ks)) ks → later ≡ filled (written_over (writes_of ys) (values_of now)) now
    → later ≡ filled (written_over (writes_of (xs ++ ys)) (values_of ks)) ks
applied_both ks now later xs ys one other =
    let over = written_over (writes_of xs) (values_of ks) in
    let long = length_over (writes_of xs) (values_of ks) in
    other
    ∙ ap (λ (s : List Kept). filled (written_over (writes_of ys) (values_of s)) s) one
    ∙ ap (λ l. filled (written_over (writes_of ys) l) (filled over ks)) (filled_values over ks long)
    ∙ filled_twice (written_over (writes_of ys) over) over ks long
    ∙ ap (λ l. filled l ks) (sym (over_both xs ys (values_of ks)))

-- a write to one cell
pub applied_one : (ks now : List Kept) (place value : ℕ) → now ≡ filled (slice_set (values_of ks) place value) ks → now ≡ filled (written_over (writes_of (record { place = place; value = value } ∷ [])) (values_of ks)) ks
applied_one ks now place value e =
    e ∙ ap (λ l. filled l ks) (sym (over_same (writes_of (record { place = place; value = value } ∷ [])) (and_at (writes_of []) place value) (values_of ks) (λ p. refl) ∙ over_and_at (writes_of []) (values_of ks) place value ∙ ap (λ l. slice_set l place value) (none (values_of ks))))
  where
    none : (ns : List ℕ) → written_over (writes_of []) ns ≡ ns
    none [] = refl
    none (n ∷ ns) = λ i. n ∷ none ns i

-- a run over cells that are all there
pub over_row : (place : ℕ) (vs ns : List ℕ) → place + length vs ≤ length ns → overlaid ns place vs ≡ written_over (writes_of (row place vs)) ns
over_row place [] ns le = overlaid_none ns place ∙ sym (over_nothing (writes_of []) ns (λ p. refl))
over_row place (v ∷ vs) ns le =
    overlaid_more ns place v vs (omega arith)
    ∙ over_row (suc place) vs (slice_set ns place v) (omega (arith, length-set ns place v))
    ∙ ap (written_over (writes_of (row (suc place) vs))) (sym one)
    ∙ sym (over_both (record { place = place; value = v } ∷ []) (row (suc place) vs) ns)
  where
    one : written_over (writes_of (record { place = place; value = v } ∷ [])) ns ≡ slice_set ns place v
    one =
        over_same (writes_of (record { place = place; value = v } ∷ [])) (and_at (writes_of []) place v) ns (λ p. refl)
        ∙ over_and_at (writes_of []) ns place v
        ∙ ap (λ l. slice_set l place v) (over_nothing (writes_of []) ns (λ p. refl))

-- ---- a whole page

row_added : (place : ℕ) (vs : List ℕ) (v : ℕ) → row place (vs ++ v ∷ []) ≡ row place vs ++ record { place = place + length vs; value = v } ∷ []
row_added place [] v = λ i. record { place = zero_more place i; value = v } ∷ []
  where
    zero_more : (n : ℕ) → n ≡ n + 0
    zero_more n = omega arith
row_added place (w ∷ vs) v = ap (λ l. record { place = place; value = w } ∷ l) (row_added (suc place) vs v ∙ ap (λ n. row (suc place) vs ++ record { place = n; value = v } ∷ []) (omega arith))

differs_at : (cells : List ℕ) (place : ℕ) (vs : List ℕ) → AllDiffer cells place vs → (r : ℕ) → r < length vs → (get_or vs r 0 == slice_index cells (place + r)) ≡ false
differs_at cells place [] all r lt = absurd (omega arith)
differs_at cells place (v ∷ vs) all zero lt = ap (λ n. v == slice_index cells n) (omega arith) ∙ ne_eqb v (slice_index cells place) all.0
differs_at cells place (v ∷ vs) all (suc r) lt = ap (λ n. get_or vs r 0 == slice_index cells n) (omega arith) ∙ differs_at cells (suc place) vs all.1 r (omega arith)

-- values that differ from what the cells hold, one by one
pub all_differ_by : (cells : List ℕ) (place : ℕ) (vs : List ℕ) → ((k : ℕ) → k < length vs → slice_index vs k ≡ slice_index cells (place + k) → ⊥) → AllDiffer cells place vs
all_differ_by cells place [] each = tt
all_differ_by cells place (v ∷ vs) each = (
  λ e. each 0 (omega arith) (e ∙ ap (slice_index cells) (let z : place ≡ place + 0 = omega arith in z)),
  all_differ_by cells (suc place) vs (λ k lt e. each (suc k) (omega arith) (e ∙ ap (slice_index cells) (let z : suc place + k ≡ place + suc k = omega arith in z))),
)

pub differs_each : (cells : List ℕ) (place : ℕ) (vs : List ℕ) → AllDiffer cells place vs → (k : ℕ) → k < length vs → slice_index vs k ≡ slice_index cells (place + k) → ⊥
differs_each cells place [] all k lt = absurd (omega arith)
differs_each cells place (v ∷ vs) all zero lt = λ e. all.0 (e ∙ ap (slice_index cells) (let z : place + 0 ≡ place = omega arith in z))
differs_each cells place (v ∷ vs) all (suc k) lt = λ e. differs_each cells (suc place) vs all.1 k (omega arith) (e ∙ ap (slice_index cells) (let z : place + suc k ≡ suc place + k = omega arith in z))

-- it has 64 values
pub whole_long : (cells : List ℕ) (t : Table) → IsSound t → (k : ℕ) → k < length t.entered → (vs : List ℕ) → IsWhole cells t k vs → length vs ≡ 64
whole_long cells t s k lt vs whole =
    let sized = s.sized in
    ap (λ (l : List ℕ). length l) whole.values ∙ length-take-le 64 (drop (64 * suc k) t.values) (omega (arith, length-drop (64 * suc k) t.values))

-- cells side by side of a page, of which no other is written
module _ (cells : List ℕ) (t : Table) (s : IsSound t) (k : ℕ) (lt : k < length t.entered) (from : ℕ) (vs : List ℕ) (few : from + length vs ≤ 64) (mask : slice_index t.masks (slice_index t.entered k) ≡ 2 ^ (from + length vs) - 2 ^ from) (values : vs ≡ take (length vs) (drop (64 * suc k + from) t.values)) (differ : AllDiffer cells (64 * slice_index t.entered k + from) vs) (cs : List Change) (before : Gathers cells t (64 * suc k) cs) where
  abbrev first : ℕ
  first = 64 * slice_index t.entered k + from

  abbrev so_far : ℕ → List Change
  so_far r = cs ++ row first (take r vs)

  abbrev at : ℕ → ℕ
  at r = 64 * suc k + (from + r)

  step : (r : ℕ) → r < length vs → Gathers cells t (at r) (so_far r) → Gathers cells t (at (suc r)) (so_far (suc r))
  step r less g = subst (Gathers cells t (at (suc r))) same (subst (λ n. Gathers cells t n (with_change cells (so_far r) c)) (let e : 64 * suc k + suc (from + r) ≡ 64 * suc k + (from + suc r) = omega arith in e)
      (gathers_on t s k lt cells (from + r) (omega arith) (ap (λ m. bit_at m (from + r)) mask ∙ bit_at_mask_inside from (from + length vs) (from + r) (omega arith) (omega arith)) (so_far r) g c place value))
    where
      c : Change
      c = record { place = first + r; value = get_or vs r 0 }

      place : first + r ≡ 64 * slice_index t.entered k + (from + r)
      place = omega arith

      value : get_or vs r 0 ≡ slice_index t.values (64 * suc k + (from + r))
      value = ap (λ (l : List ℕ). get_or l r 0) values ∙ get_or-take (length vs) (drop (64 * suc k + from) t.values) r 0 less ∙ get_or-drop (64 * suc k + from) t.values r 0 ∙ ap (slice_index t.values) (let e : 64 * suc k + from + r ≡ 64 * suc k + (from + r) = omega arith in e)

      on : r + 1 ≡ suc r
      on = omega arith

      same : with_change cells (so_far r) c ≡ so_far (suc r)
      same =
          ap (λ b. cond b (so_far r) (so_far r ++ c ∷ [])) (differs_at cells first vs differ r less)
          ∙ append_assoc cs (row first (take r vs)) (c ∷ [])
          ∙ ap (λ l. cs ++ l) (ap (λ n. row first (take r vs) ++ record { place = first + n; value = get_or vs r 0 } ∷ []) (sym (length-take-le r vs (let h = less in omega arith))) ∙ sym (row_added first (take r vs) (get_or vs r 0))
          ∙ ap (row first) (sym (take_more vs r 0 less) ∙ ap (λ n. take n vs) on))

  up_to_there : (r : ℕ) → r ≤ length vs → Gathers cells t (at r) (so_far r)
  up_to_there zero le = subst (λ (l : List Change). Gathers cells t (at 0) l) (sym (append-nil cs)) (gathers_skip cells t (64 * suc k) (at 0) cs (omega arith)
      (λ p past lower. none_between t s k lt 0 from (omega arith) (λ r h i. ap (λ m. bit_at m r) mask ∙ bit_at_mask_below from (from + length vs) r i) p (omega arith) (omega arith))
      before)
  up_to_there (suc r) le = step r (omega arith) (up_to_there r (omega arith))

  pub gathers_part : Gathers cells t (64 * suc (suc k)) (cs ++ row first vs)
  gathers_part = gathers_skip cells t (at (length vs)) (64 * suc (suc k)) (cs ++ row first vs) (omega arith)
      (λ p past lower. none_between t s k lt (from + length vs) 64 (omega arith) (λ r h i. ap (λ m. bit_at m r) mask ∙ bit_at_mask_above from (from + length vs) r h) p past (omega arith))
      (subst (λ l. Gathers cells t (at (length vs)) (cs ++ row first l)) (take_all (length vs) vs (omega arith)) (up_to_there (length vs) (omega arith)))

-- and all cells of a page
pub gathers_row : (cells : List ℕ) (t : Table) → IsSound t → (k : ℕ) → k < length t.entered → (vs : List ℕ) → IsWhole cells t k vs → (cs : List Change) → Gathers cells t (64 * suc k) cs → Gathers cells t (64 * suc (suc k)) (cs ++ row (64 * slice_index t.entered k) vs)
gathers_row cells t s k lt vs whole cs before =
    let long = whole_long cells t s k lt vs whole in
    let many : 64 ≡ 0 + length vs = omega (arith, long) in
    let all : 64 ≡ length vs = omega (arith, long) in
    let spot : 64 * suc k ≡ 64 * suc k + 0 = omega arith in
    let place : 64 * slice_index t.entered k ≡ 64 * slice_index t.entered k + 0 = omega arith in
    subst (λ n. Gathers cells t (64 * suc (suc k)) (cs ++ row n vs)) (sym place)
    (gathers_part cells t s k lt 0 vs (omega (arith, long))
    (whole.mask ∙ ap (λ n. 2 ^ n - 1) many)
    (whole.values ∙ (λ i. take (all i) (drop (spot i) t.values)))
    (subst (λ n. AllDiffer cells n vs) place whole.differ)
    cs before)
