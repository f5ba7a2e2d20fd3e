-- A store after the changes of chunks.
use Rattle.std.specs.Prelude.{ℕ, zero, suc, ◌≡◌, ◌+◌, ◌<◌, ◌⊎◌, List, [], ◌∷◌, ◌++◌, length, map, take, drop, slice_get, Option, Some, None}
use Rattle.std.proofs.Common.{refl, sym, ap, ◌∙◌, inl, inr, arith}
use Rattle.std.proofs.lemmas.List.{take-append-drop, length-drop}
use Rattle.std.proofs.lemmas.Option.{slice_get_within, same_Some, none-some}
use Rattle.std.proofs.lemmas.List.Elements.{All-nil, All-cons, All-append}
use Rattle.schedule.proofs.Sized.{get-append_left}
use Rattle.store.specs.Kept.{Kept}
use Rattle.store.specs.Flat.{values_of, filled}
use Rattle.lower_op.proofs.Refilled.{filled_values}
use Rattle.overlay_pages.specs.declared.changes.Change.{Change}
use Rattle.overlay_pages.specs.Over.{Writes, or_else, writes_of, written_over, last_of}
use Rattle.overlay_pages.proofs.Overlays.{length_over}
use Rattle.overlay_pages.proofs.Runs.{writes_both}
use Rattle.team_log.specs.declared.log.EndedChunk.{EndedChunk}
use Rattle.team_log.specs.Applied.{NoneWrites, OneWrites, AreApplied}
use Rattle.team_log.specs.Logged.{Leaving, changes_in, logged}

-- a cell under writes that leave it out, and under one that names it
pub get_none : (w : Writes) (ns : List ℕ) (p : ℕ) → w p ≡ None → slice_get (written_over w ns) p ≡ slice_get ns p
get_none w [] p e = refl
get_none w (n ∷ ns) zero e = ap (λ o. Some (or_else o n)) e
get_none w (n ∷ ns) (suc p) e = get_none (λ q. w (suc q)) ns p e

pub get_some : (w : Writes) (ns : List ℕ) (p n : ℕ) → p < length ns → w p ≡ Some n → slice_get (written_over w ns) p ≡ Some n
get_some w [] p n lt e = absurd (omega arith)
get_some w (m ∷ ns) zero n lt e = ap (λ o. Some (or_else o m)) e
get_some w (m ∷ ns) (suc p) n lt e = get_some (λ q. w (suc q)) ns p n (omega arith) e

get-append_right : {X : Type 0} (xs ys : List X) (k n : ℕ) → n ≡ length xs + k → slice_get (xs ++ ys) n ≡ slice_get ys k
get-append_right [] ys k n is = ap (slice_get ys) (let e : n ≡ k = omega arith in e)
get-append_right (x ∷ xs) ys k zero is = absurd (omega arith)
get-append_right (x ∷ xs) ys k (suc n) is = get-append_right xs ys k n (omega arith)

abbrev Left : List ℕ → List ℕ → List Leaving → ℕ → Type 0
Left before after cs place = (NoneWrites cs place × (slice_get after place ≡ slice_get before place)) ⊎ OneWrites cs after place

-- the changes of some chunks, and then those of others
pub applied_both : (before now later : List ℕ) (cs ds : List Leaving) → AreApplied before now cs → AreApplied now later ds → AreApplied before later (cs ++ ds)
applied_both before now later cs ds first second =
    let long = first.long in
    record { long = second.long ∙ first.long; each = λ place lt. go place (first.each place lt) (second.each place (omega arith)) }
  where
    go : (place : ℕ) → Left before now cs place → Left now later ds place → Left before later (cs ++ ds) place
    go place before_is (inr one) =
        inr (record { number = length cs + one.number; chunk = one.chunk; among = get-append_right cs ds one.number (length cs + one.number) refl ∙ one.among; value = one.value; writes = one.writes; holds = one.holds })
    go place (inl (none, is)) (inl (no_more, same)) = inl (All-append (λ (c : Leaving). writes_of c.changes place ≡ None) cs ds none no_more, same ∙ is)
    go place (inr one) (inl (no_more, same)) =
        inr
        (record {
          number = one.number;
          chunk = one.chunk;
          among = get-append_left cs ds one.number (slice_get_within cs one.number one.chunk one.among) ∙ one.among;
          value = one.value;
          writes = one.writes;
          holds = same ∙ one.holds;
        })

-- a chunk among those that are logged
record IsWritten (cs : List Leaving) (p n : ℕ) : Type 0 where
  number : ℕ
  chunk : Leaving
  among : slice_get cs number ≡ Some chunk
  writes : writes_of chunk.changes p ≡ Some n

module _ (p : ℕ) where
  split : (n : ℕ) (ws : List Change) → writes_of ws p ≡ last_of (writes_of (drop n ws) p) (writes_of (take n ws) p)
  split n ws = ap (λ (k : List Change). writes_of k p) (sym (take-append-drop n ws)) ∙ writes_both (take n ws) (drop n ws) p

  none_logged : (es : List EndedChunk) (ws : List Change) (ps : List (Option ℕ)) (bs : List ℕ) → writes_of ws p ≡ None → NoneWrites (logged es ws ps bs) p
  none_logged [] ws ps bs none = All-nil (λ (c : Leaving). writes_of c.changes p ≡ None)
  none_logged (e ∷ es) ws ps bs none = go (writes_of (drop e.changes ws) p) (writes_of (take e.changes ws) p) refl refl (sym (split e.changes ws) ∙ none) (λ later. none_logged es (drop e.changes ws) (drop e.partials ps) (drop e.bytes bs) later)
    where
      go : (o q : Option ℕ) → writes_of (drop e.changes ws) p ≡ o → writes_of (take e.changes ws) p ≡ q → last_of (writes_of (drop e.changes ws) p) (writes_of (take e.changes ws) p) ≡ None
          → (writes_of (drop e.changes ws) p ≡ None → NoneWrites (logged es (drop e.changes ws) (drop e.partials ps) (drop e.bytes bs)) p) → NoneWrites (logged (e ∷ es) ws ps bs) p
      go None q later own is rest = All-cons (λ (c : Leaving). writes_of c.changes p ≡ None) _ _ (sym (ap (λ o. last_of o (writes_of (take e.changes ws) p)) later) ∙ is) (rest later)
      go (Some n) q later own is rest = absurd (none-some n (sym is ∙ ap (λ o. last_of o (writes_of (take e.changes ws) p)) later))

  one_logged : (es : List EndedChunk) (ws : List Change) (ps : List (Option ℕ)) (bs : List ℕ) (n : ℕ) → changes_in es ≡ length ws → writes_of ws p ≡ Some n → IsWritten (logged es ws ps bs) p n
  one_logged [] [] ps bs n told is = absurd (cc is)
  one_logged [] (w ∷ ws) ps bs n told is = absurd (omega arith)
  one_logged (e ∷ es) ws ps bs n told is = go (writes_of (drop e.changes ws) p) refl (sym (split e.changes ws) ∙ is) (λ long later. one_logged es (drop e.changes ws) (drop e.partials ps) (drop e.bytes bs) n long later)
    where
      go : (o : Option ℕ) → writes_of (drop e.changes ws) p ≡ o → last_of (writes_of (drop e.changes ws) p) (writes_of (take e.changes ws) p) ≡ Some n
          → (changes_in es ≡ length (drop e.changes ws) → writes_of (drop e.changes ws) p ≡ Some n → IsWritten (logged es (drop e.changes ws) (drop e.partials ps) (drop e.bytes bs)) p n) → IsWritten (logged (e ∷ es) ws ps bs) p n
      go None later here rest =
          record { number = 0; chunk = _; among = refl; writes = sym (ap (λ o. last_of o (writes_of (take e.changes ws) p)) later) ∙ here }
      go (Some m) later here rest =
          let same : m ≡ n = same_Some m n (sym (ap (λ o. last_of o (writes_of (take e.changes ws) p)) later) ∙ here) in
          let left = length-drop e.changes ws in
          let r = rest (omega arith) (later ∙ ap Some same) in
          record { number = suc r.number; chunk = r.chunk; among = r.among; writes = r.writes }

-- all changes at once leave what the chunks' changes leave one after another
pub applied_log : (es : List EndedChunk) (ws : List Change) (ps : List (Option ℕ)) (bs before after : List ℕ) → changes_in es ≡ length ws → after ≡ written_over (writes_of ws) before
    → AreApplied before after (logged es ws ps bs)
applied_log es ws ps bs before after told is =
    record { long = ap (λ (l : List ℕ). length l) is ∙ length_over (writes_of ws) before; each = λ place lt. go place lt (writes_of ws place) refl }
  where
    go : (place : ℕ) → place < length before → (o : Option ℕ) → writes_of ws place ≡ o → Left before after (logged es ws ps bs) place
    go place lt None none = inl (none_logged place es ws ps bs none, ap (λ l. slice_get l place) is ∙ get_none (writes_of ws) before place none)
    go place lt (Some n) some =
        let r = one_logged place es ws ps bs n told some in
        inr (record { number = r.number; chunk = r.chunk; among = r.among; value = n; writes = r.writes; holds = ap (λ l. slice_get l place) is ∙ get_some (writes_of ws) before place n lt some })

-- a store filled with cells has the same shape
pub same_shape : (cells : List ℕ) (ks : List Kept) → map (λ (k : Kept). k.lengths) (filled cells ks) ≡ map (λ (k : Kept). k.lengths) ks
same_shape cells [] = refl
same_shape cells (k ∷ ks) = ap (λ l. k.lengths ∷ l) (same_shape (drop (length k.values) cells) ks)

-- and these cells
pub filled_over : (ks later : List Kept) (ws : List Change) → later ≡ filled (written_over (writes_of ws) (values_of ks)) ks → values_of later ≡ written_over (writes_of ws) (values_of ks)
filled_over ks later ws e =
    ap values_of e ∙ filled_values (written_over (writes_of ws) (values_of ks)) ks (length_over (writes_of ws) (values_of ks))
