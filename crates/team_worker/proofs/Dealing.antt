-- The pieces of the chunks that are dealt to workers are those of all chunks.
use Rattle.std.specs.Prelude.{ℕ, zero, suc, Bool, true, false, ◌≡◌, ◌==◌, ◌+◌, ◌-◌, ◌%◌, ◌<◌, ◌≤◌, List, [], ◌∷◌, ◌++◌, length, flat_map, min, take, slice_get, Option, Some, None}
use Rattle.std.proofs.Common.{refl, sym, ap, ◌∙◌, cond, subst, append-nil, arith, ⊎_elim}
use Rattle.std.proofs.Math.Nat.{min-le_right, mod-le}
use Rattle.std.proofs.lemmas.Bool.{eqb-true, cases_lt}
use Rattle.std.proofs.lemmas.List.Elements.{filter-append}
use Rattle.std.proofs.lemmas.List.{take_more}
use Rattle.std.proofs.lemmas.List.Sums.{length-filter, count_by-le-length}
use Rattle.std.proofs.lemmas.Grind.{flat_map-append}
use Rattle.std.proofs.lemmas.Option.{slice_get_within, get_or_from_slice_get}
use Rattle.semantics.specs.Meaning.Places.{below}
use Rattle.semantics.specs.Loops.Arrangement.{EachOnceBelow, times}
use Rattle.semantics.specs.Loops.Chunk.{Chunk, cut, owner}
use Rattle.semantics.specs.Teams.Machine.{own_chunks, is_mine}
use Rattle.semantics.specs.Teams.WholeRuns.{is_by_ticket}
use Rattle.schedule.specs.Part as parts
use Rattle.schedule.specs.Part.{static_kind}
use Rattle.schedule.proofs.Owned.{workers_share_chunks}
use Rattle.store.specs.Kept.{Kept}
use Rattle.lower.specs.declared.lowered.LoweredLoop.{LoweredLoop}
use Rattle.team_worker.specs.declared.pass.Pass.{Pass}
use Rattle.team_worker.specs.Ends.{IsAccount, AreAll}
use Rattle.team_log.specs.Logged.{Account, both}
use Rattle.team_worker.specs.declared.way.Way.{Way}
use Rattle.team_worker.specs.declared.way.Way.TheVariants.{Dealt, Drawn}
use Rattle.team_worker.specs.Dealt.{own_numbers}
use Rattle.team_worker.specs.Places.{places_of}
use Rattle.team_worker.proofs.Accounts.{account_both}
use Rattle.team_worker.proofs.Cutting.{length_below}

-- a worker has no more chunks than there are
pub own_few : (size : Option ℕ) (count workers worker : ℕ) → length (own_numbers size count workers worker) ≤ count
own_few size count workers worker =
    let p : ℕ → Bool = λ c. is_mine worker (owner (static_kind size) c workers) in
    omega (arith, length-filter p (below count), count_by-le-length p (below count), length_below count)

-- the numbers of its part are these
pub part_numbers : (p : parts.Part) (size : Option ℕ) (n workers worker : ℕ) (chunks : List Chunk) → p ≡ record { kind = static_kind size; iterations = n; workers = workers; worker = worker }
    → chunks ≡ cut (static_kind size) n workers → parts.own_numbers p ≡ own_numbers size (length chunks) workers worker
part_numbers p size n workers worker chunks is whole = ap parts.own_numbers is ∙ ap (λ (k : List Chunk). own_chunks (static_kind size) (length k) workers worker) (sym whole)

-- one more of a list
pub next_own : (xs : List ℕ) (i x : ℕ) → slice_get xs i ≡ Some x → take (i + 1) xs ≡ take i xs ++ x ∷ []
next_own xs i x e = take_more xs i x (slice_get_within xs i x e) ∙ ap (λ y. take i xs ++ y ∷ []) (get_or_from_slice_get xs i x x e)

-- nothing stands past its end
pub past_end : (xs : List ℕ) (i : ℕ) → slice_get xs i ≡ None → length xs ≤ i
past_end [] i e = omega arith
past_end (x ∷ xs) zero e = absurd (cc e)
past_end (x ∷ xs) (suc i) e = let r = past_end xs i e in omega arith

-- no chunk before a worker's number is its own
not_mine : (size : Option ℕ) (workers worker c : ℕ) → c < worker → is_mine worker (owner (static_kind size) c workers) ≡ false
not_mine size workers worker c lt = low size
  where
    other : (v : ℕ) → v < worker → (b : Bool) → (v == worker) ≡ b → (v == worker) ≡ false
    other v less true e = let same = eqb-true v worker e in absurd (omega arith)
    other v less false e = e

    low : (size : Option ℕ) → is_mine worker (owner (static_kind size) c workers) ≡ false
    low None = other c lt (c == worker) refl
    low (Some k) = let most = mod-le c workers in other (c % workers) (omega arith) (c % workers == worker) refl

-- a worker past the chunks has none
pub past_none : (size : Option ℕ) (workers worker count : ℕ) → count ≤ worker → own_numbers size count workers worker ≡ []
past_none size workers worker zero le = refl
past_none size workers worker (suc n) le =
    let p : ℕ → Bool = λ c. is_mine worker (owner (static_kind size) c workers) in
    filter-append p (below n) (n ∷ [])
    ∙ ap (λ (xs : List ℕ). xs ++ cond (p n) (n ∷ []) []) (past_none size workers worker n (omega arith))
    ∙ ap (λ (b : Bool). cond b (n ∷ []) []) (not_mine size workers worker n (omega arith))

-- more workers have no more of them
more_none : (size : Option ℕ) (workers count m more : ℕ) → count ≤ m → flat_map (own_numbers size count workers) (below (more + m)) ≡ flat_map (own_numbers size count workers) (below m)
more_none size workers count m zero le = let none : 0 + m ≡ m = omega arith in ap (λ n. flat_map (own_numbers size count workers) (below n)) none
more_none size workers count m (suc more) le =
    let own : ℕ → List ℕ = own_numbers size count workers in
    let next : suc more + m ≡ suc (more + m) = omega arith in
    ap (λ n. flat_map own (below n)) next
    ∙ flat_map-append own (below (more + m)) ((more + m) ∷ [])
    ∙ ap (λ (xs : List ℕ). flat_map own (below (more + m)) ++ (xs ++ [])) (past_none size workers (more + m) count (omega arith))
    ∙ append-nil (flat_map own (below (more + m)))
    ∙ more_none size workers count m more le

-- the workers that come to a chunk have all of them
pub placed_share : (size : Option ℕ) (workers count : ℕ) → flat_map (own_numbers size count workers) (below (min count workers)) ≡ flat_map (own_numbers size count workers) (below workers)
placed_share size workers count = ⊎_elim few many (cases_lt count workers)
  where
    own : ℕ → List ℕ
    own = own_numbers size count workers

    few : count < workers → flat_map own (below (min count workers)) ≡ flat_map own (below workers)
    few lt =
        let low : min count workers ≡ count = omega arith in
        let whole : workers ≡ (workers - count) + count = omega arith in
        ap (λ n. flat_map own (below n)) low ∙ sym (more_none size workers count count (workers - count) (omega arith)) ∙ ap (λ n. flat_map own (below n)) (sym whole)

    many : workers ≤ count → flat_map own (below (min count workers)) ≡ flat_map own (below workers)
    many le = let low : min count workers ≡ workers = omega arith in ap (λ n. flat_map own (below n)) low

-- there are no more places than workers
pub places_few : (way : Way) (count workers : ℕ) → places_of way count workers ≤ workers
places_few (Dealt size) count workers = min-le_right count workers
places_few (Drawn draw) count workers = omega arith

module _ (l : LoweredLoop) (registers : List ℕ) (ks : List Kept) (pass : Pass) (chunks : List Chunk) where
  -- one worker more
  pub dealt_more : (own : ℕ → List ℕ) (n m : ℕ) (was more after : Account) → m ≡ suc n → after ≡ both was more
      → IsAccount l registers ks pass chunks (flat_map own (below n)) was → IsAccount l registers ks pass chunks (own n) more → IsAccount l registers ks pass chunks (flat_map own (below m)) after
  dealt_more own n m was more after next joined first last =
      let all : flat_map own (below m) ≡ flat_map own (below n) ++ own n =
      ap (λ k. flat_map own (below k)) next ∙ flat_map-append own (below n) (n ∷ []) ∙ ap (λ (k : List ℕ). flat_map own (below n) ++ k) (append-nil (own n)) in
      subst (λ ns. IsAccount l registers ks pass chunks ns after) (sym all)
      (subst (λ a. IsAccount l registers ks pass chunks (flat_map own (below n) ++ own n) a) (sym joined) (account_both l registers ks pass chunks (flat_map own (below n)) (own n) was more first last))

  not_drawn : (size : Option ℕ) → is_by_ticket (static_kind size) ≡ false
  not_drawn None = refl
  not_drawn (Some k) = refl

  -- all workers' together
  pub dealt_all : (size : Option ℕ) (workers n iterations : ℕ) (a : Account) → chunks ≡ cut (static_kind size) iterations workers → 0 < workers → n ≡ min (length chunks) workers
      → IsAccount l registers ks pass chunks (flat_map (own_numbers size (length chunks) workers) (below n)) a → AreAll l registers ks pass chunks a
  dealt_all size workers n iterations a is some number dealt =
      let kind = static_kind size in
      let count = length chunks in
      let law : EachOnceBelow count (flat_map (own_chunks kind count workers) (below workers)) =
      subst (λ (k : List Chunk). EachOnceBelow (length k) (flat_map (own_chunks kind (length k) workers) (below workers))) (sym is) (workers_share_chunks kind iterations workers (not_drawn size) some) in
      record {
        numbers = flat_map (own_numbers size count workers) (below n);
        account = dealt;
        once = λ x. ap (λ k. times x (flat_map (own_numbers size count workers) (below k))) number ∙ ap (times x) (placed_share size workers count) ∙ law x;
      }
