-- Of the kinds that fix who runs a chunk: each worker takes its own chunks in order, so none is taken twice.
use Rattle.std.specs.Prelude.{ℕ, zero, suc, Bool, true, false, ◌≡◌, ◌==◌, ◌+◌, ◌<◌, ◌≤◌, ◌%◌, nat_lt, List, [], ◌∷◌, ◌++◌, length, take, filter, remove, Option, Some, None, slice_get}
use Rattle.std.proofs.Common.{refl, sym, ap, ◌∙◌, subst, cond, arith}
use Rattle.std.proofs.lemmas.Bool.Decides.{nat_tests}
use Rattle.std.proofs.lemmas.Bool.{eqb-true, ltb-true, lt-ltb}
use Rattle.std.proofs.lemmas.Option.{same_Some}
use Rattle.std.proofs.Math.Nat.{mod-lt}
use Rattle.semantics.specs.Meaning.Places.{below}
use Rattle.semantics.specs.Loops.Arrangement.{times, once, once_below, EachOnceBelow}
use Rattle.semantics.specs.Loops.Chunk.{Kind, PlainStatic, Static, Dynamic, Guided, owner, cut}
use Rattle.semantics.specs.Loops.Piece.{Piece}
use Rattle.semantics.specs.Teams.Machine.{World, Event, Draw, Arrive, Stop, Look, Job, begin, does, happens, happen, worker_of, arrived, drawn, got, at, piece_at, own_chunks, is_mine}
use Rattle.semantics.specs.Teams.WholeRuns.{after, out, is_by_ticket, TakesEachOnce, ArrivesOnce, WholeListsArrive}
use Rattle.semantics.proofs.TicketLaw.{times-append, once_below-more, times-remove, held_below, held_more, held_at, held_none, none_held, out_is, draws_each_once, tickets_arrive}
use Rattle.semantics.proofs.CutLaw.{one_chunk_each}

-- how often a number stands among those below n that pass a test
times_filter : (p : ℕ → Bool) (c n : ℕ) → times c (filter p (below n)) ≡ cond (p c) (once_below c n) 0
times_filter p c zero = go (p c) (let e : once_below c 0 ≡ 0 = grind (arith, nat_tests) in e)
  where
    go : (b : Bool) → once_below c 0 ≡ 0 → 0 ≡ cond b (once_below c 0) 0
    go true e = sym e
    go false e = refl
times_filter p c (suc n) =
    ap (times c) (filter_append (below n) (n ∷ []))
    ∙ times-append c (filter p (below n)) (filter p (n ∷ []))
    ∙ go (p n) refl (p c) refl (n == c) refl (times_filter p c n)
  where
    filter_append : (xs ys : List ℕ) → filter p (xs ++ ys) ≡ filter p xs ++ filter p ys
    filter_append [] ys = refl
    filter_append (x ∷ xs) ys = one (p x) (filter_append xs ys)
      where
        one : (b : Bool) → filter p (xs ++ ys) ≡ filter p xs ++ filter p ys → cond b (x ∷ filter p (xs ++ ys)) (filter p (xs ++ ys)) ≡ cond b (x ∷ filter p xs) (filter p xs) ++ filter p ys
        one true h = ap (λ l. x ∷ l) h
        one false h = h

    more : once_below c (suc n) ≡ once_below c n + once c n
    more = ap (once_below c) (let e : suc n ≡ n + 1 = omega arith in e) ∙ once_below-more c n

    go : (a : Bool) → p n ≡ a → (b : Bool) → p c ≡ b → (d : Bool) → (n == c) ≡ d → times c (filter p (below n)) ≡ cond b (once_below c n) 0 → times c (filter p (below n)) + times c (cond a (n ∷ []) []) ≡ cond b (once_below c (suc n)) 0
    go true h true k d e rest = omega (arith, more)
    go true h false k true e rest = let same = eqb-true n c e in let q : p n ≡ false = ap p same ∙ k in absurd cc
    go true h false k false e rest = let none : once c n ≡ 0 = grind (arith, nat_tests) in omega arith
    go false h true k true e rest = let same = eqb-true n c e in let q : p n ≡ true = ap p same ∙ k in absurd cc
    go false h true k false e rest = let none : once c n ≡ 0 = grind (arith, nat_tests) in omega (arith, more)
    go false h false k d e rest = omega arith

-- the chunks of all workers below m, where c belongs to v
own_below : (kind : Kind) (count workers c v m : ℕ) → owner kind c workers ≡ Some v → held_below c (own_chunks kind count workers) m ≡ cond (nat_lt v m) (once_below c count) 0
own_below kind count workers c v zero e = go (nat_lt v 0) refl
  where
    go : (b : Bool) → nat_lt v 0 ≡ b → 0 ≡ cond b (once_below c count) 0
    go true h = let less = ltb-true v 0 h in absurd (omega arith)
    go false h = refl
own_below kind count workers c v (suc m) e =
    held_more c (own_chunks kind count workers) m
    ∙ (λ i. own_below kind count workers c v m e i + one i)
    ∙ split (nat_lt v m) refl (v == m) refl
  where
    one : times c (own_chunks kind count workers m) ≡ cond (v == m) (once_below c count) 0
    one = times_filter (λ k. is_mine m (owner kind k workers)) c count ∙ ap (λ o. cond (is_mine m o) (once_below c count) 0) e

    split : (a : Bool) → nat_lt v m ≡ a → (b : Bool) → (v == m) ≡ b → cond a (once_below c count) 0 + cond b (once_below c count) 0 ≡ cond (nat_lt v (suc m)) (once_below c count) 0
    split true h true k = let less = ltb-true v m h in let same = eqb-true v m k in absurd (omega arith)
    split true h false k = let less = ltb-true v m h in (let e : once_below c count + 0 ≡ once_below c count = omega arith in e) ∙ sym (ap (λ b. cond b (once_below c count) 0) (lt-ltb v (suc m) (omega arith)))
    split false h true k = let same = eqb-true v m k in (let e : 0 + once_below c count ≡ once_below c count = omega arith in e) ∙ sym (ap (λ b. cond b (once_below c count) 0) (lt-ltb v (suc m) (omega arith)))
    split false h false k = sym (ap (λ b. cond b (once_below c count) 0) (beyond h k))
      where
        beyond : nat_lt v m ≡ false → (v == m) ≡ false → nat_lt v (suc m) ≡ false
        beyond h k = grind (arith, nat_tests)

-- so no chunk is a worker's twice, nor two workers'
owned_once : (kind : Kind) (count workers c : ℕ) → is_by_ticket kind ≡ false → held_below c (own_chunks kind count workers) workers ≤ once_below c count
owned_once kind count workers c e = go (owner kind c workers) refl (static kind e)
  where
    static : (k : Kind) → is_by_ticket k ≡ false → owner k c workers ≡ None → ⊥
    static PlainStatic e h = cc
    static (Static n) e h = cc
    static (Dynamic n) e h = cc
    static (Guided n) e h = cc

    go : (o : Option ℕ) → owner kind c workers ≡ o → (owner kind c workers ≡ None → ⊥) → held_below c (own_chunks kind count workers) workers ≤ once_below c count
    go None h none = absurd (none h)
    go (Some v) h none = let r = own_below kind count workers c v workers h in most (nat_lt v workers) r
      where
        most : (b : Bool) → held_below c (own_chunks kind count workers) workers ≡ cond b (once_below c count) 0 → held_below c (own_chunks kind count workers) workers ≤ once_below c count
        most true r = omega arith
        most false r = omega arith

take_next : (xs : List ℕ) (i c : ℕ) → slice_get xs i ≡ Some c → take (i + 1) xs ≡ take i xs ++ c ∷ []
take_next [] i c e = absurd cc
take_next (x ∷ xs) zero c e = let same = same_Some _ _ e in ap (λ y. y ∷ []) same
take_next (x ∷ xs) (suc i) c e = ap (λ n. take n (x ∷ xs)) (let m : suc i + 1 ≡ suc (i + 1) = omega arith in m) ∙ ap (λ l. x ∷ l) (take_next xs i c e)

past_end : (xs : List ℕ) (i : ℕ) → slice_get xs i ≡ None → length xs ≤ i
past_end [] i e = omega arith
past_end (x ∷ xs) zero e = absurd cc
past_end (x ∷ xs) (suc i) e = let r = past_end xs i e in omega arith

take_most : (c i : ℕ) (xs : List ℕ) → times c (take i xs) ≤ times c xs
take_most c zero xs = omega arith
take_most c (suc i) [] = omega arith
take_most c (suc i) (x ∷ xs) = let r = take_most c i xs in omega arith

take_whole : (c i : ℕ) (xs : List ℕ) → length xs ≤ i → times c (take i xs) ≡ times c xs
take_whole c zero [] le = refl
take_whole c zero (x ∷ xs) le = absurd (omega arith)
take_whole c (suc i) [] le = refl
take_whole c (suc i) (x ∷ xs) le = let r = take_whole c i xs (omega arith) in omega arith

held_same : (c : ℕ) (f g : ℕ → List ℕ) (m : ℕ) → ((w : ℕ) → w < m → times c (f w) ≡ times c (g w)) → held_below c f m ≡ held_below c g m
held_same c f g zero h = refl
held_same c f g (suc m) h =
    let r = held_same c f g m (λ w lt. h w (omega arith)) in
    let one = h m (omega arith) in
    omega (arith, held_more c f m, held_more c g m)

held_less : (c : ℕ) (f g : ℕ → List ℕ) (m : ℕ) → ((w : ℕ) → times c (f w) ≤ times c (g w)) → held_below c f m ≤ held_below c g m
held_less c f g zero h = omega arith
held_less c f g (suc m) h =
    let r = held_less c f g m h in
    let one = h m in
    omega (arith, held_more c f m, held_more c g m)

-- a worker's arrivals and what it holds are the first of its own chunks
module _ (job : Job) where
  abbrev own : ℕ → List ℕ
  own w = own_chunks job.kind (length job.pieces) job.workers w

  abbrev taken_of : World → ℕ → List ℕ
  taken_of s w = take (s.taken w) (own w)

  record Takes (s : World) : Type 0 where
    each : (c : ℕ) → times c (out job s) ≡ held_below c (taken_of s) job.workers
    ended : (w : ℕ) → s.ended w ≡ true → length (own w) ≤ s.taken w

  takes_chunk : (s : World) (w c : ℕ) → w < job.workers → slice_get (own w) (s.taken w) ≡ Some c → Takes s → Takes (got s w (Some c))
  takes_chunk s w c lt e h =
      record {
        each = λ x.
            let was = h.each x in
            let held = held_at x s.held w (s.held w ++ c ∷ []) job.workers lt in
            let took = held_at x (taken_of s) w (take (s.taken w + 1) (own w)) job.workers lt in
            let same = held_same x (taken_of (got s w (Some c))) (at (taken_of s) w (take (s.taken w + 1) (own w))) job.workers (λ v less. ap (times x) (one v (v == w) refl)) in
            let next = ap (times x) (take_next (own w) (s.taken w) c e) in
            omega (arith, out_is job s x, out_is job (got s w (Some c)) x, times-append x (s.held w) (c ∷ []), times-append x (take (s.taken w) (own w)) (c ∷ []));
        ended = λ v q. let most = h.ended v q in more v (v == w) refl most;
      }
    where
      one : (v : ℕ) (b : Bool) → (v == w) ≡ b → take (at s.taken w (s.taken w + 1) v) (own v) ≡ at (taken_of s) w (take (s.taken w + 1) (own w)) v
      one v true q = ap (λ d. take (cond d (s.taken w + 1) (s.taken v)) (own v)) q ∙ ap (λ k. take (s.taken w + 1) (own k)) (eqb-true v w q) ∙ sym (ap (λ d. cond d (take (s.taken w + 1) (own w)) (taken_of s v)) q)
      one v false q = ap (λ d. take (cond d (s.taken w + 1) (s.taken v)) (own v)) q ∙ sym (ap (λ d. cond d (take (s.taken w + 1) (own w)) (taken_of s v)) q)

      more : (v : ℕ) (b : Bool) → (v == w) ≡ b → length (own v) ≤ s.taken v → length (own v) ≤ at s.taken w (s.taken w + 1) v
      more v true q most = let same = eqb-true v w q in let t = ap s.taken same in let is : at s.taken w (s.taken w + 1) v ≡ s.taken w + 1 = ap (λ d. cond d (s.taken w + 1) (s.taken v)) q in omega arith
      more v false q most = let is : at s.taken w (s.taken w + 1) v ≡ s.taken v = ap (λ d. cond d (s.taken w + 1) (s.taken v)) q in omega arith

  meets_end : (s : World) (w : ℕ) → slice_get (own w) (s.taken w) ≡ None → Takes s → Takes (got s w None)
  meets_end s w e h = record { each = h.each; ended = λ v q. go v (v == w) refl q }
    where
      go : (v : ℕ) (b : Bool) → (v == w) ≡ b → at s.ended w true v ≡ true → length (own v) ≤ s.taken v
      go v true q r = subst (λ (k : ℕ). length (own k) ≤ s.taken k) (sym (eqb-true v w q)) (past_end (own w) (s.taken w) e)
      go v false q r = h.ended v (sym (ap (λ d. cond d true (s.ended v)) q) ∙ r)

  gets : (s : World) (w : ℕ) (o : Option ℕ) → w < job.workers → slice_get (own w) (s.taken w) ≡ o → Takes s → Takes (got s w o)
  gets s w None lt e h = meets_end s w e h
  gets s w (Some c) lt e h = takes_chunk s w c lt e h

  drawn_static : (kind : Kind) (s : World) (w : ℕ) → is_by_ticket kind ≡ false → drawn job kind s w ≡ got s w (slice_get (own_chunks kind (length job.pieces) job.workers w) (s.taken w))
  drawn_static PlainStatic s w e = refl
  drawn_static (Static k) s w e = refl
  drawn_static (Dynamic k) s w e = absurd cc
  drawn_static (Guided k) s w e = absurd cc

  -- a piece that arrives is no longer held
  arrive_out : (s : World) (w i x : ℕ) (o : Option ℕ) (p : Option Piece) → w < job.workers → slice_get (s.held w) i ≡ o → times x (out job (arrived job s w i o p)) ≡ times x (out job s)
  arrive_out s w i x (Some c) (Some p) lt e =
      let q = held_at x s.held w (remove (s.held w) i) job.workers lt in
      let r = times-remove x c (s.held w) i e in
      omega (arith, out_is job s x, out_is job (arrived job s w i (Some c) (Some p)) x, times-append x s.merge.arrived (c ∷ []))
  arrive_out s w i x (Some c) None lt e = refl
  arrive_out s w i x None p lt e = refl

  arrive_takes : (s : World) (w i : ℕ) (o : Option ℕ) (p : Option Piece) → w < job.workers → slice_get (s.held w) i ≡ o → Takes s → Takes (arrived job s w i o p)
  arrive_takes s w i (Some c) (Some p) lt e h = record { each = λ x. arrive_out s w i x (Some c) (Some p) lt e ∙ h.each x; ended = h.ended }
  arrive_takes s w i (Some c) None lt e h = h
  arrive_takes s w i None p lt e h = h

  unless_takes : (s t : World) (b : Bool) → Takes s → Takes t → Takes (cond b s t)
  unless_takes s t true h k = h
  unless_takes s t false h k = k

  does_takes : (s : World) (e : Event) → is_by_ticket job.kind ≡ false → worker_of e < job.workers → Takes s → Takes (does job s e)
  does_takes s (Draw w) k lt h =
      unless_takes s (drawn job job.kind s w) (s.ended w) h
      (subst Takes (sym (drawn_static job.kind s w k)) (gets s w (slice_get (own w) (s.taken w)) lt refl h))
  does_takes s (Arrive w i) k lt h = arrive_takes s w i (slice_get (s.held w) i) (piece_at job (slice_get (s.held w) i)) lt refl h
  does_takes s (Stop w) k lt h = record { each = h.each; ended = h.ended }
  does_takes s (Look w) k lt h = record { each = h.each; ended = h.ended }

  happens_takes : (s : World) (e : Event) → is_by_ticket job.kind ≡ false → Takes s → Takes (happens job s e)
  happens_takes s e k h = go (nat_lt (worker_of e) job.workers) refl
    where
      go : (b : Bool) → nat_lt (worker_of e) job.workers ≡ b → Takes (cond b (does job s e) s)
      go true q = does_takes s e k (ltb-true (worker_of e) job.workers q) h
      go false q = h

  all_takes : (es : List Event) (s : World) → is_by_ticket job.kind ≡ false → Takes s → Takes (happen job s es)
  all_takes [] s k h = h
  all_takes (e ∷ es) s k h = all_takes es (happens job s e) k (happens_takes s e k h)

  none_taken : (x m : ℕ) → 0 ≡ held_below x (λ w. take 0 (own w)) m
  none_taken x zero = refl
  none_taken x (suc m) = let r = none_taken x m in omega (arith, held_more x (λ w. take 0 (own w)) m)

  begin_takes : Takes (begin job)
  begin_takes = record { each = λ x. none_held x job.workers ∙ none_taken x job.workers; ended = λ w e. absurd cc }

-- for every kind no chunk is taken twice
pub takes_each_once : TakesEachOnce
takes_each_once job events c = go (is_by_ticket job.kind) refl
  where
    go : (b : Bool) → is_by_ticket job.kind ≡ b → times c (out job (after job events)) ≤ once_below c (length job.pieces)
    go true e =
        let t = draws_each_once job events e in
        let each = t.each_once c in
        let most = t.at_most in
        grind (arith, nat_tests)
    go false e =
        let h = all_takes job events (begin job) e (begin_takes job) in
        let each = h.each c in
        let less = held_less c (taken_of job (after job events)) (own job) job.workers (λ w. take_most c ((after job events).taken w) (own job w)) in
        let once' = owned_once job.kind (length job.pieces) job.workers c e in
        omega arith

-- and so none arrives twice
pub arrives_once : ArrivesOnce
arrives_once job events c = let h = takes_each_once job events c in omega (arith, out_is job (after job events) c)

-- at the end of a whole list all chunks have arrived, each once
pub whole_lists_arrive : WholeListsArrive
whole_lists_arrive job events is whole = go (is_by_ticket job.kind) refl
  where
    s : World
    s = after job events

    all_owned : (x : ℕ) → is_by_ticket job.kind ≡ false → held_below x (own job) job.workers ≡ once_below x (length job.pieces)
    all_owned x e = by_kind job.kind refl e
      where
        few : (kind : Kind) → job.kind ≡ kind → length job.pieces ≡ length (cut kind is.iterations job.workers)
        few kind k = is.chunks ∙ ap (λ j. length (cut j is.iterations job.workers)) k

        from : (v : ℕ) → owner job.kind x job.workers ≡ Some v → (job.workers ≤ v → once_below x (length job.pieces) ≡ 0) → held_below x (own job) job.workers ≡ once_below x (length job.pieces)
        from v o beyond = own_below job.kind (length job.pieces) job.workers x v job.workers o ∙ split (nat_lt v job.workers) refl
          where
            split : (b : Bool) → nat_lt v job.workers ≡ b → cond b (once_below x (length job.pieces)) 0 ≡ once_below x (length job.pieces)
            split true h = refl
            split false h = sym (beyond (grind (arith, nat_tests)))

        by_kind : (kind : Kind) → job.kind ≡ kind → is_by_ticket job.kind ≡ false → held_below x (own job) job.workers ≡ once_below x (length job.pieces)
        by_kind PlainStatic k e =
            from x (ap (λ j. owner j x job.workers) k)
            (λ le. let f = few PlainStatic k in let most = one_chunk_each is.iterations job.workers in grind (arith, nat_tests))
        by_kind (Static n) k e =
            from (x % job.workers) (ap (λ j. owner j x job.workers) k)
            (λ le. let less = mod-lt x is.some_worker in absurd (omega arith))
        by_kind (Dynamic n) k e = let q : is_by_ticket job.kind ≡ true = ap is_by_ticket k in absurd cc
        by_kind (Guided n) k e = let q : is_by_ticket job.kind ≡ true = ap is_by_ticket k in absurd cc

    go : (b : Bool) → is_by_ticket job.kind ≡ b → EachOnceBelow (length job.pieces) (after job events).merge.arrived
    go true e = tickets_arrive job events e is.some_worker whole
    go false e = λ x.
        let h = all_takes job events (begin job) e (begin_takes job) in
        let each = h.each x in
        let none = held_none x job.workers (after job events).held (λ w lt. (whole w lt).1) in
        let all = held_same x (taken_of job (after job events)) (own job) job.workers (λ w lt. take_whole x ((after job events).taken w) (own job w) (h.ended w (whole w lt).0)) in
        let owned = all_owned x e in
        omega (arith, out_is job (after job events) x)
