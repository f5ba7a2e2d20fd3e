-- Tickets are drawn once each and none is left out, after every list of events.
use Rattle.std.specs.Prelude.{ℕ, zero, suc, Bool, true, false, ◌≡◌, ◌≢◌, ◌==◌, ◌+◌, ◌<◌, ◌≤◌, nat_lt, List, [], ◌∷◌, ◌++◌, length, flat_map, remove, Option, Some, None, slice_get}
use Rattle.std.proofs.Common.{refl, ap, ◌∙◌, cond, arith}
use Rattle.std.proofs.lemmas.Bool.Decides.{nat_tests}
use Rattle.std.proofs.lemmas.Bool.{eq-eqb, eqb-true, eqb-false, ltb-true, ltb-false}
use Rattle.std.proofs.lemmas.Option.{same_Some}
use Rattle.std.proofs.lemmas.Grind.{flat_map-append}
use Rattle.semantics.specs.Meaning.Places.{below}
use Rattle.semantics.specs.Loops.Arrangement.{times, once, once_below, EachOnceBelow}
use Rattle.semantics.specs.Loops.Chunk.{Kind, PlainStatic, Static, Dynamic, Guided}
use Rattle.semantics.specs.Loops.Piece.{Piece}
use Rattle.semantics.specs.Teams.Machine.{World, Event, Draw, Arrive, Stop, Look, Job, begin, does, happens, happen, worker_of, arrived, drawn, got, at, ticket, piece_at, IsWhole}
use Rattle.semantics.specs.Teams.WholeRuns.{after, out, is_by_ticket, TicketsOnce, DrawsEachOnce}

pub times-append : (x : ℕ) (xs ys : List ℕ) → times x (xs ++ ys) ≡ times x xs + times x ys
times-append x [] ys = omega arith
times-append x (z ∷ zs) ys = let r = times-append x zs ys in omega arith

pub once_below-more : (x n : ℕ) → once_below x (n + 1) ≡ once_below x n + once x n
once_below-more x n = grind (arith, nat_tests)

pub times-remove : (x c : ℕ) (xs : List ℕ) (i : ℕ) → slice_get xs i ≡ Some c → times x (remove xs i) + once x c ≡ times x xs
times-remove x c [] i e = absurd cc
times-remove x c (y ∷ ys) zero e = let h = ap (once x) (same_Some _ _ e) in omega arith
times-remove x c (y ∷ ys) (suc i) e = let r = times-remove x c ys i e in omega arith

pub at_same : (f : ℕ → List ℕ) (w : ℕ) (v : List ℕ) → at f w v w ≡ v
at_same f w v = ap (λ b. cond b v (f w)) (eq-eqb w w refl)

at_other : (f : ℕ → List ℕ) (w : ℕ) (v : List ℕ) (y : ℕ) → y ≢ w → at f w v y ≡ f y
at_other f w v y ne = grind (arith, nat_tests)

-- how often x stands in what the workers below n hold
abbrev pub held_below : ℕ → (ℕ → List ℕ) → ℕ → ℕ
held_below x f n = times x (flat_map f (below n))

pub held_more : (x : ℕ) (f : ℕ → List ℕ) (n : ℕ) → held_below x f (suc n) ≡ held_below x f n + times x (f n)
held_more x f n = ap (times x) (flat_map-append f (below n) (n ∷ [])) ∙ (let r = times-append x (flat_map f (below n)) (f n ++ []) in let q = times-append x (f n) [] in omega arith)

held_past : (x : ℕ) (f : ℕ → List ℕ) (w : ℕ) (v : List ℕ) (n : ℕ) → n ≤ w → held_below x (at f w v) n ≡ held_below x f n
held_past x f w v zero le = refl
held_past x f w v (suc n) le =
    let r = held_past x f w v n (omega arith) in
    let o = ap (times x) (at_other f w v n (λ e. omega arith)) in
    omega (arith, held_more x f n, held_more x (at f w v) n)

pub held_at : (x : ℕ) (f : ℕ → List ℕ) (w : ℕ) (v : List ℕ) (n : ℕ) → w < n → held_below x (at f w v) n + times x (f w) ≡ held_below x f n + times x v
held_at x f w v zero lt = absurd (omega arith)
held_at x f w v (suc n) lt = go (n == w) refl (λ less. held_at x f w v n less)
  where
    go : (b : Bool) → (n == w) ≡ b → (w < n → held_below x (at f w v) n + times x (f w) ≡ held_below x f n + times x v) → held_below x (at f w v) (suc n) + times x (f w) ≡ held_below x f (suc n) + times x v
    go true e before =
        let same = eqb-true n w e in
        let here = ap (λ t. times x (cond t v (f n))) e in
        let there = ap (λ k. times x (f k)) same in
        let r = held_past x f w v n (omega arith) in
        omega (arith, held_more x f n, held_more x (at f w v) n)
    go false e before =
        let apart = eqb-false n w e in
        let here = ap (λ t. times x (cond t v (f n))) e in
        let r = before (omega arith) in
        omega (arith, held_more x f n, held_more x (at f w v) n)

pub out_is : (job : Job) (s : World) (x : ℕ) → times x (out job s) ≡ times x s.merge.arrived + held_below x s.held job.workers
out_is job s x = times-append x s.merge.arrived (flat_map s.held (below job.workers))

abbrev next_world : World → ℕ → Bool → World
next_world s w b = record (got s w (cond b (Some s.next) None)) { next = cond b (s.next + 1) s.next }

-- a draw: the next ticket, or the end
draws : (job : Job) (s : World) (w : ℕ) → w < job.workers → TicketsOnce job s → TicketsOnce job (ticket s w (length job.pieces))
draws job s w lt h = go (nat_lt s.next (length job.pieces)) refl
  where
    go : (b : Bool) → nat_lt s.next (length job.pieces) ≡ b → TicketsOnce job (next_world s w b)
    go true e =
        let less = ltb-true s.next (length job.pieces) e in
        record {
          at_most = omega arith;
          each_once = λ x.
              let o = h.each_once x in
              let q = held_at x s.held w (s.held w ++ s.next ∷ []) job.workers lt in
              omega (arith, out_is job s x, out_is job (next_world s w true) x, times-append x (s.held w) (s.next ∷ []), once_below-more x s.next);
          ended = λ v t. absurd (let r = h.ended v t in omega arith);
        }
    go false e =
        let no_less = ltb-false s.next (length job.pieces) e in
        let most = h.at_most in
        record { at_most = h.at_most; each_once = h.each_once; ended = λ v t. omega arith }

arrives : (job : Job) (s : World) (w i : ℕ) (o : Option ℕ) (p : Option Piece) → w < job.workers → slice_get (s.held w) i ≡ o → TicketsOnce job s → TicketsOnce job (arrived job s w i o p)
arrives job s w i (Some c) (Some p) lt e h =
    record {
      at_most = h.at_most;
      each_once = λ x.
          let o = h.each_once x in
          let q = held_at x s.held w (remove (s.held w) i) job.workers lt in
          let r = times-remove x c (s.held w) i e in
          omega (arith, out_is job s x, out_is job (arrived job s w i (Some c) (Some p)) x, times-append x s.merge.arrived (c ∷ []));
      ended = h.ended;
    }
arrives job s w i (Some c) None lt e h = h
arrives job s w i None p lt e h = h

unless : (job : Job) (s t : World) (b : Bool) → TicketsOnce job s → TicketsOnce job t → TicketsOnce job (cond b s t)
unless job s t true h k = h
unless job s t false h k = k

by_kind : (job : Job) (s : World) (w : ℕ) (kind : Kind) → is_by_ticket kind ≡ true → w < job.workers → TicketsOnce job s → TicketsOnce job (drawn job kind s w)
by_kind job s w PlainStatic e lt h = absurd cc
by_kind job s w (Static k) e lt h = absurd cc
by_kind job s w (Dynamic k) e lt h = draws job s w lt h
by_kind job s w (Guided k) e lt h = draws job s w lt h

does_keeps : (job : Job) (s : World) (e : Event) → is_by_ticket job.kind ≡ true → worker_of e < job.workers → TicketsOnce job s → TicketsOnce job (does job s e)
does_keeps job s (Draw w) k lt h = unless job s (drawn job job.kind s w) (s.ended w) h (by_kind job s w job.kind k lt h)
does_keeps job s (Arrive w i) k lt h = arrives job s w i (slice_get (s.held w) i) (piece_at job (slice_get (s.held w) i)) lt refl h
does_keeps job s (Stop w) k lt h = record { at_most = h.at_most; each_once = h.each_once; ended = h.ended }
does_keeps job s (Look w) k lt h = record { at_most = h.at_most; each_once = h.each_once; ended = h.ended }

event_keeps : (job : Job) (s : World) (e : Event) → is_by_ticket job.kind ≡ true → TicketsOnce job s → TicketsOnce job (happens job s e)
event_keeps job s e k h = one (nat_lt (worker_of e) job.workers) refl
  where
    one : (b : Bool) → nat_lt (worker_of e) job.workers ≡ b → TicketsOnce job (cond b (does job s e) s)
    one true q = does_keeps job s e k (ltb-true (worker_of e) job.workers q) h
    one false q = h

events_keep : (job : Job) (es : List Event) (s : World) → is_by_ticket job.kind ≡ true → TicketsOnce job s → TicketsOnce job (happen job s es)
events_keep job [] s k h = h
events_keep job (e ∷ es) s k h = events_keep job es (happens job s e) k (event_keeps job s e k h)

-- no worker holds a chunk where the loop begins
pub none_held : (x n : ℕ) → held_below x (λ w. []) n ≡ 0
none_held x zero = refl
none_held x (suc n) = let r = none_held x n in omega (arith, held_more x (λ w. []) n)

pub draws_each_once : DrawsEachOnce
draws_each_once job events k =
    events_keep job events (begin job) k
    (record { at_most = omega arith; each_once = λ x. none_held x job.workers ∙ nothing_below x; ended = λ w e. absurd cc })
  where
    nothing_below : (x : ℕ) → 0 ≡ once_below x 0
    nothing_below x = grind (arith, nat_tests)

-- who holds nothing adds nothing
pub held_none : (x n : ℕ) (f : ℕ → List ℕ) → ((w : ℕ) → w < n → f w ≡ []) → held_below x f n ≡ 0
held_none x zero f h = refl
held_none x (suc n) f h =
    let r = held_none x n f (λ w lt. h w (omega arith)) in
    let o = ap (times x) (h n (omega arith)) in
    omega (arith, held_more x f n)

-- at the end of a whole list of a kind that draws tickets, all chunks have arrived, each once
pub tickets_arrive : (job : Job) (events : List Event) → is_by_ticket job.kind ≡ true → 0 < job.workers → IsWhole job (after job events) → EachOnceBelow (length job.pieces) (after job events).merge.arrived
tickets_arrive job events k some whole x =
    let s = after job events in
    let t = draws_each_once job events k in
    let all = ap (once_below x) (t.ended 0 (whole 0 some).0) in
    let none = held_none x job.workers s.held (λ w lt. (whole w lt).1) in
    omega (arith, t.each_once x, out_is job s x)
