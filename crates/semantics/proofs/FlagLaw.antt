-- The flag is raised exactly where some worker stopped, and who saw it raised saw what is so.
use Rattle.std.specs.Prelude.{ℕ, Bool, true, false, ◌≡◌, ◌==◌, ◌||◌, ◌<◌, ◌⊎◌, nat_lt, List, [], ◌∷◌, length, Option, Some, None, slice_get, slice_index_or, zero, suc, Contains}
use Rattle.std.proofs.Common.{refl, sym, ap, ◌∙◌, inl, inr, cond, arith}
use Rattle.std.proofs.lemmas.Bool.{eqb-true, eq-eqb, ltb-true, lt-ltb}
use Rattle.semantics.specs.Loops.Chunk.{Kind, PlainStatic, Static, Dynamic, Guided}
use Rattle.semantics.specs.Loops.Piece.{Piece}
use Rattle.semantics.specs.Teams.Machine.{World, Event, Draw, Arrive, Stop, Look, Job, begin, does, happens, happen, worker_of, at, got, ticket_of, drawn, arrived, piece_at}
use Rattle.semantics.specs.Teams.WholeRuns.{FlagIsTrue}

-- what a draw and an arrival leave as it was
record SameFlag (s t : World) : Type 0 where
  raised : t.raised ≡ s.raised
  seen : (w : ℕ) → t.seen w ≡ s.seen w

same : (s : World) → SameFlag s s
same s = record { raised = refl; seen = λ w. refl }

got_flag : (s : World) (w : ℕ) (o : Option ℕ) → SameFlag s (got s w o)
got_flag s w None = record { raised = refl; seen = λ v. refl }
got_flag s w (Some c) = record { raised = refl; seen = λ v. refl }

drawn_flag : (job : Job) (kind : Kind) (s : World) (w : ℕ) → SameFlag s (drawn job kind s w)
drawn_flag job PlainStatic s w = got_flag s w _
drawn_flag job (Static k) s w = got_flag s w _
drawn_flag job (Dynamic k) s w = let h = got_flag s w (ticket_of s.next (length job.pieces)) in record { raised = h.raised; seen = h.seen }
drawn_flag job (Guided k) s w = let h = got_flag s w (ticket_of s.next (length job.pieces)) in record { raised = h.raised; seen = h.seen }

arrived_flag : (job : Job) (s : World) (w i : ℕ) (o : Option ℕ) (p : Option Piece) → SameFlag s (arrived job s w i o p)
arrived_flag job s w i (Some c) (Some p) = record { raised = refl; seen = λ v. refl }
arrived_flag job s w i (Some c) None = same s
arrived_flag job s w i None p = same s

unless_flag : (s t : World) (b : Bool) → SameFlag s t → SameFlag s (cond b s t)
unless_flag s t true h = same s
unless_flag s t false h = h

-- what one event does to the flag
record Flagged (job : Job) (s t : World) (e : Event) : Type 0 where
  raises : t.raised ≡ true → (s.raised ≡ true) ⊎ ((w : ℕ) × (w < job.workers) × (e ≡ Stop w))
  stays : s.raised ≡ true → t.raised ≡ true
  seen_stays : (w : ℕ) → s.seen w ≡ true → t.seen w ≡ true
  true_sight : ((w : ℕ) → s.seen w ≡ true → s.raised ≡ true) → (w : ℕ) → t.seen w ≡ true → t.raised ≡ true
  stops : (w : ℕ) → w < job.workers → e ≡ Stop w → (t.raised ≡ true) × (t.seen w ≡ true)

unchanged : (job : Job) (s t : World) (e : Event) → SameFlag s t → ((w : ℕ) → w < job.workers → e ≡ Stop w → ⊥) → Flagged job s t e
unchanged job s t e h no_stop =
    record {
      raises = λ r. inl (sym h.raised ∙ r);
      stays = λ r. h.raised ∙ r;
      seen_stays = λ w r. h.seen w ∙ r;
      true_sight = λ k w r. h.raised ∙ k w (sym (h.seen w) ∙ r);
      stops = λ w lt q. absurd (no_stop w lt q);
    }

at_w : (f : ℕ → Bool) (w : ℕ) (v : Bool) → at f w v w ≡ v
at_w f w v = ap (λ b. cond b v (f w)) (eq-eqb w w refl)

at_true : (f : ℕ → Bool) (w x : ℕ) (v : Bool) → v ≡ true → f x ≡ true → at f w v x ≡ true
at_true f w x v e h = go (x == w)
  where
    go : (b : Bool) → cond b v (f x) ≡ true
    go true = e
    go false = h

at_cases : (f : ℕ → Bool) (w x : ℕ) (v : Bool) → at f w v x ≡ true → (v ≡ true) ⊎ (f x ≡ true)
at_cases f w x v h = go (x == w) h
  where
    go : (b : Bool) → cond b v (f x) ≡ true → (v ≡ true) ⊎ (f x ≡ true)
    go true k = inl k
    go false k = inr k

either_true : (a b : Bool) → (a || b) ≡ true → (a ≡ true) ⊎ (b ≡ true)
either_true true b h = inl refl
either_true false b h = inr h

or_true : (a b : Bool) → b ≡ true → (a || b) ≡ true
or_true true b h = refl
or_true false b h = h

does_flag : (job : Job) (s : World) (e : Event) → worker_of e < job.workers → Flagged job s (does job s e) e
does_flag job s (Draw w) lt = unchanged job s _ (Draw w) (unless_flag s (drawn job job.kind s w) (s.ended w) (drawn_flag job job.kind s w)) (λ v l q. cc)
does_flag job s (Arrive w i) lt = unchanged job s _ (Arrive w i) (arrived_flag job s w i (slice_get (s.held w) i) (piece_at job (slice_get (s.held w) i))) (λ v l q. cc)
does_flag job s (Stop w) lt =
    record {
      raises = λ r. inr (w, lt, refl);
      stays = λ r. refl;
      seen_stays = λ v r. at_true s.seen w v true refl r;
      true_sight = λ k v r. refl;
      stops = λ v l q. (refl, (let m : v ≡ w = cc in ap (λ x. at s.seen w true x) m ∙ at_w s.seen w true));
    }
does_flag job s (Look w) lt =
    record {
      raises = λ r. inl r;
      stays = λ r. r;
      seen_stays = λ v r. look_stays v (v == w) refl r;
      true_sight = λ k v r. sight k v (at_cases s.seen w v (s.raised || s.seen w) r);
      stops = λ v l q. cc;
    }
  where
    look_stays : (v : ℕ) (b : Bool) → (v == w) ≡ b → s.seen v ≡ true → at s.seen w (s.raised || s.seen w) v ≡ true
    look_stays v true e r = ap (λ b. cond b (s.raised || s.seen w) (s.seen v)) e ∙ or_true s.raised (s.seen w) (ap s.seen (sym (eqb-true v w e)) ∙ r)
    look_stays v false e r = ap (λ b. cond b (s.raised || s.seen w) (s.seen v)) e ∙ r

    seen_or : ((v : ℕ) → s.seen v ≡ true → s.raised ≡ true) → (s.raised ≡ true) ⊎ (s.seen w ≡ true) → s.raised ≡ true
    seen_or k (inl r) = r
    seen_or k (inr r) = k w r

    sight : ((v : ℕ) → s.seen v ≡ true → s.raised ≡ true) → (v : ℕ) → ((s.raised || s.seen w) ≡ true) ⊎ (s.seen v ≡ true) → s.raised ≡ true
    sight k v (inl r) = seen_or k (either_true s.raised (s.seen w) r)
    sight k v (inr r) = k v r

happens_flag : (job : Job) (s : World) (e : Event) → Flagged job s (happens job s e) e
happens_flag job s e = go (nat_lt (worker_of e) job.workers) refl
  where
    past : nat_lt (worker_of e) job.workers ≡ false → (w : ℕ) → w < job.workers → e ≡ Stop w → ⊥
    past past_it w lt q = let h : nat_lt (worker_of e) job.workers ≡ true = ap (λ (x : Event). nat_lt (worker_of x) job.workers) q ∙ lt-ltb w job.workers lt in cc

    go : (b : Bool) → nat_lt (worker_of e) job.workers ≡ b → Flagged job s (cond b (does job s e) s) e
    go true h = does_flag job s e (ltb-true (worker_of e) job.workers h)
    go false h = unchanged job s s e (same s) (past h)

module _ (job : Job) where
  all_raises : (es : List Event) (s : World) → (happen job s es).raised ≡ true → (s.raised ≡ true) ⊎ ((w : ℕ) × (w < job.workers) × Contains es (Stop w))
  all_raises [] s r = inl r
  all_raises (e ∷ es) s r = go (all_raises es (happens job s e) r)
    where
      first : (s.raised ≡ true) ⊎ ((w : ℕ) × (w < job.workers) × (e ≡ Stop w)) → (s.raised ≡ true) ⊎ ((w : ℕ) × (w < job.workers) × Contains (e ∷ es) (Stop w))
      first (inl h) = inl h
      first (inr (w, lt, q)) = inr (w, lt, (0, omega arith, q))

      go : ((happens job s e).raised ≡ true) ⊎ ((w : ℕ) × (w < job.workers) × Contains es (Stop w)) → (s.raised ≡ true) ⊎ ((w : ℕ) × (w < job.workers) × Contains (e ∷ es) (Stop w))
      go (inl h) = first ((happens_flag job s e).raises h)
      go (inr (w, lt, (k, b, q))) = inr (w, lt, (suc k, omega arith, q))

  all_stay : (es : List Event) (s : World) → s.raised ≡ true → (happen job s es).raised ≡ true
  all_stay [] s r = r
  all_stay (e ∷ es) s r = all_stay es (happens job s e) ((happens_flag job s e).stays r)

  all_seen : (es : List Event) (s : World) (w : ℕ) → s.seen w ≡ true → (happen job s es).seen w ≡ true
  all_seen [] s w r = r
  all_seen (e ∷ es) s w r = all_seen es (happens job s e) w ((happens_flag job s e).seen_stays w r)

  all_sight : (es : List Event) (s : World) → ((w : ℕ) → s.seen w ≡ true → s.raised ≡ true) → (w : ℕ) → (happen job s es).seen w ≡ true → (happen job s es).raised ≡ true
  all_sight [] s k w r = k w r
  all_sight (e ∷ es) s k w r = all_sight es (happens job s e) ((happens_flag job s e).true_sight k) w r

  all_stops : (es : List Event) (s : World) (w k : ℕ) → w < job.workers → k < length es → slice_index_or es k (Stop w) ≡ Stop w → ((happen job s es).raised ≡ true) × ((happen job s es).seen w ≡ true)
  all_stops [] s w k lt b q = absurd (omega arith)
  all_stops (e ∷ es) s w zero lt b q = let h = (happens_flag job s e).stops w lt q in (all_stay es (happens job s e) h.0, all_seen es (happens job s e) w h.1)
  all_stops (e ∷ es) s w (suc k) lt b q = all_stops es (happens job s e) w k lt (omega arith) q

none_raised : (job : Job) → (begin job).raised ≡ true → ⊥
none_raised job h = cc

pub flag_is_true : FlagIsTrue
flag_is_true job events = (
  λ r. from_start (all_raises job events (begin job) r),
  λ w lt h. all_stops job events (begin job) w h.0 lt h.1 h.2,
  λ w r. all_sight job events (begin job) (λ v q. cc) w r,
)
  where
    from_start : ((begin job).raised ≡ true) ⊎ ((w : ℕ) × (w < job.workers) × Contains events (Stop w)) → (w : ℕ) × (w < job.workers) × Contains events (Stop w)
    from_start (inl h) = absurd (none_raised job h)
    from_start (inr h) = h
