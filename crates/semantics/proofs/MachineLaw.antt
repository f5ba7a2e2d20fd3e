-- The record is the merge of exactly what arrived, after every list of events.
use Rattle.std.specs.Prelude.{ℕ, Bool, true, false, ◌≡◌, nat_lt, List, [], ◌∷◌, ◌++◌, map, length, Option, Some, None, slice_get}
use Rattle.std.proofs.Common.{refl, sym, ap, ◌∙◌, subst, cond}
use Rattle.semantics.specs.Loops.Chunk.{Kind, PlainStatic, Static, Dynamic, Guided}
use Rattle.semantics.specs.Loops.Operator.{ReduceOp}
use Rattle.semantics.specs.Loops.Piece.{Piece}
use Rattle.semantics.specs.Teams.Machine.{World, Merge, Event, Draw, Arrive, Stop, Look, Job, begin, does, happens, happen, worker_of, ticket_of, merge_one, merge_all, arrived, drawn, got, piece_at}
use Rattle.semantics.specs.Teams.WholeRuns.{AreOwn, MergesArrived, MergesWhatArrived}

merge_all-push : (ops : List ReduceOp) (m : Merge) (ps : List (ℕ × Piece)) (c : ℕ) (p : Piece) → merge_all ops m (ps ++ (c, p) ∷ []) ≡ merge_one ops (merge_all ops m ps) c p
merge_all-push ops m [] c p = refl
merge_all-push ops m (q ∷ ps) c p = merge_all-push ops (merge_one ops m q.0 q.1) ps c p

numbers-push : (ps : List (ℕ × Piece)) (c : ℕ) (p : Piece) → map (λ q. q.0) (ps ++ (c, p) ∷ []) ≡ map (λ q. q.0) ps ++ c ∷ []
numbers-push [] c p = refl
numbers-push (q ∷ ps) c p = ap (λ ns. q.0 ∷ ns) (numbers-push ps c p)

own-push : (job : Job) (ps : List (ℕ × Piece)) (c : ℕ) (p : Piece) → AreOwn job ps → slice_get job.pieces c ≡ Some p → AreOwn job (ps ++ (c, p) ∷ [])
own-push job [] c p h e = (e, tt)
own-push job (q ∷ ps) c p h e = (h.0, own-push job ps c p h.1 e)

got_merge : (s : World) (w : ℕ) (o : Option ℕ) → (got s w o).merge ≡ s.merge
got_merge s w None = refl
got_merge s w (Some c) = refl

drawn_merge : (job : Job) (s : World) (w : ℕ) (kind : Kind) → (drawn job kind s w).merge ≡ s.merge
drawn_merge job s w PlainStatic = got_merge s w _
drawn_merge job s w (Static k) = got_merge s w _
drawn_merge job s w (Dynamic k) = got_merge s w (ticket_of s.next (length job.pieces))
drawn_merge job s w (Guided k) = got_merge s w (ticket_of s.next (length job.pieces))

unless_merge : (s t : World) (b : Bool) → t.merge ≡ s.merge → (cond b s t).merge ≡ s.merge
unless_merge s t true e = refl
unless_merge s t false e = e

arrived_merged : (job : Job) (s : World) (w i : ℕ) (o : Option ℕ) (p : Option Piece) → piece_at job o ≡ p → MergesArrived job s.merge → MergesArrived job (arrived job s w i o p).merge
arrived_merged job s w i (Some c) (Some p) e h =
    record {
      pieces = h.pieces ++ (c, p) ∷ [];
      numbers = ap (λ ns. ns ++ c ∷ []) h.numbers ∙ sym (numbers-push h.pieces c p);
      own = own-push job h.pieces c p h.own e;
      merge = ap (λ m. merge_one job.ops m c p) h.merge ∙ sym (merge_all-push job.ops _ h.pieces c p);
    }
arrived_merged job s w i (Some c) None e h = h
arrived_merged job s w i None p e h = h

-- each event keeps it
does_keeps : (job : Job) (s : World) (e : Event) → MergesArrived job s.merge → MergesArrived job (does job s e).merge
does_keeps job s (Draw w) h = subst (MergesArrived job) (sym (unless_merge s (drawn job job.kind s w) (s.ended w) (drawn_merge job s w job.kind))) h
does_keeps job s (Arrive w i) h = arrived_merged job s w i (slice_get (s.held w) i) (piece_at job (slice_get (s.held w) i)) refl h
does_keeps job s (Stop w) h = h
does_keeps job s (Look w) h = h

event_keeps : (job : Job) (s : World) (e : Event) → MergesArrived job s.merge → MergesArrived job (happens job s e).merge
event_keeps job s e h = one_keeps (nat_lt (worker_of e) job.workers)
  where
    one_keeps : (b : Bool) → MergesArrived job (cond b (does job s e) s).merge
    one_keeps true = does_keeps job s e h
    one_keeps false = h

events_keep : (job : Job) (es : List Event) (s : World) → MergesArrived job s.merge → MergesArrived job (happen job s es).merge
events_keep job [] s h = h
events_keep job (e ∷ es) s h = events_keep job es (happens job s e) (event_keeps job s e h)

-- and so does every list of events
pub merges_what_arrived : MergesWhatArrived
merges_what_arrived job events = events_keep job events (begin job) (record { pieces = []; numbers = refl; own = tt; merge = refl })
