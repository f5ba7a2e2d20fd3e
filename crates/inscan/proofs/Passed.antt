-- A chunk of a scan in each of the two passes.
use Rattle.std.specs.Prelude.{ℕ, ◌≡◌, List, [], ◌∷◌, map, take, drop, Some}
use Rattle.std.proofs.Common.{sym, ap, ◌∙◌, subst}
use Rattle.semantics.specs.Tree.{Variable}
use Rattle.semantics.specs.Meaning.State.{State, overwritten}
use Rattle.semantics.specs.Loops.Operator.{ReduceOp}
use Rattle.semantics.specs.Loops.Joined.{value_at, given}
use Rattle.law_nests.specs.Walks.{walk}
use Rattle.law_roles.specs.Sharing.{changed_from}
use Rattle.law_starts.specs.Begun.{begun}
use Rattle.reduce.specs.declared.partial.Partial.{Partial}
use Rattle.reduce.specs.Partial.{partial_of}
use Rattle.store.specs.Kept.{Kept}
use Rattle.lower.specs.declared.lowered.LoweredLoop.{LoweredLoop}
use Rattle.overlay.specs.declared.beginning.Start.TheVariants.{Reduction, Scan}
use Rattle.overlay.specs.declared.positions.Order.TheVariants.{Sequential}
use Rattle.overlay.specs.declared.worker.Piece.{Piece}
use Rattle.overlay.specs.declared.worker.Work.{Work}
use Rattle.overlay.specs.Chunks.{IsChunkFrom, IsLastFrom, LeavesPiece, TellsLasts, started}
use Rattle.inscan.specs.Passes.{IsFirstPass, IsSecondPass, LastsOfSecondPass}

-- where one variable is reduced, a chunk that begins with a number begins with that variable at it
pub started_at : (v : ℕ) (rs : List (Variable × ReduceOp)) (x : Variable) (op : ReduceOp) (outer : State) → rs ≡ (x, op) ∷ [] → started (Scan v) rs outer ≡ given outer x (Some v)
started_at v rs x op outer only = ap (λ qs. started (Scan v) qs outer) only

module _ (l : LoweredLoop) (registers : List ℕ) (ks : List Kept) (work : Work) (p : Piece) where
  pub first_told : (told : Partial) → partial_of told ≡ value_at 0 (map partial_of p.partials.items) → IsChunkFrom Reduction Sequential l registers ks work p → IsFirstPass l registers ks work told
  first_told told is leaves layout mark roles x op loops body outer us e only reached ran held =
      let left = leaves layout mark roles loops body outer us e reached ran in
      is ∙ ap (value_at 0) (left.partials held ∙ ap (map (λ (r : Variable × ReduceOp). changed_from (begun roles outer) e r.0)) only)

  module _ (v : ℕ) where
    pub second_told : IsChunkFrom (Scan v) Sequential l registers ks work p → IsSecondPass v l registers ks work p
    second_told leaves layout mark roles x op loops body outer us e only reached ran =
        let same = started_at v roles.reductions x op outer only in
        subst (λ s. LeavesPiece layout roles outer s ks e p) same (leaves layout mark roles loops body outer us e reached (subst (λ s. walk loops body (take work.count (drop work.first us)) s ≡ Some e) (sym same) ran))

    pub lasts_told : IsLastFrom (Scan v) Sequential l registers ks work p → LastsOfSecondPass v l registers ks work p
    lasts_told leaves layout mark roles x op loops body outer us e only reached ran =
        let same = started_at v roles.reductions x op outer only in
        subst (λ s. TellsLasts roles (overwritten s e.writes) us work p.lasts.items) same (leaves layout mark roles loops body outer us e reached (subst (λ s. walk loops body (take work.count (drop work.first us)) s ≡ Some e) (sym same) ran))
