use Rattle.std.proofs.Common.{ℕ, List, Option, Some, None, length, replicate, sym, ap, ◌∙◌}
use Rattle.store.specs.Kept.{Kept}
use Rattle.store.specs.Flat.{values_of}
use Rattle.overlay.proofs.worker.Worker.leave.Goals as goal

pub invariant_of-result : goal.invariant_of-result
invariant_of-result c =
    ap (λ (own : List (Option ℕ)). Some own) (c.release.ensures.value ∙ (c.self.invariant ∙ ap (λ n. replicate n None) (sym c.release.ensures.room)))

pub returns : goal.returns
returns c = c.release.ensures.room ∙ ap (λ (ks : List Kept). length (values_of ks)) c.self.view_is
