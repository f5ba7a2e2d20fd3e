use Rattle.std.proofs.Common.{ℕ, List, Option, Some, sym, ap, subst}
use Rattle.overlay.specs.declared.worker.Kept.{Kept}
use Rattle.overlay.specs.Unwritten.{count_of, AreUnwritten}
use Rattle.overlay.proofs.worker.box_tools.Goals as goal

pub invariant_of-result : goal.invariant_of-result
invariant_of-result c =
    subst AreUnwritten (sym (ap (λ (k : Kept). k.own) c.in_ok-new.ensures.ok)) (ap (λ (own : List (Option ℕ)). Some own) c.requires)

pub returns : goal.returns
returns c = ap (λ (k : Kept). count_of k.own) c.in_ok-new.ensures.ok
