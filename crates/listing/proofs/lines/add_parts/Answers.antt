use Rattle.semantics.specs.Theorems.{Begins}
use Rattle.listing.proofs.Fronts.{begins_extended}
use Rattle.listing.proofs.lines.add_parts.Goals as goal

pub returns-in_err-extend_from_slice-clause-front : goal.returns-in_err-extend_from_slice-clause-front
returns-in_err-extend_from_slice-clause-front c =
    begins_extended _ _ _ _ c.extend_from_slice.result (let front : Begins _ _ = (_, c.loop-part.invariant) in front) c.extend_from_slice.ensures.items
