use Rattle.pragma_named.specs.Known.{kept}
use Rattle.flow.specs.Roles.{data_known}
use Rattle.flow.proofs.PrivateLemmas.{Left}
use Rattle.flow.proofs.ParallelLemmas.{Listed}
use Rattle.flow.proofs.classifying.+classifying.Given as goal

-- the items that are left decide, and the loops of the items before this one are listed
abbrev pub invariant-classify_among-loop-i : goal.invariant-classify_among-loop-i
invariant-classify_among-loop-i l =
    let R = data_known (kept l.lines) l.files in
    Left l.directives R l.items l.i × Listed l.directives R l.items l.i l.fn.loops.items l.loops.items
