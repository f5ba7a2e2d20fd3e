use Rattle.std.proofs.Common.{◌≡◌, drop}
use Rattle.semantics.specs.Meaning.Definite.{without, privates_among}
use Rattle.ktree.specs.View.{items_of}
use Rattle.pragma_named.specs.Known.{kept}
use Rattle.flow_definite.specs.Judged.{private_locals, known_of}
use Rattle.flow_definite.proofs.privates.+forgetting.Given as goal

-- all are forgotten with those that are left
abbrev pub invariant-forget_among-loop-item : goal.invariant-forget_among-loop-item
invariant-forget_among-loop-item l =
    without (known_of l.fn.known) (privates_among (private_locals (kept l.lines) l.files) (items_of l.items))
    ≡ without (known_of l.known) (privates_among (private_locals (kept l.lines) l.files) (items_of (drop l.item-index l.items)))
