use Rattle.std.proofs.Common.{◌≡◌, [], drop}
use Rattle.semantics.specs.Meaning.Definite.{definite_items}
use Rattle.ktree.specs.View.{items_of}
use Rattle.pragma_named.specs.Known.{kept}
use Rattle.flow_definite.specs.Judged.{private_locals, pending, known_of}
use Rattle.flow_definite.proofs.judging.+judging.Given as goal

-- all depends on what is left
abbrev pub invariant-block-loop-item : goal.invariant-block-loop-item
invariant-block-loop-item l =
    definite_items (private_locals (kept l.lines) l.files) [] (items_of l.items) (known_of l.fn.known)
    ≡ definite_items (private_locals (kept l.lines) l.files) (pending (private_locals (kept l.lines) l.files) l.before) (items_of (drop l.item-index l.items)) (known_of l.known)
