use Rattle.std.proofs.Common.{◌≡◌, drop, ℕ}
use Rattle.std.specs.Prelude.{◌||◌}
use Rattle.semantics.specs.Meaning.Agrees.{is_among, declared_among}
use Rattle.ktree.specs.View.{items_of}
use Rattle.pragma_mention.specs.Sets.{holds}
use Rattle.pragma_mention.proofs.declaring.+declaring.Given as goal

-- those so far, with those of the items that are left
abbrev pub invariant-add_items-loop-item : goal.invariant-add_items-loop-item
invariant-add_items-loop-item l =
    (q : ℕ) → (holds l.set q || is_among (declared_among (items_of (drop l.item-index l.items))) q) ≡ (holds l.fn.set q || is_among (declared_among (items_of l.items)) q)
