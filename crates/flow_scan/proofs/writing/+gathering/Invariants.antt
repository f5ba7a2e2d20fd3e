use Rattle.std.proofs.Common.{◌≡◌, drop, ℕ}
use Rattle.std.specs.Prelude.{◌||◌}
use Rattle.semantics.specs.Meaning.Agrees.{is_among}
use Rattle.law_scans.specs.Phases.{written_among}
use Rattle.ktree.specs.View.{items_of}
use Rattle.pragma_mention.specs.Sets.{holds}
use Rattle.flow_scan.proofs.writing.+gathering.Given as goal

-- those so far, with those of the items that are left
abbrev pub invariant-add_among-loop-item : goal.invariant-add_among-loop-item
invariant-add_among-loop-item l =
    (q : ℕ) → (holds l.set q || is_among (written_among (items_of (drop l.item-index l.items))) q) ≡ (holds l.fn.set q || is_among (written_among (items_of l.items)) q)
