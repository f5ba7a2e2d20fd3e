use Rattle.std.proofs.Common.{◌≡◌, drop}
use Rattle.ktree.specs.View.{items_of}
use Rattle.pragma_mention.specs.Sets.{holds}
use Rattle.pragma_mention.specs.Mentions.{mention_only}
use Rattle.pragma_mention.proofs.statements.+statement.Given as goal

-- the items that are left decide
abbrev pub invariant-items_unknown-loop-item : goal.invariant-items_unknown-loop-item
invariant-items_unknown-loop-item l = mention_only (holds l.known) (items_of (drop l.item-index l.items)) ≡ mention_only (holds l.known) (items_of l.items)
