use Rattle.std.specs.Prelude.{ℕ, ◌≡◌, ◌||◌, OnOk}
use Rattle.std.proofs.Common.{sym, subst}
use Rattle.semantics.specs.Meaning.Agrees.{is_among, declared_in}
use Rattle.ktree.proofs.Trees.{block_is}
use Rattle.pragma_mention.specs.Sets.{holds}
use Rattle.pragma_mention.proofs.declaring.+declaring.Goals as goal

pub add_declared-returns-in-Block : goal.add_declared-returns-in-Block
add_declared-returns-in-Block t c =
    subst (λ s. OnOk c.add_items.result ((q : ℕ) → holds c.add_items.new.set q ≡ (holds c.args.set.now q || is_among (declared_in s) q)))
    (sym (block_is c.args.statement.now c.in-Block.items c.deref-in-Block.result.now c.in-Block.is c.deref-in-Block.ensures.value)) c.add_items.ensures
