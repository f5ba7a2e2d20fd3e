use Rattle.std.specs.Prelude.{ℕ, ◌≡◌, ◌||◌, OnOk}
use Rattle.std.proofs.Common.{sym, subst}
use Rattle.semantics.specs.Meaning.Agrees.{is_among}
use Rattle.law_scans.specs.Phases.{written_in}
use Rattle.ktree.proofs.Trees.{block_is}
use Rattle.pragma_mention.specs.Sets.{holds}
use Rattle.flow_scan.proofs.writing.+gathering.Goals as goal

pub add_written-returns-in-Block : goal.add_written-returns-in-Block
add_written-returns-in-Block t c =
    subst (λ s. OnOk c.add_among.result ((q : ℕ) → holds c.add_among.new.set q ≡ (holds c.args.set.now q || is_among (written_in s) q)))
    (sym (block_is c.args.statement.now c.in-Block.items c.deref-in-Block.result.now c.in-Block.is c.deref-in-Block.ensures.value)) c.add_among.ensures
