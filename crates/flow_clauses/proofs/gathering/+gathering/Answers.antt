use Rattle.std.specs.Prelude.{ℕ, ◌≡◌, ◌||◌, OnOk}
use Rattle.std.proofs.Common.{sym, subst}
use Rattle.semantics.specs.Meaning.Agrees.{is_among}
use Rattle.ktree.proofs.Trees.{block_is}
use Rattle.pragma_mention.specs.Sets.{holds}
use Rattle.flow_clauses.specs.Fitting.{loop_variables}
use Rattle.flow_clauses.proofs.gathering.+gathering.Goals as goal

pub add_loops-returns-in-Block : goal.add_loops-returns-in-Block
add_loops-returns-in-Block t c =
    subst (λ s. OnOk c.add_among.result ((q : ℕ) → holds c.add_among.new.set q ≡ (holds c.args.set.now q || is_among (loop_variables s) q)))
    (sym (block_is c.args.statement.now c.in-Block.items c.deref-in-Block.result.now c.in-Block.is c.deref-in-Block.ensures.value)) c.add_among.ensures
