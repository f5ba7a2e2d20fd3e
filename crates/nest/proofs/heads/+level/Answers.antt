use Rattle.std.specs.Prelude.{◌≡◌, None, Some, MatchOption}
use Rattle.std.proofs.Common.{sym, subst}
use Rattle.semantics.specs.Tree.{Stmt}
use Rattle.semantics.specs.Loops.Nest.{as_loop}
use Rattle.ktree.specs.View.{stmt_of}
use Rattle.ktree.proofs.Trees.{block_is}
use Rattle.nest.specs.Heads.{head_of}
use Rattle.nest.proofs.PerfectLaw.{two_items}
use Rattle.nest.proofs.heads.+level.Goals as goal

pub as_loop-returns-in-Block : goal.as_loop-returns-in-Block
as_loop-returns-in-Block t c =
    subst (λ (s : Stmt). MatchOption c.only_loop.result (as_loop s ≡ None) (λ level. as_loop s ≡ Some (head_of level.head.now, stmt_of level.body.now)))
    (sym (block_is c.args.statement.now c.in-Block.items c.deref-in-Block.result.now c.in-Block.is c.deref-in-Block.ensures.value)) c.only_loop.ensures

pub only_loop-returns-in-len2-up : goal.only_loop-returns-in-len2-up
only_loop-returns-in-len2-up t c = two_items c.args.items.now c.in-len2-up.len_at_least
