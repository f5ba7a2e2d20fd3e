use Rattle.std.proofs.Common.{ap, ◌∙◌}
use Rattle.semantics.specs.Tree
use Rattle.ktree.specs.View.{exprs_of}
use Rattle.ktree.proofs.Trees.{object_of}
use Rattle.test_run.proofs.seqrun_rows.local.Goals as goal

pub returns : goal.returns
returns c =
    object_of (record { 0 = 1 }) c.new.result c.mention.result
    ∙ ap (λ es. Tree.Object 1 (exprs_of es)) c.new.ensures.items
