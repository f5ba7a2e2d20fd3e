use Rattle.std.proofs.Common.{ap, ◌∙◌, ◌++◌, ◌∷◌, []}
use Rattle.semantics.specs.Tree
use Rattle.ktree.specs.View.{exprs_of}
use Rattle.ktree.proofs.Trees.{object_of}
use Rattle.test_run.proofs.seqrun_value_rows.element.Goals as goal

pub returns : goal.returns
returns c =
    object_of (record { 0 = 0 }) c.push.new.self (record { name = record { line = 1; column = 1 }; subscripts = c.new.result })
    ∙ ap (λ es. Tree.Object 0 (exprs_of es)) (c.in_ok-push.ensures.items ∙ ap (λ es. es ++ c.args.at ∷ []) c.new-subscripts.ensures.items)
