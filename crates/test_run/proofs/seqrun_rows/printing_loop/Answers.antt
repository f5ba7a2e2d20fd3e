use Rattle.std.proofs.Common.{IsSome, subst, sym, ap, ◌∙◌}
use Rattle.semantics.specs.Meaning.Runs.{run}
use Rattle.seqrun_value.specs.Standing.{standing}
use Rattle.seqrun.proofs.Counting.{loop_of, counts}
use Rattle.test_run.proofs.seqrun_rows.printing_loop.Goals as goal

pub returns : goal.returns
returns c = λ frame ks. subst (λ x. IsSome (run x (standing frame ks))) (sym (c.in_ok-stmt.ensures ∙ ap loop_of c.in_ok-body.ensures)) (counts (standing frame ks))
