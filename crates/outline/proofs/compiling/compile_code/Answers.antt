use Rattle.std.proofs.lemmas.Result.{IfOk-weaker}
use Rattle.outline.proofs.Unrolled.{compiles_as}
use Rattle.outline.proofs.compiling.compile_code.Goals as goal

pub returns-clause-ok : goal.returns-clause-ok
returns-clause-ok c =
    IfOk-weaker c.compile_as_it_is.result _ _ (λ k is. (compiles_as c.args.registers c.args.code c.in_ok-unrolled.unrolled k c.in_ok-unrolled.ensures is.0, is.1)) c.compile_as_it_is.ensures.ok
