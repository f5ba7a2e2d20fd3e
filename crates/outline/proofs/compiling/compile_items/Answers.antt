use Rattle.std.proofs.lemmas.Result.{IfOk-weaker}
use Rattle.outline.proofs.compiling.compile_items.Goals as goal

pub returns-clause-ok : goal.returns-clause-ok
returns-clause-ok c =
    IfOk-weaker c.compile_code.result _ _ (λ r made all. record {
      code = c.in_ok-code.code;
      compiles = made.0;
      wide = made.1;
      does = c.in_ok-code.ensures c.args.target.registers all;
    }) c.compile_code.ensures.ok
