use Rattle.std.proofs.lemmas.Result.{IfOk-weaker}
use Rattle.ktree.specs.View.{exprs_of, binary_of}
use Rattle.lower_code.proofs.Doing.{updates}
use Rattle.lower_code.proofs.statements.update.Goals as goal

pub returns : goal.returns
returns c =
    IfOk-weaker c.assign.result _ _ (λ r is. updates c.args.layout.now c.args.variable.0 (exprs_of c.args.subscripts.now) (binary_of c.args.op) c.in_ok-old.old c.in_ok-new.new c.args.term r c.in_ok-old.ensures c.in_ok-new.ensures is) c.assign.ensures
