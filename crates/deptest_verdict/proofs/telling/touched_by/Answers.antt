use Rattle.ktree.specs.View.{stmt_of}
use Rattle.deptest_verdict.proofs.Verdicts.{is_there}
use Rattle.deptest_verdict.proofs.telling.touched_by.Goals as goal

pub unreachable-requires : goal.unreachable-requires
unreachable-requires c =
    let told = c.in_ok-found.ensures.ok in
    is_there c.args.chain.now (stmt_of c.args.body.now) c.args.number told.0 _ c.requires.there told.1 told.2 c.in-None.is
