use Rattle.deptest.proofs.Named.{refuses, ordered}
use Rattle.deptest.proofs.ordered.check.Goals as goal

pub returns-in-Ok-clause-ok : goal.returns-in-Ok-clause-ok
returns-in-Ok-clause-ok c = ordered _ _ _ c.in-Ok.ensures.ok

pub returns-in-Err-clause-err : goal.returns-in-Err-clause-err
returns-in-Err-clause-err c = refuses _ _ _ _ c.requires.passed c.in-Err.ensures.err
