use Rattle.pragma_clause.proofs.LineLaw.{ok_reads, err_told}
use Rattle.pragma_clause.proofs.line.read.Goals as goal

pub returns-clause-ok : goal.returns-clause-ok
returns-clause-ok c = ok_reads c.read_line.result c.args.line.now c.read_line.ensures.ok

pub returns-clause-err : goal.returns-clause-err
returns-clause-err c = err_told c.read_line.result c.args.place c.args.line.now c.read_line.ensures.err
