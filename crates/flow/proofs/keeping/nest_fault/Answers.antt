use Rattle.ktree.specs.View.{stmt_of}
use Rattle.pragma_named.specs.Known.{kept}
use Rattle.flow.specs.Roles.{data_known}
use Rattle.flow.proofs.NestLemmas.{nest_found, nest_tells}
use Rattle.flow.proofs.keeping.nest_fault.Goals as goal

pub returns-clause-judged : goal.returns-clause-judged
returns-clause-judged c = λ n nest.
    nest_found (data_known (kept c.args.lines.now) c.args.files c.args.line) n (stmt_of c.args.statement.now) (stmt_of c.args.body.now) nest c.body_fault.result c.read_fault.result c.last_fault.result c.second_fault.result
    c.carried_fault.result c.misuse_fault.result c.earlier-carried.result c.earlier-reduced.result c.earlier-last.result c.earlier-read.result c.earlier.result c.body_fault.ensures.judged c.read_fault.ensures.judged c.last_fault.ensures.judged
    c.second_fault.ensures.judged c.carried_fault.ensures.judged c.misuse_fault.ensures.judged (c.earlier-carried.ensures.none, c.earlier-carried.ensures.one) (c.earlier-reduced.ensures.none, c.earlier-reduced.ensures.one) (c.earlier-last.ensures.none, c.earlier-last.ensures.one)
    (c.earlier-read.ensures.none, c.earlier-read.ensures.one) (c.earlier.ensures.none, c.earlier.ensures.one)

pub returns-clause-cause : goal.returns-clause-cause
returns-clause-cause c =
    nest_tells (data_known (kept c.args.lines.now) c.args.files c.args.line) (stmt_of c.args.statement.now) (stmt_of c.args.body.now) c.body_fault.result c.read_fault.result c.last_fault.result c.second_fault.result
    c.carried_fault.result c.misuse_fault.result c.earlier-carried.result c.earlier-reduced.result c.earlier-last.result c.earlier-read.result c.earlier.result c.body_fault.ensures.cause c.read_fault.ensures.cause c.last_fault.ensures.cause
    c.second_fault.ensures.cause c.carried_fault.ensures.cause c.misuse_fault.ensures.cause (c.earlier-carried.ensures.none, c.earlier-carried.ensures.one) (c.earlier-reduced.ensures.none, c.earlier-reduced.ensures.one) (c.earlier-last.ensures.none, c.earlier-last.ensures.one)
    (c.earlier-read.ensures.none, c.earlier-read.ensures.one) (c.earlier.ensures.none, c.earlier.ensures.one)
