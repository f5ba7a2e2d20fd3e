use Rattle.ktree.specs.View.{stmt_of}
use Rattle.nest.specs.Heads.{head_of}
use Rattle.nest_lines.proofs.NestLaw.{no_loop_left, no_loop, one_loop}
use Rattle.nest_lines.proofs.imperfect.+is_nest.Goals as goal

pub returns-then-depth-eq0 : goal.returns-then-depth-eq0
returns-then-depth-eq0 t c = no_loop_left c.args.depth (stmt_of c.args.statement.now) c.if-depth-eq0.true

pub returns-in-None : goal.returns-in-None
returns-in-None t c = no_loop c.args.depth (stmt_of c.args.statement.now) c.if-depth-eq0.false c.in-None.ensures

pub returns-in-Some : goal.returns-in-Some
returns-in-Some t c =
    one_loop c.args.depth (stmt_of c.args.statement.now) (head_of c.in-Some.level.head.now) (stmt_of c.in-Some.level.body.now) c.is_nest.result c.if-depth-eq0.false c.in-Some.ensures c.is_nest.ensures
