use Rattle.ktree.specs.View.{kernel_of}
use Rattle.pragma_attach.specs.Attached.{directives_of}
use Rattle.pragma_named.specs.Known.{kept}
use Rattle.ompk.proofs.Judging.{counted_are, roles_are}
use Rattle.ompk.proofs.accepting.judge_lines.Goals as goal

pub returns-clause-clauses : goal.returns-clause-clauses
returns-clause-clauses c =
    let text = c.args.directives.now in
    let k = kernel_of c.args.kernel.now in
    counted_are text k (directives_of text k) (kept c.in_ok-lines.lines) (kept c.count_clauses.new.lines) c.in_ok-lines.ensures.clauses c.in_ok-count_clauses.ensures

pub returns-clause-roles : goal.returns-clause-roles
returns-clause-roles c =
    let text = c.args.directives.now in
    let k = kernel_of c.args.kernel.now in
    let known = kept c.count_clauses.new.lines in
    roles_are text k (directives_of text k) known
    (counted_are text k (directives_of text k) (kept c.in_ok-lines.lines) known c.in_ok-lines.ensures.clauses c.in_ok-count_clauses.ensures)
