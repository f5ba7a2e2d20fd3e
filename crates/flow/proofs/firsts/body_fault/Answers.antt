use Rattle.std.specs.List.{list_all}
use Rattle.std.proofs.Common.{sym, ap, ◌∙◌, inr}
use Rattle.ktree.specs.View.{stmt_of}
use Rattle.pragma_named.specs.Known.{kept}
use Rattle.flow_definite.specs.Judged.{known_of}
use Rattle.flow.specs.Roles.{roles_known}
use Rattle.flow.proofs.NestLemmas.{lasts_assigned, last_unknown}
use Rattle.flow.proofs.firsts.body_fault.Goals as goal

pub returns-in-None-clause-judged : goal.returns-in-None-clause-judged
returns-in-None-clause-judged c =
    lasts_assigned (roles_known (kept c.args.lines.now) c.args.files c.args.line) (stmt_of c.args.body.now) (known_of c.in-Ok.known) c.in-Ok.ensures.ok
    (ap (list_all (known_of c.in-Ok.known)) (sym c.requires) ∙ sym c.in-None.ensures)

pub returns-in-Ok-clause-judged : goal.returns-in-Ok-clause-judged
returns-in-Ok-clause-judged c =
    inr (last_unknown (roles_known (kept c.args.lines.now) c.args.files c.args.line) (stmt_of c.args.body.now) (known_of c.in-Ok.known) c.in-Ok.ensures.ok
    (ap (list_all (known_of c.in-Ok.known)) (sym c.requires) ∙ sym c.in-Some.ensures))

pub returns-in-Ok-clause-cause : goal.returns-in-Ok-clause-cause
returns-in-Ok-clause-cause c =
    last_unknown (roles_known (kept c.args.lines.now) c.args.files c.args.line) (stmt_of c.args.body.now) (known_of c.in-Ok.known) c.in-Ok.ensures.ok
    (ap (list_all (known_of c.in-Ok.known)) (sym c.requires) ∙ sym c.in-Some.ensures)
