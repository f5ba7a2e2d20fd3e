use Rattle.std.specs.Prelude.{map}
use Rattle.std.proofs.Common.{ap, ◌∙◌, inr, refl}
use Rattle.pragma_named.specs.Known.{kept, lines_known}
use Rattle.pragma_named.specs.Views.{variable_named}
use Rattle.flow.specs.Roles.{roles_known}
use Rattle.flow.proofs.ListLemmas.{reduced_among}
use Rattle.flow.proofs.NestLemmas.{one_role, two_roles, second_told}
use Rattle.flow.proofs.reductions.second_fault.Goals as goal

pub returns-in-None-clause-judged : goal.returns-in-None-clause-judged
returns-in-None-clause-judged c =
    one_role (roles_known (kept c.args.lines.now) c.args.files c.args.line) (map variable_named c.deref.result.now)
    (ap (map variable_named) c.deref.ensures.value ∙ c.in-Ok.ensures ∙ reduced_among (lines_known (kept c.args.lines.now) c.args.line)) _ c.in-None.ensures refl

pub returns-clause-judged : goal.returns-clause-judged
returns-clause-judged c =
    inr (two_roles (roles_known (kept c.args.lines.now) c.args.files c.args.line) (map variable_named c.deref.result.now)
    (ap (map variable_named) c.deref.ensures.value ∙ c.in-Ok.ensures ∙ reduced_among (lines_known (kept c.args.lines.now) c.args.line)) _ c.in-Some.ensures refl)

pub returns-clause-cause : goal.returns-clause-cause
returns-clause-cause c =
    second_told (roles_known (kept c.args.lines.now) c.args.files c.args.line) (map variable_named c.deref.result.now)
    (ap (map variable_named) c.deref.ensures.value ∙ c.in-Ok.ensures ∙ reduced_among (lines_known (kept c.args.lines.now) c.args.line)) _ c.in-Some.ensures refl
