use Rattle.std.specs.Prelude.{map}
use Rattle.std.specs.List.{list_all}
use Rattle.std.proofs.Common.{ap, sym, ◌∙◌, inr}
use Rattle.std.proofs.lemmas.Bool.{true≢false}
use Rattle.law_roles.specs.Sharing.{assigned_first}
use Rattle.pragma_named.specs.Known.{kept, lines_known}
use Rattle.pragma_named.specs.Views.{variable_named}
use Rattle.flow.specs.Private.{all_but}
use Rattle.flow.specs.Roles.{roles_known}
use Rattle.flow.proofs.ListLemmas.{scanned_among}
use Rattle.flow.proofs.reductions.carried_fault.Goals as goal

pub returns-in-None-clause-judged : goal.returns-in-None-clause-judged
returns-in-None-clause-judged c =
    ap (list_all (all_but (assigned_first (roles_known (kept c.args.lines.now) c.args.files c.args.line)))) (sym (ap (map variable_named) c.deref.ensures.value ∙ c.in-Ok.ensures ∙ scanned_among (lines_known (kept c.args.lines.now) c.args.line)))
    ∙ sym c.in-None.ensures

pub returns-clause-judged : goal.returns-clause-judged
returns-clause-judged c =
    inr (λ h. true≢false (sym h ∙ ap (list_all (all_but (assigned_first (roles_known (kept c.args.lines.now) c.args.files c.args.line)))) (sym (ap (map variable_named) c.deref.ensures.value ∙ c.in-Ok.ensures ∙ scanned_among (lines_known (kept c.args.lines.now) c.args.line)))
    ∙ sym c.in-Some.ensures))

pub returns-clause-cause : goal.returns-clause-cause
returns-clause-cause c h =
    true≢false (sym h ∙ ap (list_all (all_but (assigned_first (roles_known (kept c.args.lines.now) c.args.files c.args.line)))) (sym (ap (map variable_named) c.deref.ensures.value ∙ c.in-Ok.ensures ∙ scanned_among (lines_known (kept c.args.lines.now) c.args.line)))
    ∙ sym c.in-Some.ensures)
