use Rattle.std.specs.Prelude.{◌||◌, map}
use Rattle.std.proofs.Common.{sym, ap, ◌∙◌}
use Rattle.semantics.specs.Meaning.Agrees.{is_among}
use Rattle.law_roles.specs.Sharing.{assigned_first}
use Rattle.pragma_named.specs.Known.{kept, lines_known}
use Rattle.flow.specs.Roles.{roles_known}
use Rattle.flow.proofs.ListLemmas.{reduced_among}
use Rattle.flow.proofs.PrivateLemmas.{among_both}
use Rattle.flow.proofs.name_lists.is_role.Goals as goal

pub returns-else-is_assigned_first : goal.returns-else-is_assigned_first
returns-else-is_assigned_first c =
    let roles = roles_known (kept c.args.lines.now) c.args.files c.args.line in
    let x = c.args.variable.0 in
    let reduced = map (λ r. r.0) roles.reductions in
    c.is_listed.ensures ∙ ap (λ xs. is_among xs x) (reduced_among (lines_known (kept c.args.lines.now) c.args.line))
    ∙ sym (among_both (assigned_first roles) reduced x ∙ ap (λ b. b || is_among reduced x) (sym c.is_assigned_first.ensures ∙ c.if-is_assigned_first.false))
