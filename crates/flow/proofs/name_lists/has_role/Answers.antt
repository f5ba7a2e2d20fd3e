use Rattle.std.specs.Prelude.{◌||◌, map}
use Rattle.std.proofs.Common.{sym, ap, ◌∙◌}
use Rattle.semantics.specs.Meaning.Agrees.{is_among}
use Rattle.pragma_named.specs.Known.{kept, lines_known}
use Rattle.flow.specs.Roles.{data_known}
use Rattle.flow.proofs.ListLemmas.{scanned_among, left_among}
use Rattle.flow.proofs.name_lists.has_role.Goals as goal

pub returns-else-is_role : goal.returns-else-is_role
returns-else-is_role c =
    let given = data_known (kept c.args.lines.now) c.args.files c.args.line in
    let x = c.args.variable.0 in
    c.is_listed.ensures ∙ ap (λ xs. is_among xs x) (scanned_among (lines_known (kept c.args.lines.now) c.args.line))
    ∙ sym (left_among given x ∙ ap (λ b. b || is_among (map (λ r. r.0) given.carried) x) (sym c.is_role.ensures ∙ c.if-is_role.false))

pub returns-then-is_role : goal.returns-then-is_role
returns-then-is_role c =
    let given = data_known (kept c.args.lines.now) c.args.files c.args.line in
    let x = c.args.variable.0 in
    c.if-is_role.true ∙ sym (left_among given x ∙ ap (λ b. b || is_among (map (λ r. r.0) given.carried) x) (sym c.is_role.ensures ∙ c.if-is_role.true))
