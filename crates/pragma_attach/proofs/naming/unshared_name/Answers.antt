use Rattle.std.specs.Prelude.{false, map, flat_map}
use Rattle.std.proofs.Common.{◌∙◌}
use Rattle.semantics.specs.Directives.Naming.{kept_private}
use Rattle.ktree.specs.View.{stmt_of}
use Rattle.pragma_mention.specs.Sets.{holds}
use Rattle.pragma_named.specs.Views.{resolved_clause}
use Rattle.pragma_named.specs.Known.{kept}
use Rattle.pragma_named.specs.Known.{lines_known}
use Rattle.pragma_attach.specs.Rightly.{names_inside}
use Rattle.pragma_attach.proofs.RightlyLaw.{inside_wanted, none_among}
use Rattle.pragma_attach.proofs.naming.unshared_name.Goals as goal

pub returns : goal.returns
returns c =
    let lines = lines_known (kept c.args.table.now) in
    let s = stmt_of c.args.statement.now in
    let set = holds c.in_ok-private.private in
    c.inner_fault.ensures ∙ inside_wanted false set lines s ∙ none_among set (flat_map kept_private (map resolved_clause c.args.clauses.now)) (names_inside lines s) c.in_ok-private.ensures
