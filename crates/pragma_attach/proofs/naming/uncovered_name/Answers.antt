use Rattle.std.specs.Prelude.{true, ◌≡◌, map}
use Rattle.std.specs.List.{list_any}
use Rattle.std.proofs.Common.{sym, ◌∙◌}
use Rattle.semantics.specs.Directives.Naming.{is_none}
use Rattle.ktree.specs.View.{stmt_of}
use Rattle.pragma_mention.specs.Sets.{holds}
use Rattle.pragma_named.specs.Views.{resolved_clause}
use Rattle.pragma_named.specs.Known.{kept}
use Rattle.pragma_named.specs.Known.{lines_known}
use Rattle.pragma_attach.specs.Rightly.{names_inside}
use Rattle.pragma_attach.proofs.RightlyLaw.{and_same, inside_wanted, covered}
use Rattle.pragma_attach.proofs.naming.uncovered_name.Goals as goal

pub returns : goal.returns
returns c =
    let clauses = map resolved_clause c.args.clauses.now in
    let lines = lines_known (kept c.args.table.now) in
    let s = stmt_of c.args.statement.now in
    let set = holds c.in_ok-set.set in
    let none : list_any is_none clauses ≡ true = sym c.has_default_none.ensures ∙ c.if-not-has_default_none.false in
    c.earlier.ensures ∙ and_same (c.inner_fault-inside.ensures ∙ inside_wanted true set lines s) c.first_unknown.ensures
    ∙ covered clauses set (holds c.add_declared.new.set) s (names_inside lines s) none c.in_ok-set.ensures c.in_ok-add_declared.ensures
