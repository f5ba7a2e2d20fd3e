use Rattle.std.specs.Prelude.{◌++◌, ◌≡◌, drop}
use Rattle.semantics.specs.Meaning.Agrees.{is_among, declared_in}
use Rattle.ktree.specs.View.{stmt_of, items_of}
use Rattle.pragma_named.specs.Known.{kept}
use Rattle.law_roles.specs.Sharing.{role_variables}
use Rattle.flow.specs.Roles.{left_roles, data_known}
use Rattle.flow.specs.Private.{keeps_all}
use Rattle.flow.proofs.sharing.+keeping.Given as goal

-- the items that are left decide
abbrev pub invariant-block_fault-loop-item : goal.invariant-block_fault-loop-item
invariant-block_fault-loop-item l =
    keeps_all (is_among (declared_in (stmt_of l.body) ++ role_variables (left_roles (data_known (kept l.lines) l.files l.line)))) (items_of (drop l.item-index l.items)) ≡ keeps_all (is_among (declared_in (stmt_of l.body) ++ role_variables (left_roles (data_known (kept l.lines) l.files l.line)))) (items_of l.items)
