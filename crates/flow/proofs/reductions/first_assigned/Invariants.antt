use Rattle.std.proofs.Common.{◌≡◌, map, drop}
use Rattle.std.specs.List.{list_all}
use Rattle.law_roles.specs.Sharing.{assigned_first}
use Rattle.pragma_named.specs.Views.{variable_named}
use Rattle.pragma_named.specs.Known.{kept}
use Rattle.flow.specs.Private.{all_but}
use Rattle.flow.specs.Roles.{roles_known}
use Rattle.flow.proofs.reductions.first_assigned.Given as goal

-- the names that are left decide
abbrev pub invariant-loop-name : goal.invariant-loop-name
invariant-loop-name l =
    list_all (all_but (assigned_first (roles_known (kept l.lines) l.files l.line))) (map variable_named (drop l.name-index l.names))
    ≡ list_all (all_but (assigned_first (roles_known (kept l.lines) l.files l.line))) (map variable_named l.names)
