use Rattle.std.proofs.Common.{◌≡◌, map, drop}
use Rattle.std.specs.Prelude.{◌&&◌}
use Rattle.std.specs.List.{list_all}
use Rattle.law_roles.specs.Sharing.{assigned_first, are_different}
use Rattle.pragma_named.specs.Views.{variable_named}
use Rattle.pragma_named.specs.Known.{kept}
use Rattle.flow.specs.Private.{all_but}
use Rattle.flow.specs.Roles.{roles_known}
use Rattle.flow.proofs.reductions.second_role.Given as goal

-- the names that are left decide
abbrev pub invariant-loop-i : goal.invariant-loop-i
invariant-loop-i l =
    (are_different (map variable_named (drop l.i l.names)) && list_all (all_but (assigned_first (roles_known (kept l.lines) l.files l.line))) (map variable_named (drop l.i l.names)))
    ≡ (are_different (map variable_named l.names) && list_all (all_but (assigned_first (roles_known (kept l.lines) l.files l.line))) (map variable_named l.names))
