use Rattle.std.proofs.Common.{◌≡◌, ◌++◌, map, drop}
use Rattle.pragma_named.specs.Views.{variable_named}
use Rattle.flow.proofs.name_lists.add_names.Given as goal

-- with the names that are left they are all
abbrev pub invariant-loop-name : goal.invariant-loop-name
invariant-loop-name l = map variable_named l.found.items ++ map variable_named (drop l.name-index l.names) ≡ map variable_named l.fn.found.items ++ map variable_named l.names
