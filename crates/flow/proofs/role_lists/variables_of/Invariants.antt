use Rattle.std.proofs.Common.{◌≡◌, ◌++◌, map, drop}
use Rattle.pragma_named.specs.Views.{variable_named}
use Rattle.flow.specs.Parallel.{numbers}
use Rattle.flow.proofs.role_lists.variables_of.Given as goal

-- with the names that are left they are all
abbrev pub invariant-loop-name : goal.invariant-loop-name
invariant-loop-name l = numbers l.found.items ++ map variable_named (drop l.name-index l.names) ≡ map variable_named l.names
