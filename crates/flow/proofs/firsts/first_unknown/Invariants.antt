use Rattle.std.proofs.Common.{◌≡◌, map, drop}
use Rattle.std.specs.List.{list_all}
use Rattle.pragma_named.specs.Views.{variable_named}
use Rattle.flow_definite.specs.Judged.{known_of}
use Rattle.flow.proofs.firsts.first_unknown.Given as goal

-- the names that are left decide
abbrev pub invariant-loop-name : goal.invariant-loop-name
invariant-loop-name l = list_all (known_of l.known) (map variable_named (drop l.name-index l.names)) ≡ list_all (known_of l.known) (map variable_named l.names)
