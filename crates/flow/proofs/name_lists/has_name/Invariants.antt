use Rattle.std.proofs.Common.{◌≡◌, map, drop}
use Rattle.semantics.specs.Meaning.Agrees.{is_among}
use Rattle.pragma_named.specs.Views.{variable_named}
use Rattle.flow.proofs.name_lists.has_name.Given as goal

-- the names that are left decide
abbrev pub invariant-loop-name : goal.invariant-loop-name
invariant-loop-name l = is_among (map variable_named (drop l.name-index l.list)) l.variable.0 ≡ is_among (map variable_named l.list) l.variable.0
