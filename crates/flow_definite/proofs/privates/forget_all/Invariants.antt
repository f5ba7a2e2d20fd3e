use Rattle.std.proofs.Common.{◌≡◌, map, drop}
use Rattle.semantics.specs.Meaning.Definite.{without}
use Rattle.pragma_named.specs.Views.{variable_named}
use Rattle.flow_definite.specs.Judged.{known_of}
use Rattle.flow_definite.proofs.privates.forget_all.Given as goal

-- all are forgotten with those that are left
abbrev pub invariant-loop-named : goal.invariant-loop-named
invariant-loop-named l = without (known_of l.fn.known) (map variable_named l.names) ≡ without (known_of l.known) (map variable_named (drop l.named-index l.names))
