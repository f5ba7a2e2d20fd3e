use Rattle.std.proofs.Common.{◌≡◌, map, filter, drop}
use Rattle.semantics.specs.Meaning.Definite.{without}
use Rattle.pragma_named.specs.Views.{variable_named}
use Rattle.flow_definite.specs.Judged.{is_local, known_of}
use Rattle.flow_definite.proofs.privates.forget_names.Given as goal

-- all are forgotten with those that are left
abbrev pub invariant-loop-name : goal.invariant-loop-name
invariant-loop-name l =
    without (known_of l.fn.known) (filter (is_local l.files) (map variable_named l.names))
    ≡ without (known_of l.known) (filter (is_local l.files) (map variable_named (drop l.name-index l.names)))
