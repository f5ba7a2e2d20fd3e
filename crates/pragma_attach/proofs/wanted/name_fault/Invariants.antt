use Rattle.std.proofs.Common.{◌≡◌, drop}
use Rattle.std.specs.Prelude.{map}
use Rattle.pragma_mention.specs.Sets.{holds}
use Rattle.pragma_named.specs.Views.{variable_named}
use Rattle.pragma_attach.specs.Rightly.{are_wanted}
use Rattle.pragma_attach.proofs.wanted.name_fault.Given as goal

-- those that are left decide
abbrev pub invariant-loop-named : goal.invariant-loop-named
invariant-loop-named l = are_wanted l.wanted (holds l.set) (map variable_named (drop l.named-index l.names)) ≡ are_wanted l.wanted (holds l.set) (map variable_named l.names)
