use Rattle.std.proofs.Common.{◌≡◌, drop}
use Rattle.std.specs.Prelude.{map}
use Rattle.semantics.specs.Directives.Naming.{are_distinct}
use Rattle.pragma_named.specs.Views.{variable_named}
use Rattle.pragma_mention.specs.Sets.{holds}
use Rattle.pragma_attach.proofs.OnceLaw.{fresh}
use Rattle.pragma_attach.proofs.once.first_twice.Given as goal

-- those that are left decide
abbrev pub invariant-loop-named : goal.invariant-loop-named
invariant-loop-named l = fresh (holds l.seen) (map variable_named (drop l.named-index l.list)) ≡ are_distinct (map variable_named l.list)
