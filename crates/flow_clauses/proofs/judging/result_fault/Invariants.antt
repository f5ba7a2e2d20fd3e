use Rattle.std.proofs.Common.{◌≡◌, map, drop}
use Rattle.std.specs.List.{list_all}
use Rattle.ktree.specs.View.{declaration_of}
use Rattle.pragma_mention.specs.Sets.{holds}
use Rattle.pragma_named.specs.Views.{variable_named}
use Rattle.flow_clauses.specs.Fitting.{is_result}
use Rattle.flow_clauses.proofs.judging.result_fault.Given as goal

-- the names that are left decide
abbrev pub invariant-loop-named : goal.invariant-loop-named
invariant-loop-named l =
    list_all (is_result (map declaration_of l.files) (holds l.loops)) (map variable_named (drop l.named-index l.names))
    ≡ list_all (is_result (map declaration_of l.files) (holds l.loops)) (map variable_named l.names)
