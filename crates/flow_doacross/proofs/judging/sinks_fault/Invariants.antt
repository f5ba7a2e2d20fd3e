use Rattle.std.proofs.Common.{◌≡◌, drop}
use Rattle.std.specs.List.{list_all}
use Rattle.ktree.specs.View.{stmt_of}
use Rattle.flow_doacross.specs.Bodies.{loop_names, is_sink_of}
use Rattle.flow_doacross.specs.Views.{sinks_on}
use Rattle.flow_doacross.proofs.judging.sinks_fault.Given as goal

-- the items that are left decide
abbrev pub invariant-loop-item : goal.invariant-loop-item
invariant-loop-item l =
    list_all (is_sink_of l.depth (loop_names (stmt_of l.nest))) (sinks_on l.directives (drop l.item-index l.items))
    ≡ list_all (is_sink_of l.depth (loop_names (stmt_of l.nest))) (sinks_on l.directives l.items)
