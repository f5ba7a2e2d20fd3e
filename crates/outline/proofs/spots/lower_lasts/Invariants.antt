use Rattle.std.specs.Prelude.{take, filter}
use Rattle.semantics.specs.Meaning.Agrees.{is_among}
use Rattle.law_commute.specs.Targets.{targets_outside}
use Rattle.ktree.specs.View.{stmt_of}
use Rattle.flow.specs.Parallel.{numbers}
use Rattle.lower.specs.Roles.{StandEach}
use Rattle.outline.proofs.spots.lower_lasts.Given as goal

-- those so far
abbrev pub invariant-loop-variable : goal.invariant-loop-variable
invariant-loop-variable l =
    StandEach l.target.layout.now l.target.registers (filter (is_among (targets_outside (stmt_of l.stmt))) (numbers (take l.variable-index l.lasts))) l.spots.items
