-- What the code's directives say.
use Rattle.std.specs.Prelude.{ℕ, Option, Some, None, option_map}
use Rattle.semantics.specs.Directives.Directive.{Schedule}
use Rattle.ktree.specs.DirectiveView.{schedule_of}
use Rattle.pragma.specs.declared.combined.ParallelFor.{ParallelFor}
use Rattle.pragma.specs.Clauses.{Said}

-- its `schedule`, where one stands
abbrev pub scheduled : ParallelFor → Option Schedule
scheduled d = option_map schedule_of d.schedule

-- what a `parallel for` says
abbrev pub said_of : ParallelFor → Said
said_of d = (scheduled d, d.collapse)

-- a number of loops, or else that of further clauses
abbrev pub or_loops : Option ℕ → Option ℕ → Option ℕ
or_loops None further = further
or_loops (Some n) further = Some n
