-- What a schedule stands for. (OpenMP 5.2, 11.5.3)
use Rattle.std.specs.Prelude.{Option, Some, None}
use Rattle.semantics.specs.Loops.Chunk as meant
use Rattle.semantics.specs.Directives.Directive as directives
use Rattle.semantics.specs.Directives.Clauses as clauses
use Rattle.ktree.specs.DirectiveView.{schedule_of}
use Rattle.ktree.specs.declared.directive.Schedule.{Schedule}
use Rattle.schedule.specs.declared.sched.Sched.{Sched}
use Rattle.schedule.specs.declared.sched.Sched.TheVariants.{PlainStatic, Static, Dynamic, Guided}

-- its kind, a size being a number
abbrev pub kind_of : Sched → meant.Kind
kind_of PlainStatic = meant.PlainStatic
kind_of (Static size) = meant.Static size
kind_of (Dynamic size) = meant.Dynamic size
kind_of (Guided size) = meant.Guided size

-- what the directive says by its clause, plain static where none stands
abbrev pub said : Option Schedule → directives.Schedule
said None = directives.StaticPlain
said (Some clause) = schedule_of clause

-- how its loop is cut; given: what stands for `runtime`
abbrev pub kind_said : Option Schedule → Sched → meant.Kind
kind_said clause given = clauses.kind_of (said clause) (kind_of given)

-- a guided one
abbrev pub IsGuided : Sched → Type 0
IsGuided PlainStatic = ⊥
IsGuided (Static size) = ⊥
IsGuided (Dynamic size) = ⊥
IsGuided (Guided size) = Unit {0}
