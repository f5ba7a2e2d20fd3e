-- What the code's directives stand for: those of the definitions, over names or over variables.
use Rattle.std.specs.Prelude.{ℤ, pos, neg_ℤ, map, string_bytes}
use Rattle.semantics.specs.Tree.{Name}
use Rattle.semantics.specs.Loops.Operator as meant
use Rattle.semantics.specs.Directives.Directive as meaning
use Rattle.ktree.specs.declared.directive.ReductionOperator.{ReductionOperator}
use Rattle.ktree.specs.declared.directive.ReductionOperator.TheVariants.{Sum, Product, And, Or, Xor, LogicalAnd, LogicalOr, Max, Min}
use Rattle.ktree.specs.declared.directive.Schedule.{Schedule}
use Rattle.ktree.specs.declared.directive.Schedule.TheVariants as scheduled
use Rattle.ktree.specs.declared.directive.Written.{Written}
use Rattle.ktree.specs.declared.directive.Clause.{Clause}
use Rattle.ktree.specs.declared.directive.Clause.TheVariants as clause
use Rattle.ktree.specs.declared.directive.Offset.{Offset}
use Rattle.ktree.specs.declared.directive.Offset.TheVariants.{Forward, Back}
use Rattle.ktree.specs.declared.directive.SinkElement.{SinkElement}
use Rattle.ktree.specs.declared.directive.Directive.{Directive}
use Rattle.ktree.specs.declared.directive.Directive.TheVariants as directive

-- the operator of a reduction
abbrev pub operator_of : ReductionOperator → meant.ReduceOp
operator_of Sum = meant.Sum
operator_of Product = meant.Product
operator_of And = meant.And
operator_of Or = meant.Or
operator_of Xor = meant.Xor
operator_of LogicalAnd = meant.AndAlso
operator_of LogicalOr = meant.OrElse
operator_of Max = meant.Max
operator_of Min = meant.Min

-- what a schedule clause says
abbrev pub schedule_of : Schedule → meaning.Schedule
schedule_of scheduled.Static = meaning.StaticPlain
schedule_of (scheduled.StaticChunks size) = meaning.StaticSize size
schedule_of (scheduled.Dynamic size) = meaning.DynamicSize size
schedule_of (scheduled.Guided size) = meaning.GuidedSize size
schedule_of scheduled.Auto = meaning.Auto
schedule_of scheduled.Runtime = meaning.Runtime

-- the name itself
abbrev pub name_of : Written → Name
name_of w = string_bytes w.name

-- a clause, each name seen by this view
abbrev pub clause_of : {N A : Type 0} → (N → A) → Clause N → meaning.Clause A
clause_of view clause.DefaultShared = meaning.DefaultShared
clause_of view clause.DefaultNone = meaning.DefaultNone
clause_of view (clause.Shared xs) = meaning.Shared (map view xs.items)
clause_of view (clause.Private xs) = meaning.Private (map view xs.items)
clause_of view (clause.Firstprivate xs) = meaning.Firstprivate (map view xs.items)
clause_of view (clause.Lastprivate xs) = meaning.Lastprivate (map view xs.items)
clause_of view (clause.LastConditional xs) = meaning.LastConditional (map view xs.items)
clause_of view (clause.Reduction op xs) = meaning.Reduction (operator_of op) (map view xs.items)
clause_of view (clause.Inscan op x) = meaning.Inscan (operator_of op) (view x)
clause_of view (clause.Schedule kind) = meaning.ScheduledBy (schedule_of kind)
clause_of view (clause.Collapse c) = meaning.Collapse c
clause_of view clause.Ordered = meaning.Ordered
clause_of view (clause.OrderedLoops n) = meaning.OrderedLoops n
clause_of view clause.Nowait = meaning.Nowait

-- a sink's offset as a whole number
abbrev pub offset_of : Offset → ℤ
offset_of (Forward n) = pos n
offset_of (Back n) = neg_ℤ (pos n)

-- an element of a sink
abbrev pub element_of : {N A : Type 0} → (N → A) → SinkElement N → A × ℤ
element_of view e = (view e.variable, offset_of e.offset)

-- a directive, each name seen by this view
abbrev pub directive_of : {N A : Type 0} → (N → A) → Directive N → meaning.Directive A
directive_of view (directive.ParallelFor cs) = meaning.ParallelFor (map (clause_of view) cs.items)
directive_of view (directive.Parallel cs) = meaning.Parallel (map (clause_of view) cs.items)
directive_of view (directive.For cs) = meaning.Worksharing (map (clause_of view) cs.items)
directive_of view (directive.ScanInclusive x) = meaning.ScanInclusive (view x)
directive_of view (directive.ScanExclusive x) = meaning.ScanExclusive (view x)
directive_of view directive.Ordered = meaning.OrderedRegion
directive_of view directive.DoacrossSource = meaning.DoacrossSource
directive_of view (directive.DoacrossSink es) = meaning.DoacrossSink (map (element_of view) es.items)
