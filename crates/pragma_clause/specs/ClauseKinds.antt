-- Which clauses stand on a directive, and how often.
use Rattle.std.specs.Prelude.{Bool, not}
use Rattle.semantics.specs.Tree.{Name}
use Rattle.semantics.specs.Directives.Directive as meaning
use Rattle.semantics.specs.Directives.DirectiveGrammar.{is_default, is_schedule, is_collapse, is_ordered, is_nowait, on_parallel_for, on_parallel, on_for}
use Rattle.ktree.specs.declared.directive.Written.{Written}
use Rattle.ktree.specs.declared.directive.Clause.{Clause}
use Rattle.pragma_clause.specs.declared.clauses.On.{On}
use Rattle.pragma_clause.specs.declared.clauses.On.TheVariants.{ParallelFor, Parallel, For}
use Rattle.pragma_clause.specs.declared.clauses.Single.{Single}
use Rattle.pragma_clause.specs.declared.clauses.Single.TheVariants.{Default, Schedule, Collapse, Ordered, Nowait}
use Rattle.pragma_clause.specs.Views.{written_clause}

-- a clause that may stand on this directive
abbrev pub may_have : On → meaning.Clause Name → Bool
may_have ParallelFor = on_parallel_for
may_have Parallel = on_parallel
may_have For = on_for

-- a clause of a kind that stands at most once
abbrev pub is_single : Single → meaning.Clause Name → Bool
is_single Default c = is_default c
is_single Schedule c = is_schedule c
is_single Collapse c = is_collapse c
is_single Ordered c = is_ordered c
is_single Nowait c = is_nowait c

-- a clause of the code that may not stand there
abbrev pub is_unfit : On → Clause Written → Bool
is_unfit on c = not (may_have on (written_clause c))

-- a clause of the code of such a kind
abbrev pub is_counted : Single → Clause Written → Bool
is_counted single c = is_single single (written_clause c)
