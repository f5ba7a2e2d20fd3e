-- What is promised of kernels that are run.
use Rattle.std.specs.Prelude.{ℕ, ◌≡◌, List, IsSome}
use Rattle.semantics.specs.Tree.{Variable, Kernel, strip}
use Rattle.law_lines.specs.Without.{IsTreeOf}
use Rattle.semantics.specs.Meaning.State.{State, Outside}
use Rattle.semantics.specs.Meaning.Runs.{run_items}
use Rattle.semantics.specs.Meaning.Definite.{IsDefinite, no_privates}
use Rattle.semantics.specs.Theorems.{IsStateOf}
use Rattle.nest.specs.Nests.{IsInRange}

-- a kernel of the grammar whose loops are canonical and never wrap, whose subscripts stay inside their arrays, and in which no local is read before it is assigned, runs to its end from every state of its variables (C11 5.1.2.3 and 6.8)
abbrev pub NestedKernelsRun : Type 0
NestedKernelsRun =
    (text : List ℕ) (k : Kernel) (s : State) → IsTreeOf text k → IsInRange k → IsDefinite no_privates k
    → IsStateOf k.variables s → ((x : Variable) → s.locals x ≡ Outside) → IsSome (run_items k.body s)

-- directive lines are passed over: the tree without them has the same run (C11 6.10.6)
abbrev pub StripKeepsRuns : Type 0
StripKeepsRuns = (k : Kernel) (s : State) → run_items (strip k).body s ≡ run_items k.body s
