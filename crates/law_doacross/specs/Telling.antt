-- What the dependence test tells of a kernel, and what is so of the loops before. (C11 5.1.2.4, 4; OpenMP 5.2, 1.4.1, 11.5 and 15.9.6)
use Rattle.std.specs.Prelude.{ℕ, ◌≡◌, ◌⊎◌, List, []}
use Rattle.semantics.specs.Tree.{Declaration, Kernel}
use Rattle.law_lines.specs.Without.{IsTreeOf}
use Rattle.ktree.specs.declared.refusal.Refusal.{Refusal}
use Rattle.ktree.specs.declared.refusal.Refusal.TheVariants as refusals
use Rattle.nest.specs.Nests.{IsInRange}
use Rattle.nest.specs.Perfect.{AreRightNests}
use Rattle.flow.specs.Roles.{AskedByLine, ItemsHaveBy}
use Rattle.deptest_verdict.specs.Refused.{IsRefused}
use Rattle.law_independence.specs.Said.{LinesInside, sinks_in}
use Rattle.law_independence.specs.Parallel.{FirstItemHasBy}
use Rattle.law_independence.specs.ConflictLaws.{IsToldOf}
use Rattle.law_doacross.specs.Covering.{CountUpBy, OrderedBy}

-- what is told of the loop behind a line, with its sinks
abbrev pub ToldBy : List Declaration → LinesInside → Refusal → AskedByLine
ToldBy ds P r line serial n s = IsToldOf ds (sinks_in P line) r serial n s

-- a kernel of the grammar whose loops are canonical, with subscripts in range and right nests, is refused for its first parallel loop that is not shown to be independent, or ordered by its sinks; those before it are
abbrev pub RefusalsAreTold : Type 0
RefusalsAreTold =
    (text : List ℕ) (k : Kernel) (r : Refusal) (P : LinesInside) → IsTreeOf text k → IsInRange k → AreRightNests text k → ItemsHaveBy text (CountUpBy P) [] k.body
    → IsRefused text (sinks_in P) k r
    → (r ≡ refusals.OutOfMemory) ⊎ FirstItemHasBy text (OrderedBy P) (ToldBy k.variables P r) [] k.body
