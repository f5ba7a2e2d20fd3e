-- What the answer of a walk says of a kernel's parts.
use Rattle.std.specs.Prelude.{◌≡◌, ◌⊎◌, ◌++◌, List, [], ◌∷◌, map, Option, MatchOption, MatchResult}
use Rattle.std.specs.declared.result.Result.{Result}
use Rattle.semantics.specs.Tree.{Stmt, Kernel}
use Rattle.ktree.specs.View.{source_of, cond_of, increment_of, declaration_of}
use Rattle.ktree.specs.declared.place.Place.{Place}
use Rattle.ktree.specs.declared.statement.Head.{Head}
use Rattle.ktree.specs.declared.statement.Declaration.{Declaration}
use Rattle.affine.specs.declared.interval.Interval.{Interval}
use Rattle.affine.specs.declared.interval.Side.{Side}
use Rattle.nest_loop.specs.declared.head.Canonical.{Canonical}
use Rattle.nest_loop.specs.declared.entered.LoopFacts.{LoopFacts}
use Rattle.nest_loop.specs.Loops.{IsLoop, inside}
use Rattle.nest_loop.specs.Facts.{AreFactsOf}
use Rattle.affine_expr.specs.declared.faults.Fault.{Fault}
use Rattle.affine_expr.specs.declared.faults.Fault.TheVariants.{OutOfMemory}
use Rattle.nest.specs.Nests.{Asked, StaysInside, IsInRange}
use Rattle.nest.specs.Leaves.{LeavesArray, LeavesSomewhere}
use Rattle.nest.specs.Facts.{HasFacts}
use Rattle.nest.specs.declared.kernels.LoopTable.{LoopTable}

-- it is so where no fault is found; a fault other than want of memory says that it is not
abbrev pub Decides : {A : Type 0} → Result A Fault → Type 0 → Type 0
Decides answer P = MatchResult answer (λ _. P) (λ fault. (fault ≡ OutOfMemory) ⊎ (P → ⊥))

-- the same of a walk along the facts of loops, where these are the right ones
abbrev pub DecidesBy : {A : Type 0} → (List LoopFacts → Type 0) → Result A Fault → Type 0 → Type 0
DecidesBy Facts answer P = (rest : List LoopFacts) → Facts rest → Decides answer P

-- an access stays inside its array, or leaves it, by the variables of the code's tree
abbrev pub inside_of : List Declaration → Asked
inside_of variables = StaysInside (map declaration_of variables)

abbrev pub out_of : List Declaration → Asked
out_of variables = LeavesArray (map declaration_of variables)

-- where no place is told all accesses stay, and else one of them leaves
abbrev pub Tells : Type 0 → Type 0 → Option Place → Type 0
Tells Stay Leaves told = MatchOption told Stay (λ place. Leaves)

-- a walk went into a loop: its box has the numbers of the loop's variable too
abbrev pub Entered : List Side → List Side → Head → Stmt → Type 0
Entered before after head body =
    (l : Canonical) × (i : Interval) × IsLoop before head.variable.0 (source_of head.start) (cond_of head.test) (increment_of head.step) body l i
    × (after ≡ inside before head.variable.0 i)

-- moreover the loop's facts were put behind others
pub record EntersLoop (before after : List Side) (found more : List LoopFacts) (head : Head) (body : Stmt) : Type 0 where
  pub facts : LoopFacts
  pub are : AreFactsOf before head body facts
  pub inside : after ≡ inside before head.variable.0 facts.numbers
  pub put : more ≡ found ++ (facts ∷ [])

-- what was found of a kernel: the facts of each of its loops, and whether an access leaves its array
pub record IsTableOf (k : Kernel) (table : LoopTable) : Type 0 where
  pub facts : HasFacts k table.loops.items
  pub ranges : Tells (IsInRange k) (LeavesSomewhere k) table.leaves
