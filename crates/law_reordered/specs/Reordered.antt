-- The iterations of an accepted kernel's doacross nests and scans in other orders. (OpenMP 5.2, 5.6, 11.5 and 15.9.6)
use Rattle.std.specs.Prelude.{ℕ, true, ◌≡◌, List, [], ◌∷◌, Some}
use Rattle.semantics.specs.Tree.{Variable, Stmt, Kernel}
use Rattle.semantics.specs.Meaning.State.{State}
use Rattle.semantics.specs.Meaning.Runs.{Effect, run}
use Rattle.semantics.specs.Meaning.Agrees.{is_among}
use Rattle.semantics.specs.Meaning.Definite.{IsDefinite}
use Rattle.semantics.specs.Loops.Nest.{Loop, Vector, nest_of, iterations}
use Rattle.semantics.specs.Loops.Operator.{ReduceOp}
use Rattle.semantics.specs.Loops.Order.{Distance}
use Rattle.semantics.specs.Loops.Piece.{Roles, SharedLoop}
use Rattle.semantics.specs.Theorems.{IsTurn, CommutesInOrder, CommutesInScan}
use Rattle.law_lines.specs.Without.{IsTreeOf}
use Rattle.law_commute.specs.Targets.{targets_outside}
use Rattle.law_commute.specs.Joining.{DeclaresLocals}
use Rattle.nest.specs.Nests.{IsInRange}
use Rattle.flow.specs.Phases.{PhasesBy}
use Rattle.flow.specs.Roles.{LineData, left_roles, privates_by, AskedByLine, ItemsHaveBy, ItemsKeepRoles}
use Rattle.deptest_verdict.specs.Shown.{AreShownLoops}
use Rattle.law_independence.specs.Said.{LinesInside, phases_in, sinks_in}
use Rattle.law_independence.specs.OrderLaws.{used_roles, AreAtHand}
use Rattle.law_doacross.specs.Waving.{SuitBy}

-- wherever a nest of so many loops is reached, at a turn of the serial loops round it, with a run and its variables at hand, its iterations commute so
abbrev pub WhereReached : Roles → (SharedLoop → State → List Vector → Type 0) → List Loop → ℕ → Stmt → Type 0
WhereReached roles Commute serial n s =
    (loops : List Loop) (body : Stmt) (outer : State) (us : List Vector) (e : Effect)
    → nest_of n s ≡ Some (loops, body) → IsTurn serial outer → DeclaresLocals s outer → AreAtHand roles s outer
    → iterations loops outer ≡ Some us → run s outer ≡ Some e → Commute (record { loops = loops; body = body; roles = roles }) outer us

-- where the lines inside a loop give these sinks, its iterations leave the same elements in any order that respects them (OpenMP 5.2, 15.9.6)
abbrev pub NestCommutesBy : LineData → LinesInside → AskedByLine
NestCommutesBy R P line serial n s =
    (sinks : List Distance) → (P line).sinks ≡ Some sinks → WhereReached (used_roles s (left_roles (R line))) (λ loop outer us. CommutesInOrder loop sinks outer us) serial n s

-- where a loop carries one variable alone, which it assigns, its iterations leave the same elements in any order, each begun with that variable at the value that it has there in sequence (OpenMP 5.2, 5.6)
abbrev pub ScanCommutesBy : LineData → LinesInside → AskedByLine
ScanCommutesBy R P line serial n s =
    (x : Variable) (op : ReduceOp) → (R line).carried ≡ (x, op) ∷ [] → is_among (targets_outside s) x ≡ true
    → WhereReached (used_roles s (left_roles (R line))) (λ loop outer us. CommutesInScan loop x outer us) serial n s

-- the iterations of each parallel loop of a kernel of the grammar commute so, where no subscript leaves its dimension, no local is read before it is assigned, parallel loops keep the roles of the scalars that they assign, and the test of pairs shows all of them to be independent, or ordered by their sinks
abbrev pub WhereAccepted : (LineData → LinesInside → AskedByLine) → Type 0
WhereAccepted Commute =
    (text : List ℕ) (k : Kernel) (R : LineData) (P : LinesInside) → IsTreeOf text k → IsInRange k → IsDefinite (privates_by R) k → ItemsKeepRoles text R [] k.body
    → ItemsHaveBy text (PhasesBy R (phases_in P)) [] k.body → ItemsHaveBy text (SuitBy R P) [] k.body → AreShownLoops text (sinks_in P) k
    → ItemsHaveBy text (Commute R P) [] k.body

-- those of each doacross nest of an accepted kernel may be run in any order that respects its sinks (OpenMP 5.2, 15.9.6)
abbrev pub AcceptedNestsCommute : Type 0
AcceptedNestsCommute = WhereAccepted NestCommutesBy

-- and those of each scan in any order, each begun with the scan variable at its sequential value (OpenMP 5.2, 5.6)
abbrev pub AcceptedScansCommute : Type 0
AcceptedScansCommute = WhereAccepted ScanCommutesBy
