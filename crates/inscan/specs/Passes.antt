-- A chunk of a scan in each of the two passes. (OpenMP 5.2, 5.6)
use Rattle.std.specs.Prelude.{ℕ, ◌≡◌, List, [], ◌∷◌, take, drop, Some}
use Rattle.semantics.specs.Tree.{Variable, Stmt}
use Rattle.semantics.specs.Meaning.State.{State, overwritten}
use Rattle.semantics.specs.Meaning.Runs.{Effect}
use Rattle.semantics.specs.Loops.Nest.{Loop, Vector}
use Rattle.semantics.specs.Loops.Operator.{ReduceOp}
use Rattle.semantics.specs.Loops.Piece.{Roles}
use Rattle.semantics.specs.Loops.Joined.{given}
use Rattle.law_nests.specs.Walks.{walk}
use Rattle.law_roles.specs.Reducing.{AreHeld}
use Rattle.law_roles.specs.Sharing.{changed_from}
use Rattle.law_starts.specs.Begun.{begun}
use Rattle.reduce.specs.declared.partial.Partial.{Partial}
use Rattle.reduce.specs.Partial.{partial_of}
use Rattle.store.specs.Kept.{Kept}
use Rattle.lower_code.specs.declared.laid.Laid.{Laid}
use Rattle.lower.specs.declared.lowered.LoweredLoop.{LoweredLoop}
use Rattle.lower.specs.Lowered.{IsReached}
use Rattle.overlay.specs.declared.worker.Piece.{Piece}
use Rattle.overlay.specs.declared.worker.Work.{Work}
use Rattle.overlay.specs.Chunks.{LeavesPiece, TellsLasts}

-- wherever a loop with one reduction variable is reached with these registers and this store, and the iterations of a chunk have a run one after another from where it may begin there, which leaves a number in the variable, its partial is told
abbrev pub IsFirstPass : LoweredLoop → List ℕ → List Kept → Work → Partial → Type 0
IsFirstPass l registers ks work p =
    (layout : List Laid) (mark : ℕ) (roles : Roles) (x : Variable) (op : ReduceOp) (loops : List Loop) (body : Stmt) (outer : State) (us : List Vector) (e : Effect)
    → roles.reductions ≡ (x, op) ∷ [] → IsReached layout mark roles loops body outer us l registers ks
    → walk loops body (take work.count (drop work.first us)) (begun roles outer) ≡ Some e → AreHeld roles.reductions (overwritten (begun roles outer) e.writes)
    → partial_of p ≡ changed_from (begun roles outer) e x

-- wherever it is reached so, and the iterations of a chunk have a run from where the variable has this start, the effect is told
abbrev pub IsSecondPass : ℕ → LoweredLoop → List ℕ → List Kept → Work → Piece → Type 0
IsSecondPass start l registers ks work p =
    (layout : List Laid) (mark : ℕ) (roles : Roles) (x : Variable) (op : ReduceOp) (loops : List Loop) (body : Stmt) (outer : State) (us : List Vector) (e : Effect)
    → roles.reductions ≡ (x, op) ∷ [] → IsReached layout mark roles loops body outer us l registers ks
    → walk loops body (take work.count (drop work.first us)) (given outer x (Some start)) ≡ Some e → LeavesPiece layout roles outer (given outer x (Some start)) ks e p

-- and so are what lastprivate variables hold behind it
abbrev pub LastsOfSecondPass : ℕ → LoweredLoop → List ℕ → List Kept → Work → Piece → Type 0
LastsOfSecondPass start l registers ks work p =
    (layout : List Laid) (mark : ℕ) (roles : Roles) (x : Variable) (op : ReduceOp) (loops : List Loop) (body : Stmt) (outer : State) (us : List Vector) (e : Effect)
    → roles.reductions ≡ (x, op) ∷ [] → IsReached layout mark roles loops body outer us l registers ks
    → walk loops body (take work.count (drop work.first us)) (given outer x (Some start)) ≡ Some e
    → TellsLasts roles (overwritten (given outer x (Some start)) e.writes) us work p.lasts.items
