-- Where the chunks of a scan start in its second pass. (OpenMP 5.2, 5.6)
use Rattle.std.specs.Prelude.{ℕ, ◌≡◌, List, [], ◌∷◌, length, map, All, Some}
use Rattle.semantics.specs.Tree.{Variable, Stmt}
use Rattle.semantics.specs.Meaning.State.{State, look, overwritten}
use Rattle.semantics.specs.Meaning.Runs.{Effect}
use Rattle.semantics.specs.Loops.Chunk.{PlainStatic, cut}
use Rattle.semantics.specs.Loops.Joined.{chunked}
use Rattle.semantics.specs.Loops.Nest.{Loop, Vector}
use Rattle.semantics.specs.Loops.Operator.{ReduceOp}
use Rattle.semantics.specs.Loops.Piece.{Roles}
use Rattle.law_nests.specs.Walks.{walk}
use Rattle.law_roles.specs.Reducing.{AreHeld}
use Rattle.law_roles.specs.Sharing.{changed_from}
use Rattle.law_starts.specs.Begun.{begun}
use Rattle.store.specs.Kept.{Kept}
use Rattle.lower_code.specs.declared.laid.Laid.{Laid}
use Rattle.lower.specs.declared.lowered.LoweredLoop.{LoweredLoop}
use Rattle.lower.specs.Lowered.{IsReached}
use Rattle.inscan.specs.InFront.{AreStarts}

-- wherever the loop of the input phase is reached with these registers and this store, and its chunks, cut by plain static for so many workers, have a run each from where a chunk may begin, which leaves a number in its one reduction variable, these are the starts of the chunks and of one more
abbrev pub AreScanStarts : LoweredLoop → List ℕ → List Kept → ℕ → List ℕ → Type 0
AreScanStarts l registers ks workers starts =
    (layout : List Laid) (mark : ℕ) (roles : Roles) (x : Variable) (op : ReduceOp) (loops : List Loop) (front : Stmt) (outer : State) (us : List Vector) (firsts : List Effect) (v : ℕ)
    → roles.reductions ≡ (x, op) ∷ [] → IsReached layout mark roles loops front outer us l registers ks
    → map (λ vs. walk loops front vs (begun roles outer)) (chunked us (cut PlainStatic (length us) workers)) ≡ map Some firsts
    → All (λ e. AreHeld roles.reductions (overwritten (begun roles outer) e.writes)) firsts
    → look outer x [] ≡ Some v → AreStarts op v (map (λ f. changed_from (begun roles outer) f x) firsts) starts
