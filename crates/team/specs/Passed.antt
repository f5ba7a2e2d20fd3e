-- What a pass of a loop leaves. (OpenMP 5.2, 11.5.3 and 15.10)
use Rattle.std.specs.Prelude.{ℕ, ◌≡◌, List, ◌++◌, length, flat_map}
use Rattle.semantics.specs.Tree.{Stmt}
use Rattle.semantics.specs.Meaning.State.{State}
use Rattle.semantics.specs.Meaning.Runs.{Effect}
use Rattle.semantics.specs.Loops.Chunk.{Kind, cut}
use Rattle.semantics.specs.Loops.Joined.{chunked}
use Rattle.semantics.specs.Loops.Nest.{Loop, Vector}
use Rattle.semantics.specs.Loops.Piece.{Roles}
use Rattle.nest_space.specs.Space.{vectors}
use Rattle.seqrun_io.specs.Told.{AddsBeginning}
use Rattle.store.specs.Kept.{Kept}
use Rattle.lower_code.specs.declared.laid.Laid.{Laid}
use Rattle.lower.specs.declared.lowered.LoweredLoop.{LoweredLoop}
use Rattle.lower.specs.Lowered.{IsReached}
use Rattle.team_worker.specs.declared.pass.Pass.{Pass}
use Rattle.team_worker.specs.Ends.{AreOfLoop}
use Rattle.team_log.specs.Logged.{Account}
use Rattle.team_log.specs.Printed.{text_in_order}
use Rattle.team_worker.specs.Starts.{taken_in, started_in, HaveRuns}

-- the account of all chunks of a loop, and behind the text from before what they print, in their order
pub record IsPassed (l : LoweredLoop) (registers : List ℕ) (ks : List Kept) (pass : Pass) (kind : Kind) (workers : ℕ) (a : Account) (text text' : List ℕ) : Type 0 where
  pub of : AreOfLoop l registers ks pass kind workers a
  pub printed : text' ≡ text ++ text_in_order (length (cut kind (length (taken_in pass (vectors of.space))) workers)) a.chunks

-- wherever the loop is reached with these registers and this store, and the chunks of what a pass takes have a run each from where they begin, a beginning of what they print stands behind the text from before, and nothing else
abbrev pub BeginsIn : Pass → LoweredLoop → List ℕ → List Kept → List ℕ → List ℕ → Kind → ℕ → Type 0
BeginsIn pass l registers ks text text' kind workers =
    (layout : List Laid) (mark : ℕ) (roles : Roles) (loops : List Loop) (body : Stmt) (outer : State) (us : List Vector) (effects : List Effect)
    → IsReached layout mark roles loops body outer us l registers ks → HaveRuns loops body (started_in pass roles outer) (chunked (taken_in pass us) (cut kind (length (taken_in pass us)) workers)) effects
    → AddsBeginning text text' (flat_map (λ e. e.text) effects)
