-- What comes of what a team runs, each as one fact.
use Rattle.std.specs.Prelude.{ℕ, List}
use Rattle.schedule.specs.Sched.{kind_said}
use Rattle.store.specs.Kept.{Kept}
use Rattle.team.specs.declared.leading.Task.{Task}
use Rattle.team.specs.declared.leading.Task.TheVariants.{Loop, Scan}
use Rattle.team.specs.Together.{LeavesTogether, BeginsTogether, ScansTogether, ScansBeginning}

abbrev pub LeavesBy : Task → List ℕ → List ℕ → List Kept → List Kept → List ℕ → List ℕ → ℕ → Type 0
LeavesBy (Loop lowered runtime) registers registers' ks ks' text text' workers = LeavesTogether lowered.now registers registers' ks ks' text text' (kind_said lowered.now.schedule runtime) workers
LeavesBy (Scan first second) registers registers' ks ks' text text' workers = ScansTogether first.now second.now registers registers' ks ks' text text' workers

abbrev pub BeginsBy : Task → List ℕ → List Kept → List ℕ → List ℕ → ℕ → Type 0
BeginsBy (Loop lowered runtime) registers ks text text' workers = BeginsTogether lowered.now registers ks text text' (kind_said lowered.now.schedule runtime) workers
BeginsBy (Scan first second) registers ks text text' workers = ScansBeginning first.now second.now registers ks text text' workers

-- a loop's chunks, or those of a scan's second pass, are put together
pub record IsLeft (task : Task) (registers registers' : List ℕ) (ks ks' : List Kept) (text text' : List ℕ) (workers : ℕ) : Type 0 where
  pub together : LeavesBy task registers registers' ks ks' text text' workers

-- a beginning of what they print stands behind the text from before
pub record IsBegun (task : Task) (registers : List ℕ) (ks : List Kept) (text text' : List ℕ) (workers : ℕ) : Type 0 where
  pub together : BeginsBy task registers ks text text' workers
