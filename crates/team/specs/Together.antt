-- What a team leaves of a lowered loop. (OpenMP 5.2, 5.4.5, 5.5.2, 5.5.5, 11.5 and 11.5.3)
use Rattle.std.specs.Prelude.{ℕ, true, false, ◌≡◌, ◌<◌, ◌≤◌, List, [], ◌++◌, length, map, flat_map, slice_index, Option, Some, All, ◌∷◌}
use Rattle.semantics.specs.Tree.{Variable, Stmt}
use Rattle.semantics.specs.Meaning.State.{State, look, overwritten}
use Rattle.semantics.specs.Meaning.Runs.{Effect}
use Rattle.semantics.specs.Meaning.Agrees.{is_among}
use Rattle.semantics.specs.Loops.Arrangement.{EachOnceBelow, picked}
use Rattle.semantics.specs.Meaning.Places.{below}
use Rattle.semantics.specs.Loops.Chunk.{Kind, PlainStatic, cut}
use Rattle.semantics.specs.Loops.Joined.{chunked, given}
use Rattle.semantics.specs.Loops.Scan.{start_of}
use Rattle.semantics.specs.Loops.Nest.{Loop, Vector}
use Rattle.semantics.specs.Loops.Operator.{ReduceOp, combined_all}
use Rattle.semantics.specs.Loops.Piece.{Roles}
use Rattle.law_nests.specs.Walks.{walk}
use Rattle.law_roles.specs.Updates.{operator_of}
use Rattle.law_roles.specs.Reducing.{AreHeld}
use Rattle.law_roles.specs.Sharing.{MergesAt, last_filled, changed_from}
use Rattle.law_starts.specs.Begun.{told_apart, begun}
use Rattle.law_scans.specs.Passes.{walks_from}
use Rattle.seqrun_io.specs.Told.{AddsBeginning}
use Rattle.store.specs.Kept.{Kept}
use Rattle.store.specs.Flat.{values_of}
use Rattle.lower_code.specs.declared.laid.Laid.{Laid}
use Rattle.lower_code.specs.Layout.{shapes_of, cell_at}
use Rattle.lower.specs.declared.lowered.LoweredLoop.{LoweredLoop}
use Rattle.lower.specs.Lowered.{IsReached}

-- a scalar holds this number, one at file scope in its cell and a local in its register (C11 6.2.1)
pub record HoldsAt (layout : List Laid) (registers : List ℕ) (ks : List Kept) (x v : ℕ) : Type 0 where
  pub cell : x < length layout → cell_at (shapes_of layout) (values_of ks) x [] ≡ Some v
  pub register : length layout ≤ x → slice_index registers x ≡ v

-- chunks of these iterations, whose effects from a common start these are, are put together over registers and a store: an object with no role is as before where no chunk changes it, and else as one leaves it that does; a reduction variable holds what it held before, combined with what the chunks tell of it in some order, each once; a lastprivate one holds what the last chunk with an iteration leaves in it, and where there is no iteration it is as before; and behind the text from before stands what the chunks print, in their order
pub record PutTogether (layout : List Laid) (roles : Roles) (outer start : State) (chunks : List (List Vector)) (effects : List Effect) (registers registers' : List ℕ) (ks ks' : List Kept) (text text' : List ℕ) : Type 0 where
  pub cells : (x : Variable) (is : List ℕ) → is_among (told_apart roles) x ≡ false → MergesAt start effects (λ y js. cell_at (shapes_of layout) (values_of ks') y js) x is
  pub reductions : (x : Variable) (op : ReduceOp) (v : ℕ) → operator_of roles.reductions x ≡ Some op → look outer x [] ≡ Some v
      → (order : List ℕ) × EachOnceBelow (length chunks) order
      × HoldsAt layout registers' ks' x (combined_all op v (picked (map (λ f. changed_from start f x) effects) order))
  pub lasts : (x : Variable) (f : Effect) (v : ℕ) → is_among roles.lasts x ≡ true → last_filled chunks effects ≡ Some f
      → look (overwritten start f.writes) x [] ≡ Some v → HoldsAt layout registers' ks' x v
  pub no_last : (x : Variable) → is_among roles.lasts x ≡ true → flat_map (λ us. us) chunks ≡ []
      → (cell_at (shapes_of layout) (values_of ks') x [] ≡ cell_at (shapes_of layout) (values_of ks) x []) × (slice_index registers' x ≡ slice_index registers x)
  pub others : (r : ℕ) → is_among (told_apart roles) r ≡ false → slice_index registers' r ≡ slice_index registers r
  pub long : length registers' ≡ length registers
  pub printed : text' ≡ text ++ flat_map (λ e. e.text) effects

-- chunks of a scan's second pass are put together: an object with no role is as before where no chunk changes it, and else as one leaves it that does; the scan variable holds what it held before, combined with the first pass's partials in the order of the chunks; lastprivate variables and text are as of any loop (OpenMP 5.2, 5.6)
pub record PutScan (layout : List Laid) (roles : Roles) (x : Variable) (op : ReduceOp) (outer : State) (chunks : List (List Vector)) (partials : List (Option ℕ)) (effects : List Effect) (registers registers' : List ℕ) (ks ks' : List Kept) (text text' : List ℕ) : Type 0 where
  pub cells : (y : Variable) (is : List ℕ) → is_among (told_apart roles) y ≡ false → MergesAt outer effects (λ z js. cell_at (shapes_of layout) (values_of ks') z js) y is
  pub value : (v : ℕ) → look outer x [] ≡ Some v → HoldsAt layout registers' ks' x (combined_all op v partials)
  pub lasts : (y : Variable) (f : Effect) (v : ℕ) → is_among roles.lasts y ≡ true → last_filled chunks effects ≡ Some f
      → look (overwritten outer f.writes) y [] ≡ Some v → HoldsAt layout registers' ks' y v
  pub no_last : (y : Variable) → is_among roles.lasts y ≡ true → flat_map (λ us. us) chunks ≡ []
      → (cell_at (shapes_of layout) (values_of ks') y [] ≡ cell_at (shapes_of layout) (values_of ks) y []) × (slice_index registers' y ≡ slice_index registers y)
  pub others : (r : ℕ) → is_among (told_apart roles) r ≡ false → slice_index registers' r ≡ slice_index registers r
  pub long : length registers' ≡ length registers
  pub printed : text' ≡ text ++ flat_map (λ e. e.text) effects

-- wherever the loop is reached with these registers and this store, and the chunks of its iterations, cut so for so many workers, have a run each from where a chunk may begin, which leaves numbers in the reduction variables, they are put together
abbrev pub LeavesTogether : LoweredLoop → List ℕ → List ℕ → List Kept → List Kept → List ℕ → List ℕ → Kind → ℕ → Type 0
LeavesTogether l registers registers' ks ks' text text' kind workers =
    (layout : List Laid) (mark : ℕ) (roles : Roles) (loops : List Loop) (body : Stmt) (outer : State) (us : List Vector) (effects : List Effect)
    → IsReached layout mark roles loops body outer us l registers ks
    → map (λ vs. walk loops body vs (begun roles outer)) (chunked us (cut kind (length us) workers)) ≡ map Some effects
    → All (λ e. AreHeld roles.reductions (overwritten (begun roles outer) e.writes)) effects
    → PutTogether layout roles outer (begun roles outer) (chunked us (cut kind (length us) workers)) effects registers registers' ks ks' text text'

-- wherever the loop is reached so, and its chunks have a run each, a beginning of what they print stands behind the text from before, and nothing else
abbrev pub BeginsTogether : LoweredLoop → List ℕ → List Kept → List ℕ → List ℕ → Kind → ℕ → Type 0
BeginsTogether l registers ks text text' kind workers =
    (layout : List Laid) (mark : ℕ) (roles : Roles) (loops : List Loop) (body : Stmt) (outer : State) (us : List Vector) (effects : List Effect)
    → IsReached layout mark roles loops body outer us l registers ks
    → map (λ vs. walk loops body vs (begun roles outer)) (chunked us (cut kind (length us) workers)) ≡ map Some effects
    → AddsBeginning text text' (flat_map (λ e. e.text) effects)

-- ---- scans

-- the states in which so many chunks of a scan begin in the second pass, by the first pass's partials: that before the loop, but for the scan variable at the chunk's start (OpenMP 5.2, 5.6)
abbrev pub scan_starts : Variable → ReduceOp → State → List (Option ℕ) → ℕ → List State
scan_starts x op outer partials count = map (λ c. given outer x (start_of op (look outer x []) partials c)) (below count)

-- a scan of x, whose input phase is this front, is reached twice with these registers and this store, and the chunks of its iterations, cut by plain static for so many workers, have a run each in both passes: of the input phase from where a chunk may begin, which leaves a number in x, and of the whole from the chunk's start
pub record RunsInPasses (layout : List Laid) (mark : ℕ) (roles : Roles) (x : Variable) (op : ReduceOp) (loops : List Loop) (front whole : Stmt) (outer : State) (us : List Vector) (firsts seconds : List Effect) (first second : LoweredLoop) (registers : List ℕ) (ks : List Kept) (workers : ℕ) : Type 0 where
  pub only : roles.reductions ≡ (x, op) ∷ []
  pub first_reached : IsReached layout mark roles loops front outer us first registers ks
  pub second_reached : IsReached layout mark roles loops whole outer us second registers ks
  pub first_pass : map (λ vs. walk loops front vs (begun roles outer)) (chunked us (cut PlainStatic (length us) workers)) ≡ map Some firsts
  pub held : All (λ e. AreHeld roles.reductions (overwritten (begun roles outer) e.writes)) firsts
  pub second_pass :
      walks_from loops whole (scan_starts x op outer (map (λ f. changed_from (begun roles outer) f x) firsts) (length (chunked us (cut PlainStatic (length us) workers)))) (chunked us (cut PlainStatic (length us) workers))
      ≡ map Some seconds

-- then the chunks of the second pass are put together
abbrev pub ScansTogether : LoweredLoop → LoweredLoop → List ℕ → List ℕ → List Kept → List Kept → List ℕ → List ℕ → ℕ → Type 0
ScansTogether first second registers registers' ks ks' text text' workers =
    (layout : List Laid) (mark : ℕ) (roles : Roles) (x : Variable) (op : ReduceOp) (loops : List Loop) (front whole : Stmt) (outer : State) (us : List Vector) (firsts seconds : List Effect)
    → RunsInPasses layout mark roles x op loops front whole outer us firsts seconds first second registers ks workers
    → PutScan layout roles x op outer (chunked us (cut PlainStatic (length us) workers)) (map (λ f. changed_from (begun roles outer) f x) firsts) seconds registers registers' ks ks' text text'

-- whatever is answered, a beginning of what they print stands behind the text from before, and nothing else
abbrev pub ScansBeginning : LoweredLoop → LoweredLoop → List ℕ → List Kept → List ℕ → List ℕ → ℕ → Type 0
ScansBeginning first second registers ks text text' workers =
    (layout : List Laid) (mark : ℕ) (roles : Roles) (x : Variable) (op : ReduceOp) (loops : List Loop) (front whole : Stmt) (outer : State) (us : List Vector) (firsts seconds : List Effect)
    → RunsInPasses layout mark roles x op loops front whole outer us firsts seconds first second registers ks workers
    → AddsBeginning text text' (flat_map (λ e. e.text) seconds)
