-- What a chunk of a lowered loop leaves. (OpenMP 5.2, 5.4.5, 5.5.2 and 11.5; C11 6.8.5.3)
use Rattle.std.specs.Prelude.{ℕ, true, false, ◌≡◌, ◌+◌, ◌<◌, List, [], map, length, take, drop, Some, slice_get, slice_index, ◌∷◌}
use Rattle.semantics.specs.Tree.{Variable, Stmt}
use Rattle.semantics.specs.Meaning.State.{State, overwritten, look}
use Rattle.semantics.specs.Meaning.Runs.{Effect}
use Rattle.semantics.specs.Meaning.Agrees.{is_among}
use Rattle.semantics.specs.Loops.Nest.{Loop, Vector}
use Rattle.semantics.specs.Loops.Operator.{ReduceOp}
use Rattle.semantics.specs.Loops.Joined.{given}
use Rattle.semantics.specs.Loops.Piece.{Roles}
use Rattle.law_nests.specs.Walks.{walk}
use Rattle.law_roles.specs.Reducing.{AreHeld}
use Rattle.law_roles.specs.Sharing.{changed_from}
use Rattle.law_starts.specs.Begun.{told_apart, begun_with}
use Rattle.reduce.specs.Partial.{partial_of}
use Rattle.store.specs.Kept.{Kept}
use Rattle.store.specs.Flat.{values_of}
use Rattle.lower_code.specs.declared.laid.Laid.{Laid}
use Rattle.lower_code.specs.Layout.{shapes_of, cell_at}
use Rattle.overlay_pages.specs.Over.{writes_of, written_over}
use Rattle.overlay_pages.specs.declared.changes.Change.{Change}
use Rattle.lower.specs.declared.lowered.LoweredLoop.{LoweredLoop}
use Rattle.lower.specs.Lowered.{IsReached}
use Rattle.overlay.specs.declared.beginning.Start.{Start}
use Rattle.overlay.specs.declared.beginning.Start.TheVariants.{Reduction, Scan}
use Rattle.overlay.specs.declared.positions.Order.{Order}
use Rattle.overlay.specs.declared.positions.Order.TheVariants.{Sequential, Listed}
use Rattle.overlay.specs.declared.worker.Piece.{Piece}
use Rattle.overlay.specs.declared.worker.Work.{Work}
use Rattle.overlay.specs.Positions.{ordered}

-- the state in which a chunk begins: its reduction variables take what a chunk may begin with, or a number that is given
abbrev pub started : Start → List (Variable × ReduceOp) → State → State
started Reduction rs outer = begun_with rs outer
started (Scan v) [] outer = outer
started (Scan v) (r ∷ rs) outer = started (Scan v) rs (given outer r.0 (Some v))

-- changes of these cells: each is one of them, and holds another number then
abbrev pub ChangeOnly : List Kept → List Change → Type 0
ChangeOnly ks cs = (place n : ℕ) → writes_of cs place ≡ Some n → (place < length (values_of ks)) × (slice_index (values_of ks) place ≡ n → ⊥)

-- an effect from this state is told: written over the store, the changes leave all other objects at file scope as it does, and those that are told apart as before the loop; a partial of each reduction variable is told, where each holds a number behind it; and its text is kept
pub record LeavesPiece (layout : List Laid) (roles : Roles) (outer start : State) (ks : List Kept) (e : Effect) (p : Piece) : Type 0 where
  pub changes : (x : Variable) (is : List ℕ) → is_among (told_apart roles) x ≡ false
      → cell_at (shapes_of layout) (written_over (writes_of p.changes) (values_of ks)) x is ≡ (overwritten start e.writes).cells x is
  pub unchanged : (x : Variable) (is : List ℕ) → is_among (told_apart roles) x ≡ true
      → cell_at (shapes_of layout) (written_over (writes_of p.changes) (values_of ks)) x is ≡ outer.cells x is
  pub partials : AreHeld roles.reductions (overwritten start e.writes) → map partial_of p.partials.items ≡ map (λ r. changed_from start e r.0) roles.reductions
  pub text : p.text.bytes ≡ e.text

-- wherever the loop is reached with these registers and this store, and the iterations of a chunk, taken in this order, have a run one after another from its start there, its effect is told
abbrev pub IsChunkFrom : Start → Order → LoweredLoop → List ℕ → List Kept → Work → Piece → Type 0
IsChunkFrom start order l registers ks work p =
    (layout : List Laid) (mark : ℕ) (roles : Roles) (loops : List Loop) (body : Stmt) (outer : State) (us : List Vector) (e : Effect)
    → IsReached layout mark roles loops body outer us l registers ks → walk loops body (take work.count (drop work.first (ordered order us))) (started start roles.reductions outer) ≡ Some e
    → LeavesPiece layout roles outer (started start roles.reductions outer) ks e p

-- so it is from where a chunk may begin, of iterations in their own order
abbrev pub IsChunkOf : LoweredLoop → List ℕ → List Kept → Work → Piece → Type 0
IsChunkOf l registers ks work p = IsChunkFrom Reduction Sequential l registers ks work p

-- of each lastprivate variable what it holds behind an effect, where it holds a number
pub record AreLasts (xs : List Variable) (behind : State) (lasts : List ℕ) : Type 0 where
  pub count : length lasts ≡ length xs
  pub each : (k : ℕ) (x : Variable) (v : ℕ) → slice_get xs k ≡ Some x → look behind x [] ≡ Some v → slice_get lasts k ≡ Some v

-- a chunk with the last iteration tells these, and another one none
pub record TellsLasts (roles : Roles) (behind : State) (us : List Vector) (work : Work) (lasts : List ℕ) : Type 0 where
  pub last : work.first + work.count ≡ length us → AreLasts roles.lasts behind lasts
  pub other : (work.first + work.count ≡ length us → ⊥) → lasts ≡ []

-- in their own order; a chunk of listed iterations tells none
abbrev pub TellsLastsBy : Order → Roles → State → List Vector → Work → List ℕ → Type 0
TellsLastsBy Sequential roles behind us work lasts = TellsLasts roles behind us work lasts
TellsLastsBy (Listed numbers) roles behind us work lasts = lasts ≡ []

-- so it does wherever the loop is reached
abbrev pub IsLastFrom : Start → Order → LoweredLoop → List ℕ → List Kept → Work → Piece → Type 0
IsLastFrom start order l registers ks work p =
    (layout : List Laid) (mark : ℕ) (roles : Roles) (loops : List Loop) (body : Stmt) (outer : State) (us : List Vector) (e : Effect)
    → IsReached layout mark roles loops body outer us l registers ks → walk loops body (take work.count (drop work.first (ordered order us))) (started start roles.reductions outer) ≡ Some e
    → TellsLastsBy order roles (overwritten (started start roles.reductions outer) e.writes) us work p.lasts.items
