-- The iterations that a pass takes, and the order in which it takes them.
use Rattle.std.specs.Prelude.{ℕ, ◌≡◌, ◌<◌, List, [], map, length, take, drop, get_or, slice_get, Some, All}
use Rattle.std.proofs.Common.{Vec, Global, refl, sym, ap, ◌∙◌, subst}
use Rattle.std.proofs.lemmas.Option.{none-some}
use Rattle.semantics.specs.Tree.{Stmt}
use Rattle.semantics.specs.Meaning.State.{State}
use Rattle.semantics.specs.Meaning.Runs.{Effect}
use Rattle.semantics.specs.Loops.Chunk.{Chunk, Kind, cut}
use Rattle.semantics.specs.Loops.Nest.{Loop, Vector}
use Rattle.semantics.specs.Loops.Piece.{Roles}
use Rattle.law_nests.specs.Walks.{walk}
use Rattle.nest_space.specs.Space.{Turns}
use Rattle.store.specs.Kept.{Kept}
use Rattle.lower_code.specs.declared.laid.Laid.{Laid}
use Rattle.lower.specs.declared.lowered.LoweredLoop.{LoweredLoop}
use Rattle.lower.specs.Lowered.{IsReached}
use Rattle.overlay.specs.declared.positions.Order.{Order}
use Rattle.overlay.specs.declared.positions.Order.TheVariants.{Sequential, Listed}
use Rattle.overlay.specs.declared.worker.Work.{Work}
use Rattle.overlay.specs.Chunks.{LeavesPiece, TellsLasts, TellsLastsBy}
use Rattle.overlay.specs.Positions.{ordered, AreNumbersOf}
use Rattle.team_worker.specs.declared.grounds.Grounds.{Grounds}
use Rattle.team_worker.specs.declared.pass.Pass.{Pass}
use Rattle.team_worker.specs.declared.pass.Pass.TheVariants.{Plain, Second, Wave}
use Rattle.team_worker.specs.Ends.{IsSplit, IsLeaving}
use Rattle.team_log.specs.Logged.{Leaving}
use Rattle.team_worker.specs.Places.{AreSplit}
use Rattle.team_worker.specs.Starts.{taken_in, AreTakenFrom, TakesAll, IsOrderOf, TellsOf, started_in}

pub taken_is : (pass : Pass) (order : Order) (us : List Vector) → IsOrderOf pass order → ordered order us ≡ taken_in pass us
taken_is Plain order us is = ap (λ (o : Order). ordered o us) is
taken_is (Second starts) order us is = ap (λ (o : Order). ordered o us) is
taken_is (Wave numbers) Sequential us is = absurd is
taken_is (Wave numbers) (Listed listed) us is = ap (map (λ k. get_or us k [])) is

pub numbers_are : (pass : Pass) (order : Order) (us : List Vector) → IsOrderOf pass order → AreTakenFrom pass us → AreNumbersOf order us
numbers_are Plain order us is from = subst (λ (o : Order). AreNumbersOf o us) (sym is) tt
numbers_are (Second starts) order us is from = subst (λ (o : Order). AreNumbersOf o us) (sym is) tt
numbers_are (Wave numbers) Sequential us is from = absurd is
numbers_are (Wave numbers) (Listed listed) us is from = subst (λ (ns : List ℕ). All (λ k. k < length us) ns) (sym is) (from.wave numbers refl)

-- what is told of lastprivate variables, by what is taken
none_told : (roles : Roles) (behind : State) (taken : List Vector) (work : Work) (lasts : List ℕ) → roles.lasts ≡ [] → lasts ≡ [] → TellsLasts roles behind taken work lasts
none_told roles behind taken work lasts empty none = record {
  last = λ h. record { count = ap (λ (l : List ℕ). length l) none ∙ sym (ap (λ (l : List ℕ). length l) empty); each = λ k x v there is. absurd (none-some x (sym (ap (λ l. slice_get l k) empty) ∙ there)) };
  other = λ h. none;
}

pub tells_lasts : (pass : Pass) (order : Order) (roles : Roles) (behind : State) (us : List Vector) (work : Work) (lasts : List ℕ) → IsOrderOf pass order → TellsOf pass roles → TellsLastsBy order roles behind us work lasts → TellsLasts roles behind (taken_in pass us) work lasts
tells_lasts Plain order roles behind us work lasts is of tells = subst (λ (o : Order). TellsLastsBy o roles behind us work lasts) is tells
tells_lasts (Second starts) order roles behind us work lasts is of tells = subst (λ (o : Order). TellsLastsBy o roles behind us work lasts) is tells
tells_lasts (Wave numbers) Sequential roles behind us work lasts is of tells = absurd is
tells_lasts (Wave numbers) (Listed listed) roles behind us work lasts is of tells = none_told roles behind (map (λ k. get_or us k []) numbers.items) work lasts of tells

-- what a chunk leaves, by the iterations that are taken
pub leaves_taken : (l : LoweredLoop) (registers : List ℕ) (ks : List Kept) (pass : Pass) (chunks : List Chunk) (c : Leaving) (is : IsLeaving l registers ks pass chunks c)
    → (layout : List Laid) (mark : ℕ) (roles : Roles) (loops : List Loop) (body : Stmt) (outer : State) (us : List Vector) (e : Effect) → IsReached layout mark roles loops body outer us l registers ks
    → walk loops body (take is.chunk.count (drop is.chunk.first (taken_in pass us))) (started_in pass roles outer c.number) ≡ Some e → LeavesPiece layout roles outer (started_in pass roles outer c.number) ks e is.piece
leaves_taken l registers ks pass chunks c is layout mark roles loops body outer us e reached ran =
    is.leaves layout mark roles loops body outer us e reached
    (subst (λ (vs : List Vector). walk loops body (take is.chunk.count (drop is.chunk.first vs)) (started_in pass roles outer c.number) ≡ Some e) (sym (taken_is pass is.order us is.order_is)) ran)

-- a pass that takes all iterations
pub all_taken : (pass : Pass) → TakesAll pass → (us : List Vector) → taken_in pass us ≡ us
all_taken Plain all us = refl
all_taken (Second starts) all us = refl
all_taken (Wave numbers) all us = absurd all

pub split_all : (l : LoweredLoop) (registers : List ℕ) (space : List Turns) (chunks : List Chunk) (pass : Pass) → TakesAll pass → IsSplit l registers Plain space chunks → IsSplit l registers pass space chunks
split_all l registers space chunks Plain all split = split
split_all l registers space chunks (Second starts) all split = record { loops = split.loops; iterations = split.iterations; from = record { wave = λ numbers e. absurd (cc e) }; few = split.few; cut = split.cut }
split_all l registers space chunks (Wave numbers) all split = absurd all

pub taken_chunks : (pass : Pass) → TakesAll pass → (us : List Vector) (kind : Kind) (workers : ℕ) (chunks : List Chunk) → chunks ≡ cut kind (length us) workers → chunks ≡ cut kind (length (taken_in pass us)) workers
taken_chunks pass all us kind workers chunks is = is ∙ ap (λ (vs : List Vector). cut kind (length vs) workers) (sym (all_taken pass all us))

-- the same grounds in another pass
pub grounds_split : (l : LoweredLoop) (registers : List ℕ) (pass : Pass) (plain passing : Grounds) → plain.registers.items ≡ registers → passing.registers ≡ plain.registers → passing.space ≡ plain.space → passing.chunks ≡ plain.chunks → passing.pass ≡ pass
    → IsSplit l registers pass plain.space plain.chunks → AreSplit l passing
grounds_split l registers pass plain passing held registers_are space_is chunks_are pass_is split =
    subst (λ (rs : List ℕ). IsSplit l rs passing.pass passing.space passing.chunks) (sym held ∙ sym (ap (λ (rs : Vec ℕ Global). rs.items) registers_are))
    (subst (λ (p : Pass). IsSplit l registers p passing.space passing.chunks) (sym pass_is)
    (subst (λ (ts : List Turns). IsSplit l registers pass ts passing.chunks) (sym space_is)
    (subst (λ (cs : List Chunk). IsSplit l registers pass plain.space cs) (sym chunks_are) split)))
