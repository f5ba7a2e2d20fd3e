-- What chunks print is what their runs print.
use Rattle.std.specs.Prelude.{ℕ, ◌≡◌, List, [], ◌∷◌, ◌++◌, length, map, take, drop, flat_map, slice_get, Some, option_map}
use Rattle.std.proofs.Common.{refl, sym, ap, ◌∙◌, subst}
use Rattle.std.proofs.lemmas.List.{length-map}
use Rattle.std.proofs.lemmas.Option.{slice_get-map}
use Rattle.semantics.specs.Tree.{Stmt}
use Rattle.semantics.specs.Meaning.State.{State}
use Rattle.semantics.specs.Meaning.Runs.{Effect}
use Rattle.semantics.specs.Loops.Chunk.{Chunk, Kind, cut}
use Rattle.semantics.specs.Loops.Joined.{chunked}
use Rattle.semantics.specs.Loops.Nest.{Loop, Vector}
use Rattle.semantics.specs.Loops.Piece.{Roles}
use Rattle.law_starts.specs.Begun.{begun}
use Rattle.nest_space.specs.Space.{Turns, vectors}
use Rattle.seqrun_io.specs.Told.{AddsBeginning}
use Rattle.seqrun_io.proofs.Beginnings.{none}
use Rattle.store.specs.Kept.{Kept}
use Rattle.lower_code.specs.declared.laid.Laid.{Laid}
use Rattle.lower.specs.declared.lowered.LoweredLoop.{LoweredLoop}
use Rattle.lower.specs.Lowered.{IsReached}
use Rattle.team_worker.specs.declared.pass.Pass.{Pass}
use Rattle.team_worker.specs.Ends.{IsSplit, IsLeaving, AreAll}
use Rattle.team_log.specs.Logged.{Leaving, Account}
use Rattle.team_log.specs.Printed.{text_in_order}
use Rattle.team.specs.Together.{BeginsTogether}
use Rattle.team.specs.Passed.{BeginsIn}
use Rattle.team.proofs.Entering.{all_entered}
use Rattle.team_worker.specs.declared.pass.Pass.TheVariants.{Plain}
use Rattle.team_worker.specs.Starts.{taken_in, started_in, HaveRuns}
use Rattle.team.proofs.Effects.{have_same}
use Rattle.team_worker.proofs.Taking.{leaves_taken}

-- the texts of all are those of the effects
texts_all : (effects : List Effect) → flat_map (λ (t : List ℕ). t) (map (λ (e : Effect). e.text) effects) ≡ flat_map (λ (e : Effect). e.text) effects
texts_all [] = refl
texts_all (e ∷ effects) = ap (λ (t : List ℕ). e.text ++ t) (texts_all effects)

-- what all chunks print is what their runs print
module _ (layout : List Laid) (mark : ℕ) (roles : Roles) (loops : List Loop) (body : Stmt) (outer : State) (us : List Vector) (effects : List Effect) (l : LoweredLoop) (registers : List ℕ) (ks : List Kept) (pass : Pass) (chunks : List Chunk) (account : Account)
    (reached : IsReached layout mark roles loops body outer us l registers ks) (ran : HaveRuns loops body (started_in pass roles outer) (chunked (taken_in pass us) chunks) effects) (all : AreAll l registers ks pass chunks account) where
  abbrev iterations_of : Chunk → List Vector
  iterations_of c = take c.count (drop c.first (taken_in pass us))

  abbrev wanted : List (List ℕ)
  wanted = map (λ (e : Effect). e.text) effects

  many : length wanted ≡ length chunks
  many = length-map effects (λ (e : Effect). e.text) ∙ ran.count ∙ length-map chunks iterations_of

  one : (c : Leaving) → IsLeaving l registers ks pass chunks c → slice_get wanted c.number ≡ Some c.text
  one c is =
      let there : slice_get (chunked (taken_in pass us) chunks) c.number ≡ Some (iterations_of is.chunk) = slice_get-map iterations_of chunks c.number ∙ ap (option_map iterations_of) is.there in
      let own = ran.each c.number (iterations_of is.chunk) there in
      let left = leaves_taken l registers ks pass chunks c is layout mark roles loops body outer us own.0 reached own.2 in
      slice_get-map (λ (e : Effect). e.text) effects c.number ∙ ap (option_map (λ (e : Effect). e.text)) own.1 ∙ ap Some (sym left.text ∙ sym is.text_is)

  pub printed : text_in_order (length chunks) account.chunks ≡ flat_map (λ (e : Effect). e.text) effects
  printed = ap (flat_map (λ (t : List ℕ). t)) (all_entered (λ (c : Leaving). c.text) [] wanted l registers ks pass chunks account all many one) ∙ texts_all effects

-- a beginning of what all chunks print
pub begins_all : (l : LoweredLoop) (registers : List ℕ) (ks : List Kept) (pass : Pass) (kind : Kind) (workers : ℕ) (space : List Turns) (chunks : List Chunk) (account : Account) (text text' : List ℕ) → IsSplit l registers pass space chunks → chunks ≡ cut kind (length (taken_in pass (vectors space))) workers
    → AreAll l registers ks pass chunks account → AddsBeginning text text' (text_in_order (length chunks) account.chunks) → BeginsIn pass l registers ks text text' kind workers
begins_all l registers ks pass kind workers space chunks account text text' split cut_is all begun_by = λ layout mark roles loops body outer us effects reached ran.
    let same : us ≡ vectors space = split.iterations layout mark roles loops body outer us ks reached in
    let is : chunks ≡ cut kind (length (taken_in pass us)) workers = cut_is ∙ ap (λ (vs : List Vector). cut kind (length (taken_in pass vs)) workers) (sym same) in
    let here = subst (λ (cs : List Chunk). HaveRuns loops body (started_in pass roles outer) (chunked (taken_in pass us) cs) effects) (sym is) ran in
    subst (AddsBeginning text text') (printed layout mark roles loops body outer us effects l registers ks pass chunks account reached here all) begun_by

-- nothing is put
pub begins_none : (pass : Pass) (l : LoweredLoop) (registers : List ℕ) (ks : List Kept) (kind : Kind) (workers : ℕ) (text : List ℕ) → BeginsIn pass l registers ks text text kind workers
begins_none pass l registers ks kind workers text = λ layout mark roles loops body outer us effects reached ran. none text (flat_map (λ (e : Effect). e.text) effects)

-- of a loop's only pass
pub begins_plain : (l : LoweredLoop) (registers : List ℕ) (ks : List Kept) (kind : Kind) (workers : ℕ) (text text' : List ℕ) → BeginsIn Plain l registers ks text text' kind workers → BeginsTogether l registers ks text text' kind workers
begins_plain l registers ks kind workers text text' begins = λ layout mark roles loops body outer us effects reached ran.
    begins layout mark roles loops body outer us effects reached (have_same loops body (begun roles outer) (chunked us (cut kind (length us) workers)) effects ran)
