-- A scan's two passes.
use Rattle.std.specs.Prelude.{ℕ, zero, suc, Bool, true, false, ◌≡◌, ◌+◌, ◌<◌, ◌≤◌, ◌==◌, List, [], ◌∷◌, ◌++◌, length, map, take, drop, slice_get, slice_index, Option, Some, None, option_map}
use Rattle.std.proofs.Common.{Vec, Global, refl, sym, ap, ◌∙◌, cond, subst, arith}
use Rattle.std.proofs.lemmas.Bool.{eqb-true, eq-eqb}
use Rattle.std.proofs.lemmas.List.{length-map, take_all}
use Rattle.std.proofs.lemmas.Option.{none-some, same_Some, slice_get-map, slice_get_within}
use Rattle.semantics.specs.Tree.{Variable, Stmt}
use Rattle.semantics.specs.Meaning.Agrees.{is_among}
use Rattle.semantics.specs.Meaning.Places.{below}
use Rattle.semantics.specs.Meaning.State.{State, Slot, Outside, Empty, Holds, with_local, assign_at, look, overwritten}
use Rattle.semantics.specs.Meaning.Runs.{Effect}
use Rattle.semantics.specs.Loops.Chunk.{Chunk, PlainStatic, cut}
use Rattle.semantics.specs.Loops.Joined.{chunked, given}
use Rattle.semantics.specs.Loops.Nest.{Loop, Vector}
use Rattle.semantics.specs.Loops.Operator.{ReduceOp, combined_all}
use Rattle.semantics.specs.Loops.Piece.{Roles, is_outside}
use Rattle.semantics.specs.Loops.Scan.{start_of}
use Rattle.nest_space.specs.Space.{Turns, vectors}
use Rattle.law_nests.specs.Walks.{walk}
use Rattle.law_roles.specs.Updates.{operator_of}
use Rattle.law_roles.specs.Reducing.{AreHeld}
use Rattle.law_roles.specs.Sharing.{changed_from}
use Rattle.law_roles.proofs.Seen.{look_of}
use Rattle.law_starts.specs.Begun.{begun}
use Rattle.law_scans.specs.Passes.{walks_from}
use Rattle.law_scans.proofs.Changing.{Kin, kin_cells}
use Rattle.law_scans.proofs.Steps.{same_slot}
use Rattle.store.specs.Kept.{Kept}
use Rattle.store.specs.Flat.{AreFilled, values_of}
use Rattle.lower_code.specs.declared.laid.Laid.{Laid}
use Rattle.lower_machine.specs.Machine.{machine}
use Rattle.lower.specs.declared.lowered.LoweredLoop.{LoweredLoop}
use Rattle.lower.specs.declared.roles.LoweredReduction.{LoweredReduction}
use Rattle.lower.specs.Lowered.{IsReached}
use Rattle.lower.specs.Roles.{AreReduced}
use Rattle.inscan.specs.InFront.{AreStarts}
use Rattle.overlay.specs.declared.beginning.Start.TheVariants.{Scan}
use Rattle.overlay.specs.Chunks.{started}
use Rattle.overlay.specs.Spots.{held_at}
use Rattle.overlay.proofs.Standing.{some_value, held_in}
use Rattle.overlay.proofs.Telling.{given_locals, given_cells}
use Rattle.team_worker.specs.declared.pass.Pass.TheVariants.{Plain, Second}
use Rattle.team_worker.specs.Ends.{IsCut, IsSplit, IsLeaving, AreAll}
use Rattle.team_log.specs.Logged.{Leaving, Account}
use Rattle.team.specs.Passed.{IsPassed, BeginsIn}
use Rattle.team_log.specs.Printed.{text_in_order}
use Rattle.team_log.specs.Scanned.{told_of_scan, partials_in_order, StartFrom}
use Rattle.team.specs.ScanStarts.{AreScanStarts}
use Rattle.team_log.specs.Spots.{scanned, IsScanPut}
use Rattle.team_worker.specs.Starts.{start_at, started_in, HaveRuns}
use Rattle.team.specs.Together.{scan_starts, RunsInPasses, ScansTogether, ScansBeginning}
use Rattle.team_worker.proofs.Cutting.{length_below, at_below}
use Rattle.team.proofs.Effects.{all_at, same_length, have_same}
use Rattle.team.proofs.Entering.{all_entered}
use Rattle.team.proofs.Merging.{IsAlike, leaves_of, tells_of, put_scan}
use Rattle.team_log.proofs.Standing.{scanned_long, scanned_others}

-- ---- the first pass

only_known : (rs : List (Variable × ReduceOp)) (x : Variable) (op : ReduceOp) → rs ≡ (x, op) ∷ [] → operator_of rs x ≡ Some op
only_known rs x op only = ap (λ qs. operator_of qs x) only ∙ ap (λ b. cond b (Some op) None) (eq-eqb x x refl)

-- starts by what the scan's variable holds
from_held : (layout : List Laid) (mark : ℕ) (x : Variable) (op : ReduceOp) (v : ℕ) (outer : State) (registers : List ℕ) (ks : List Kept) (ls : List LoweredReduction) (ps : List (Option ℕ)) (starts : List ℕ) (roles : Roles) (loops : List Loop) (body : Stmt) (us : List Vector) (l : LoweredLoop)
    → IsReached layout mark roles loops body outer us l registers ks → AreReduced layout mark ((x, op) ∷ []) ls → look outer x [] ≡ Some v → StartFrom ls (machine registers (values_of ks)) ps starts → AreStarts op v ps starts
from_held layout mark x op v outer registers ks [] ps starts roles loops body us l reached are h from = absurd are
from_held layout mark x op v outer registers ks (r ∷ ls) ps starts roles loops body us l reached (is, at, rest) h from =
    let here = (held_in layout mark outer (machine registers (values_of ks)) x v r.spot at reached.stand.machine h).is in
    subst (λ n. AreStarts op n ps starts) here (subst (λ o. AreStarts o (held_at r.spot (machine registers (values_of ks))) ps starts) is from)

pub first_starts : (l : LoweredLoop) (registers : List ℕ) (ks : List Kept) (workers : ℕ) (space : List Turns) (chunks : List Chunk) (account : Account) (partials : List (Option ℕ)) (starts : List ℕ) → IsSplit l registers Plain space chunks
    → chunks ≡ cut PlainStatic (length (vectors space)) workers → AreAll l registers ks Plain chunks account → partials ≡ partials_in_order (length chunks) account.chunks → StartFrom l.roles.reductions.items (machine registers (values_of ks)) partials starts → AreScanStarts l registers ks workers starts
first_starts l registers ks workers space chunks account partials starts split cut_is all told from = λ layout mark roles x op loops front outer us firsts v only reached ran helds h.
    let same : us ≡ vectors space = split.iterations layout mark roles loops front outer us ks reached in
    let is : chunks ≡ cut PlainStatic (length us) workers = cut_is ∙ ap (λ (vs : List Vector). cut PlainStatic (length vs) workers) (sym same) in
    let start = begun roles outer in
    let here = subst (λ (cs : List Chunk). map (λ vs. walk loops front vs start) (chunked us cs) ≡ map Some firsts) (sym is) ran in
    let runs : HaveRuns loops front (started_in Plain roles outer) (chunked us chunks) firsts = have_same loops front start (chunked us chunks) firsts here in
    let changed : Effect → Option ℕ = λ f. changed_from start f x in
    let iterations_of : Chunk → List Vector = λ c. take c.count (drop c.first us) in
    let many : length (map changed firsts) ≡ length chunks = length-map firsts changed ∙ runs.count ∙ length-map chunks iterations_of in
    let one : (c : Leaving) → IsLeaving l registers ks Plain chunks c → slice_get (map changed firsts) c.number ≡ Some (told_of_scan c) = λ c is.
    let own = leaves_of layout mark roles loops front outer us firsts Plain l registers ks chunks account reached runs c is in
    let holds = all_at (λ (e : Effect). AreHeld roles.reductions (overwritten start e.writes)) firsts c.number own.effect helds own.among in
    let tells = tells_of layout mark roles loops front outer us firsts Plain l registers ks chunks account reached runs x op 0 (ap (λ rs. slice_get rs 0) only) c own holds in
    slice_get-map changed firsts c.number ∙ ap (option_map changed) own.among ∙ ap Some (sym tells) in
    let table = all_entered told_of_scan None (map changed firsts) l registers ks Plain chunks account all many one in
    from_held layout mark x op v outer registers ks l.roles.reductions.items (map changed firsts) starts roles loops front us l reached (subst (λ rs. AreReduced layout mark rs l.roles.reductions.items) only reached.lowered.roles_at.reductions) h
    (subst (λ ps. StartFrom l.roles.reductions.items (machine registers (values_of ks)) ps starts) (told ∙ table) from)

-- ---- chunks, each from a state of its own

walks_long : (loops : List Loop) (body : Stmt) (starts : List State) (chunks : List (List Vector)) → length starts ≡ length chunks → length (walks_from loops body starts chunks) ≡ length chunks
walks_long loops body [] [] e = refl
walks_long loops body [] (us ∷ chunks) e = absurd (omega arith)
walks_long loops body (t ∷ starts) [] e = absurd (omega arith)
walks_long loops body (t ∷ starts) (us ∷ chunks) e = ap suc (walks_long loops body starts chunks (omega arith))

walks_at : (loops : List Loop) (body : Stmt) (starts : List State) (chunks : List (List Vector)) (effects : List Effect) → walks_from loops body starts chunks ≡ map Some effects → (k : ℕ) (us : List Vector) (t : State) → slice_get chunks k ≡ Some us → slice_get starts k ≡ Some t
    → (e : Effect) × (slice_get effects k ≡ Some e) × (walk loops body us t ≡ Some e)
walks_at loops body [] chunks effects all k us t there at = absurd (none-some t at)
walks_at loops body (s ∷ starts) [] effects all k us t there at = absurd (none-some us there)
walks_at loops body (s ∷ starts) (vs ∷ chunks) [] all k us t there at = let z : Some (walk loops body vs s) ≡ None = ap (λ l. slice_get l 0) all in absurd cc
walks_at loops body (s ∷ starts) (vs ∷ chunks) (e ∷ effects) all zero us t there at =
    let is : walk loops body vs s ≡ Some e = same_Some (walk loops body vs s) (Some e) (ap (λ l. slice_get l 0) all) in
    (e, refl, (λ i. walk loops body (sym (same_Some vs us there) i) (sym (same_Some s t at) i)) ∙ is)
walks_at loops body (s ∷ starts) (vs ∷ chunks) (e ∷ effects) all (suc k) us t there at = walks_at loops body starts chunks effects (ap (λ l. drop 1 l) all) k us t there at

module _ (first second : LoweredLoop) (registers : List ℕ) (ks : List Kept) (workers : ℕ) (first_told : Vec ℕ Global) (numbers : List ℕ) (begins : (number : ℕ) → start_at (Second first_told) number ≡ Scan (slice_index numbers number)) (scan : AreScanStarts first registers ks workers numbers) where
  module _ (layout : List Laid) (mark : ℕ) (roles : Roles) (x : Variable) (op : ReduceOp) (loops : List Loop) (front whole : Stmt) (outer : State) (us : List Vector) (firsts seconds : List Effect)
      (runs : RunsInPasses layout mark roles x op loops front whole outer us firsts seconds first second registers ks workers) where
    abbrev cs : List Chunk
    cs = cut PlainStatic (length us) workers

    abbrev css : List (List Vector)
    css = chunked us cs

    abbrev changed : Effect → Option ℕ
    changed f = changed_from (begun roles outer) f x

    abbrev partials : List (Option ℕ)
    partials = map changed firsts

    abbrev start : ℕ → State
    start c = given outer x (start_of op (look outer x []) partials c)

    holds : (v : ℕ) × (look outer x [] ≡ Some v)
    holds = some_value (look outer x []) (runs.first_reached.held x op (only_known roles.reductions x op runs.only))

    are : AreStarts op holds.0 partials numbers
    are = scan layout mark roles x op loops front outer us firsts holds.0 runs.only runs.first_reached runs.first_pass runs.held holds.1

    many : length partials ≡ length css
    many = length-map firsts changed ∙ same_length (λ vs. walk loops front vs (begun roles outer)) css firsts runs.first_pass

    -- a chunk's start
    start_is : (c : ℕ) → c ≤ length partials → start c ≡ started_in (Second first_told) roles outer c
    start_is c le =
        ap (λ o. given outer x (start_of op o partials c)) holds.1 ∙ ap (given outer x) (are.each c le) ∙ ap (λ rs. started (Scan (slice_index numbers c)) rs outer) (sym runs.only) ∙ ap (λ s. started s roles.reductions outer) (sym (begins c))

    have_runs : HaveRuns loops whole (started_in (Second first_told) roles outer) css seconds
    have_runs = record {
      count = sym (length-map seconds Some) ∙ ap (λ l. length l) (sym runs.second_pass) ∙ walks_long loops whole starts css (length-map (below (length css)) start ∙ length_below (length css));
      each = λ number vs there.
          let lt : number < length css = slice_get_within css number vs there in
          let count = many in
          let at : slice_get starts number ≡ Some (start number) = slice_get-map start (below (length css)) number ∙ ap (option_map start) (at_below number (length css) lt) in
          let own = walks_at loops whole starts css seconds runs.second_pass number vs (start number) there at in
          (own.0, own.1, ap (λ s. walk loops whole vs s) (sym (start_is number (omega arith))) ∙ own.2);
    }
      where
        starts : List State
        starts = scan_starts x op outer partials (length css)

    -- ---- what is seen of other variables

    kin_one : (s : State) (v : ℕ) (y : Variable) → Kin (given s y (Some v)) s
    kin_one s v y z = at (s.locals y) refl
      where
        inside : (k : Slot) → s.locals y ≡ k → is_outside k ≡ false → (b : Bool) → (z == y) ≡ b → is_outside ((with_local s y (Holds v)).locals z) ≡ is_outside (s.locals z)
        inside k e f true g = ap (λ b. is_outside (cond b (Holds v) (s.locals z))) g ∙ sym (ap is_outside (ap s.locals (eqb-true z y g) ∙ e) ∙ f)
        inside k e f false g = ap (λ b. is_outside (cond b (Holds v) (s.locals z))) g

        at : (k : Slot) → s.locals y ≡ k → is_outside ((assign_at k s y [] v).locals z) ≡ is_outside (s.locals z)
        at Outside e = refl
        at Empty e = inside Empty e refl (z == y) refl
        at (Holds m) e = inside (Holds m) e refl (z == y) refl

    kin_given : (v : ℕ) (rs : List (Variable × ReduceOp)) (s : State) → Kin (started (Scan v) rs s) s
    kin_given v [] s z = refl
    kin_given v (r ∷ rs) s z = kin_given v rs (given s r.0 (Some v)) z ∙ kin_one s v r.0 z

    alike : (number : ℕ) (e : Effect) (y : Variable) → is_among (map (λ r. r.0) roles.reductions) y ≡ false → IsAlike outer (started_in (Second first_told) roles outer number) e y
    alike number e y h =
        let v = slice_index numbers number in
        let s = started (Scan v) roles.reductions outer in
        let cells : (is : List ℕ) → (overwritten s e.writes).cells y is ≡ (overwritten outer e.writes).cells y is = λ is. kin_cells e.writes s outer y is (kin_given v roles.reductions outer) (given_cells v roles.reductions outer y is h) in
        let slot = same_slot y e.writes s outer (given_locals v roles.reductions outer y h) in
        subst (λ at. IsAlike outer (started at roles.reductions outer) e y) (sym (begins number)) (record { cells = cells; looks = look_of y (overwritten s e.writes) (overwritten outer e.writes) slot cells [] })

    -- what the variable holds in the end
    value_is : (value : ℕ) → ((count : ℕ) → length numbers ≡ count + 1 → value ≡ slice_index numbers count) → (w : ℕ) → look outer x [] ≡ Some w → value ≡ combined_all op w partials
    value_is value last w h =
        let n = length partials in
        let end : combined_all op holds.0 (take n partials) ≡ slice_index numbers n = same_Some (combined_all op holds.0 (take n partials)) (slice_index numbers n) (are.each n (omega arith)) in
        let same : holds.0 ≡ w = same_Some holds.0 w (sym holds.1 ∙ h) in
        last n are.count ∙ sym end ∙ ap (combined_all op holds.0) (take_all n partials (omega arith)) ∙ ap (λ u. combined_all op u partials) same

  pub scans_begin : (text text' : List ℕ) → BeginsIn (Second first_told) second registers ks text text' PlainStatic workers → ScansBeginning first second registers ks text text' workers
  scans_begin text text' begins_in = λ layout mark roles x op loops front whole outer us firsts seconds runs.
      begins_in layout mark roles loops whole outer us seconds runs.second_reached (have_runs layout mark roles x op loops front whole outer us firsts seconds runs)

pub scans_together : (first second : LoweredLoop) (registers registers' : List ℕ) (ks ks' : List Kept) (workers : ℕ) (first_told : Vec ℕ Global) (numbers : List ℕ) → ((number : ℕ) → start_at (Second first_told) number ≡ Scan (slice_index numbers number)) → AreScanStarts first registers ks workers numbers
    → (value : ℕ) → ((count : ℕ) → length numbers ≡ count + 1 → value ≡ slice_index numbers count) → (account : Account) (text text' : List ℕ) → AreFilled ks → IsPassed second registers ks (Second first_told) PlainStatic workers account text text' → IsScanPut value second.roles account registers registers' ks ks'
    → ScansTogether first second registers registers' ks ks' text text' workers
scans_together first second registers registers' ks ks' workers first_told numbers begins scan value last account text text' filled passed put = λ layout mark roles x op loops front whole outer us firsts seconds runs.
    let reached = runs.second_reached in
    let same : us ≡ vectors passed.of.space = passed.of.of layout mark roles loops whole outer us ks reached in
    let chunks = cut PlainStatic (length us) workers in
    let all : AreAll second registers ks (Second first_told) chunks account = subst (λ (vs : List Vector). AreAll second registers ks (Second first_told) (cut PlainStatic (length vs) workers) account) (sym same) passed.of.all in
    let cut_is : IsCut (length us) chunks = subst (λ (vs : List Vector). IsCut (length vs) (cut PlainStatic (length vs) workers)) (sym same) passed.of.cut_is in
    let told = subst (λ (vs : List Vector). text' ≡ text ++ text_in_order (length (cut PlainStatic (length vs) workers)) account.chunks) (sym same) passed.printed in
    let ls = second.roles.reductions.items in
    let given_to = have_runs first second registers ks workers first_told numbers begins scan layout mark roles x op loops front whole outer us firsts seconds runs in
    let partials = map (λ f. changed_from (begun roles outer) f x) firsts in
    put_scan layout mark roles loops whole outer us seconds (Second first_told) second registers ks chunks account registers' ks' reached given_to filled cut_is all tt outer
    (alike first second registers ks workers first_told numbers begins scan layout mark roles x op loops front whole outer us firsts seconds runs) (λ y is h. refl) (scanned ls value) put (scanned_long ls value)
    (λ m y h. scanned_others layout mark roles.reductions ls value m y reached.lowered.roles_at.reductions h) x op runs.only value (λ m. refl) partials
    (value_is first second registers ks workers first_told numbers begins scan layout mark roles x op loops front whole outer us firsts seconds runs value last) text text' told
