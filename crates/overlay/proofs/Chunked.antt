-- What a chunk leaves, by how its iterations were run.
use Rattle.std.proofs.Common.{ℕ, ◌≡◌, ◌+◌, Bool, true, false, cond, List, [], length, take, drop, map, Some, refl, sym, ap, ◌∙◌, subst}
use Rattle.std.specs.Prelude.{◌==◌}
use Rattle.std.proofs.lemmas.Bool.{eqb-true, eq-eqb}
use Rattle.semantics.specs.Tree.{Variable, Stmt}
use Rattle.semantics.specs.Meaning.State.{State, overwritten}
use Rattle.semantics.specs.Meaning.Runs.{Effect}
use Rattle.semantics.specs.Loops.Nest.{Loop, Vector}
use Rattle.semantics.specs.Loops.Piece.{Roles}
use Rattle.law_nests.specs.Walks.{walk}
use Rattle.nest_space.specs.Space.{Turns, vectors}
use Rattle.store.specs.Kept.{Kept}
use Rattle.store.specs.Flat.{values_of}
use Rattle.lower_code.specs.declared.laid.Laid.{Laid}
use Rattle.lower_code.specs.Layout.{shapes_of, cell_at}
use Rattle.lower_machine.specs.Machine.{machine, running}
use Rattle.lower_code.specs.Meaning.{Represents, Leads}
use Rattle.overlay_pages.specs.Over.{writes_of, written_over}
use Rattle.lower.specs.declared.lowered.LoweredLoop.{LoweredLoop}
use Rattle.lower.specs.Lowered.{IsReached, IsSpaceOf}
use Rattle.overlay.specs.declared.ending.Told.{Told}
use Rattle.overlay.specs.declared.worker.Piece.{Piece}
use Rattle.overlay.specs.declared.worker.Work.{Work}
use Rattle.overlay.specs.declared.positions.Order.{Order}
use Rattle.overlay.specs.declared.positions.Order.TheVariants.{Sequential, Listed}
use Rattle.overlay.specs.declared.beginning.Start.{Start}
use Rattle.overlay.specs.Chunks.{IsChunkFrom, IsLastFrom, AreLasts, TellsLastsBy, started}
use Rattle.overlay.specs.Positions.{ordered, has_last}
use Rattle.overlay.specs.Running.{IsRunOver}
use Rattle.reduce.specs.Partial.{partial_of}
use Rattle.overlay.specs.Spots.{held_at, begun_by}
use Rattle.overlay.proofs.Going.{as_copied}
use Rattle.overlay.proofs.Standing.{started_stands}
use Rattle.overlay.proofs.Back.{all_back}
use Rattle.overlay.proofs.Telling.{all_partials, lasts_are}

module _ (l : LoweredLoop) (registers : List ℕ) (ks : List Kept) (ts : List Turns) (order : Order) (work : Work) (first : Start) (told : Told) (cells : List ℕ) (space : IsSpaceOf l registers ts)
    (ran : IsRunOver l ts order work first (machine registers (values_of ks)) told cells) where
  -- the machine behind the iterations stands for the state that they leave, and what they print is kept
  behind_stands : (layout : List Laid) (mark : ℕ) (roles : Roles) (loops : List Loop) (body : Stmt) (outer : State) (us : List Vector) (e : Effect) → IsReached layout mark roles loops body outer us l registers ks → walk loops body (take work.count (drop work.first (ordered order us))) (started first roles.reductions outer) ≡ Some e
      → Leads layout mark (started first roles.reductions outer) (running (begun_by first l.roles.reductions.items ran.start) []) e (running ran.runs.behind told.text.bytes)
  behind_stands layout mark roles loops body outer us e r is =
      let all : us ≡ vectors ts = space layout mark roles loops body outer us ks r in
      ran.runs.walks layout mark r.box roles loops body r.lowered (started first roles.reductions outer) e
      (started_stands layout mark first ran.runs.word roles.reductions l.roles.reductions.items outer ran.start r.lowered.roles_at.reductions r.held (as_copied layout mark outer (machine registers (values_of ks)) ran.start ran.copied r.stand.machine))
      (subst (λ vs. walk loops body (take work.count (drop work.first (ordered order vs))) (started first roles.reductions outer) ≡ Some e) all is)

  pub chunk_of : (p : Piece) → written_over (writes_of p.changes) (values_of ks) ≡ cells → p.partials ≡ told.partials → p.text ≡ told.text → IsChunkFrom first order l registers ks work p
  chunk_of p left partials text layout mark roles loops body outer us e r is =
      let led = behind_stands layout mark roles loops body outer us e r is in
      let stands = led.machine in
      let at = r.lowered.roles_at in
      let leaves = λ (x : Variable) (js : List ℕ). ap (λ ms. cell_at (shapes_of layout) ms x js) (left ∙ ran.runs.back) in
      let back = all_back layout mark (values_of ks) roles.lasts roles.reductions l.roles.lasts.items l.roles.reductions.items ran.runs.behind.cells at.lasts at.reductions ran.runs.room in
      record {
        changes = λ x js h. leaves x js ∙ (back x js).others h ∙ sym (stands.cell x js);
        unchanged = λ x js h. leaves x js ∙ (back x js).these h ∙ sym (r.stand.machine.cell x js);
        partials = λ held.
            ap (λ ps. map partial_of ps.items) partials ∙ ran.runs.told_of.partials
            ∙ all_partials layout mark first roles.reductions outer e (machine registers (values_of ks)) ran.runs.behind r.stand.machine stands r.different r.held held l.roles.reductions.items at.reductions;
        text = ap (λ t. t.bytes) text ∙ led.text;
      }

  pub last_of : (p : Piece) → p.lasts ≡ told.lasts → IsLastFrom first order l registers ks work p
  last_of p lasts layout mark roles loops body outer us e r is = tells order (ap (λ vs. vs.items) lasts ∙ ran.runs.told_of.lasts)
    where
      behind : State
      behind = overwritten (started first roles.reductions outer) e.writes

      stands : Represents layout mark behind ran.runs.behind
      stands = (behind_stands layout mark roles loops body outer us e r is).machine

      values : List ℕ
      values = map (λ at. held_at at ran.runs.behind) l.roles.lasts.items

      count : length us ≡ length (vectors ts)
      count = ap (λ (vs : List Vector). length vs) (space layout mark roles loops body outer us ks r)

      not_last : (work.first + work.count ≡ length us → ⊥) → (b : Bool) → (work.first + work.count == length (vectors ts)) ≡ b → (work.first + work.count == length (vectors ts)) ≡ false
      not_last h true e = absurd (h (eqb-true (work.first + work.count) (length (vectors ts)) e ∙ sym count))
      not_last h false e = e

      tells : (o : Order) → p.lasts.items ≡ cond (has_last o (vectors ts) work) values [] → TellsLastsBy o roles behind us work p.lasts.items
      tells Sequential told_is =
          record {
            last = λ h. subst (λ vs. AreLasts roles.lasts behind vs) (sym (told_is ∙ ap (λ b. cond b values []) (eq-eqb (work.first + work.count) (length (vectors ts)) (h ∙ count))))
                (lasts_are layout mark behind ran.runs.behind roles.lasts l.roles.lasts.items stands r.lowered.roles_at.lasts);
            other = λ h. told_is ∙ ap (λ b. cond b values []) (not_last h (work.first + work.count == length (vectors ts)) refl);
          }
      tells (Listed numbers) told_is = told_is
