-- A loop that one thread ran over a copy of the registers leaves what the loop's run does, but in locals that are neither lastprivate nor reduced.
use Rattle.std.specs.Prelude.{ℕ, Bool, true, false, ◌≡◌, ◌&&◌, ◌<◌, ◌≤◌, if◌then◌else◌, List, [], ◌++◌, length, nat_lt, Option, Some, None, IsSome, is_some, slice_index}
use Rattle.std.proofs.Common.{refl, sym, ap, ◌∙◌, subst, arith}
use Rattle.std.proofs.lemmas.Bool.{true≢false, ltb-true, ltb-false}
use Rattle.std.proofs.lemmas.Option.{same_Some}
use Rattle.semantics.specs.Tree.{Variable, Stmt}
use Rattle.semantics.specs.Meaning.Agrees.{is_among, declared_in}
use Rattle.semantics.specs.Meaning.State.{State, Slot, Outside, Empty, Holds, look, look_in, overwritten}
use Rattle.semantics.specs.Meaning.Value.{map_option}
use Rattle.semantics.specs.Meaning.Runs.{Effect, run}
use Rattle.semantics.specs.Loops.Nest.{Loop}
use Rattle.semantics.specs.Loops.Piece.{Roles, is_outside}
use Rattle.ktree.specs.View.{stmt_of}
use Rattle.flow.specs.Roles.{LineData}
use Rattle.law_roles.specs.Sharing.{role_variables}
use Rattle.law_runs.proofs.Going.{is_held}
use Rattle.law_starts.specs.Begun.{told_apart}
use Rattle.law_independence.proofs.Targeted.{outside_visible}
use Rattle.law_scopes.specs.Apart.{is_at_turn}
use Rattle.law_apart.specs.Apart.{left_slot, left_effect, is_at_hand, handed, LeavesApart}
use Rattle.law_apart.proofs.Shared.{left_apart}
use Rattle.law_apart.proofs.Undeclared.{runs_held}
use Rattle.store.specs.Kept.{Kept}
use Rattle.store.specs.Flat.{values_of}
use Rattle.seqrun_io.specs.Told.{AddsBeginning}
use Rattle.seqrun.specs.Ran.{text_of}
use Rattle.lower_code.specs.declared.laid.Laid.{Laid}
use Rattle.lower_machine.specs.Machine.{Fits, machine}
use Rattle.lower_run.specs.Walk.{StandFor, Walks, Begins, stage}
use Rattle.outline.specs.declared.shape.TeamLoop.{TeamLoop}
use Rattle.outline.specs.Fit.{TeamFits}
use Rattle.outline.specs.View.{roles_in}
use Rattle.ompk_run.specs.Taken.{taken}
use Rattle.ompk_run.proofs.Behind.{undeclared}
use Rattle.ompk_run.proofs.Leaving.{none_told}
use Rattle.ompk_run.proofs.Named.{taken_other, taken_same, taken_length}
use Rattle.ompk_run.proofs.Numbered.{no_cell}

-- what is told apart has a role
told_role : (roles : Roles) (x : Variable) → is_among (told_apart roles) x ≡ true → is_among (role_variables roles) x ≡ true
told_role roles x h = go (is_among (role_variables roles) x) refl
  where
    go : (b : Bool) → is_among (role_variables roles) x ≡ b → b ≡ true
    go true e = refl
    go false e = absurd (true≢false (sym h ∙ none_told roles x e))

module _ (layout : List Laid) (mark : ℕ) (s : State) (rs : List ℕ) (ks : List Kept) (stand : StandFor layout mark s rs ks) (R : LineData) (serial : List Loop) (l : TeamLoop) (fits : TeamFits layout mark R serial l) where
  abbrev roles : Roles
  roles = roles_in R l

  abbrev loop : Stmt
  loop = stmt_of l.statement.now

  abbrev result : Option Effect
  result = handed roles serial loop s

  -- where a team has a run the loop has one, of the same text
  pub is_run : IsSome result → (e : Effect) × (run loop s ≡ Some e) × (result ≡ Some (left_effect (told_apart roles) s e))
  is_run there = go (is_at_turn serial s && is_at_hand roles loop s) (run loop s) refl there
    where
      go : (b : Bool) (o : Option Effect) → run loop s ≡ o → IsSome (if b then map_option (left_effect (told_apart roles) s) o else None)
          → (e : Effect) × (run loop s ≡ Some e) × ((if b then map_option (left_effect (told_apart roles) s) o else None) ≡ Some (left_effect (told_apart roles) s e))
      go false o r h = absurd cc
      go true None r h = absurd cc
      go true (Some e) r h = (e, r, refl)

  -- no local with a role is declared in the loop
  free : (x : Variable) → is_among (told_apart roles) x ≡ true → is_among (declared_in loop) x ≡ false
  free x h = undeclared (is_among (declared_in loop) x) (outside_visible loop x (fits.nested.assigned x ∙ told_role roles x h))

  module _ (e : Effect) (ran : run loop s ≡ Some e) (own : List ℕ) (ks' : List Kept) (there : StandFor layout mark (overwritten s e.writes) own ks') where
    abbrev after : State
    after = overwritten s e.writes

    abbrev left : State
    left = overwritten s (left_effect (told_apart roles) s e).writes

    abbrev new : List ℕ
    new = taken own l.lowered.roles rs

    law : LeavesApart (told_apart roles) s e
    law = left_apart (told_apart roles) s e

    still_outside : (x : Variable) → s.locals x ≡ Outside → left.locals x ≡ Outside
    still_outside x out = go (is_among (told_apart roles) x) refl
      where
        go : (b : Bool) → is_among (told_apart roles) x ≡ b → left.locals x ≡ Outside
        go true h = law.locals x h ∙ ap (λ k. left_slot k (look after x [])) out
        go false h = law.others x h ∙ out

    -- a local that is told apart holds in the end what the copy has
    in_copy : (x v : ℕ) → (s.locals x ≡ Outside → ⊥) → length layout ≤ x → is_among (told_apart roles) x ≡ true → left_slot (s.locals x) (look after x []) ≡ Holds v → slice_index own x ≡ v
    in_copy x v inside le h is = go (after.locals x) refl
      where
        nothing : (k : Slot) → s.locals x ≡ k → left_slot k None ≡ Holds v → is_held k ≡ true
        nothing Outside q f = absurd (inside q)
        nothing Empty q f = absurd (cc f)
        nothing (Holds n) q f = refl

        lost : (k : Slot) → after.locals x ≡ k → is_held k ≡ false → look after x [] ≡ None → slice_index own x ≡ v
        lost k q none gone =
            let held = nothing (s.locals x) refl (sym (ap (left_slot (s.locals x)) gone) ∙ is) in
            absurd (true≢false (sym (runs_held x loop (free x h) s e ran held) ∙ ap is_held q ∙ none))

        same : (k : Slot) (w : ℕ) → s.locals x ≡ k → left_slot k (Some w) ≡ Holds v → w ≡ v
        same Outside w q f = absurd (inside q)
        same Empty w q f = cc
        same (Holds n) w q f = cc

        go : (k : Slot) → after.locals x ≡ k → slice_index own x ≡ v
        go Outside q = lost Outside q refl (ap (λ k. look_in k after x []) q ∙ there.machine.cell x [] ∙ no_cell layout (values_of ks') x [] le)
        go Empty q = lost Empty q refl (ap (λ k. look_in k after x []) q)
        go (Holds w) q = there.machine.local x w q ∙ same (s.locals x) w refl (sym (ap (λ k. left_slot (s.locals x) (look_in k after x [])) q) ∙ is)

    local_left : (x v : ℕ) → left.locals x ≡ Holds v → slice_index new x ≡ v
    local_left x v is = at (nat_lt x (length layout)) refl (nat_lt x mark) refl
      where
        inside : s.locals x ≡ Outside → ⊥
        inside out = true≢false (ap is_outside (sym (still_outside x out) ∙ is))

        go : length layout ≤ x → x < mark → (b : Bool) → is_among (told_apart roles) x ≡ b → slice_index new x ≡ v
        go le lt true h =
            let wide = stand.machine.width in
            taken_same layout mark x le roles l.lowered.roles fits.lowered.roles_at own rs h (omega (arith, lt, wide)) ∙ in_copy x v inside le h (sym (law.locals x h) ∙ is)
        go le lt false h = taken_other layout mark x le roles l.lowered.roles fits.lowered.roles_at own rs h ∙ stand.machine.local x v (sym (law.others x h) ∙ is)

        at : (a : Bool) → nat_lt x (length layout) ≡ a → (b : Bool) → nat_lt x mark ≡ b → slice_index new x ≡ v
        at true p b q = absurd (inside (stand.machine.file_scope x (ltb-true x (length layout) p)))
        at false p true q = go (ltb-false x (length layout) p) (ltb-true x mark q) (is_among (told_apart roles) x) refl
        at false p false q = absurd (inside (stand.machine.unmarked x (ltb-false x mark q)))

    -- the registers that took what is told apart, and the new store
    pub left_stands : Fits (machine new (values_of ks')) → StandFor layout mark left new ks'
    left_stands words = record {
      machine = record {
        laid = stand.machine.laid;
        fits = words;
        width = subst (λ n. mark ≤ n) (sym (taken_length own l.lowered.roles rs)) stand.machine.width;
        room = there.machine.room;
        local = local_left;
        file_scope = λ x lt. still_outside x (stand.machine.file_scope x lt);
        unmarked = λ x le. still_outside x (stand.machine.unmarked x le);
        cell = λ x is. law.cells x is ∙ there.machine.cell x is;
      };
      shape = there.shape;
    }

module _ (R : LineData) (serial : List Loop) (l : TeamLoop) (layout : List Laid) (mark : ℕ) (fits : TeamFits layout mark R serial l) (rs : List ℕ) (ks : List Kept) (text text' : List ℕ) where
  abbrev loop' : Stmt
  loop' = stmt_of l.statement.now

  abbrev parallel : State → Option Effect
  parallel = handed (roles_in R l) serial loop'

  pub loop_walked : (own : List ℕ) (ks' : List Kept) → Walks layout mark (run loop') (stage rs ks text) (stage own ks' text') → Fits (machine (taken own l.lowered.roles rs) (values_of ks')) → Walks layout mark parallel (stage rs ks text) (stage (taken own l.lowered.roles rs) ks' text')
  loop_walked own ks' walked words s stand some =
      let found = is_run layout mark s rs ks stand R serial l fits some in
      let e = found.0 in
      let arrives = walked s stand (ap is_some found.1) in
      let same : arrives.ran.effect ≡ e = same_Some arrives.ran.effect e (sym arrives.ran.is ∙ found.1) in
      let there : StandFor layout mark (overwritten s e.writes) own ks' = subst (λ t. StandFor layout mark t own ks') (arrives.ran.left ∙ ap (λ (f : Effect). overwritten s f.writes) same) arrives.stand in
      record {
        state = overwritten s (left_effect (told_apart (roles_in R l)) s e).writes;
        stand = left_stands layout mark s rs ks stand R serial l fits e found.1 own ks' there words;
        ran = record { effect = left_effect (told_apart (roles_in R l)) s e; is = found.2; left = refl; printed = arrives.ran.printed ∙ ap (λ (f : Effect). text ++ f.text) same };
      }

  pub loop_begun : Begins layout mark (run loop') (stage rs ks text) text' → Begins layout mark parallel (stage rs ks text) text'
  loop_begun begun s stand some =
      let found = is_run layout mark s rs ks stand R serial l fits some in
      let same : text_of (run loop' s) ≡ text_of (parallel s) = ap text_of found.1 ∙ sym (ap text_of found.2) in
      subst (AddsBeginning text text') same (begun s stand (ap is_some found.1))
