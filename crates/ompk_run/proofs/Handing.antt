-- A loop that a team ran leaves the locals as they were but for lastprivate and reduction variables, and the file-scope objects as the loop's run does.
use Rattle.std.specs.Prelude.{ℕ, Bool, true, false, ◌≡◌, ◌<◌, ◌^◌, ◌&&◌, if◌then◌else◌, List, ◌++◌, length, Option, Some, None, IsSome, []}
use Rattle.std.specs.List.{list_all}
use Rattle.std.proofs.Common.{refl, sym, ap, ◌∙◌, subst}
use Rattle.std.proofs.lemmas.List.Folds.{list_all-append}
use Rattle.semantics.specs.Tree.{Variable, Stmt}
use Rattle.semantics.specs.Meaning.Agrees.{is_among, visible_behind}
use Rattle.semantics.specs.Meaning.State.{State, Holds}
use Rattle.semantics.specs.Meaning.Value.{map_option}
use Rattle.semantics.specs.Meaning.Runs.{Effect, run}
use Rattle.semantics.specs.Loops.Chunk.{Kind, IsSized, cut}
use Rattle.semantics.specs.Loops.Joined.{chunked}
use Rattle.semantics.specs.Loops.Nest.{Loop, Vector, iterations}
use Rattle.semantics.specs.Loops.Piece.{Roles}
use Rattle.ktree.specs.View.{stmt_of}
use Rattle.affine_expr.specs.Forms.{is_counter}
use Rattle.law_commute.proofs.Values.{first_of, second_of}
use Rattle.law_roles.specs.Updates.{is_plain}
use Rattle.law_roles.specs.Reducing.{AreHeld}
use Rattle.law_roles.specs.Sharing.{role_variables, SharesFrom, changed_from}
use Rattle.law_starts.specs.Begun.{told_apart, begun}
use Rattle.law_starts.proofs.Beginning.{may_begin}
use Rattle.law_independence.specs.OrderLaws.{AreAtHand, SharesInChunks}
use Rattle.law_independence.proofs.Targeted.{outside_visible}
use Rattle.law_scopes.specs.Apart.{is_at_turn}
use Rattle.law_scopes.proofs.Spots.{some_of}
use Rattle.law_scopes.proofs.Turning.{at_turns}
use Rattle.law_apart.specs.Apart.{left_effect, is_at_hand, handed}
use Rattle.store.specs.Kept.{Kept}
use Rattle.store.specs.Flat.{values_of}
use Rattle.seqrun_io.specs.Told.{AddsBeginning}
use Rattle.seqrun.specs.Ran.{lengths_of, text_of}
use Rattle.lower_code.specs.declared.laid.Laid.{Laid}
use Rattle.lower_code.specs.Layout.{shapes_of, cell_at}
use Rattle.lower_machine.specs.Machine.{Fits, machine}
use Rattle.lower.specs.Lowered.{IsReached}
use Rattle.lower_run.specs.Walk.{StandFor, Arrives}
use Rattle.flow.specs.Roles.{LineData}
use Rattle.outline.specs.declared.shape.TeamLoop.{TeamLoop}
use Rattle.outline.specs.declared.shape.Way.TheVariants.{Chunks}
use Rattle.outline.specs.Fit.{WayFits, TeamFits}
use Rattle.outline.specs.View.{roles_in}
use Rattle.team.specs.Together.{LeavesTogether, BeginsTogether}
use Rattle.ompk_run.proofs.AtHand.{held, at_hand}
use Rattle.ompk_run.proofs.AtTurn.{at_turn}
use Rattle.ompk_run.proofs.Behind.{AreBehind, arrives}
use Rattle.ompk_run.proofs.Chunks.{cover}
use Rattle.ompk_run.proofs.Leaving.{none_told, keep_numbers, told_scalar}
use Rattle.ompk_run.proofs.Numbered.{declares}
use Rattle.ompk_run.proofs.Spaced.{may_be_reached}

-- a loop that may be run in chunks carries nothing, and has no sinks
pub nothing_carried : (layout : List Laid) (mark : ℕ) (R : LineData) (serial : List Loop) (l : TeamLoop) (fits : TeamFits layout mark R serial l) → l.way ≡ Chunks → ((R l.line).carried ≡ []) × (fits.said.sinks ≡ None)
nothing_carried layout mark R serial l fits e =
    subst (λ w. WayFits layout mark fits.box (roles_in R l) fits.declarations (R l.line) fits.said serial l.depth (stmt_of l.statement.now) fits.nested l.lowered w) e fits.way

module _ (layout : List Laid) (mark : ℕ) (s : State) (rs : List ℕ) (ks : List Kept) (stand : StandFor layout mark s rs ks) (R : LineData) (serial : List Loop) (l : TeamLoop) (fits : TeamFits layout mark R serial l) (plain : ((R l.line).carried ≡ []) × (fits.said.sinks ≡ None)) where
  abbrev roles : Roles
  roles = roles_in R l

  abbrev loop : Stmt
  loop = stmt_of l.statement.now

  -- its iterations may be run in chunks
  apart : SharesInChunks roles serial l.depth loop
  apart = fits.nested.shares plain.0 plain.1

  -- what has a role stands outside of it
  seen : (x : Variable) → is_among (role_variables roles) x ≡ true → visible_behind loop x ≡ true
  seen x h = outside_visible loop x (fits.nested.assigned x ∙ h)

  lasts_plain : list_all (is_plain roles.reductions) roles.lasts ≡ true
  lasts_plain =
      second_of (list_all (is_plain roles.reductions) roles.privates) (list_all (is_plain roles.reductions) roles.lasts) (sym (list_all-append (is_plain roles.reductions) roles.privates roles.lasts) ∙ apart.apart)

  -- the variables of the loops round it hold numbers there
  at_counters : is_at_turn serial s ≡ true → (x : Variable) → is_counter fits.box x ≡ true → (n : ℕ) × (s.locals x ≡ Holds n)
  at_counters here x counter = at_turn s serial here x (fits.known x counter)

  -- where such a loop is reached, its chunks have a run each, and what they leave together is what the loop leaves
  record IsHanded (kind : Kind) (workers : ℕ) (e : Effect) : Type 0 where
    us : List Vector
    hand : AreAtHand roles loop s
    numbers : AreHeld roles.reductions s
    reached : IsReached layout mark roles fits.loops fits.body s us l.lowered rs ks
    shares : SharesFrom (begun roles s) (changed_from (begun roles s)) roles loop fits.loops fits.body (chunked us (cut kind (length us) workers)) s e

  is_handed : (kind : Kind) (workers : ℕ) → IsSized kind → 0 < workers → (is_at_turn serial s && is_at_hand roles loop s) ≡ true → (e : Effect) → run loop s ≡ Some e → IsHanded kind workers e
  is_handed kind workers sized some guard e ran =
      let here = first_of (is_at_turn serial s) (is_at_hand roles loop s) guard in
      let near = second_of (is_at_turn serial s) (is_at_hand roles loop s) guard in
      let turn = at_turns serial s here in
      let counters = at_counters here in
      let hand = at_hand layout mark s rs ks stand roles loop near in
      let numbers = held layout mark s rs ks stand roles loop near in
      let us = some_of (iterations fits.loops s) (fits.nested.there fits.loops fits.body s fits.nest turn) in
      let chunks = chunked us.0 (cut kind (length us.0) workers) in
      record {
        us = us.0;
        hand = hand;
        numbers = numbers;
        reached = record { box = fits.box; lowered = fits.lowered; stand = stand; counters = counters; fits = may_be_reached layout mark fits.box roles serial fits.loops fits.body s l.lowered rs ks fits.lowered stand fits.known counters (fits.runs fits.loops fits.body s fits.nest turn); are = us.1; different = apart.different; apart = lasts_plain; held = numbers };
        shares = apart.chunks fits.loops fits.body s (begun roles s) us.0 chunks e fits.nest turn (declares layout mark s rs ks stand loop fits.locals) hand (may_begin roles s hand.scalars apart.different) us.1 (cover us.0 kind workers sized some) ran;
      }

  module _ (kind : Kind) (workers : ℕ) (sized : IsSized kind) (some : 0 < workers) (text text' : List ℕ) where
    module _ (begins : BeginsTogether l.lowered rs ks text text' kind workers) where
      -- a beginning of what the loop prints
      began : (is_at_turn serial s && is_at_hand roles loop s) ≡ true → (e : Effect) → run loop s ≡ Some e → AddsBeginning text text' e.text
      began guard e ran =
          let h = is_handed kind workers sized some guard e ran in
          subst (AddsBeginning text text') (sym h.shares.text) (begins layout mark roles fits.loops fits.body s h.us h.shares.effects h.reached h.shares.each)

      pub loop_begins : IsSome (handed roles serial loop s) → AddsBeginning text text' (text_of (handed roles serial loop s))
      loop_begins there = go (is_at_turn serial s && is_at_hand roles loop s) refl (run loop s) refl there
        where
          go : (b : Bool) → (is_at_turn serial s && is_at_hand roles loop s) ≡ b → (o : Option Effect) → run loop s ≡ o → IsSome (if b then map_option (left_effect (told_apart roles) s) o else None)
              → AddsBeginning text text' (text_of (if b then map_option (left_effect (told_apart roles) s) o else None))
          go false q o r h = absurd cc
          go true q None r h = absurd cc
          go true q (Some e) r h = began q e r

    module _ (rs' : List ℕ) (ks' : List Kept) (leaves : LeavesTogether l.lowered rs rs' ks ks' text text' kind workers) (shape : lengths_of ks' ≡ lengths_of ks) (words : Fits (machine rs' (values_of ks'))) (room : length (values_of ks') < 2 ^ 64) where
      -- the new registers and the new store
      behind : (is_at_turn serial s && is_at_hand roles loop s) ≡ true → (e : Effect) → run loop s ≡ Some e → Arrives layout mark (Some (left_effect (told_apart roles) s e)) s rs' ks' text text'
      behind guard e ran =
          let h = is_handed kind workers sized some guard e ran in
          let chunks = chunked h.us (cut kind (length h.us) workers) in
          let merged = leaves layout mark roles fits.loops fits.body s h.us h.shares.effects h.reached h.shares.each
          (keep_numbers s roles l.depth loop fits.loops fits.body fits.nest seen chunks h.shares.effects h.shares.each h.numbers) in
          let put : AreBehind layout s rs rs' ks ks' roles e = record {
            told = λ x k. told_scalar layout s rs rs' ks ks' roles l.depth loop fits.loops fits.body fits.nest seen h.hand apart.apart chunks e h.shares merged x k;
            others = merged.others;
            objects = λ x is none. h.shares.merge (λ y js. cell_at (shapes_of layout) (values_of ks') y js) (λ y js r. merged.cells y js (none_told roles y r)) x is none;
          } in
          arrives layout mark s rs ks stand rs' ks' roles loop seen h.hand fits.privates e ran put merged.long shape words room (merged.printed ∙ ap (λ t. text ++ t) (sym h.shares.text))

      pub loop_arrives : IsSome (handed roles serial loop s) → Arrives layout mark (handed roles serial loop s) s rs' ks' text text'
      loop_arrives there = go (is_at_turn serial s && is_at_hand roles loop s) refl (run loop s) refl there
        where
          go : (b : Bool) → (is_at_turn serial s && is_at_hand roles loop s) ≡ b → (o : Option Effect) → run loop s ≡ o → IsSome (if b then map_option (left_effect (told_apart roles) s) o else None)
              → Arrives layout mark (if b then map_option (left_effect (told_apart roles) s) o else None) s rs' ks' text text'
          go false q o r h = absurd cc
          go true q None r h = absurd cc
          go true q (Some e) r h = behind q e r
