-- What a team leaves of a scan in two passes is what the loop leaves. (OpenMP 5.2, 5.6)
use Rattle.std.specs.Prelude.{ℕ, Bool, true, false, not, ◌≡◌, ◌<◌, ◌^◌, ◌==◌, ◌&&◌, ◌||◌, if◌then◌else◌, ◌⊎◌, List, [], ◌∷◌, ◌++◌, length, map, flat_map, take, Option, Some, None, IsSome, is_some}
use Rattle.std.specs.List.{list_all}
use Rattle.std.proofs.Common.{refl, sym, ap, ◌∙◌, subst, inl, inr, arith}
use Rattle.std.proofs.lemmas.Bool.{true≢false, eqb-true, eq-eqb, or_left, or_right, or_cases, or_parts}
use Rattle.std.proofs.lemmas.List.{append-nil, length-map, take_all}
use Rattle.std.proofs.lemmas.List.Folds.{list_any-append, list_all-append}
use Rattle.semantics.specs.Tree.{Variable, Stmt, For, Items}
use Rattle.semantics.specs.Meaning.Agrees.{is_among, declared_in, declared_among, visible_behind}
use Rattle.semantics.specs.Meaning.State.{State, Slot, Outside, Empty, Holds, look, look_in, is_there, overwritten}
use Rattle.semantics.specs.Meaning.Runs.{Effect, nothing, joined, then_from, run}
use Rattle.semantics.specs.Meaning.Value.{map_option}
use Rattle.semantics.specs.Loops.Chunk.{PlainStatic, cut}
use Rattle.semantics.specs.Loops.Joined.{chunked}
use Rattle.semantics.specs.Loops.Nest.{Loop, Vector, nest_of, iterations}
use Rattle.semantics.specs.Loops.Operator.{ReduceOp, combined_all}
use Rattle.semantics.specs.Loops.Piece.{Roles, is_outside}
use Rattle.semantics.specs.Loops.Scan.{start_of}
use Rattle.law_commute.proofs.Values.{first_of, second_of}
use Rattle.law_nests.specs.Walks.{enters, walk}
use Rattle.law_nests.proofs.Joined.{visible_more, nest_declares}
use Rattle.law_roles.specs.Following.{variables_of}
use Rattle.law_roles.proofs.Chunked.{nest_variables}
use Rattle.law_roles.specs.Updates.{operator_of, is_plain}
use Rattle.law_roles.specs.Reducing.{AreHeld}
use Rattle.law_roles.specs.Sharing.{role_variables, are_different, last_filled, IsScalar, changed_from}
use Rattle.law_starts.specs.Begun.{told_apart, begun}
use Rattle.law_starts.proofs.Holding.{walks_keep}
use Rattle.law_scans.specs.Phases.{joined_items, bare}
use Rattle.law_scans.specs.Scanning as law
use Rattle.law_scans.specs.Scanning.{ScansFrom}
use Rattle.law_scans.proofs.Phased.{declared_joined}
use Rattle.law_scans.proofs.Exclusive.{tops, tops_declared}
use Rattle.law_independence.specs.OrderLaws.{AreAtHand, ScansInChunks}
use Rattle.law_independence.proofs.Targeted.{outside_visible}
use Rattle.law_scopes.specs.Apart.{is_at_turn}
use Rattle.law_scopes.proofs.Turning.{at_turns}
use Rattle.law_scopes.proofs.Spots.{some_of}
use Rattle.law_apart.specs.Apart.{left_effect, is_at_hand, handed}
use Rattle.store.specs.Kept.{Kept}
use Rattle.store.specs.Flat.{values_of}
use Rattle.seqrun_io.specs.Told.{AddsBeginning}
use Rattle.seqrun.specs.Ran.{lengths_of, text_of}
use Rattle.lower_code.specs.declared.laid.Laid.{Laid}
use Rattle.lower_code.specs.Layout.{shapes_of, cell_at}
use Rattle.lower_machine.specs.Machine.{Fits, machine}
use Rattle.lower.specs.Lowered.{IsLoweredFrom, IsReached}
use Rattle.lower.specs.declared.lowered.LoweredLoop.{LoweredLoop}
use Rattle.lower_run.specs.Walk.{StandFor, Arrives}
use Rattle.flow.specs.Roles.{LineData}
use Rattle.ktree.specs.View.{stmt_of}
use Rattle.affine_expr.specs.Forms.{is_counter}
use Rattle.outline.specs.declared.shape.TeamLoop.{TeamLoop}
use Rattle.outline.specs.declared.shape.Way.TheVariants.{Scan}
use Rattle.outline.specs.Fit.{ScanFits, WayFits, TeamFits}
use Rattle.outline.specs.View.{roles_in}
use Rattle.team.specs.Together.{PutScan, RunsInPasses, ScansTogether, ScansBeginning}
use Rattle.ompk_run.proofs.AtHand.{held, at_hand}
use Rattle.ompk_run.proofs.AtTurn.{at_turn}
use Rattle.ompk_run.proofs.Behind.{arrives}
use Rattle.ompk_run.proofs.Chunks.{cover}
use Rattle.ompk_run.proofs.Leaving.{none_told, last_first, first_role, reduced, in_two, IsTold, holds, stays, empty, keep_numbers}
use Rattle.ompk_run.proofs.Numbered.{declares}
use Rattle.ompk_run.proofs.Spaced.{may_be_reached}

-- ---- a nest of these loops

abbrev nested : List Loop → Stmt → Stmt
nested [] b = b
nested (l ∷ ls) b = For l.variable [] l.start l.test l.step (nested ls b)

nested_is : (ls : List Loop) (b : Stmt) → nest_of (length ls) (nested ls b) ≡ Some (ls, b)
nested_is [] b = refl
nested_is (l ∷ ls) b = ap (map_option {B = List Loop × Stmt} (λ (inner : List Loop × Stmt). (l ∷ inner.0, inner.1))) (nested_is ls b)

nested_declares : (ls : List Loop) (b : Stmt) (y : Variable) → is_among (variables_of ls) y ≡ false → is_among (declared_in b) y ≡ false → is_among (declared_in (nested ls b)) y ≡ false
nested_declares [] b y h g = g
nested_declares (l ∷ ls) b y h g =
    let parts = or_parts (l.variable == y) (is_among (variables_of ls) y) h in
    ap (λ c. c || is_among (declared_in (nested ls b)) y) parts.0 ∙ nested_declares ls b y parts.1 g

-- what the first pass runs declares nothing that the whole does not
joined_declared : (front back : Items) (y : Variable) → is_among (declared_among (joined_items front back)) y ≡ (is_among (declared_among front) y || is_among (declared_among back) y)
joined_declared front back y = ap (λ ds. is_among ds y) (declared_joined front back) ∙ list_any-append (λ z. z == y) (declared_among front) (declared_among back)

first_declared : (inclusive : Bool) (front back : Items) (y : Variable) → is_among (declared_in (law.first_of inclusive front back)) y ≡ true → is_among (declared_in (law.whole_of front back)) y ≡ true
first_declared true front back y h = joined_declared front back y ∙ or_left (is_among (declared_among front) y) (is_among (declared_among back) y) h
first_declared false front back y h = joined_declared front back y ∙ at (or_cases (is_among (tops front) y) (is_among (declared_among back) y) (sym (joined_declared (bare front) back y) ∙ h))
  where
    at : (is_among (tops front) y ≡ true) ⊎ (is_among (declared_among back) y ≡ true) → (is_among (declared_among front) y || is_among (declared_among back) y) ≡ true
    at (inl h) = or_left (is_among (declared_among front) y) (is_among (declared_among back) y) (tops_declared front y h)
    at (inr h) = or_right (is_among (declared_among front) y) (is_among (declared_among back) y) h

-- ---- what the variables hold behind it

-- a statement leaves a number where one was
run_keeps : (a : Stmt) (s : State) (e : Effect) (y : Variable) → visible_behind a y ≡ true → run a s ≡ Some e → IsSome (look s y []) → IsSome (look (overwritten s e.writes) y [])
run_keeps a s e y seen ran some =
    subst (λ ws. IsSome (look (overwritten s ws) y [])) (append-nil e.writes)
    (walks_keep 0 a [] a ([] ∷ []) s (record { writes = e.writes ++ []; text = e.text ++ [] }) y refl seen (ap (λ o. map_option (joined (enters [] [])) (then_from s o (λ t. Some nothing))) ran) some)

not_so : (b : Bool) → not b ≡ true → b ≡ false
not_so true h = absurd (true≢false (sym h))
not_so false h = refl

-- a loop that may be run as a scan is lowered for both passes
pub scanned_so : (layout : List Laid) (mark : ℕ) (R : LineData) (serial : List Loop) (l : TeamLoop) (fits : TeamFits layout mark R serial l) (first : LoweredLoop) → l.way ≡ Scan first
    → ScanFits layout mark fits.box (roles_in R l) fits.declarations (R l.line) fits.said serial l.depth (stmt_of l.statement.now) fits.nested first l.lowered
scanned_so layout mark R serial l fits first e =
    subst (λ w. WayFits layout mark fits.box (roles_in R l) fits.declarations (R l.line) fits.said serial l.depth (stmt_of l.statement.now) fits.nested l.lowered w) e fits.way

module _ (layout : List Laid) (mark : ℕ) (s : State) (rs : List ℕ) (ks : List Kept) (stand : StandFor layout mark s rs ks) (R : LineData) (serial : List Loop) (l : TeamLoop) (fits : TeamFits layout mark R serial l)
    (first : LoweredLoop) (way : ScanFits layout mark fits.box (roles_in R l) fits.declarations (R l.line) fits.said serial l.depth (stmt_of l.statement.now) fits.nested first l.lowered) where
  abbrev roles : Roles
  roles = roles_in R l

  abbrev loop : Stmt
  loop = stmt_of l.statement.now

  abbrev x : Variable
  x = way.variable

  abbrev op : ReduceOp
  op = way.operator

  abbrev its : ScansInChunks fits.said.phases x op roles serial l.depth loop
  its = fits.nested.scans x op way.sole way.assigned

  abbrev front : Stmt
  front = law.first_of its.inclusive its.front its.back

  abbrev whole : Stmt
  whole = law.whole_of its.front its.back

  seen : (y : Variable) → is_among (role_variables roles) y ≡ true → visible_behind loop y ≡ true
  seen y h = outside_visible loop y (fits.nested.assigned y ∙ h)

  lasts_plain : list_all (is_plain roles.reductions) roles.lasts ≡ true
  lasts_plain =
      second_of (list_all (is_plain roles.reductions) roles.privates) (list_all (is_plain roles.reductions) roles.lasts) (sym (list_all-append (is_plain roles.reductions) roles.privates roles.lasts) ∙ its.apart)

  different : are_different (map (λ r. r.0) roles.reductions) ≡ true
  different = ap (λ (rs : List (Variable × ReduceOp)). are_different (map (λ r. r.0) rs)) its.only

  -- no variable with a role is declared by what the first pass runs
  front_seen : (y : Variable) → is_among (role_variables roles) y ≡ true → visible_behind (nested its.loops front) y ≡ true
  front_seen y h =
      ap not
      (nested_declares its.loops front y (nest_variables l.depth loop its.loops whole its.nest y (seen y h))
      (not_among (is_among (declared_in front) y) (is_among (declared_in whole) y) (first_declared its.inclusive its.front its.back y)
      (not_so (is_among (declared_in whole) y) (visible_more loop whole (nest_declares l.depth loop its.loops whole its.nest) y (seen y h)))))
    where
      not_among : (b c : Bool) → (b ≡ true → c ≡ true) → c ≡ false → b ≡ false
      not_among true c there none = absurd (true≢false (sym (there refl) ∙ none))
      not_among false c there none = refl

  -- code of either pass is reached where the loop is
  reached : is_at_turn serial s ≡ true → (us : List Vector) → iterations its.loops s ≡ Some us → AreHeld roles.reductions s → (body : Stmt) (low : LoweredLoop) → IsLoweredFrom layout mark fits.box roles its.loops body low
      → IsReached layout mark roles its.loops body s us low rs ks
  reached here us are numbers body low lowered =
      let counters : (y : Variable) → is_counter fits.box y ≡ true → (n : ℕ) × (s.locals y ≡ Holds n) = λ y counter. at_turn s serial here y (fits.known y counter) in
      let few = fits.runs its.loops whole s its.nest (at_turns serial s here) in
      record { box = fits.box; lowered = lowered; stand = stand; counters = counters; fits = may_be_reached layout mark fits.box roles serial its.loops body s low rs ks lowered stand fits.known counters few; are = are; different = different; apart = lasts_plain; held = numbers }

  -- where such a loop is reached, its chunks have a run each in both passes
  record IsScanned (workers : ℕ) (e : Effect) : Type 0 where
    us : List Vector
    hand : AreAtHand roles loop s
    shares : ScansFrom roles x op loop its.loops front whole (chunked us (cut PlainStatic (length us) workers)) s e
    runs : RunsInPasses layout mark roles x op its.loops front whole s us shares.firsts shares.seconds first l.lowered rs ks workers

  is_scanned : (workers : ℕ) → 0 < workers → (is_at_turn serial s && is_at_hand roles loop s) ≡ true → (e : Effect) → run loop s ≡ Some e → IsScanned workers e
  is_scanned workers some guard e ran =
      let here = first_of (is_at_turn serial s) (is_at_hand roles loop s) guard in
      let near = second_of (is_at_turn serial s) (is_at_hand roles loop s) guard in
      let turn = at_turns serial s here in
      let hand = at_hand layout mark s rs ks stand roles loop near in
      let numbers = held layout mark s rs ks stand roles loop near in
      let us = some_of (iterations its.loops s) (fits.nested.there its.loops whole s its.nest turn) in
      let chunks = chunked us.0 (cut PlainStatic (length us.0) workers) in
      let shares = its.passes s us.0 chunks e turn (declares layout mark s rs ks stand loop fits.locals) hand us.1 (cover us.0 PlainStatic workers tt some) ran in
      record {
        us = us.0;
        hand = hand;
        shares = shares;
        runs = record {
          only = its.only;
          first_reached = reached here us.0 us.1 numbers front first way.first;
          second_reached = reached here us.0 us.1 numbers whole l.lowered way.second;
          first_pass = shares.first_pass;
          held = keep_numbers s roles (length its.loops) (nested its.loops front) its.loops front (nested_is its.loops front) front_seen chunks shares.firsts shares.first_pass numbers;
          second_pass = shares.second_pass;
        };
      }

  module _ (workers : ℕ) (some : 0 < workers) (text text' : List ℕ) where
    module _ (begins : ScansBeginning first l.lowered rs ks text text' workers) where
      began : (is_at_turn serial s && is_at_hand roles loop s) ≡ true → (e : Effect) → run loop s ≡ Some e → AddsBeginning text text' e.text
      began guard e ran =
          let h = is_scanned workers some guard e ran in
          subst (AddsBeginning text text') (sym h.shares.text) (begins layout mark roles x op its.loops front whole s h.us h.shares.firsts h.shares.seconds h.runs)

      pub scan_begins : IsSome (handed roles serial loop s) → AddsBeginning text text' (text_of (handed roles serial loop s))
      scan_begins there = go (is_at_turn serial s && is_at_hand roles loop s) refl (run loop s) refl there
        where
          go : (b : Bool) → (is_at_turn serial s && is_at_hand roles loop s) ≡ b → (o : Option Effect) → run loop s ≡ o → IsSome (if b then map_option (left_effect (told_apart roles) s) o else None)
              → AddsBeginning text text' (text_of (if b then map_option (left_effect (told_apart roles) s) o else None))
          go false q o r h = absurd cc
          go true q None r h = absurd cc
          go true q (Some e) r h = began q e r

    module _ (rs' : List ℕ) (ks' : List Kept) (leaves : ScansTogether first l.lowered rs rs' ks ks' text text' workers) (shape : lengths_of ks' ≡ lengths_of ks) (words : Fits (machine rs' (values_of ks'))) (room : length (values_of ks') < 2 ^ 64) where
      behind : (is_at_turn serial s && is_at_hand roles loop s) ≡ true → (e : Effect) → run loop s ≡ Some e → Arrives layout mark (Some (left_effect (told_apart roles) s e)) s rs' ks' text text'
      behind guard e ran =
          arrives layout mark s rs ks stand rs' ks' roles loop seen h.hand fits.privates e ran
          (record { told = told; others = put.others; objects = λ y is none. h.shares.merge (λ z js. cell_at (shapes_of layout) (values_of ks') z js) (λ z js r. put.cells z js (none_told roles z r)) y is none })
          put.long shape words room (put.printed ∙ ap (λ t. text ++ t) (sym h.shares.text))
        where
          h : IsScanned workers e
          h = is_scanned workers some guard e ran

          chunks : List (List Vector)
          chunks = chunked h.us (cut PlainStatic (length h.us) workers)

          partials : List (Option ℕ)
          partials = map (λ f. changed_from (begun roles s) f x) h.shares.firsts

          put : PutScan layout roles x op s chunks partials h.shares.seconds rs rs' ks ks' text text'
          put = leaves layout mark roles x op its.loops front whole s h.us h.shares.firsts h.shares.seconds h.runs

          after : State
          after = overwritten s e.writes

          counted : length partials ≡ length chunks
          counted = length-map h.shares.firsts (λ f. changed_from (begun roles s) f x) ∙ sym (length-map h.shares.firsts Some) ∙ sym (ap (λ os. length os) h.shares.first_pass) ∙ length-map chunks (λ us. walk its.loops front us (begun roles s))

          told_scan : IsTold layout s after rs rs' ks ks' x
          told_scan =
              let number = h.hand.numbers x op (ap (λ (rs : List (Variable × ReduceOp)). operator_of rs x) its.only ∙ ap (λ b. if b then Some op else None) (eq-eqb x x refl)) in
              holds (combined_all op number.0 partials)
              (h.shares.value ∙ ap (λ o. start_of op o partials (length chunks)) number.1 ∙ ap (λ ps. Some (combined_all op number.0 ps)) (ap (λ n. take n partials) (sym counted) ∙ take_all (length partials) partials (omega arith)))
              (put.value number.0 number.1)

          told_filled : (y : Variable) → is_among roles.lasts y ≡ true → (f : Effect) → last_filled chunks h.shares.seconds ≡ Some f → IsTold layout s after rs rs' ks ks' y
          told_filled y k f is = go (look (overwritten s f.writes) y []) refl
            where
              role : is_among (role_variables roles) y ≡ true
              role = first_role roles y (last_first roles y k)

              leaves_it : look after y [] ≡ look (overwritten s f.writes) y []
              leaves_it = h.shares.lasts y f k is

              lost : look (overwritten s f.writes) y [] ≡ None → (slot : Slot) → s.locals y ≡ slot → is_some (look_in slot s y []) ≡ true → ⊥
              lost none slot q there = true≢false (sym (run_keeps loop s e y (seen y role) ran (ap (λ w. is_some (look_in w s y [])) q ∙ there)) ∙ ap is_some (leaves_it ∙ none))

              there_some : (o : Option ℕ) → is_there o ≡ true → is_some o ≡ true
              there_some None q = absurd (true≢false (sym q))
              there_some (Some v) q = refl

              nothing_there : look (overwritten s f.writes) y [] ≡ None → (slot : Slot) → s.locals y ≡ slot → IsScalar s y → IsTold layout s after rs rs' ks ks' y
              nothing_there none Outside q (inl up) = absurd (true≢false (ap is_outside (sym q) ∙ up))
              nothing_there none Outside q (inr file) = absurd (lost none Outside q (there_some (s.cells y []) file.there))
              nothing_there none Empty q scalar = empty q (leaves_it ∙ none)
              nothing_there none (Holds v) q scalar = absurd (lost none (Holds v) q refl)

              go : (o : Option ℕ) → look (overwritten s f.writes) y [] ≡ o → IsTold layout s after rs rs' ks ks' y
              go None q = nothing_there q (s.locals y) refl (h.hand.scalars y role)
              go (Some v) q = holds v (leaves_it ∙ q) (put.lasts y f v k is q)

          told_last : (y : Variable) → is_among roles.lasts y ≡ true → IsTold layout s after rs rs' ks ks' y
          told_last y k = go (flat_map (λ us. us) chunks) refl
            where
              filled : (o : Option Effect) → last_filled chunks h.shares.seconds ≡ o → IsSome o → IsTold layout s after rs rs' ks ks' y
              filled None q there = absurd (true≢false (sym there))
              filled (Some f) q there = told_filled y k f q

              go : (us : List Vector) → flat_map (λ us. us) chunks ≡ us → IsTold layout s after rs rs' ks ks' y
              go [] q = stays (h.shares.no_last y k q) (put.no_last y k q).0 (put.no_last y k q).1
              go (u ∷ us) q = filled (last_filled chunks h.shares.seconds) refl (h.shares.filled (λ none. absurd (cc (sym q ∙ none))))

          told : (y : Variable) → is_among (told_apart roles) y ≡ true → IsTold layout s after rs rs' ks ks' y
          told y k = go (is_among roles.lasts y) refl
            where
              go : (b : Bool) → is_among roles.lasts y ≡ b → IsTold layout s after rs rs' ks ks' y
              go true q = told_last y q
              go false q = subst (λ z. IsTold layout s after rs rs' ks ks' z) same told_scan
                where
                  among : is_among (map (λ (r : Variable × ReduceOp). r.0) ((x, op) ∷ [])) y ≡ true
                  among = sym (ap (λ (rs : List (Variable × ReduceOp)). is_among (map (λ r. r.0) rs) y) its.only) ∙ sym (in_two y roles.lasts (reduced roles) ∙ ap (λ b. b || is_among (reduced roles) y) q) ∙ k

                  same : x ≡ y
                  same = eqb-true x y (or_false (x == y) among)
                    where
                      or_false : (b : Bool) → (b || false) ≡ true → b ≡ true
                      or_false true g = refl
                      or_false false g = absurd (true≢false (sym g))

      pub scan_arrives : IsSome (handed roles serial loop s) → Arrives layout mark (handed roles serial loop s) s rs' ks' text text'
      scan_arrives there = go (is_at_turn serial s && is_at_hand roles loop s) refl (run loop s) refl there
        where
          go : (b : Bool) → (is_at_turn serial s && is_at_hand roles loop s) ≡ b → (o : Option Effect) → run loop s ≡ o → IsSome (if b then map_option (left_effect (told_apart roles) s) o else None)
              → Arrives layout mark (if b then map_option (left_effect (told_apart roles) s) o else None) s rs' ks' text text'
          go false q o r h = absurd cc
          go true q None r h = absurd cc
          go true q (Some e) r h = behind q e r
