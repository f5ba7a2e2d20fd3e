-- Chunks of iterations of which no two conflict, each run from the state before the loop, joined in any order.
use Rattle.std.specs.Prelude.{ℕ, zero, suc, Bool, true, false, ◌≡◌, ◌≢◌, ◌+◌, ◌<◌, ◌≤◌, ◌==◌, ◌&&◌, List, [], ◌∷◌, ◌++◌, length, map, flat_map, filter, Option, Some, None, slice_get, option_and_then, Contains}
use Rattle.std.proofs.Common.{refl, sym, ap, ◌∙◌, subst, cond, arith}
use Rattle.std.proofs.lemmas.Bool.{eqb-true}
use Rattle.std.proofs.lemmas.List.{append_assoc, append-nil, length-append}
use Rattle.std.proofs.lemmas.Option.{same_Some}
use Rattle.std.specs.Cmp.Lexicographic.{same_text}
use Rattle.std.specs.List.{AllPairs, AllByRecursion as Each}
use Rattle.semantics.specs.Tree.{Variable, Stmt}
use Rattle.semantics.specs.Meaning.State.{State, Slot, Outside, Empty, Holds, Write, Declared, Assigned, renewed, same_indexes, with_cell, assign_at, is_there, written, overwritten}
use Rattle.semantics.specs.Meaning.Value.{map_option}
use Rattle.semantics.specs.Meaning.Runs.{Effect, nothing, joined}
use Rattle.semantics.specs.Meaning.Places.{below}
use Rattle.semantics.specs.Meaning.Agrees.{visible_behind}
use Rattle.semantics.specs.Loops.Arrangement.{times, once_below, EachOnceBelow, with_found, picked}
use Rattle.semantics.specs.Loops.Nest.{Loop, Vector}
use Rattle.semantics.specs.Loops.Access.{Conflict}
use Rattle.semantics.specs.Loops.Piece.{Piece, no_roles, piece, piece_of, run_iteration, run_iterations, is_outside, is_shared_write}
use Rattle.semantics.specs.Loops.Joined.{joined_text}
use Rattle.semantics.proofs.TicketLaw.{times-append}
use Rattle.law_commute.specs.Commuting.{IsOwnWrite, KeepsToItself, InnerLoopsTurn}
use Rattle.law_commute.specs.Joining.{plain_loop, DeclaresLocals, JoinTo, IndependentChunksJoin}
use Rattle.law_commute.proofs.Lists.{each_join}
use Rattle.law_commute.proofs.Paths.{both_there}
use Rattle.law_commute.proofs.Orders.{inside, picked_all, below_once, below_one, once_of_below}
use Rattle.law_commute.proofs.Values.{first_of, second_of}
use Rattle.law_commute.proofs.Changes.{acted}
use Rattle.law_commute.proofs.Arranged.{flat, times_in_any_order, counted, counted_once, spots, flat_spots, length_spots, picked_middle}
use Rattle.law_commute.proofs.Iterations.{one_iteration, contains_at, effect_of, all_of, Fresh, acted_by, folded, Told, told, all_there, rest_fresh, first_in, in_order, fresh_of, ready_at_start, itself, same_folded}

pub acted-append : (y : Variable) (js : List ℕ) (ws vs : List Write) (c : Option ℕ) → acted y js (ws ++ vs) c ≡ acted y js vs (acted y js ws c)
acted-append y js [] vs c = refl
acted-append y js (Declared x v ∷ ws) vs c = acted-append y js ws vs c
acted-append y js (Assigned x is v ∷ ws) vs c = acted-append y js ws vs (cond ((y == x) && same_indexes js is) (renewed c v) c)

-- an object that is there stays there
stays : (b : Bool) (c : Option ℕ) (v : ℕ) → is_there (cond b (renewed c v) c) ≡ is_there c
stays false c v = refl
stays true None v = refl
stays true (Some old) v = refl

pub acted_stays : (y : Variable) (js : List ℕ) (ws : List Write) (c : Option ℕ) → is_there (acted y js ws c) ≡ is_there c
acted_stays y js [] c = refl
acted_stays y js (Declared x v ∷ ws) c = acted_stays y js ws c
acted_stays y js (Assigned x is v ∷ ws) c =
    acted_stays y js ws (cond ((y == x) && same_indexes js is) (renewed c v) c) ∙ stays ((y == x) && same_indexes js is) c v

-- and one that is not there is never there
never : (ws : List Write) (s : State) (y : Variable) (js : List ℕ) → s.cells y js ≡ None → (overwritten s ws).cells y js ≡ None
never [] s y js e = e
never (w ∷ ws) s y js e = never ws (written s w) y js (one w)
  where
    renewed_none : (b : Bool) (c : Option ℕ) (v : ℕ) → c ≡ None → cond b (renewed c v) c ≡ None
    renewed_none false c v e = e
    renewed_none true None v e = refl
    renewed_none true (Some old) v e = absurd cc

    one : (w : Write) → (written s w).cells y js ≡ None
    one (Declared x v) = e
    one (Assigned x is v) = at (s.locals x)
      where
        at : (k : Slot) → (assign_at k s x is v).cells y js ≡ None
        at Outside = renewed_none ((y == x) && same_indexes js is) (s.cells y js) v e
        at Empty = e
        at (Holds n) = e

pub no_change : (b : Bool) (c : Option ℕ) (v : ℕ) → (b ≡ true → is_there c ≡ false) → cond b (renewed c v) c ≡ c
no_change false c v h = refl
no_change true None v h = refl
no_change true (Some old) v h = absurd (true_false (h refl))
  where
    true_false : true ≡ false → ⊥
    true_false e = absurd cc

outside_is : (k : Slot) → is_outside k ≡ true → k ≡ Outside
outside_is Outside e = refl
outside_is Empty e = absurd cc
outside_is (Holds n) e = absurd cc

-- writes that are shared change the cells alone
module _ (outer : State) where
  abbrev pub IsShared : Write → Type 0
  IsShared w = is_shared_write outer w ≡ true

  pub record ChangedBy (s : State) (ws : List Write) : Type 0 where
    pub locals : (x : Variable) → (overwritten s ws).locals x ≡ outer.locals x
    pub cells : (y : Variable) (js : List ℕ) → (overwritten s ws).cells y js ≡ acted y js ws (s.cells y js)

  pub shared_change : (ws : List Write) (s : State) → Each IsShared ws → ((x : Variable) → s.locals x ≡ outer.locals x) → ChangedBy s ws
  shared_change [] s h same = record { locals = same; cells = λ y js. refl }
  shared_change (Declared x v ∷ ws) s h same = absurd (let e : false ≡ true = h.0 in cc)
  shared_change (Assigned x is v ∷ ws) s h same =
      let free : s.locals x ≡ Outside = same x ∙ outside_is (outer.locals x) (first_of (is_outside (outer.locals x)) (is_there (outer.cells x is)) h.0) in
      let is_cell : written s (Assigned x is v) ≡ with_cell s x is v = ap (λ k. assign_at k s x is v) free in
      let rest = shared_change ws (with_cell s x is v) h.1 same in
      record {
        locals = λ z. ap (λ (t : State). (overwritten t ws).locals z) is_cell ∙ rest.locals z;
        cells = λ y js. ap (λ (t : State). (overwritten t ws).cells y js) is_cell ∙ rest.cells y js;
      }

  pub all_shared : (ws : List Write) → Each IsShared (filter (is_shared_write outer) ws)
  all_shared [] = tt
  all_shared (w ∷ ws) = at (is_shared_write outer w) refl (all_shared ws)
    where
      at : (b : Bool) → is_shared_write outer w ≡ b → Each IsShared (filter (is_shared_write outer) ws) → Each IsShared (filter (is_shared_write outer) (w ∷ ws))
      at true e rest = subst (λ b. Each IsShared (cond b (w ∷ filter (is_shared_write outer) ws) (filter (is_shared_write outer) ws))) (sym e) (e, rest)
      at false e rest = subst (λ b. Each IsShared (cond b (w ∷ filter (is_shared_write outer) ws) (filter (is_shared_write outer) ws))) (sym e) rest

  -- what is said of a write whatever the iteration: scalars are the body's own, and elements those of arrays from outside
  module _ (body : Stmt) (locals_alone : DeclaresLocals body outer) where
    abbrev IsPlain : Write → Type 0
    IsPlain (Declared x v) = Unit {0}
    IsPlain (Assigned x [] v) = visible_behind body x ≡ false
    IsPlain (Assigned x (i ∷ is) v) = outer.locals x ≡ Outside

    -- what is not shared is not there
    absent : (x : Variable) (is : List ℕ) (v : ℕ) → IsPlain (Assigned x is v) → is_shared_write outer (Assigned x is v) ≡ false → is_there (outer.cells x is) ≡ false
    absent x [] v h e = ap is_there (locals_alone x h)
    absent x (i ∷ is) v h e = sym (ap (λ k. is_outside k && is_there (outer.cells x (i ∷ is))) h) ∙ e

    -- the writes that are left out change nothing
    kept : (y : Variable) (js : List ℕ) (ws : List Write) (c : Option ℕ) → Each IsPlain ws → is_there c ≡ is_there (outer.cells y js)
        → acted y js (filter (is_shared_write outer) ws) c ≡ acted y js ws c
    kept y js [] c h there = refl
    kept y js (Declared x v ∷ ws) c h there = kept y js ws c h.1 there
    kept y js (Assigned x is v ∷ ws) c h there =
        at (is_shared_write outer (Assigned x is v)) refl
        (kept y js ws (cond ((y == x) && same_indexes js is) (renewed c v) c) h.1 (stays ((y == x) && same_indexes js is) c v ∙ there))
      where
        gone : is_shared_write outer (Assigned x is v) ≡ false → cond ((y == x) && same_indexes js is) (renewed c v) c ≡ c
        gone e =
            no_change ((y == x) && same_indexes js is) c v
            (λ hit.
            let array : y ≡ x = eqb-true y x (first_of (y == x) (same_indexes js is) hit) in
            let indexes : js ≡ is = same_text js is (sym (second_of (y == x) (same_indexes js is) hit)) in
            there ∙ (λ k. is_there (outer.cells (array k) (indexes k))) ∙ absent x is v h.0 e)

        at : (b : Bool) → is_shared_write outer (Assigned x is v) ≡ b
            → acted y js (filter (is_shared_write outer) ws) (cond ((y == x) && same_indexes js is) (renewed c v) c) ≡ acted y js ws (cond ((y == x) && same_indexes js is) (renewed c v) c)
            → acted y js (filter (is_shared_write outer) (Assigned x is v ∷ ws)) c ≡ acted y js (Assigned x is v ∷ ws) c
        at true e rest =
            ap (λ b. acted y js (cond b (Assigned x is v ∷ filter (is_shared_write outer) ws) (filter (is_shared_write outer) ws)) c) e ∙ rest
        at false e rest =
            ap (λ b. acted y js (cond b (Assigned x is v ∷ filter (is_shared_write outer) ws) (filter (is_shared_write outer) ws)) c) e
            ∙ ap (acted y js (filter (is_shared_write outer) ws)) (sym (gone e)) ∙ rest

    -- a file-scope scalar is not written
    kept_scalar : (y : Variable) (ws : List Write) (c : Option ℕ) → Each IsPlain ws → acted y [] (filter (is_shared_write outer) ws) c ≡ c
    kept_scalar y [] c h = refl
    kept_scalar y (Declared x v ∷ ws) c h = kept_scalar y ws c h.1
    kept_scalar y (Assigned x [] v ∷ ws) c h =
        ap (λ b. acted y [] (cond b (Assigned x [] v ∷ filter (is_shared_write outer) ws) (filter (is_shared_write outer) ws)) c)
        (none (is_outside (outer.locals x)) (outer.cells x []) (locals_alone x h.0)) ∙ kept_scalar y ws c h.1
      where
        none : (b : Bool) (o : Option ℕ) → o ≡ None → (b && is_there o) ≡ false
        none false o e = refl
        none true o e = ap is_there e
    kept_scalar y (Assigned x (i ∷ is) v ∷ ws) c h = at (is_shared_write outer (Assigned x (i ∷ is) v)) (kept_scalar y ws c h.1)
      where
        other : (b : Bool) → cond (b && same_indexes [] (i ∷ is)) (renewed c v) c ≡ c
        other true = refl
        other false = refl

        at : (b : Bool) → acted y [] (filter (is_shared_write outer) ws) c ≡ c → acted y [] (cond b (Assigned x (i ∷ is) v ∷ filter (is_shared_write outer) ws) (filter (is_shared_write outer) ws)) c ≡ c
        at true rest = ap (acted y [] (filter (is_shared_write outer) ws)) (other (y == x)) ∙ rest
        at false rest = rest

module _ (loops : List Loop) (body : Stmt) (outer : State) (us : List Vector) (keeps : KeepsToItself body) (different : AllPairs (λ u v. u ≢ v) us)
    (turning : (u : Vector) → Contains us u → InnerLoopsTurn loops body outer u)
    (independent : (u v : Vector) → Contains us u → Contains us v → Conflict loops body outer u v → ⊥) (locals_alone : DeclaresLocals body outer) where
  abbrev n : ℕ
  n = length us

  abbrev all : List ℕ → Option Effect
  all = all_of loops body outer us keeps different turning independent

  abbrev effect : ℕ → Option Effect
  effect = effect_of loops body outer us keeps different turning independent

  abbrev Once : List ℕ → Type 0
  Once = Fresh loops body outer us keeps different turning independent

  abbrev after : Variable → List ℕ → List ℕ → Option ℕ → Option ℕ
  after = folded loops body outer us keeps different turning independent

  abbrev Plain : Write → Type 0
  Plain = IsPlain outer body locals_alone

  plain_own : (u : Vector) (ws : List Write) → Each (IsOwnWrite loops body outer u) ws → Each Plain ws
  plain_own u [] h = tt
  plain_own u (Declared x v ∷ ws) h = (tt, plain_own u ws h.1)
  plain_own u (Assigned x [] v ∷ ws) h = (h.0, plain_own u ws h.1)
  plain_own u (Assigned x (i ∷ is) v ∷ ws) h = (h.0.1, plain_own u ws h.1)

  -- the writes of some iterations are plain
  all_plain : (cs : List ℕ) (e : Effect) → Once cs → all cs ≡ Some e → Each Plain e.writes
  all_plain [] e once is = subst (λ (f : Effect). Each Plain f.writes) (same_Some nothing e is) tt
  all_plain (c ∷ cs) e once is =
      let parts = both_there joined (effect c) (all cs) e is in
      let found = inside us c (first_in loops body outer us keeps different turning independent c cs once) in
      let alone_is = sym (ap (λ o. option_and_then (λ u. run_iteration loops body u outer) o) found.1) ∙ parts.first in
      let there : Contains us found.0 = contains_at us c found.0 found.1 in
      let left = (one_iteration loops body outer found.0 keeps (turning found.0 there) outer (itself loops body outer us keeps different turning independent found.0)).left parts.left alone_is in
      let rest = all_plain cs parts.right (rest_fresh loops body outer us keeps different turning independent c cs once) parts.second in
      subst (λ (f : Effect). Each Plain f.writes) parts.is
      (each_join Plain parts.left.writes parts.right.writes (plain_own found.0 parts.left.writes left.own) rest)

  -- and their texts stand one behind another
  abbrev text_by : Option Effect → List ℕ
  text_by None = []
  text_by (Some e) = e.text

  abbrev texts : List ℕ → List ℕ
  texts [] = []
  texts (c ∷ cs) = text_by (effect c) ++ texts cs

  texts_all : (cs : List ℕ) (e : Effect) → all cs ≡ Some e → e.text ≡ texts cs
  texts_all [] e is = sym (ap (λ (f : Effect). f.text) (same_Some nothing e is))
  texts_all (c ∷ cs) e is =
      let parts = both_there joined (effect c) (all cs) e is in
      sym (ap (λ (f : Effect). f.text) parts.is) ∙ ap (λ t. parts.left.text ++ t) (texts_all cs parts.right parts.second)
      ∙ ap (λ o. text_by o ++ texts cs) (sym parts.first)

  texts-append : (cs ds : List ℕ) → texts (cs ++ ds) ≡ texts cs ++ texts ds
  texts-append [] ds = refl
  texts-append (c ∷ cs) ds = ap (λ t. text_by (effect c) ++ t) (texts-append cs ds) ∙ sym (append_assoc (text_by (effect c)) (texts cs) (texts ds))

  -- their writes change an element as the iterations do one after another
  acted_all : (y : Variable) (js : List ℕ) (cs : List ℕ) (e : Effect) (c : Option ℕ) → all cs ≡ Some e → acted y js e.writes c ≡ after y js cs c
  acted_all y js [] e c is = sym (ap (λ (f : Effect). acted y js f.writes c) (same_Some nothing e is))
  acted_all y js (d ∷ cs) e c is =
      let parts = both_there joined (effect d) (all cs) e is in
      sym (ap (λ (f : Effect). acted y js f.writes c) parts.is)
      ∙ acted-append y js parts.left.writes parts.right.writes c
      ∙ acted_all y js cs parts.right (acted y js parts.left.writes c) parts.second
      ∙ ap (after y js cs) (sym (ap (λ o. acted_by loops body outer us keeps different turning independent o y js c) parts.first))

  after-append : (y : Variable) (js : List ℕ) (cs ds : List ℕ) (c : Option ℕ) → after y js (cs ++ ds) c ≡ after y js ds (after y js cs c)
  after-append y js [] ds c = refl
  after-append y js (d ∷ cs) ds c = after-append y js cs ds (acted_by loops body outer us keeps different turning independent (effect d) y js c)

  -- a chunk's piece
  abbrev handed : Effect → Piece
  handed e = piece_of no_roles outer e

  record IsRun (spot : List ℕ) (p : Piece) : Type 0 where
    effect_is : Effect
    ran : all spot ≡ Some effect_is
    plain : Each Plain effect_is.writes
    is : p ≡ handed effect_is

  abbrev AreRun : List (List ℕ) → List Piece → Type 0
  AreRun [] [] = Unit {0}
  AreRun [] (p ∷ ps) = ⊥
  AreRun (s ∷ ss) [] = ⊥
  AreRun (s ∷ ss) (p ∷ ps) = IsRun s p × AreRun ss ps

  abbrev writes_of : List Piece → List Write
  writes_of ps = flat_map (λ p. p.writes) ps

  -- in any order of them
  in_turn : (y : Variable) (js : List ℕ) (ss : List (List ℕ)) (ps : List Piece) → AreRun ss ps → (c : Option ℕ) → is_there c ≡ is_there (outer.cells y js) → (d : ℕ)
      → (xs : List (List ℕ)) (qs : List Piece)
      → ((x : Option ℕ) → is_there x ≡ is_there (outer.cells y js) → acted y js (writes_of qs) x ≡ after y js (flat xs) x)
      → acted y js (writes_of (with_found (slice_get ps d) qs)) c ≡ after y js (flat (with_found (slice_get ss d) xs)) c
  in_turn y js [] [] run c there d xs qs rest = rest c there
  in_turn y js [] (p ∷ ps) run c there d xs qs rest = absurd run
  in_turn y js (s ∷ ss) [] run c there d xs qs rest = absurd run
  in_turn y js (s ∷ ss) (p ∷ ps) run c there zero xs qs rest =
      let one = run.0 in
      let own : acted y js p.writes c ≡ after y js s c =
      ap (λ (q : Piece). acted y js q.writes c) one.is ∙ kept outer body locals_alone y js one.effect_is.writes c one.plain there
      ∙ acted_all y js s one.effect_is c one.ran in
      acted-append y js p.writes (writes_of qs) c
      ∙ rest (acted y js p.writes c) (acted_stays y js p.writes c ∙ there)
      ∙ ap (after y js (flat xs)) own ∙ sym (after-append y js s (flat xs) c)
  in_turn y js (s ∷ ss) (p ∷ ps) run c there (suc d) xs qs rest = in_turn y js ss ps run.1 c there d xs qs rest

  in_turns : (y : Variable) (js : List ℕ) (ss : List (List ℕ)) (ps : List Piece) → AreRun ss ps → (order : List ℕ) (c : Option ℕ) → is_there c ≡ is_there (outer.cells y js)
      → acted y js (writes_of (picked ps order)) c ≡ after y js (flat (picked ss order)) c
  in_turns y js ss ps run [] c there = refl
  in_turns y js ss ps run (d ∷ order) c there = in_turn y js ss ps run c there d (picked ss order) (picked ps order) (λ x h. in_turns y js ss ps run order x h)

  -- they are shared writes, none of them to a scalar
  abbrev AreShared : List Piece → Type 0
  AreShared ps = Each (IsShared outer) (writes_of ps)

  shared_found : (ss : List (List ℕ)) (ps qs : List Piece) → AreRun ss ps → (d : ℕ) → AreShared qs → AreShared (with_found (slice_get ps d) qs)
  shared_found [] [] qs run d rest = rest
  shared_found [] (p ∷ ps) qs run d rest = absurd run
  shared_found (s ∷ ss) [] qs run d rest = absurd run
  shared_found (s ∷ ss) (p ∷ ps) qs run zero rest =
      each_join (IsShared outer) p.writes (writes_of qs)
      (subst (λ (q : Piece). Each (IsShared outer) q.writes) (sym run.0.is) (all_shared outer run.0.effect_is.writes)) rest
  shared_found (s ∷ ss) (p ∷ ps) qs run (suc d) rest = shared_found ss ps qs run.1 d rest

  shared_picked : (ss : List (List ℕ)) (ps : List Piece) → AreRun ss ps → (order : List ℕ) → AreShared (picked ps order)
  shared_picked ss ps run [] = tt
  shared_picked ss ps run (d ∷ order) = shared_found ss ps (picked ps order) run d (shared_picked ss ps run order)

  scalar_found : (y : Variable) (ss : List (List ℕ)) (ps qs : List Piece) → AreRun ss ps → (d : ℕ) (c : Option ℕ) → ((x : Option ℕ) → acted y [] (writes_of qs) x ≡ x)
      → acted y [] (writes_of (with_found (slice_get ps d) qs)) c ≡ c
  scalar_found y [] [] qs run d c rest = rest c
  scalar_found y [] (p ∷ ps) qs run d c rest = absurd run
  scalar_found y (s ∷ ss) [] qs run d c rest = absurd run
  scalar_found y (s ∷ ss) (p ∷ ps) qs run zero c rest =
      acted-append y [] p.writes (writes_of qs) c ∙ rest (acted y [] p.writes c)
      ∙ ap (λ (q : Piece). acted y [] q.writes c) run.0.is ∙ kept_scalar outer body locals_alone y run.0.effect_is.writes c run.0.plain
  scalar_found y (s ∷ ss) (p ∷ ps) qs run (suc d) c rest = scalar_found y ss ps qs run.1 d c rest

  scalars_picked : (y : Variable) (ss : List (List ℕ)) (ps : List Piece) → AreRun ss ps → (order : List ℕ) (c : Option ℕ) → acted y [] (writes_of (picked ps order)) c ≡ c
  scalars_picked y ss ps run [] c = refl
  scalars_picked y ss ps run (d ∷ order) c = scalar_found y ss ps (picked ps order) run d c (scalars_picked y ss ps run order)

  -- and their texts are those of the iterations
  texts_run : (ss : List (List ℕ)) (ps : List Piece) → AreRun ss ps → joined_text ps ≡ texts (flat ss)
  texts_run [] [] run = refl
  texts_run [] (p ∷ ps) run = absurd run
  texts_run (s ∷ ss) [] run = absurd run
  texts_run (s ∷ ss) (p ∷ ps) run =
      ap (λ t. t ++ joined_text ps) (ap (λ (q : Piece). q.text) run.0.is ∙ texts_all s run.0.effect_is run.0.ran)
      ∙ ap (λ t. texts s ++ t) (texts_run ss ps run.1) ∙ sym (texts-append s (flat ss))

  -- each chunk has its piece
  record Ran (front : ℕ) (chunks : List (List Vector)) : Type 0 where
    pieces : List Piece
    each : map (piece (plain_loop loops body) outer) chunks ≡ map Some pieces
    run : AreRun (spots front chunks) pieces

  run_all : (each : (c : ℕ) → c < n → (f : Effect) × (effect c ≡ Some f)) (front : List Vector) (chunks : List (List Vector)) → front ++ flat chunks ≡ us
      → ((x : ℕ) → times x (flat (spots (length front) chunks)) ≤ once_below x n) → Ran (length front) chunks
  run_all each front [] whole once = record { pieces = []; each = refl; run = tt }
  run_all each front (vs ∷ chunks) whole once =
      let spot : List ℕ = counted (length front) (length vs) in
      let later : List ℕ = flat (spots (length front + length vs) chunks) in
      let mine : Once spot = λ x. omega (arith, once x, times-append x spot later) in
      let ran = all_there loops body outer us keeps different turning independent spot (λ c h. each c (below_one c n (omega (arith, mine c, h)))) in
      let picks : picked us spot ≡ vs = ap (λ l. picked l spot) (sym whole) ∙ picked_middle front vs (flat chunks) in
      let runs : run_iterations loops body vs outer ≡ Some ran.0 =
      ap (λ l. run_iterations loops body l outer) (sym picks)
      ∙ in_order loops body outer us keeps different turning independent spot outer mine (ready_at_start loops body outer us keeps different turning independent spot) ∙ ran.1 in
      let long : length (front ++ vs) ≡ length front + length vs = length-append front vs in
      let rest : Ran (length front + length vs) chunks =
      subst (λ m. Ran m chunks) long
      (run_all each (front ++ vs) chunks (append_assoc front vs (flat chunks) ∙ whole)
      (λ x. let moved = ap (λ m. times x (flat (spots m chunks))) long in omega (arith, once x, times-append x spot later))) in
      record {
        pieces = handed ran.0 ∷ rest.pieces;
        each = λ i. map_option (piece_of no_roles outer) (runs i) ∷ rest.each i;
        run = (record { effect_is = ran.0; ran = ran.1; plain = all_plain spot ran.0 mine ran.1; is = refl }, rest.run);
      }

  -- what all iterations leave in sequence is what their pieces leave
  cells_same : (e : Effect) → Told loops body outer us keeps different turning independent (below n) outer e → (ss : List (List ℕ)) (ps : List Piece) → AreRun ss ps → (order : List ℕ)
      → ChangedBy outer outer (writes_of (picked ps order)) → EachOnceBelow n (flat (picked ss order))
      → (y : Variable) (js : List ℕ) → (overwritten outer e.writes).cells y js ≡ (overwritten outer (writes_of (picked ps order))).cells y js
  cells_same e first ss ps run order change once y [] = at (visible_behind body y) refl
    where
      mine : (overwritten outer (writes_of (picked ps order))).cells y [] ≡ outer.cells y []
      mine = change.cells y [] ∙ scalars_picked y ss ps run order (outer.cells y [])

      at : (b : Bool) → visible_behind body y ≡ b → (overwritten outer e.writes).cells y [] ≡ (overwritten outer (writes_of (picked ps order))).cells y []
      at true h = first.scalars y h ∙ sym mine
      at false h = never e.writes outer y [] (locals_alone y h) ∙ sym (mine ∙ locals_alone y h)
  cells_same e first ss ps run order change once y (j ∷ js) =
      first.elements y j js
      ∙ same_folded loops body outer us keeps different turning independent y j js (below n) (flat (picked ss order)) (below_once n) once (outer.cells y (j ∷ js))
      ∙ sym (change.cells y (j ∷ js) ∙ in_turns y (j ∷ js) ss ps run order (outer.cells y (j ∷ js)) refl)

  pub join : (chunks : List (List Vector)) (e : Effect) → flat chunks ≡ us → run_iterations loops body us outer ≡ Some e
      → JoinTo (plain_loop loops body) outer e chunks
  join chunks e whole is =
      let every = below n in
      let every_once = below_once n in
      let fresh = fresh_of loops body outer us keeps different turning independent every every_once in
      let sequence : all every ≡ Some e =
      sym (in_order loops body outer us keeps different turning independent every outer fresh (ready_at_start loops body outer us keeps different turning independent every))
      ∙ ap (λ vs. run_iterations loops body vs outer) (picked_all us) ∙ is in
      let first = told loops body outer us keeps different turning independent every outer e fresh (λ y h. refl) (λ y h. refl) sequence in
      let in_place : all (counted 0 n) ≡ Some e =
      sym (in_order loops body outer us keeps different turning independent (counted 0 n) outer (fresh_of loops body outer us keeps different turning independent (counted 0 n) (counted_once n)) (ready_at_start loops body outer us keeps different turning independent (counted 0 n)))
      ∙ ap (λ vs. run_iterations loops body vs outer) (ap (λ (l : List Vector). picked l (counted 0 n)) (sym (append-nil us)) ∙ picked_middle [] us []) ∙ is in
      let ss : List (List ℕ) = spots 0 chunks in
      let once_each : (x : ℕ) → times x (flat ss) ≡ once_below x n = λ x. ap (times x) (flat_spots 0 chunks ∙ ap (λ (l : List Vector). counted 0 (length l)) whole) ∙ counted_once n x in
      let ran : Ran 0 chunks = run_all (λ c lt. first.each c (omega (arith, every_once c, once_of_below c n lt))) [] chunks whole (λ x. omega (arith, once_each x)) in
      record {
        pieces = ran.pieces;
        each = ran.each;
        leave = λ order h.
            let arrived = picked ran.pieces order in
            let change = shared_change outer (writes_of arrived) outer (shared_picked ss ran.pieces ran.run order) (λ x. refl) in
            let places : List ℕ = flat (picked ss order) in
            let places_once : EachOnceBelow n places = λ x. times_in_any_order x ss order (λ y. h y ∙ ap (once_below y) (sym (length_spots 0 chunks))) ∙ once_each x in
            record {
              cells = cells_same e first ss ran.pieces ran.run order change places_once;
              kinds = λ x k. ap is_outside (first.locals x k ∙ sym (change.locals x));
              values = λ x k. first.locals x (first_of (visible_behind body x) _ k) ∙ sym (change.locals x);
            };
        text = texts_run ss ran.pieces ran.run ∙ ap texts (flat_spots 0 chunks ∙ ap (λ (l : List Vector). counted 0 (length l)) whole) ∙ sym (texts_all (counted 0 n) e in_place);
      }

pub independent_join : IndependentChunksJoin
independent_join loops body outer us chunks e keeps different turning independent locals_alone whole is =
    join loops body outer us keeps different turning independent locals_alone chunks e whole is
