-- Iterations of a scan beside those of a body that begins with a number in the scan variable, and declares it.
use Rattle.std.specs.Prelude.{ℕ, zero, Bool, true, false, not, ◌≡◌, ◌==◌, ◌&&◌, ◌||◌, List, [], ◌∷◌, map, Option, Some, None, IsSome, option_and_then}
use Rattle.std.specs.List.{AllByRecursion as Each}
use Rattle.std.proofs.Common.{refl, sym, ap, ◌∙◌, subst, cond}
use Rattle.std.proofs.lemmas.Bool.{true≢false, eq-eqb, eqb-true, or_right}
use Rattle.std.proofs.lemmas.List.{append-nil}
use Rattle.std.proofs.lemmas.Option.{same_Some, none-some}
use Rattle.semantics.specs.Tree.{Variable, Stmt}
use Rattle.semantics.specs.Meaning.State.{State, Holds, Write, Declared, slot_of, with_local, overwritten, look, look_in}
use Rattle.semantics.specs.Meaning.Value.{map_option}
use Rattle.semantics.specs.Meaning.Runs.{Effect, joined, then_from, run}
use Rattle.semantics.specs.Meaning.Agrees.{is_among, visible_behind}
use Rattle.semantics.specs.Loops.Nest.{Loop, Vector, at_vector}
use Rattle.semantics.specs.Loops.Access.{Conflict}
use Rattle.semantics.specs.Loops.Piece.{Roles, SharedLoop, is_outside, run_iteration, run_iterations}
use Rattle.semantics.specs.Theorems.{scan_turns, run_turns}
use Rattle.semantics.proofs.NestLaw.{local_same}
use Rattle.law_commute.specs.Targets.{KeepsApart, AssignsFirst}
use Rattle.law_commute.specs.Commuting.{InnerLoopsTurn}
use Rattle.law_commute.proofs.Changes.{acted}
use Rattle.law_nests.specs.Walks.{entered}
use Rattle.law_private.proofs.Own.{own_body, DeclaresNone, fixed_is, innermost}
use Rattle.law_private.proofs.Near.{Beside, beside_first, beside_second, Near, Twin, twin_body, all_inside}
use Rattle.law_roles.specs.Following.{variables_of}
use Rattle.law_roles.proofs.Recorded.{own_visible, entered_is, kept_entered}
use Rattle.law_roles.proofs.Seen.{apart_back}
use Rattle.law_scans.proofs.Started.{started, started_visible, named, known, keeps_own, same_accesses, begun, same_state, started_runs, own_up}
use Rattle.law_scans.proofs.Steps.{same_slot, near_self, number_left}
use Rattle.law_orders.proofs.Going.{Goes, scan_turn, Like, follow}
use Rattle.law_orders.proofs.Mixed.{Pairs, pairs_with, pairs_all, each_weaker, Mixed, mixed_each}
use Rattle.law_orders.proofs.Turned.{one_turn, Both, Good, good_of, clear_of, Steady, Same, runs_same, stepped, turned}
use Rattle.law_orders.proofs.Variables.{same_cells, hidden_stays}

-- the number with which an iteration begins
abbrev pub number_of : Option ℕ → ℕ
number_of None = 0
number_of (Some v) = v

-- ---- the values in sequence

module _ (x : Variable) (loops : List Loop) (body : Stmt) (roles : Roles) (seen : visible_behind body x ≡ true) (not_of_loops : is_among (variables_of loops) x ≡ false) where
  abbrev loop : SharedLoop
  loop = record { loops = loops; body = body; roles = roles }

  -- what stands in front of some turns, and these
  record Parts (u : Vector) (us : List Vector) (s : State) (turns : List (Vector × Option ℕ)) : Type 0 where
    effect : Effect
    ran : run_iteration loops body u s ≡ Some effect
    rest : List (Vector × Option ℕ)
    rest_is : scan_turns loop x us (overwritten s effect.writes) ≡ Some rest
    whole : (u, look s x []) ∷ rest ≡ turns

  parts : (u : Vector) (us : List Vector) (s : State) (turns : List (Vector × Option ℕ)) → scan_turns loop x (u ∷ us) s ≡ Some turns → Parts u us s turns
  parts u us s turns h = at (run_iteration loops body u s) refl h
    where
      more : (e : Effect) → run_iteration loops body u s ≡ Some e → (o : Option (List (Vector × Option ℕ))) → scan_turns loop x us (overwritten s e.writes) ≡ o
          → map_option (λ (rest : List (Vector × Option ℕ)). (u, look s x []) ∷ rest) o ≡ Some turns → Parts u us s turns
      more e k None j i = absurd (none-some turns i)
      more e k (Some rest) j i = record { effect = e; ran = k; rest = rest; rest_is = j; whole = same_Some ((u, look s x []) ∷ rest) turns i }

      at : (o : Option Effect) → run_iteration loops body u s ≡ o
          → option_and_then (λ (e : Effect). map_option (λ (rest : List (Vector × Option ℕ)). (u, look s x []) ∷ rest) (scan_turns loop x us (overwritten s e.writes))) o ≡ Some turns → Parts u us s turns
      at None k j = absurd (none-some turns j)
      at (Some e) k j = more e k (scan_turns loop x us (overwritten s e.writes)) refl j

  -- turns in sequence are the iterations, each has a number, and they do what the iterations do
  pub record InSequence (us : List Vector) (s : State) (turns : List (Vector × Option ℕ)) : Type 0 where
    pub vectors : map (λ (t : Vector × Option ℕ). t.0) turns ≡ us
    pub numbered : Each (λ (t : Vector × Option ℕ). IsSome t.1) turns
    pub runs : run_turns loop x turns s ≡ run_iterations loops body us s

  pub in_sequence : (us : List Vector) (s : State) (v : ℕ) (turns : List (Vector × Option ℕ)) → s.locals x ≡ Holds v → scan_turns loop x us s ≡ Some turns → InSequence us s turns
  in_sequence [] s v turns h is = subst (InSequence [] s) (same_Some [] turns is) (record { vectors = refl; numbered = tt; runs = refl })
  in_sequence (u ∷ us) s v turns h is =
      let p = parts u us s turns is in
      let q : State = at_vector loops u s in
      let held : q.locals x ≡ Holds v = kept_entered loops u s x not_of_loops ∙ h in
      let next = number_left x body q v p.effect seen held p.ran in
      let after : (overwritten s p.effect.writes).locals x ≡ Holds next.0 = same_slot x p.effect.writes s q (h ∙ sym held) ∙ next.1 in
      let rest = in_sequence us (overwritten s p.effect.writes) next.0 p.rest after p.rest_is in
      let value : look s x [] ≡ Some v = ap (λ l. look_in l s x []) h in
      let there : with_local s x (slot_of (look s x [])) ≡ s = ap (λ o. with_local s x (slot_of o)) value ∙ same_state x body v s h in
      subst (InSequence (u ∷ us) s) p.whole
      (record {
        vectors = ap (λ (vs : List Vector). u ∷ vs) rest.vectors;
        numbered = (subst (λ o. IsSome o) (sym value) refl, rest.numbered);
        runs =
            ap (λ t. then_from s (run_iteration loops body u t) (run_turns loop x p.rest)) there
            ∙ ap (λ o. then_from s o (run_turns loop x p.rest)) p.ran ∙ ap (map_option (joined p.effect)) rest.runs
            ∙ sym (ap (λ o. then_from s o (run_iterations loops body us)) p.ran);
      })

-- ---- an iteration

module _ (x : Variable) (ps : List Variable) (body : Stmt) (keeps : KeepsApart (x ∷ ps) body) (none : DeclaresNone (x ∷ ps) body) (first : AssignsFirst ps body) (apart : is_among ps x ≡ false) (loops : List Loop) (o : State)
    (not_of_loops : is_among (variables_of loops) x ≡ false) where
  abbrev Turn : Type 0
  Turn = Vector × Option ℕ

  abbrev vector : Turn → Vector
  vector t = t.0

  abbrev own : Turn → Stmt
  own t = own_body ps (started x body (number_of t.1))

  abbrev K : Variable → Bool
  K = visible_behind (own_body ps (started x body 0))

  pub sees : (t : Turn) (y : Variable) → visible_behind (own t) y ≡ K y
  sees t y = by (number_of t.1) ∙ sym (by 0)
    where
      by : (n : ℕ) → visible_behind (own_body ps (started x body n)) y ≡ (visible_behind (started x body n) y && not (is_among ps y))
      by n = ap (λ (V : Variable → Bool). V y) (sym (fixed_is ps (started x body n) zero (started x body n) (own_body ps (started x body n)) [] innermost))

  abbrev IsSteady : State → Type 0
  IsSteady = Steady vector own loops o K (λ t. keeps_own x ps body keeps none first apart (number_of t.1)) sees

  abbrev IsSame : State → State → Type 0
  IsSame = Same vector own loops o K (λ t. keeps_own x ps body keeps none first apart (number_of t.1)) sees

  abbrev IsGood : Turn → Type 0
  IsGood = Good vector own loops o K (λ t. keeps_own x ps body keeps none first apart (number_of t.1)) sees

  abbrev IsClear : Turn → Turn → Type 0
  IsClear = Both vector own loops o K (λ t. keeps_own x ps body keeps none first apart (number_of t.1)) sees

  abbrev goes_own : Turn → State → Option Effect
  goes_own = one_turn vector own loops

  abbrev Free : Turn → Turn → Type 0
  Free t w = Unit {0}

  -- the first has the scan variable and private ones as locals; but for these both are the same
  record Level (b p : State) : Type 0 where
    same : IsSame b p
    inside : (y : Variable) → is_among (x ∷ ps) y ≡ true → is_outside (b.locals y) ≡ false

  -- what is visible round the second is none of these
  not_private : (y : Variable) → K y ≡ true → is_among ps y ≡ false
  not_private y h = own_visible ps (started x body 0) (named x ps body keeps none first apart 0) (known x ps body keeps none first apart 0) y h

  not_scanned : (y : Variable) → K y ≡ true → (y == x) ≡ false
  not_scanned y h = at (x == y) refl
    where
      up : visible_behind (started x body 0) y ≡ true
      up = own_up ps (started x body 0) y h

      at : (c : Bool) → (x == y) ≡ c → (y == x) ≡ false
      at true e = absurd (true≢false (sym up ∙ started_visible x ps body keeps none first apart 0 y ∙ ap (λ c. not c && visible_behind body y) e))
      at false e = apart_back x y e

  module _ (u : Vector) (v : ℕ) (good : IsGood (u, Some v)) (b p : State) (level : Level b p) where
    -- the first with the number in the scan variable
    abbrev set : State
    set = with_local b x (Holds v)

    abbrev q : State
    q = at_vector loops u set

    abbrev B : Stmt
    B = started x body v

    abbrev turn : Turn
    turn = (u, Some v)

    held : q.locals x ≡ Holds v
    held = kept_entered loops u set x not_of_loops ∙ local_same b x (Holds v)

    set_other : (y : Variable) → (y == x) ≡ false → set.locals y ≡ b.locals y
    set_other y e = ap (λ c. cond c (Holds v) (b.locals y)) e

    inside_b : (y : Variable) → is_among ps y ≡ true → is_outside (b.locals y) ≡ false
    inside_b y h = level.inside y (or_right (x == y) (is_among ps y) h)

    inside_q : (y : Variable) → is_among ps y ≡ true → is_outside (q.locals y) ≡ false
    inside_q y h =
        ap (λ (r : State). is_outside (r.locals y)) (sym (entered_is loops u set))
        ∙ all_inside (entered loops u) set y (all_inside (Declared x (Some v) ∷ []) b y (inside_b y h))

    steady_set : IsSteady set
    steady_set = record { locals = λ y h. set_other y (not_scanned y h) ∙ level.same.first.locals y h; scalars = level.same.first.scalars }

    from_set : run (own turn) q ≡ goes_own turn p
    from_set = runs_same vector own loops o K (λ t. keeps_own x ps body keeps none first apart (number_of t.1)) sees turn good set p steady_set level.same.second (λ y j js mode t. level.same.elements y j js)

    from_b : goes_own turn b ≡ goes_own turn p
    from_b = runs_same vector own loops o K (λ t. keeps_own x ps body keeps none first apart (number_of t.1)) sees turn good b p level.same.first level.same.second (λ y j js mode t. level.same.elements y j js)

    twin : Twin ps (map_option (begun x body v) (run body q)) (goes_own turn p)
    twin =
        subst (λ r. Twin ps r (goes_own turn p)) (started_runs x body v q held)
        (subst (Twin ps (run B q)) from_set
        (twin_body ps B (visible_behind B) (named x ps body keeps none first apart v) (known x ps body keeps none first apart v) q q (near_self ps q inside_q)))

    -- the scan variable's value does not matter to what else is left
    left_cells : (ws : List Write) (y : Variable) (js : List ℕ) → (overwritten b ws).cells y js ≡ (overwritten set ws).cells y js
    left_cells ws y js = at (y == x) refl
      where
        at : (c : Bool) → (y == x) ≡ c → (overwritten b ws).cells y js ≡ (overwritten set ws).cells y js
        at true e =
            let name = eqb-true y x e in
            hidden_stays y ws b (ap (λ z. is_outside (b.locals z)) name ∙ level.inside x (ap (λ c. c || is_among ps x) (eq-eqb x x refl))) js
            ∙ sym (hidden_stays y ws set (ap (λ z. is_outside (set.locals z)) name ∙ ap is_outside (local_same b x (Holds v))) js)
        at false e = same_cells y ws b set (sym (set_other y e)) (λ is. refl) js

    after : (e d : Effect) → goes_own turn p ≡ Some d → ((s t : State) → Near ps s t → Near ps (overwritten s (begun x body v e).writes) (overwritten t d.writes)) → Level (overwritten b e.writes) (overwritten p d.writes)
    after e d is nears =
        let at_b = stepped vector own loops o K (λ t. keeps_own x ps body keeps none first apart (number_of t.1)) sees turn good b d level.same.first (from_b ∙ is) in
        let at_p = stepped vector own loops o K (λ t. keeps_own x ps body keeps none first apart (number_of t.1)) sees turn good p d level.same.second is in
        let near : Near ps (overwritten set e.writes) (overwritten b d.writes) =
        subst (λ ws. Near ps (overwritten set ws) (overwritten b d.writes)) (append-nil e.writes) (nears b b (near_self ps b inside_b)) in
        let cells : (y : Variable) (js : List ℕ) → (overwritten b e.writes).cells y js ≡ (overwritten b d.writes).cells y js = λ y js. left_cells e.writes y js ∙ near.agrees.cells y js in
        record {
          same = record {
            first = record {
              locals = λ y h. same_slot y e.writes b set (sym (set_other y (not_scanned y h))) ∙ near.agrees.values y (ap not (not_private y h)) ∙ at_b.steady.locals y h;
              scalars = λ y h. cells y [] ∙ at_b.steady.scalars y h;
            };
            second = at_p.steady;
            elements = λ y j js. cells y (j ∷ js) ∙ at_b.elements y j js ∙ ap (acted y (j ∷ js) d.writes) (level.same.elements y j js) ∙ sym (at_p.elements y j js);
          };
          inside = λ y h. all_inside e.writes b y (level.inside y h);
        }

    beside_turn : Beside Level b p (run_iteration loops body u set) (goes_own turn p)
    beside_turn = at (run body q) (goes_own turn p) refl twin
      where
        at : (r d : Option Effect) → goes_own turn p ≡ d → Twin ps (map_option (begun x body v) r) d → Beside Level b p r d
        at None None is t = tt
        at None (Some d) is t = absurd t
        at (Some e) None is t = absurd t
        at (Some e) (Some d) is t = (sym (append-nil e.text) ∙ t.0, after e d is t.1)

  -- ---- turns

  -- with a number, and at an iteration
  abbrev IsTurn : (Vector → Type 0) → Turn → Type 0
  IsTurn There t = There t.0 × IsSome t.1

  module _ (There : Vector → Type 0) (turning : (u : Vector) → There u → InnerLoopsTurn loops body o u) (independent : (u v : Vector) → There u → There v → Conflict loops body o u v → ⊥) where
    fit : (t : Turn) → There t.0 → IsGood t
    fit t h = good_of vector own loops o K (λ t. keeps_own x ps body keeps none first apart (number_of t.1)) sees body (λ t. same_accesses x ps body keeps none first apart (number_of t.1)) t (turning t.0 h)

    clear : (t w : Turn) → There t.0 → There w.0 → (t.0 ≡ w.0 → ⊥) → IsClear t w
    clear t w h k differ =
        clear_of vector own loops o K (λ t. keeps_own x ps body keeps none first apart (number_of t.1)) sees body (λ t. same_accesses x ps body keeps none first apart (number_of t.1)) t w differ (independent t.0 w.0 h k)

    forth : (t : Turn) → IsTurn There t → (b p : State) → Level b p → (e : Effect) → scan_turn loops body x t b ≡ Some e → Like (scan_turn loops body x) goes_own Level t p (overwritten b e.writes)
    forth (u, None) h b p level e is = absurd (true≢false (sym h.1))
    forth (u, Some v) h b p level e is =
        let r = beside_first Level b p (scan_turn loops body x (u, Some v) b) (goes_own (u, Some v) p) e (beside_turn u v (fit (u, Some v) h.0) b p level) is in
        record { effect = r.effect; ran = r.is; after = r.after }

    back : (t : Turn) → IsTurn There t → (p b : State) → Level b p → (e : Effect) → goes_own t p ≡ Some e → Like goes_own (scan_turn loops body x) (λ q c. Level c q) t b (overwritten p e.writes)
    back (u, None) h p b level e is = absurd (true≢false (sym h.1))
    back (u, Some v) h p b level e is =
        let r = beside_second Level b p (scan_turn loops body x (u, Some v) b) (goes_own (u, Some v) p) e (beside_turn u v (fit (u, Some v) h.0) b p level) is in
        record { effect = r.effect; ran = r.is; after = r.after }

    -- turns at iterations that are all different lead to the same elements in any order
    pub any_order : (ts us : List Turn) → Each (IsTurn There) ts → Pairs (λ (t : Turn) (w : Turn). t.0 ≡ w.0 → ⊥) ts → Mixed ts us → IsSteady o → ((y : Variable) → is_among (x ∷ ps) y ≡ true → is_outside (o.locals y) ≡ false)
        → (c : State) → Goes (scan_turn loops body x) ts o c → (d : State) × Goes (scan_turn loops body x) us o d × ((y : Variable) (j : ℕ) (js : List ℕ) → c.cells y (j ∷ js) ≡ d.cells y (j ∷ js))
    any_order ts us holds differ m steady inside c goes =
        let level : Level o o = record { same = record { first = steady; second = steady; elements = λ y j js. refl }; inside = inside } in
        let one = follow (scan_turn loops body x) goes_own Level (IsTurn There) forth holds o level goes in
        let all_clear : Pairs (λ t w. Free t w → Free w t → IsClear t w) ts =
        pairs_with (IsTurn There) (λ (t : Turn) (w : Turn). t.0 ≡ w.0 → ⊥) (λ t w. Free t w → Free w t → IsClear t w) (λ t w h k away p q. clear t w h.0 k.0 away) ts holds differ in
        let two =
        turned vector own loops o K (λ t. keeps_own x ps body keeps none first apart (number_of t.1)) sees Free ts us (each_weaker (IsTurn There) IsGood (λ t h. fit t h.0) ts holds) m (pairs_all Free (λ t w. tt) ts) (pairs_all Free (λ t w. tt) us) all_clear
        o one.state steady one.goes in
        let three = follow goes_own (scan_turn loops body x) (λ q b. Level b q) (IsTurn There) back (mixed_each (IsTurn There) ts us m holds) o level two.goes in
        (three.state, three.goes, λ y j js. one.after.same.elements y j js ∙ two.after.elements y j js ∙ sym (three.after.same.elements y j js))
