-- What writes leave of one variable depends on that variable alone.
use Rattle.std.specs.Prelude.{ℕ, Bool, true, false, ◌≡◌, ◌==◌, ◌&&◌, ◌⊎◌, List, [], ◌∷◌, Option, Some, None, option_and_then}
use Rattle.std.proofs.Common.{refl, sym, ap, ◌∙◌, subst, cond, inl, inr}
use Rattle.std.proofs.lemmas.Bool.{true≢false, eqb-true}
use Rattle.semantics.specs.Tree.{Variable, Stmt}
use Rattle.semantics.specs.Meaning.State.{State, Slot, Outside, Empty, Holds, Write, Declared, Assigned, renewed, same_indexes, slot_of, with_local, assign_at, written, overwritten, look}
use Rattle.semantics.specs.Meaning.Value.{map_option}
use Rattle.semantics.specs.Meaning.Runs.{Effect}
use Rattle.semantics.specs.Meaning.Agrees.{is_among}
use Rattle.semantics.specs.Loops.Nest.{Loop, Vector, at_vector}
use Rattle.semantics.specs.Loops.Piece.{Roles, SharedLoop, is_outside, run_iteration}
use Rattle.semantics.specs.Theorems.{scan_turns}
use Rattle.law_commute.proofs.Iterations.{cells_at}
use Rattle.law_private.proofs.Alike.{Both}
use Rattle.law_private.proofs.Near.{all_inside}
use Rattle.law_roles.specs.Following.{variables_of}
use Rattle.law_roles.specs.Sharing.{IsScalar}
use Rattle.law_roles.proofs.Moved.{Kept, Shifted, Moved, moved_look, moved_declared, moved_stmt, moved_at}
use Rattle.law_roles.proofs.Shared.{none_stays}
use Rattle.law_roles.proofs.Recorded.{kept_entered}
use Rattle.law_scans.proofs.Steps.{same_slot}
use Rattle.law_orders.proofs.Going.{scan_turn}

-- ---- the same writes to one variable

still_cells : (k : Slot) (s : State) (x z : Variable) (is js : List ℕ) (n : ℕ) → (x == z) ≡ false → (assign_at k s z is n).cells x js ≡ s.cells x js
still_cells Outside s x z is js n e = ap (λ b. cond (b && same_indexes js is) (renewed (s.cells x js) n) (s.cells x js)) e
still_cells Empty s x z is js n e = refl
still_cells (Holds m) s x z is js n e = refl

pub same_cells : (x : Variable) (ws : List Write) (a b : State) → a.locals x ≡ b.locals x → ((js : List ℕ) → a.cells x js ≡ b.cells x js) → (js : List ℕ) → (overwritten a ws).cells x js ≡ (overwritten b ws).cells x js
same_cells x [] a b h k js = k js
same_cells x (w ∷ ws) a b h k js = same_cells x ws (written a w) (written b w) (same_slot x (w ∷ []) a b h) (one w) js
  where
    put : (z : Variable) (is : List ℕ) (n : ℕ) (js : List ℕ) (c : Bool) → (x == z) ≡ c → (assign_at (a.locals z) a z is n).cells x js ≡ (assign_at (b.locals z) b z is n).cells x js
    put z is n js true e =
        let here : a.locals z ≡ b.locals z = subst (λ y. a.locals y ≡ b.locals y) (eqb-true x z e) h in
        ap (λ q. (assign_at q a z is n).cells x js) here ∙ at (b.locals z)
      where
        at : (q : Slot) → (assign_at q a z is n).cells x js ≡ (assign_at q b z is n).cells x js
        at Outside = ap (λ o. cond ((x == z) && same_indexes js is) (renewed o n) o) (k js)
        at Empty = k js
        at (Holds m) = k js
    put z is n js false e = still_cells (a.locals z) a x z is js n e ∙ k js ∙ sym (still_cells (b.locals z) b x z is js n e)

    one : (w : Write) (js : List ℕ) → (written a w).cells x js ≡ (written b w).cells x js
    one (Declared z v) js = k js
    one (Assigned z is n) js = put z is n js (x == z) refl

-- under a local, an object keeps what it holds
pub hidden_stays : (x : Variable) (ws : List Write) (s : State) → is_outside (s.locals x) ≡ false → (js : List ℕ) → (overwritten s ws).cells x js ≡ s.cells x js
hidden_stays x [] s h js = refl
hidden_stays x (w ∷ ws) s h js = hidden_stays x ws (written s w) (all_inside (w ∷ []) s x h) js ∙ one w
  where
    put : (z : Variable) (is : List ℕ) (n : ℕ) (c : Bool) → (x == z) ≡ c → (assign_at (s.locals z) s z is n).cells x js ≡ s.cells x js
    put z is n true e = at (s.locals z) (ap (λ y. is_outside (s.locals y)) (sym (eqb-true x z e)) ∙ h)
      where
        at : (q : Slot) → is_outside q ≡ false → (assign_at q s z is n).cells x js ≡ s.cells x js
        at Outside up = absurd (true≢false up)
        at Empty up = refl
        at (Holds m) up = refl
    put z is n false e = still_cells (s.locals z) s x z is js n e

    one : (w : Write) → (written s w).cells x js ≡ s.cells x js
    one (Declared z v) = refl
    one (Assigned z is n) = put z is n (x == z) refl

-- and a scalar has no elements
pub scalar_stays : (x : Variable) (ws : List Write) (s : State) → IsScalar s x → (j : ℕ) (js : List ℕ) → (overwritten s ws).cells x (j ∷ js) ≡ s.cells x (j ∷ js)
scalar_stays x ws s (inl up) j js = hidden_stays x ws s up (j ∷ js)
scalar_stays x ws s (inr f) j js = none_stays x (j ∷ js) ws s (f.alone j js) ∙ sym (f.alone j js)

-- ---- scalars as locals

-- a scalar that stands so from two states on stands so from two others, where it is the same in these
stands_left : (x : Variable) (s t s' t' : State) (ws : List Write) → s'.locals x ≡ s.locals x → t'.locals x ≡ t.locals x → ((js : List ℕ) → s'.cells x js ≡ s.cells x js)
    → Kept x (overwritten s' ws) (overwritten t' ws) ⊎ Shifted x (overwritten s' ws) (overwritten t' ws) → Kept x (overwritten s ws) (overwritten t ws) ⊎ Shifted x (overwritten s ws) (overwritten t ws)
stands_left x s t s' t' ws one two cells (inl k) =
    inl (record { same = same_slot x ws s s' (sym one) ∙ k.same ∙ sym (same_slot x ws t t' (sym two)); inside = ap is_outside (same_slot x ws t t' (sym two)) ∙ k.inside })
stands_left x s t s' t' ws one two cells (inr k) =
    let cell = same_cells x ws s s' (sym one) (λ js. sym (cells js)) in
    inr (record { outside = same_slot x ws s s' (sym one) ∙ k.outside; number = k.number; holds = same_slot x ws t t' (sym two) ∙ k.holds; cell = cell [] ∙ k.cell; scalar = λ i is. cell (i ∷ is) ∙ k.scalar i is })

moved_left : (vars : List Variable) (s t : State) (ws : List Write) → Moved vars s t
    → ((x : Variable) → is_among vars x ≡ true → Kept x (overwritten s ws) (overwritten t ws) ⊎ Shifted x (overwritten s ws) (overwritten t ws)) → Moved vars (overwritten s ws) (overwritten t ws)
moved_left vars s t ws m theirs = record { locals = λ x h. same_slot x ws s t (m.locals x h); cells = λ x js h. same_cells x ws s t (m.locals x h) (λ is. m.cells x is h) js; theirs = theirs }

module _ (vars : List Variable) (loops : List Loop) (free : (x : Variable) → is_among vars x ≡ true → is_among (variables_of loops) x ≡ false) where
  pub moved_iteration : (body : Stmt) (u : Vector) (s t : State) → Moved vars s t → Both (Moved vars) s t (run_iteration loops body u s) (run_iteration loops body u t)
  moved_iteration body u s t m =
      let s' = at_vector loops u s in
      let t' = at_vector loops u t in
      let b = moved_stmt vars body s' t' (moved_at vars loops u s t m) in
      record {
        same = b.same;
        left = λ e is.
            moved_left vars s t e.writes m
            (λ x h. stands_left x s t s' t' e.writes (kept_entered loops u s x (free x h)) (kept_entered loops u t x (free x h)) (cells_at loops u s x) ((b.left e is).theirs x h));
      }

  -- with a local at a value of its own in each iteration
  module _ (z : Variable) where
    abbrev pub BothSet : State → State → Type 0
    BothSet s t = Moved vars s t × Kept z s t

    pub moved_turn : (body : Stmt) (t : Vector × Option ℕ) (a b : State) → BothSet a b → Both BothSet a b (scan_turn loops body z t a) (scan_turn loops body z t b)
    moved_turn body t a b m =
        let k = slot_of t.1 in
        let a' = at_vector loops t.0 (with_local a z k) in
        let b' = at_vector loops t.0 (with_local b z k) in
        let both = moved_stmt vars body a' b' (moved_at vars loops t.0 (with_local a z k) (with_local b z k) (moved_declared vars a b m.0 z t.1)) in
        record { same = both.same; left = λ e is. let own = kept e in (moved_left vars a b e.writes m.0 (λ x h. theirs x h e (own) ((both.left e is).theirs x h) (x == z) refl), own) }
      where
        kept : (e : Effect) → Kept z (overwritten a e.writes) (overwritten b e.writes)
        kept e = record { same = same_slot z e.writes a b m.1.same; inside = all_inside e.writes b z m.1.inside }

        same : (x : Variable) → is_among vars x ≡ true → (x == z) ≡ false → (q : State) → (at_vector loops t.0 (with_local q z (slot_of t.1))).locals x ≡ q.locals x
        same x h e q = kept_entered loops t.0 (with_local q z (slot_of t.1)) x (free x h) ∙ ap (λ c. cond c (slot_of t.1) (q.locals x)) e

        theirs : (x : Variable) → is_among vars x ≡ true → (e : Effect) → Kept z (overwritten a e.writes) (overwritten b e.writes)
            → Kept x (overwritten (at_vector loops t.0 (with_local a z (slot_of t.1))) e.writes) (overwritten (at_vector loops t.0 (with_local b z (slot_of t.1))) e.writes)
            ⊎ Shifted x (overwritten (at_vector loops t.0 (with_local a z (slot_of t.1))) e.writes) (overwritten (at_vector loops t.0 (with_local b z (slot_of t.1))) e.writes)
            → (c : Bool) → (x == z) ≡ c → Kept x (overwritten a e.writes) (overwritten b e.writes) ⊎ Shifted x (overwritten a e.writes) (overwritten b e.writes)
        theirs x h e own left true i = inl (subst (λ y. Kept y (overwritten a e.writes) (overwritten b e.writes)) (sym (eqb-true x z i)) own)
        theirs x h e own left false i =
            stands_left x a b (at_vector loops t.0 (with_local a z (slot_of t.1))) (at_vector loops t.0 (with_local b z (slot_of t.1))) e.writes (same x h i a) (same x h i b) (cells_at loops t.0 (with_local a z (slot_of t.1)) x) left

  -- the value of a variable before each iteration
  pub moved_scan : (body : Stmt) (roles : Roles) (z : Variable) (us : List Vector) (s t : State) → Moved vars s t
      → scan_turns (record { loops = loops; body = body; roles = roles }) z us s ≡ scan_turns (record { loops = loops; body = body; roles = roles }) z us t
  moved_scan body roles z [] s t m = refl
  moved_scan body roles z (u ∷ us) s t m =
      let loop : SharedLoop = record { loops = loops; body = body; roles = roles } in
      let b = moved_iteration body u s t m in
      at (run_iteration loops body u s) b.left (λ a c k. moved_scan body roles z us a c k)
      ∙ ap (option_and_then (λ (e : Effect). map_option (λ (rest : List (Vector × Option ℕ)). (u, look t z []) ∷ rest) (scan_turns loop z us (overwritten t e.writes)))) b.same
    where
      at : (o : Option Effect) → ((e : Effect) → o ≡ Some e → Moved vars (overwritten s e.writes) (overwritten t e.writes))
          → ((a c : State) → Moved vars a c → scan_turns (record { loops = loops; body = body; roles = roles }) z us a ≡ scan_turns (record { loops = loops; body = body; roles = roles }) z us c)
          → option_and_then (λ (e : Effect). map_option (λ (rest : List (Vector × Option ℕ)). (u, look s z []) ∷ rest) (scan_turns (record { loops = loops; body = body; roles = roles }) z us (overwritten s e.writes))) o
          ≡ option_and_then (λ (e : Effect). map_option (λ (rest : List (Vector × Option ℕ)). (u, look t z []) ∷ rest) (scan_turns (record { loops = loops; body = body; roles = roles }) z us (overwritten t e.writes))) o
      at None left goes = refl
      at (Some e) left goes = λ i. map_option (λ (rest : List (Vector × Option ℕ)). (u, moved_look vars s t m z [] i) ∷ rest) (goes (overwritten s e.writes) (overwritten t e.writes) (left e refl) i)
