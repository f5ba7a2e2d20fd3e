-- A variable that a statement does not write.
use Rattle.std.specs.Prelude.{ℕ, Bool, true, false, ◌≡◌, ◌==◌, ◌&&◌, ◌||◌, List, [], ◌∷◌, ◌++◌, Option, Some, None}
use Rattle.std.specs.List.{list_any}
use Rattle.std.proofs.Common.{refl, sym, ap, ◌∙◌, cond}
use Rattle.std.proofs.lemmas.Bool.{true≢false, eqb-true, eq-eqb, or_parts}
use Rattle.std.proofs.lemmas.List.Folds.{list_any-append}
use Rattle.semantics.specs.Tree.{Variable, Plus, Minus, Literal, Bare, Object, no_exprs, Increment, Up, Down, Set, Change, Stmt, Assign, Update, If, IfElse, For, Block, Print, Items, no_items, mark, local, stmt}
use Rattle.semantics.specs.Meaning.State.{State, Slot, Outside, Empty, Holds, Write, Declared, Assigned, renewed, same_indexes, assign_at, is_there, written, overwritten}
use Rattle.semantics.specs.Meaning.Value.{both_then, operate, value, values, holds, source_value}
use Rattle.semantics.specs.Meaning.Runs.{Effect, nothing, one_write, declares, declared, assigned, incremented, turns, greatest_trip_count, run, run_items, print_text}
use Rattle.semantics.specs.Meaning.Agrees.{also, is_among, declared_in, declared_among}
use Rattle.semantics.specs.Loops.Piece.{is_outside}
use Rattle.law_commute.specs.Steady.{IsFixedStep, IsSteady, AreSteady}
use Rattle.law_commute.proofs.Effects.{Composes, IfAny, nothing_holds, some_holds, test_holds, steps_hold, turns_hold, assigned_holds, declares_holds, text_holds}
use Rattle.law_roles.proofs.Seen.{apart_back}
use Rattle.law_scans.specs.Phases.{written_in, written_among}

-- ---- writes

-- it is declared with a value; or, if that counts, without one, or assigned
abbrev pub meets : Bool → Bool → Variable → Write → Bool
meets hidden set y (Declared z None) = hidden && (z == y)
meets hidden set y (Declared z (Some v)) = z == y
meets hidden set y (Assigned z is v) = set && (z == y)

abbrev pub met : Bool → Bool → Variable → List Write → Bool
met hidden set y ws = list_any (meets hidden set y) ws

-- one of the two counts
valued_apart : (hidden set b : Bool) → (hidden || set) ≡ true → (set && b) ≡ false → (hidden && b) ≡ false → b ≡ false
valued_apart true set b one h d = d
valued_apart false true b one h d = h
valued_apart false false b one h d = absurd (true≢false (sym one))

module _ (hidden set : Bool) (one : (hidden || set) ≡ true) (y : Variable) where
  pub met_two : (ws vs : List Write) → met hidden set y ws ≡ false → met hidden set y vs ≡ false → met hidden set y (ws ++ vs) ≡ false
  met_two ws vs one two = list_any-append (meets hidden set y) ws vs ∙ ap (λ b. b || met hidden set y vs) one ∙ two

  abbrev Spares : State → Effect → Type 0
  Spares s e = met hidden set y e.writes ≡ false

  sparing : Composes Spares
  sparing = record { none = λ s. refl; two = λ s d e. met_two d.writes e.writes }

  one_spared : (w : Write) → meets hidden set y w ≡ false → met hidden set y (w ∷ []) ≡ false
  one_spared w h = ap (λ b. b || false) h

  spares_assigned : (s : State) (z : Variable) (ks : Option (List ℕ)) (o : Option ℕ) → (set && (z == y)) ≡ false → IfAny (Spares s) (assigned s z ks o)
  spares_assigned s z ks o h = assigned_holds Spares sparing s z ks o (λ is v k there. one_spared (Assigned z is v) h)

  spares_declares : (s : State) (z : Variable) (o : Option ℕ) → (z == y) ≡ false → IfAny (Spares s) (declares z o)
  spares_declares s z o h = declares_holds Spares sparing s z o (λ v. one_spared (Declared z (Some v)) h)

  -- its own variable alone
  spares_step : (F : Variable → Bool) (s : State) (z : Variable) (step : Increment) → (set && (z == y)) ≡ false → IsFixedStep F z step → IfAny (Spares s) (incremented s step)
  spares_step F s z (Up w) h f = spares_assigned s w (Some []) (both_then (operate Plus) (value s (Object w no_exprs)) (value s (Literal 1 Bare))) (ap (λ u. set && (u == y)) f ∙ h)
  spares_step F s z (Down w) h f = spares_assigned s w (Some []) (both_then (operate Minus) (value s (Object w no_exprs)) (value s (Literal 1 Bare))) (ap (λ u. set && (u == y)) f ∙ h)
  spares_step F s z (Set w e) h f = spares_assigned s w (Some []) (source_value s e) (ap (λ u. set && (u == y)) f.0 ∙ h)
  spares_step F s z (Change w op e) h f = spares_assigned s w (Some []) (both_then (operate op) (value s (Object w no_exprs)) (value s e)) (ap (λ u. set && (u == y)) f.0 ∙ h)

  both_parts : (c : Bool) (xs ys : List Variable) → (c && is_among (xs ++ ys) y) ≡ false → ((c && is_among xs y) ≡ false) × ((c && is_among ys y) ≡ false)
  both_parts true xs ys h = or_parts (is_among xs y) (is_among ys y) (sym (list_any-append (λ z. z == y) xs ys) ∙ h)
  both_parts false xs ys h = (refl, refl)

  first_part : (c : Bool) (z : Variable) (xs : List Variable) → (c && is_among (z ∷ xs) y) ≡ false → ((c && (z == y)) ≡ false) × ((c && is_among xs y) ≡ false)
  first_part true z xs h = or_parts (z == y) (is_among xs y) h
  first_part false z xs h = (refl, refl)

  mutual
    pub run_spares : (a : Stmt) (F : Variable → Bool) → IsSteady F a → (set && is_among (written_in a) y) ≡ false → (hidden && is_among (declared_in a) y) ≡ false → (s : State) → IfAny (Spares s) (run a s)
    run_spares (Assign z is e) F f h d s = spares_assigned s z (values s is) (source_value s e) (first_part set z [] h).0
    run_spares (Update z is op e) F f h d s = spares_assigned s z (values s is) (both_then (operate op) (value s (Object z is)) (value s e)) (first_part set z [] h).0
    run_spares (If c a) F f h d s = test_holds Spares sparing s (holds s c) (run a s) (Some nothing) (run_spares a F f.1 h d s) (nothing_holds Spares sparing s)
    run_spares (IfElse c a b) F f h d s =
        let ws = both_parts set (written_in a) (written_in b) h in
        let ds = both_parts hidden (declared_in a) (declared_in b) d in
        test_holds Spares sparing s (holds s c) (run a s) (run b s) (run_spares a F f.1 ws.0 ds.0 s) (run_spares b F f.2 ws.1 ds.1 s)
    run_spares (For z name start test step body) F f h d s =
        let ws = first_part set z (written_in body) h in
        let ds = first_part hidden z (declared_in body) d in
        steps_hold Spares sparing s (declared s z (Some start)) (turns greatest_trip_count (λ t. holds t test) (run body) (λ t. incremented t step)) (spares_declares s z (source_value s start) (valued_apart hidden set (z == y) one ws.0 ds.0))
        (turns_hold Spares sparing test step (run body) (λ t. spares_step (also F z) t z step ws.0 f.3) (run_spares body (also F z) f.4 ws.1 ds.1) greatest_trip_count)
    run_spares (Block items) F f h d s = items_spare items F f h d s
    run_spares (Print parts) F f h d s = text_holds Spares sparing s (print_text s parts) (λ t. refl)

    pub items_spare : (items : Items) (F : Variable → Bool) → AreSteady F items → (set && is_among (written_among items) y) ≡ false → (hidden && is_among (declared_among items) y) ≡ false → (s : State) → IfAny (Spares s) (run_items items s)
    items_spare no_items F f h d s = nothing_holds Spares sparing s
    items_spare (mark line rest) F f h d s = items_spare rest F f h d s
    items_spare (local z name None rest) F f h d s =
        let ds = first_part hidden z (declared_among rest) d in
        steps_hold Spares sparing s (declared s z None) (run_items rest) (some_holds Spares sparing s (one_write (Declared z None)) (one_spared (Declared z None) ds.0)) (items_spare rest F f.2 h ds.1)
    items_spare (local z name (Some e) rest) F f h d s =
        let ws = first_part set z (written_among rest) h in
        let ds = first_part hidden z (declared_among rest) d in
        steps_hold Spares sparing s (declared s z (Some e)) (run_items rest) (spares_declares s z (source_value s e) (valued_apart hidden set (z == y) one ws.0 ds.0)) (items_spare rest F f.2 ws.1 ds.1)
    items_spare (stmt a rest) F f h d s =
        let ws = both_parts set (written_in a) (written_among rest) h in
        let ds = both_parts hidden (declared_in a) (declared_among rest) d in
        steps_hold Spares sparing s (run a s) (run_items rest) (run_spares a F f.0 ws.0 ds.0 s) (items_spare rest F f.1 ws.1 ds.1)

-- ---- what stays as it was

module _ (y : Variable) where
  spared_cell : (w : Write) (hidden : Bool) (s : State) (is : List ℕ) → meets hidden true y w ≡ false → (written s w).cells y is ≡ s.cells y is
  spared_cell (Declared z v) hidden s is h = refl
  spared_cell (Assigned z js n) hidden s is h = at (s.locals z)
    where
      at : (k : Slot) → (assign_at k s z js n).cells y is ≡ s.cells y is
      at Outside = ap (λ b. cond (b && same_indexes is js) (renewed (s.cells y is) n) (s.cells y is)) (apart_back z y h)
      at Empty = refl
      at (Holds m) = refl

  pub spared_cells : (hidden : Bool) (ws : List Write) (s : State) (is : List ℕ) → met hidden true y ws ≡ false → (overwritten s ws).cells y is ≡ s.cells y is
  spared_cells hidden [] s is h = refl
  spared_cells hidden (w ∷ ws) s is h =
      let parts = or_parts (meets hidden true y w) (met hidden true y ws) h in
      spared_cells hidden ws (written s w) is parts.1 ∙ spared_cell w hidden s is parts.0

  assigned_slot : (s : State) (z : Variable) (is : List ℕ) (n : ℕ) → (z == y) ≡ false → (written s (Assigned z is n)).locals y ≡ s.locals y
  assigned_slot s z is n h = at (s.locals z)
    where
      at : (k : Slot) → (assign_at k s z is n).locals y ≡ s.locals y
      at Outside = refl
      at Empty = ap (λ b. cond b (Holds n) (s.locals y)) (apart_back z y h)
      at (Holds m) = ap (λ b. cond b (Holds n) (s.locals y)) (apart_back z y h)

  spared_slot : (w : Write) (s : State) → meets true true y w ≡ false → (written s w).locals y ≡ s.locals y
  spared_slot (Declared z None) s h = ap (λ b. cond b Empty (s.locals y)) (apart_back z y h)
  spared_slot (Declared z (Some v)) s h = ap (λ b. cond b (Holds v) (s.locals y)) (apart_back z y h)
  spared_slot (Assigned z is n) s h = assigned_slot s z is n h

  pub spared_local : (ws : List Write) (s : State) → met true true y ws ≡ false → (overwritten s ws).locals y ≡ s.locals y
  spared_local [] s h = refl
  spared_local (w ∷ ws) s h =
      let parts = or_parts (meets true true y w) (met true true y ws) h in
      spared_local ws (written s w) parts.1 ∙ spared_slot w s parts.0

  empty_slot : (w : Write) (s : State) → meets false true y w ≡ false → s.locals y ≡ Empty → (written s w).locals y ≡ Empty
  empty_slot (Declared z None) s h e = at (y == z)
    where
      at : (b : Bool) → cond b Empty (s.locals y) ≡ Empty
      at true = refl
      at false = e
  empty_slot (Declared z (Some v)) s h e = ap (λ b. cond b (Holds v) (s.locals y)) (apart_back z y h) ∙ e
  empty_slot (Assigned z is n) s h e = assigned_slot s z is n h ∙ e

  -- what holds nothing
  pub spared_empty : (ws : List Write) (s : State) → met false true y ws ≡ false → s.locals y ≡ Empty → (overwritten s ws).locals y ≡ Empty
  spared_empty [] s h e = e
  spared_empty (w ∷ ws) s h e =
      let parts = or_parts (meets false true y w) (met false true y ws) h in
      spared_empty ws (written s w) parts.1 (empty_slot w s parts.0 e)

  kept_kind : (w : Write) (s : State) → meets true false y w ≡ false → is_outside ((written s w).locals y) ≡ is_outside (s.locals y)
  kept_kind (Declared z None) s h = ap (λ b. is_outside (cond b Empty (s.locals y))) (apart_back z y h)
  kept_kind (Declared z (Some v)) s h = ap (λ b. is_outside (cond b (Holds v) (s.locals y))) (apart_back z y h)
  kept_kind (Assigned z is n) s h = at (z == y) refl
    where
      own : (k : Slot) → s.locals y ≡ k → is_outside ((assign_at k s y is n).locals y) ≡ is_outside k
      own Outside e = ap is_outside e
      own Empty e = ap (λ b. is_outside (cond b (Holds n) (s.locals y))) (eq-eqb y y refl)
      own (Holds m) e = ap (λ b. is_outside (cond b (Holds n) (s.locals y))) (eq-eqb y y refl)

      at : (b : Bool) → (z == y) ≡ b → is_outside ((written s (Assigned z is n)).locals y) ≡ is_outside (s.locals y)
      at true e = ap (λ x. is_outside ((written s (Assigned x is n)).locals y)) (eqb-true z y e) ∙ own (s.locals y) refl
      at false e = ap is_outside (assigned_slot s z is n e)

  -- a local stands, or none does
  pub kept_kinds : (ws : List Write) (s : State) → met true false y ws ≡ false → is_outside ((overwritten s ws).locals y) ≡ is_outside (s.locals y)
  kept_kinds [] s h = refl
  kept_kinds (w ∷ ws) s h =
      let parts = or_parts (meets true false y w) (met true false y ws) h in
      kept_kinds ws (written s w) parts.1 ∙ kept_kind w s parts.0

-- ---- an object is there, or is not

there_kept : (b : Bool) (v : ℕ) (o : Option ℕ) → is_there (cond b (renewed o v) o) ≡ is_there o
there_kept true v None = refl
there_kept true v (Some n) = refl
there_kept false v o = refl

there_written : (w : Write) (s : State) (y : Variable) (is : List ℕ) → is_there ((written s w).cells y is) ≡ is_there (s.cells y is)
there_written (Declared z v) s y is = refl
there_written (Assigned z js n) s y is = at (s.locals z)
  where
    at : (k : Slot) → is_there ((assign_at k s z js n).cells y is) ≡ is_there (s.cells y is)
    at Outside = there_kept ((y == z) && same_indexes is js) n (s.cells y is)
    at Empty = refl
    at (Holds m) = refl

pub there_stays : (ws : List Write) (s : State) (y : Variable) (is : List ℕ) → is_there ((overwritten s ws).cells y is) ≡ is_there (s.cells y is)
there_stays [] s y is = refl
there_stays (w ∷ ws) s y is = there_stays ws (written s w) y is ∙ there_written w s y is
