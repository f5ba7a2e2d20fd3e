-- What iterations of a scan change of elements.
use Rattle.std.specs.Prelude.{ℕ, Bool, true, false, ◌≡◌, ◌==◌, ◌&&◌, List, [], ◌∷◌, ◌++◌, length, Option, Some}
use Rattle.std.proofs.Common.{refl, sym, ap, ◌∙◌, cond}
use Rattle.std.proofs.lemmas.Bool.{true≢false, eqb-true, eq-eqb, or_left, or_right}
use Rattle.std.proofs.lemmas.List.{append-nil}
use Rattle.semantics.specs.Tree.{Variable, Stmt}
use Rattle.semantics.specs.Meaning.State.{State, Slot, Outside, Empty, Holds, Write, Declared, Assigned, renewed, same_indexes, slot_of, with_local, assign_at, written, overwritten}
use Rattle.semantics.specs.Meaning.Runs.{Effect, run}
use Rattle.semantics.specs.Meaning.Agrees.{is_among, names_only, visible_behind}
use Rattle.semantics.specs.Loops.Nest.{Loop, Vector, at_vector}
use Rattle.semantics.specs.Loops.Access.{Mode, Writes, Touches}
use Rattle.semantics.specs.Loops.Piece.{is_outside}
use Rattle.law_commute.specs.Targets.{KeepsApart, AssignsFirst}
use Rattle.law_commute.specs.Commuting.{InnerLoopsTurn, LooksAlike, IsOwnWrite}
use Rattle.law_commute.proofs.Matched.{Matched, overwritten-append}
use Rattle.law_commute.proofs.Same.{Point}
use Rattle.law_commute.proofs.Iterations.{cells_at, one_iteration}
use Rattle.law_commute.proofs.Changes.{acted, hit, hit_touches, Changed, changed_all}
use Rattle.law_nests.specs.Walks.{entered}
use Rattle.law_private.proofs.Own.{own_body, DeclaresNone, KnownInside}
use Rattle.law_private.proofs.Near.{all_inside}
use Rattle.law_roles.specs.Following.{variables_of}
use Rattle.law_roles.proofs.Recorded.{declareds, entered_is, same_entered, kept_entered}
use Rattle.law_scans.proofs.Started.{started, named, known, keeps_own}
use Rattle.law_scans.proofs.Steps.{TouchedBy, IsSet, ready_of, good_of, touch_back, behind_at}

-- ---- the same locals stand in both

abbrev pub Kin : State → State → Type 0
Kin a b = (z : Variable) → is_outside (a.locals z) ≡ is_outside (b.locals z)

kin_local : (a b : State) (y : Variable) (k : Slot) → Kin a b → Kin (with_local a y k) (with_local b y k)
kin_local a b y k h z = at (z == y)
  where
    at : (c : Bool) → is_outside (cond c k (a.locals z)) ≡ is_outside (cond c k (b.locals z))
    at true = refl
    at false = h z

kin_written : (w : Write) (a b : State) → Kin a b → Kin (written a w) (written b w)
kin_written (Declared y v) a b h = kin_local a b y (slot_of v) h
kin_written (Assigned y is n) a b h = at (a.locals y) (b.locals y) (h y)
  where
    at : (k l : Slot) → is_outside k ≡ is_outside l → Kin (assign_at k a y is n) (assign_at l b y is n)
    at Outside Outside e = h
    at Outside Empty e = absurd (true≢false e)
    at Outside (Holds m) e = absurd (true≢false e)
    at Empty Outside e = absurd (true≢false (sym e))
    at (Holds m) Outside e = absurd (true≢false (sym e))
    at Empty Empty e = kin_local a b y (Holds n) h
    at Empty (Holds m) e = kin_local a b y (Holds n) h
    at (Holds m) Empty e = kin_local a b y (Holds n) h
    at (Holds m) (Holds j) e = kin_local a b y (Holds n) h

kin_cell : (w : Write) (a b : State) (y : Variable) (is : List ℕ) → Kin a b → a.cells y is ≡ b.cells y is → (written a w).cells y is ≡ (written b w).cells y is
kin_cell (Declared z v) a b y is h e = e
kin_cell (Assigned z js n) a b y is h e = at (a.locals z) (b.locals z) (h z)
  where
    at : (k l : Slot) → is_outside k ≡ is_outside l → (assign_at k a z js n).cells y is ≡ (assign_at l b z js n).cells y is
    at Outside Outside k = ap (λ c. cond ((y == z) && same_indexes is js) (renewed c n) c) e
    at Outside Empty k = absurd (true≢false k)
    at Outside (Holds m) k = absurd (true≢false k)
    at Empty Outside k = absurd (true≢false (sym k))
    at (Holds m) Outside k = absurd (true≢false (sym k))
    at Empty Empty k = e
    at Empty (Holds m) k = e
    at (Holds m) Empty k = e
    at (Holds m) (Holds j) k = e

-- so the same writes leave the same in an object
pub kin_cells : (ws : List Write) (a b : State) (y : Variable) (is : List ℕ) → Kin a b → a.cells y is ≡ b.cells y is → (overwritten a ws).cells y is ≡ (overwritten b ws).cells y is
kin_cells [] a b y is h e = e
kin_cells (w ∷ ws) a b y is h e = kin_cells ws (written a w) (written b w) y is (kin_written w a b h) (kin_cell w a b y is h e)

-- ---- declarations say nothing of elements

module _ (vars : List Variable) (body : Stmt) (n : names_only (visible_behind body) body ≡ true) (k : KnownInside vars body) where
  acted_declareds : (y : Variable) (js : List ℕ) (zs : List Variable) (ws : List Write) (c : Option ℕ) → acted y js (declareds vars body n k zs ++ ws) c ≡ acted y js ws c
  acted_declareds y js [] ws c = refl
  acted_declareds y js (z ∷ zs) ws c = acted_declareds y js zs ws c

  hit_declareds : (y : Variable) (js : List ℕ) (zs : List Variable) (ws : List Write) → hit y js (declareds vars body n k zs ++ ws) ≡ hit y js ws
  hit_declareds y js [] ws = refl
  hit_declareds y js (z ∷ zs) ws = hit_declareds y js zs ws

  kin_declareds : (zs : List Variable) (q b : State) → Kin q b → ((z : Variable) → is_among zs z ≡ true → is_outside (q.locals z) ≡ false) → Kin q (overwritten b (declareds vars body n k zs))
  kin_declareds [] q b h up = h
  kin_declareds (z ∷ zs) q b h up = kin_declareds zs q (with_local b z Empty) (λ y. at y (y == z) refl) (λ y j. up y (or_right (z == y) (is_among zs y) j))
    where
      at : (y : Variable) (c : Bool) → (y == z) ≡ c → is_outside (q.locals y) ≡ is_outside (cond (y == z) Empty (b.locals y))
      at y true e = up y (or_left (z == y) (is_among zs y) (eq-eqb z y (sym (eqb-true y z e)))) ∙ sym (ap (λ c. is_outside (cond c Empty (b.locals y))) e)
      at y false e = h y ∙ sym (ap (λ c. is_outside (cond c Empty (b.locals y))) e)

  cells_declareds : (zs : List Variable) (b : State) (y : Variable) (is : List ℕ) → (overwritten b (declareds vars body n k zs)).cells y is ≡ b.cells y is
  cells_declareds [] b y is = refl
  cells_declareds (z ∷ zs) b y is = cells_declareds zs (with_local b z Empty) y is

-- ---- an iteration

pub record Changes (loops : List Loop) (body : Stmt) (o : State) (u : Vector) (q : State) (e : Effect) : Type 0 where
  pub elements : (y : Variable) (j : ℕ) (js : List ℕ) → (overwritten q e.writes).cells y (j ∷ js) ≡ acted y (j ∷ js) e.writes (q.cells y (j ∷ js))
  pub wrote : (y : Variable) (j : ℕ) (js : List ℕ) → hit y (j ∷ js) e.writes ≡ true → TouchedBy loops body o u Writes y j js

module _ (x : Variable) (ps : List Variable) (body : Stmt) (keeps : KeepsApart (x ∷ ps) body) (none : DeclaresNone (x ∷ ps) body) (first : AssignsFirst ps body) (apart : is_among ps x ≡ false) (loops : List Loop) (o : State)
    (not_of_loops : is_among (variables_of loops) x ≡ false) where
  pub changes : (u : Vector) (us : List Vector) (a : State) (v : ℕ) (e : Effect) → length u ≡ length loops → InnerLoopsTurn loops body o u → IsSet x ps loops body o (u ∷ us) a v
      → run (own_body ps (started x body v)) (at_vector loops u o) ≡ Some (behind_at x ps body keeps none first apart loops o not_of_loops v e)
      → Changes loops body o u (at_vector loops u a) e
  changes u us a v e long turn set own_is =
      let left = matched.left done (matched.same ∙ own_is) in
      let change : Changed [] own place [] done.writes q (overwritten q done.writes) = changed_all [] own place [] done.writes q left.own (record { locals = alike.locals; scalars = alike.scalars }) in
      record {
        elements = λ y j js.
            kin_cells e.writes q q' y (j ∷ js) kin (sym (cells_declareds ps (started x body v) (named x ps body keeps none first apart v) (known x ps body keeps none first apart v) ps q y (j ∷ js)))
            ∙ ap (λ (t : State). t.cells y (j ∷ js)) (sym done_is) ∙ change.elements y j js ∙ done_acted y (j ∷ js) (q.cells y (j ∷ js));
        wrote = λ y j js h. touch_back x ps body keeps none first apart loops o not_of_loops v u Writes y j js (hit_touches [] own place [] y j js done.writes left.own (done_hit y (j ∷ js) ∙ h));
      }
    where
      own : Stmt
      own = own_body ps (started x body v)

      place : State
      place = at_vector loops u o

      q : State
      q = at_vector loops u a

      done : Effect
      done = behind_at x ps body keeps none first apart loops o not_of_loops v e

      holds : q.locals x ≡ Holds v
      holds = kept_entered loops u a x not_of_loops ∙ set.holds

      inside : (y : Variable) → is_among ps y ≡ true → is_outside (q.locals y) ≡ false
      inside y h = ap (λ (r : State). is_outside (r.locals y)) (sym (entered_is loops u a)) ∙ all_inside (entered loops u) a y (set.inside y h)

      alike : LooksAlike [] own place [] q
      alike =
          let ready = ready_of x ps body keeps none first apart loops o not_of_loops v v (u ∷ us) a set in
          record {
            locals = λ y h. same_entered loops u a o y long (λ free. ready.locals y h free);
            scalars = λ y h. cells_at loops u a y [] ∙ ready.scalars y h ∙ sym (cells_at loops u o y []);
            elements = λ y j js mode t. cells_at loops u a y (j ∷ js) ∙ ready.elements.0 y j js mode t ∙ sym (cells_at loops u o y (j ∷ js));
          }

      matched : Matched (IsOwnWrite [] own place []) (Point (λ y i is. (mode : Mode) × Touches [] own place [] (record { array = y; indexes = i ∷ is }) mode) (visible_behind own) (visible_behind own) place) q place (run own q) (run own place)
      matched = one_iteration [] own place [] (keeps_own x ps body keeps none first apart v) (good_of x ps body keeps none first apart loops o not_of_loops v u long turn).1 q alike

      declared_ones : List Write
      declared_ones = declareds ps (started x body v) (named x ps body keeps none first apart v) (known x ps body keeps none first apart v) ps

      q' : State
      q' = with_local (overwritten q declared_ones) x (Holds v)

      kin : Kin q q'
      kin z = at (z == x) refl
        where
          at : (c : Bool) → (z == x) ≡ c → is_outside (q.locals z) ≡ is_outside (cond (z == x) (Holds v) ((overwritten q declared_ones).locals z))
          at true k =
              ap (λ y. is_outside (q.locals y)) (eqb-true z x k) ∙ ap is_outside holds ∙ sym (ap (λ c. is_outside (cond c (Holds v) ((overwritten q declared_ones).locals z))) k)
          at false k =
              kin_declareds ps (started x body v) (named x ps body keeps none first apart v) (known x ps body keeps none first apart v) ps q q (λ y. refl) inside z
              ∙ sym (ap (λ c. is_outside (cond c (Holds v) ((overwritten q declared_ones).locals z))) k)

      done_is : overwritten q done.writes ≡ overwritten q' e.writes
      done_is =
          overwritten-append q declared_ones ((Declared x (Some v) ∷ (e.writes ++ [])) ++ [])
          ∙ ap (overwritten (overwritten q declared_ones)) (append-nil (Declared x (Some v) ∷ (e.writes ++ []))) ∙ ap (overwritten q') (append-nil e.writes)

      done_acted : (y : Variable) (js : List ℕ) (c : Option ℕ) → acted y js done.writes c ≡ acted y js e.writes c
      done_acted y js c =
          acted_declareds ps (started x body v) (named x ps body keeps none first apart v) (known x ps body keeps none first apart v) y js ps ((Declared x (Some v) ∷ (e.writes ++ [])) ++ []) c
          ∙ ap (λ ws. acted y js ws c) (append-nil (Declared x (Some v) ∷ (e.writes ++ []))) ∙ ap (λ ws. acted y js ws c) (append-nil e.writes)

      done_hit : (y : Variable) (js : List ℕ) → hit y js done.writes ≡ hit y js e.writes
      done_hit y js =
          hit_declareds ps (started x body v) (named x ps body keeps none first apart v) (known x ps body keeps none first apart v) y js ps ((Declared x (Some v) ∷ (e.writes ++ [])) ++ [])
          ∙ ap (hit y js) (append-nil (Declared x (Some v) ∷ (e.writes ++ []))) ∙ ap (hit y js) (append-nil e.writes)
