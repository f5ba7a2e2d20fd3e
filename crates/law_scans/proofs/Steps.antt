-- One iteration, from any state in which the scan variable holds the same.
use Rattle.std.specs.Prelude.{ℕ, zero, Bool, true, false, not, ◌≡◌, ◌==◌, ◌&&◌, ◌||◌, List, [], ◌∷◌, ◌++◌, length, Option, Some, None, IsSome, Contains}
use Rattle.std.specs.List.{AllByRecursion as Each}
use Rattle.std.proofs.Common.{refl, sym, ap, ◌∙◌, subst, cond}
use Rattle.std.proofs.lemmas.Bool.{true≢false, eqb-true, eq-eqb, or_parts}
use Rattle.std.proofs.lemmas.List.{append-nil}
use Rattle.std.proofs.lemmas.Option.{same_Some}
use Rattle.semantics.specs.Tree.{Variable, Stmt}
use Rattle.semantics.specs.Meaning.State.{State, Slot, Outside, Empty, Holds, Write, Declared, Assigned, slot_of, with_local, assign_at, written, overwritten, look, look_in}
use Rattle.semantics.specs.Meaning.Value.{map_option}
use Rattle.semantics.specs.Meaning.Runs.{Effect, nothing, joined, then_from, run}
use Rattle.semantics.specs.Meaning.Agrees.{is_among, names_only, visible_behind}
use Rattle.semantics.specs.Loops.Nest.{Loop, Vector, at_vector}
use Rattle.semantics.specs.Loops.Access.{Access, Mode, Writes, Touches, accesses}
use Rattle.semantics.specs.Loops.Piece.{is_outside}
use Rattle.law_commute.specs.Targets.{KeepsApart, AssignsFirst}
use Rattle.law_commute.specs.Commuting.{InnerLoopsTurn, LooksAlike}
use Rattle.law_commute.proofs.Iterations.{cells_at, one_iteration}
use Rattle.law_nests.specs.Walks.{walk, entered, enters}
use Rattle.law_private.proofs.Own.{own_body, DeclaresNone, KnownInside}
use Rattle.law_private.proofs.Near.{Near, Twin, twin_body, all_inside}
use Rattle.law_roles.specs.Following.{variables_of}
use Rattle.law_roles.proofs.Recorded.{Good, Clear, Untouched, TouchesAt, Ready, steps, behind, declareds, own_visible, entered_is, same_entered, kept_entered}
use Rattle.law_starts.proofs.Holding.{walks_keep}
use Rattle.law_scans.proofs.Started.{started, started_visible, named, known, keeps_own, same_accesses, begun, same_state, started_runs, own_up, own_down}

-- an element that an iteration touches
abbrev pub TouchedBy : List Loop → Stmt → State → Vector → Mode → Variable → ℕ → List ℕ → Type 0
TouchedBy loops body o u mode y j js = Touches loops body o u (record { array = y; indexes = j ∷ js }) mode

-- what the first writes the second does not touch
abbrev pub Apart : List Loop → Stmt → State → Vector → Vector → Type 0
Apart loops body o u v = (y : Variable) (j : ℕ) (js : List ℕ) (mode : Mode) → TouchedBy loops body o u Writes y j js → TouchedBy loops body o v mode y j js → ⊥

-- what an iteration touches is as before the loop
abbrev pub Intact : List Loop → Stmt → State → State → Vector → Type 0
Intact loops body o a u = (y : Variable) (j : ℕ) (js : List ℕ) (mode : Mode) → TouchedBy loops body o u mode y j js → a.cells y (j ∷ js) ≡ o.cells y (j ∷ js)

-- a state before these iterations, with this number in the scan variable
pub record IsSet (x : Variable) (ps : List Variable) (loops : List Loop) (body : Stmt) (o : State) (us : List Vector) (a : State) (v : ℕ) : Type 0 where
  pub locals : (y : Variable) → visible_behind body y ≡ true → is_among (x ∷ ps) y ≡ false → is_among (variables_of loops) y ≡ false → a.locals y ≡ o.locals y
  pub scalars : (y : Variable) → visible_behind body y ≡ true → is_among (x ∷ ps) y ≡ false → a.cells y [] ≡ o.cells y []
  pub elements : Each (Intact loops body o a) us
  pub inside : (y : Variable) → is_among ps y ≡ true → is_outside (a.locals y) ≡ false
  pub holds : a.locals x ≡ Holds v

-- ---- the same writes to one variable

pub same_slot : (x : Variable) (ws : List Write) (a b : State) → a.locals x ≡ b.locals x → (overwritten a ws).locals x ≡ (overwritten b ws).locals x
same_slot x [] a b h = h
same_slot x (w ∷ ws) a b h = same_slot x ws (written a w) (written b w) (one w)
  where
    set : (z : Variable) (k : Slot) → (with_local a z k).locals x ≡ (with_local b z k).locals x
    set z k = ap (cond (x == z) k) h

    put : (z : Variable) (is : List ℕ) (n : ℕ) (c : Bool) → (x == z) ≡ c → (assign_at (a.locals z) a z is n).locals x ≡ (assign_at (b.locals z) b z is n).locals x
    put z is n true e =
        let here : a.locals z ≡ b.locals z = subst (λ y. a.locals y ≡ b.locals y) (eqb-true x z e) h in
        ap (λ k. (assign_at k a z is n).locals x) here ∙ at (b.locals z)
      where
        at : (k : Slot) → (assign_at k a z is n).locals x ≡ (assign_at k b z is n).locals x
        at Outside = h
        at Empty = set z (Holds n)
        at (Holds m) = set z (Holds n)
    put z is n false e = still (a.locals z) a ∙ h ∙ sym (still (b.locals z) b)
      where
        still : (k : Slot) (s : State) → (assign_at k s z is n).locals x ≡ s.locals x
        still Outside s = refl
        still Empty s = ap (λ c. cond c (Holds n) (s.locals x)) e
        still (Holds m) s = ap (λ c. cond c (Holds n) (s.locals x)) e

    one : (w : Write) → (written a w).locals x ≡ (written b w).locals x
    one (Declared z v) = set z (slot_of v)
    one (Assigned z is n) = put z is n (x == z) refl

-- as many writes fewer
abbrev pub dropped : List Variable → List Write → List Write
dropped [] ws = ws
dropped (z ∷ zs) [] = []
dropped (z ∷ zs) (w ∷ ws) = dropped zs ws

abbrev pub dropped_one : List Write → List Write
dropped_one [] = []
dropped_one (w ∷ ws) = ws

pub drops : (vars : List Variable) (body : Stmt) (named : names_only (visible_behind body) body ≡ true) (known : KnownInside vars body) (zs : List Variable) (ws : List Write) → dropped zs (declareds vars body named known zs ++ ws) ≡ ws
drops vars body k j [] ws = refl
drops vars body k j (z ∷ zs) ws = drops vars body k j zs ws

pub near_self : (xs : List Variable) (q : State) → ((y : Variable) → is_among xs y ≡ true → is_outside (q.locals y) ≡ false) → Near xs q q
near_self xs q h = record { agrees = record { cells = λ x is. refl; kinds = λ x k. refl; values = λ x k. refl }; inside = h }

holds_same : (v w : ℕ) → Holds v ≡ Holds w → v ≡ w
holds_same v w e = ap number e
  where
    number : Slot → ℕ
    number (Holds n) = n
    number Outside = 0
    number Empty = 0

-- a number is left in a local that held one
pub number_left : (x : Variable) (a : Stmt) (q : State) (v : ℕ) (e : Effect) → visible_behind a x ≡ true → q.locals x ≡ Holds v → run a q ≡ Some e → (n : ℕ) × ((overwritten q e.writes).locals x ≡ Holds n)
number_left x a q v e seen h is = at ((overwritten q e.writes).locals x) refl inside held
  where
    inside : is_outside ((overwritten q e.writes).locals x) ≡ false
    inside = all_inside e.writes q x (ap is_outside h)

    walked : walk [] a ([] ∷ []) q ≡ Some (joined (enters [] []) (joined e nothing))
    walked = ap (λ o. map_option (joined (enters [] [])) (then_from q o (walk [] a []))) is

    held : IsSome (look (overwritten q e.writes) x [])
    held =
        subst (λ ws. IsSome (look (overwritten q ws) x [])) (append-nil e.writes)
        (walks_keep zero a [] a ([] ∷ []) q (joined (enters [] []) (joined e nothing)) x refl seen walked
        (subst (λ k. IsSome (look_in k q x [])) (sym h) refl))

    at : (k : Slot) → (overwritten q e.writes).locals x ≡ k → is_outside ((overwritten q e.writes).locals x) ≡ false → IsSome (look (overwritten q e.writes) x [])
        → (n : ℕ) × ((overwritten q e.writes).locals x ≡ Holds n)
    at Outside k i j = absurd (true≢false (sym (ap is_outside k) ∙ i))
    at Empty k i j = absurd (true≢false (sym (subst (λ l. IsSome (look_in l (overwritten q e.writes) x [])) k j)))
    at (Holds n) k i j = (n, k)

module _ (x : Variable) (ps : List Variable) (body : Stmt) (keeps : KeepsApart (x ∷ ps) body) (none : DeclaresNone (x ∷ ps) body) (first : AssignsFirst ps body) (apart : is_among ps x ≡ false) (loops : List Loop) (o : State)
    (not_of_loops : is_among (variables_of loops) x ≡ false) where
  abbrev from : ℕ → Stmt
  from v = started x body v

  abbrev ReadyAt : ℕ → List Vector → State → Type 0
  ReadyAt v us a = Ready ps (from v) (named x ps body keeps none first apart v) (known x ps body keeps none first apart v) loops o (keeps_own x ps body keeps none first apart v) us a

  abbrev GoodAt : ℕ → Vector → Type 0
  GoodAt v u = Good ps (from v) (named x ps body keeps none first apart v) (known x ps body keeps none first apart v) loops o (keeps_own x ps body keeps none first apart v) u

  abbrev ClearAt : ℕ → Vector → Vector → Type 0
  ClearAt v u w = Clear ps (from v) (named x ps body keeps none first apart v) (known x ps body keeps none first apart v) loops o (keeps_own x ps body keeps none first apart v) u w

  abbrev UntouchedAt : ℕ → State → Vector → Type 0
  UntouchedAt v a u = Untouched ps (from v) (named x ps body keeps none first apart v) (known x ps body keeps none first apart v) loops o (keeps_own x ps body keeps none first apart v) a u

  abbrev MineAt : ℕ → Vector → Mode → Variable → ℕ → List ℕ → Type 0
  MineAt v u mode y j js = TouchesAt ps (from v) (named x ps body keeps none first apart v) (known x ps body keeps none first apart v) loops o (keeps_own x ps body keeps none first apart v) u mode y j js

  -- ---- touches

  there_back : (v : ℕ) (a : Access) → Contains (accesses [] (own_body ps (from v))) a → Contains (accesses [] body) a
  there_back v a h = subst (λ (found : List Access). Contains found a) (same_accesses x ps body keeps none first apart v) h

  there_forth : (v : ℕ) (a : Access) → Contains (accesses [] body) a → Contains (accesses [] (own_body ps (from v))) a
  there_forth v a h = subst (λ (found : List Access). Contains found a) (sym (same_accesses x ps body keeps none first apart v)) h

  pub touch_back : (v : ℕ) (u : Vector) (mode : Mode) (y : Variable) (j : ℕ) (js : List ℕ) → MineAt v u mode y j js → TouchedBy loops body o u mode y j js
  touch_back v u mode y j js t = record { access = t.access; there = there_back v t.access t.there; reaches = t.reaches; mode_is = t.mode_is }

  touch_forth : (v : ℕ) (u : Vector) (mode : Mode) (y : Variable) (j : ℕ) (js : List ℕ) → TouchedBy loops body o u mode y j js → MineAt v u mode y j js
  touch_forth v u mode y j js t = record { access = t.access; there = there_forth v t.access t.there; reaches = t.reaches; mode_is = t.mode_is }

  -- ---- states

  seen_own : (v : ℕ) (y : Variable) → visible_behind (own_body ps (from v)) y ≡ true → (visible_behind body y ≡ true) × (is_among (x ∷ ps) y ≡ false)
  seen_own v y h = at (x == y) refl
    where
      free : is_among ps y ≡ false
      free = own_visible ps (from v) (named x ps body keeps none first apart v) (known x ps body keeps none first apart v) y h

      up : visible_behind (from v) y ≡ true
      up = own_up ps (from v) y h

      at : (b : Bool) → (x == y) ≡ b → (visible_behind body y ≡ true) × (is_among (x ∷ ps) y ≡ false)
      at true e = absurd (true≢false (sym up ∙ started_visible x ps body keeps none first apart v y ∙ ap (λ b. not b && visible_behind body y) e))
      at false e = (ap (λ b. not b && visible_behind body y) (sym e) ∙ sym (started_visible x ps body keeps none first apart v y) ∙ up, ap (λ b. b || is_among ps y) e ∙ free)

  pub ready_of : (w v : ℕ) (us : List Vector) (a : State) → IsSet x ps loops body o us a v → ReadyAt w us a
  ready_of w v us a s = record {
    locals = λ y h free. let k = seen_own w y h in s.locals y k.0 k.1 free;
    scalars = λ y h. let k = seen_own w y h in s.scalars y k.0 k.1;
    elements = all us s.elements;
    inside = s.inside;
  }
    where
      all : (us : List Vector) → Each (Intact loops body o a) us → Each (UntouchedAt w a) us
      all [] h = tt
      all (u ∷ us) h = (λ y j js mode t. h.0 y j js mode (touch_back w u mode y j js t), all us h.1)

  clear_of : (v : ℕ) (u : Vector) (us : List Vector) → Each (Apart loops body o u) us → Each (ClearAt v u) us
  clear_of v u [] h = tt
  clear_of v u (w ∷ us) h = (λ y j js mode s t. h.0 y j js mode (touch_back v u Writes y j js s) (touch_back v w mode y j js t), clear_of v u us h.1)

  pub good_of : (v : ℕ) (u : Vector) → length u ≡ length loops → InnerLoopsTurn loops body o u → GoodAt v u
  good_of v u long turn = (long, λ access there. turn access (there_back v access there))

  set_of : (v w : ℕ) (us : List Vector) (b : State) → ReadyAt v us b → b.locals x ≡ Holds w → IsSet x ps loops body o us b w
  set_of v w us b r h = record {
    locals = λ y seen other free. r.locals y (seen_back y seen other) free;
    scalars = λ y seen other. r.scalars y (seen_back y seen other);
    elements = all us r.elements;
    inside = r.inside;
    holds = h;
  }
    where
      seen_back : (y : Variable) → visible_behind body y ≡ true → is_among (x ∷ ps) y ≡ false → visible_behind (own_body ps (from v)) y ≡ true
      seen_back y seen other =
          let parts = or_parts (x == y) (is_among ps y) other in
          own_down ps (from v) y (started_visible x ps body keeps none first apart v y ∙ ap (λ b. not b && visible_behind body y) parts.0 ∙ seen) parts.1

      all : (us : List Vector) → Each (UntouchedAt v b) us → Each (Intact loops body o b) us
      all [] k = tt
      all (u ∷ us) k = (λ y j js mode t. k.0 y j js mode (touch_forth v u mode y j js t), all us k.1)

  -- ---- an iteration

  abbrev pub behind_at : ℕ → Effect → Effect
  behind_at v e = behind ps (from v) (named x ps body keeps none first apart v) (known x ps body keeps none first apart v) ps (begun x body v e)

  pub record Goes (u : Vector) (us : List Vector) (a : State) (v : ℕ) (e : Effect) : Type 0 where
    pub own_is : run (own_body ps (from v)) (at_vector loops u o) ≡ Some (behind_at v e)
    pub next : ℕ
    pub after : IsSet x ps loops body o us (overwritten (at_vector loops u a) e.writes) next

  pub goes : (u : Vector) (us : List Vector) (a : State) (v : ℕ) (e : Effect) → length u ≡ length loops → InnerLoopsTurn loops body o u → IsSet x ps loops body o (u ∷ us) a v → Each (Apart loops body o u) us
      → run body (at_vector loops u a) ≡ Some e → Goes u us a v e
  goes u us a v e long turn set clear is =
      let q : State = at_vector loops u a in
      let holds : q.locals x ≡ Holds v = kept_entered loops u a x not_of_loops ∙ set.holds in
      let s = steps ps (from v) (named x ps body keeps none first apart v) (known x ps body keeps none first apart v) loops o (keeps_own x ps body keeps none first apart v) u us a (begun x body v e) (good_of v u long turn)
      (ready_of v v (u ∷ us) a set) (clear_of v u us clear) (started_runs x body v q holds ∙ ap (map_option (begun x body v)) is) in
      let left : overwritten q (begun x body v e).writes ≡ overwritten q e.writes = λ i. overwritten (same_state x body v q holds i) (append-nil e.writes i) in
      let n = number_left x body q v e (none x (ap (λ b. b || is_among ps x) (eq-eqb x x refl))) holds is in
      record { own_is = s.own_is; next = n.0; after = set_of v n.0 us (overwritten q e.writes) (subst (ReadyAt v us) left s.ready) n.1 }

  -- ---- from another state

  same_effect : (v : ℕ) (e f : Effect) → behind_at v e ≡ behind_at v f → e ≡ f
  same_effect v e f h = λ i. record { writes = writes i; text = text i }
    where
      bare : (g : Effect) → dropped_one (dropped ps (behind_at v g).writes) ≡ g.writes
      bare g =
          ap dropped_one (drops ps (from v) (named x ps body keeps none first apart v) (known x ps body keeps none first apart v) ps ((begun x body v g).writes ++ []))
          ∙ append-nil (g.writes ++ []) ∙ append-nil g.writes

      writes : e.writes ≡ f.writes
      writes = sym (bare e) ∙ ap (λ (g : Effect). dropped_one (dropped ps g.writes)) h ∙ bare f

      plain : (g : Effect) → (behind_at v g).text ≡ g.text
      plain g = append-nil (g.text ++ []) ∙ append-nil g.text

      text : e.text ≡ f.text
      text = sym (plain e) ∙ ap (λ (g : Effect). g.text) h ∙ plain f

  abbrev place : Vector → State
  place u = at_vector loops u o

  -- the body has a run where one with these as its own has one
  runs_back : (v : ℕ) (q : State) (d : Effect) → q.locals x ≡ Holds v → ((y : Variable) → is_among ps y ≡ true → is_outside (q.locals y) ≡ false) → run (own_body ps (from v)) q ≡ Some d
      → (e : Effect) × (run body q ≡ Some e)
  runs_back v q d h inside is = inner (run body q) refl (outer (run (from v) q) (subst (Twin ps (run (from v) q)) is (twin_body ps (from v) (visible_behind (from v)) (named x ps body keeps none first apart v) (known x ps body keeps none first apart v) q q (near_self ps q inside))))
    where
      outer : (p : Option Effect) → Twin ps p (Some d) → IsSome p
      outer None t = absurd t
      outer (Some e) t = refl

      inner : (p : Option Effect) → run body q ≡ p → IsSome (run (from v) q) → (e : Effect) × (run body q ≡ Some e)
      inner None k there = absurd (true≢false (sym (subst (λ o. IsSome (map_option (begun x body v) o)) k (subst (λ o. IsSome o) (started_runs x body v q h) there))))
      inner (Some e) k there = (e, k)

  abbrev pub Sound : Vector → Type 0
  Sound u = (length u ≡ length loops) × InnerLoopsTurn loops body o u

  pub goes_too : (u : Vector) (us : List Vector) (b : State) (v : ℕ) (e : Effect) → length u ≡ length loops → InnerLoopsTurn loops body o u → IsSet x ps loops body o (u ∷ us) b v → Each (Apart loops body o u) us
      → run (own_body ps (from v)) (place u) ≡ Some (behind_at v e) → run body (at_vector loops u b) ≡ Some e
  goes_too u us b v e long turn set clear own_is =
      let q : State = at_vector loops u b in
      let holds : q.locals x ≡ Holds v = kept_entered loops u b x not_of_loops ∙ set.holds in
      let ready = ready_of v v (u ∷ us) b set in
      let alike : LooksAlike [] (own_body ps (from v)) (place u) [] q = record {
        locals = λ y h. same_entered loops u b o y long (λ free. ready.locals y h free);
        scalars = λ y h. cells_at loops u b y [] ∙ ready.scalars y h ∙ sym (cells_at loops u o y []);
        elements = λ y j js mode t. cells_at loops u b y (j ∷ js) ∙ ready.elements.0 y j js mode t ∙ sym (cells_at loops u o y (j ∷ js));
      } in
      let matched = one_iteration [] (own_body ps (from v)) (place u) [] (keeps_own x ps body keeps none first apart v) (good_of v u long turn).1 q alike in
      let found = runs_back v q (behind_at v e) holds (λ y h. ap (λ (r : State). is_outside (r.locals y)) (sym (entered_is loops u b)) ∙ all_inside (entered loops u) b y (set.inside y h)) (matched.same ∙ own_is) in
      let mine = goes u us b v found.0 long turn set clear found.1 in
      found.1 ∙ ap Some (same_effect v found.0 e (same_Some (behind_at v found.0) (behind_at v e) (sym mine.own_is ∙ own_is)))
