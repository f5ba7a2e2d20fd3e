-- The first pass: the input phase alone.
use Rattle.std.specs.Prelude.{ℕ, zero, Bool, true, false, not, ◌≡◌, ◌==◌, ◌&&◌, ◌||◌, ◌⊎◌, List, [], ◌∷◌, ◌++◌, length, Option, Some, None, IsSome, Contains, is_none}
use Rattle.std.specs.List.{AllByRecursion as Each}
use Rattle.std.proofs.Common.{refl, sym, ap, ◌∙◌, subst, cond, inl, inr}
use Rattle.std.proofs.Math.Path.{fun_ext}
use Rattle.std.proofs.lemmas.Bool.{true≢false, eqb-true, eq-eqb, or_parts, or_cases}
use Rattle.std.proofs.lemmas.List.{append-nil}
use Rattle.std.proofs.lemmas.List.Folds.{list_any-append}
use Rattle.std.proofs.lemmas.Option.{same_Some, none-some}
use Rattle.semantics.specs.Tree.{Variable, Stmt}
use Rattle.semantics.specs.Meaning.State.{State, Slot, Outside, Empty, Holds, Write, Declared, Assigned, renewed, same_indexes, assign_at, written, overwritten, look, look_in}
use Rattle.semantics.specs.Meaning.Runs.{Effect, nothing, joined, run}
use Rattle.semantics.specs.Meaning.Definite.{DefinitelyAssigned, definite, no_privates}
use Rattle.semantics.specs.Meaning.Agrees.{is_among, declared_in, names_only, visible_behind}
use Rattle.semantics.specs.Loops.Nest.{Loop, Vector, at_vector}
use Rattle.semantics.specs.Loops.Access.{Access, Mode, Writes, accesses}
use Rattle.semantics.specs.Loops.Operator.{ReduceOp, combined}
use Rattle.semantics.specs.Loops.OperatorLaw.{operators_are_lawful}
use Rattle.semantics.specs.Loops.Piece.{is_outside}
use Rattle.law_commute.specs.Steady.{IsSteady}
use Rattle.law_commute.specs.Targets.{KeepsApart, AssignsFirst}
use Rattle.law_commute.specs.Commuting.{KeepsToItself, InnerLoopsTurn, LooksAlike}
use Rattle.law_commute.proofs.Iterations.{cells_at, one_iteration}
use Rattle.law_nests.specs.Walks.{walk, entered, enters}
use Rattle.law_private.proofs.Own.{own_body, others, DeclaresNone, innermost, replaced_keeps, own_accesses, KnownInside}
use Rattle.law_private.proofs.Near.{Twin, twin_body, all_inside}
use Rattle.law_roles.specs.Updates.{operator_of, is_plain, operands}
use Rattle.law_roles.specs.Reducing.{AgreesBut, AreHeld, AreLocal, joined_with, partial_of, takes_all}
use Rattle.law_roles.specs.Following.{variables_of}
use Rattle.law_roles.proofs.Chunked.{each_at}
use Rattle.law_roles.proofs.Operands.{declared_operands, names_operands, steady_operands, accesses_operands, Less, More, definite_operands}
use Rattle.law_roles.proofs.Recorded.{Good, Clear, Untouched, TouchesAt, Ready, steps, behind, own_visible, entered_is, same_entered, kept_entered}
use Rattle.law_roles.proofs.Shifting.{go, tell}
use Rattle.law_scans.proofs.Inputs.{IsInput}
use Rattle.law_scans.proofs.Started.{own_up}
use Rattle.law_scans.proofs.Steps.{Apart, Intact, TouchedBy, IsSet, goes, near_self, dropped, drops}
use Rattle.law_scans.proofs.Phased.{beside, beside_runs, beside_declares, beside_names, beside_accesses, beside_known, beside_steady}
use Rattle.law_scans.proofs.Walking.{AllApart, split_of, walk_cons, left_cons}

-- ---- what a local's number hides does not change

cells_stay : (x : Variable) (is : List ℕ) (ws : List Write) (s : State) → is_outside (s.locals x) ≡ false → (overwritten s ws).cells x is ≡ s.cells x is
cells_stay x is [] s h = refl
cells_stay x is (w ∷ ws) s h = cells_stay x is ws (written s w) (all_inside (w ∷ []) s x h) ∙ one w
  where
    put : (z : Variable) (js : List ℕ) (n : ℕ) (c : Bool) → (x == z) ≡ c → (k : Slot) → s.locals z ≡ k → (assign_at k s z js n).cells x is ≡ s.cells x is
    put z js n true e Outside k = absurd (true≢false (sym (ap is_outside k) ∙ ap (λ y. is_outside (s.locals y)) (sym (eqb-true x z e)) ∙ h))
    put z js n false e Outside k = ap (λ b. cond (b && same_indexes is js) (renewed (s.cells x is) n) (s.cells x is)) e
    put z js n c e Empty k = refl
    put z js n c e (Holds m) k = refl

    one : (w : Write) → (written s w).cells x is ≡ s.cells x is
    one (Declared z v) = refl
    one (Assigned z js n) = put z js n (x == z) refl (s.locals z) refl

-- ---- partials one after another

abbrev pub joined_maybe : ReduceOp → Option ℕ → Option ℕ → Option ℕ
joined_maybe op p None = p
joined_maybe op p (Some n) = joined_with op p n

pub joined_is : (op : ReduceOp) (v : ℕ) (p q : Option ℕ) → combined op (combined op v p) q ≡ combined op v (joined_maybe op p q)
joined_is op v p None = refl
joined_is op v None (Some n) = refl
joined_is op v (Some m) (Some n) = (operators_are_lawful op).associative v m n

module _ (x : Variable) (op : ReduceOp) (ps : List Variable) (body input : Stmt) (keeps : KeepsApart (x ∷ ps) body) (none : DeclaresNone (x ∷ ps) body) (first : AssignsFirst ps body) (apart : is_among ps x ≡ false)
    (inp : IsInput x op ps body input) where
  abbrev rs : List (Variable × ReduceOp)
  rs = (x, op) ∷ []

  abbrev vars : List Variable
  vars = x ∷ ps

  abbrev shadow : Stmt
  shadow = beside (operands rs input) (declared_in body)

  -- ---- what stands in it

  among_same : (y : Variable) → is_among (declared_in body) y ≡ is_among (declared_in shadow) y
  among_same y =
      either (is_among (declared_in input) y) refl
      ∙ sym (list_any-append (λ z. z == y) (declared_in input) (declared_in body))
      ∙ ap (λ ds. is_among (ds ++ declared_in body) y) (sym (declared_operands rs input))
      ∙ ap (λ ds. is_among ds y) (sym (beside_declares (operands rs input) (declared_in body)))
    where
      either : (b : Bool) → is_among (declared_in input) y ≡ b → is_among (declared_in body) y ≡ (is_among (declared_in input) y || is_among (declared_in body) y)
      either true e = inp.declared y e ∙ sym (ap (λ b. b || is_among (declared_in body) y) e)
      either false e = sym (ap (λ b. b || is_among (declared_in body) y) e)

  seen_same : ◌≡◌ {A = Variable → Bool} (visible_behind body) (visible_behind shadow)
  seen_same = fun_ext (λ y. ap not (among_same y))

  pub named : names_only (visible_behind shadow) shadow ≡ true
  named =
      subst (λ (V : Variable → Bool). names_only V shadow ≡ true) seen_same
      (beside_names (operands rs input) (declared_in body) (visible_behind body) (names_operands rs input (visible_behind body) inp.names))

  abbrev F : Variable → Bool
  F y = visible_behind body y && not (is_among vars y)

  hidden : (z : Variable) → is_among (declared_in body) z ≡ true → F z ≡ false
  hidden z h = ap (λ b. not b && not (is_among vars z)) h

  keeps_apart : KeepsApart vars shadow
  keeps_apart = record {
    names = named;
    steady = subst (λ (V : Variable → Bool). IsSteady (λ y. V y && not (is_among vars y)) shadow) seen_same
        (beside_steady (operands rs input) (declared_in body) F hidden (steady_operands rs input F inp.steady));
  }

  plain_is : (y : Variable) → is_plain rs y ≡ true → (x == y) ≡ false
  plain_is y h = at (x == y) h
    where
      at : (b : Bool) → is_none (cond b (Some op) None) ≡ true → b ≡ false
      at true k = absurd (true≢false (sym k))
      at false k = refl

  is_plain_of : (y : Variable) → (x == y) ≡ false → is_plain rs y ≡ true
  is_plain_of y h = ap (λ b. is_none (cond b (Some op) None)) h

  less : Less rs (others ps) (others vars)
  less y h plain = ap (λ b. not (b || is_among ps y)) (plain_is y plain) ∙ h

  pub known : KnownInside vars shadow
  known =
      make (definite no_privates shadow (others vars)) refl
      (beside_known no_privates (operands rs input) (declared_in body) (others vars)
      (there (definite no_privates input (others ps)) (definite no_privates (operands rs input) (others vars)) (definite_operands rs no_privates input inp.updates (others ps) (others vars) less)
      inp.first))
    where
      there : (a b : Option DefinitelyAssigned) → More rs a b → IsSome a → IsSome b
      there None b m h = absurd (true≢false (sym h))
      there (Some k) None m h = absurd m
      there (Some k) (Some j) m h = refl

      make : (a : Option DefinitelyAssigned) → definite no_privates shadow (others vars) ≡ a → IsSome a → KnownInside vars shadow
      make None e h = absurd (true≢false (sym h))
      make (Some k) e h = record { known = others vars; behind = k; is = e; less = λ y j. j }

  none_shadow : DeclaresNone vars shadow
  none_shadow y h = sym (ap (λ (V : Variable → Bool). V y) seen_same) ∙ none y h

  pub keeps_own : KeepsToItself (own_body vars shadow)
  keeps_own = replaced_keeps vars shadow zero shadow (own_body vars shadow) [] innermost none_shadow keeps_apart

  there_back : (a : Access) → Contains (accesses [] (own_body vars shadow)) a → Contains (accesses [] body) a
  there_back a h =
      inp.accesses a
      (each_at (Contains (accesses [] input)) (accesses [] (operands rs input)) (accesses_operands rs [] input) a
      (subst (λ (found : List Access). Contains found a) (own_accesses vars shadow ∙ beside_accesses (operands rs input) (declared_in body)) h))

  module _ (loops : List Loop) (o : State) (not_of_loops : is_among (variables_of loops) x ≡ false) where
    abbrev Ready1 : List Vector → State → Type 0
    Ready1 us a = Ready vars shadow named known loops o keeps_own us a

    abbrev Clear1 : Vector → Vector → Type 0
    Clear1 u w = Clear vars shadow named known loops o keeps_own u w

    abbrev Good1 : Vector → Type 0
    Good1 u = Good vars shadow named known loops o keeps_own u

    abbrev Mine1 : Vector → Mode → Variable → ℕ → List ℕ → Type 0
    Mine1 u mode y j js = TouchesAt vars shadow named known loops o keeps_own u mode y j js

    touch_back : (u : Vector) (mode : Mode) (y : Variable) (j : ℕ) (js : List ℕ) → Mine1 u mode y j js → TouchedBy loops body o u mode y j js
    touch_back u mode y j js t = record { access = t.access; there = there_back t.access t.there; reaches = t.reaches; mode_is = t.mode_is }

    clear1 : (u : Vector) (us : List Vector) → Each (Apart loops body o u) us → Each (Clear1 u) us
    clear1 u [] h = tt
    clear1 u (w ∷ us) h = (λ y j js mode s t. h.0 y j js mode (touch_back u Writes y j js s) (touch_back w mode y j js t), clear1 u us h.1)

    good1 : (u : Vector) → length u ≡ length loops → InnerLoopsTurn loops body o u → Good1 u
    good1 u long turn = (long, λ access there. turn access (there_back access there))

    pub ready1 : (us : List Vector) (a : State) (v : ℕ) → IsSet x ps loops body o us a v → Ready1 us a
    ready1 us a v s = record {
      locals = λ y h free. s.locals y (seen y h) (own_visible vars shadow named known y h) free;
      scalars = λ y h. s.scalars y (seen y h) (own_visible vars shadow named known y h);
      elements = all us s.elements;
      inside = λ y h. at y (or_cases (x == y) (is_among ps y) h);
    }
      where
        seen : (y : Variable) → visible_behind (own_body vars shadow) y ≡ true → visible_behind body y ≡ true
        seen y h = ap (λ (V : Variable → Bool). V y) seen_same ∙ own_up vars shadow y h

        all : (us : List Vector) → Each (Intact loops body o a) us → Each (Untouched vars shadow named known loops o keeps_own a) us
        all [] h = tt
        all (u ∷ us) h = (λ y j js mode t. h.0 y j js mode (touch_back u mode y j js t), all us h.1)

        at : (y : Variable) → ((x == y) ≡ true) ⊎ (is_among ps y ≡ true) → is_outside (a.locals y) ≡ false
        at y (inl e) = ap (λ z. is_outside (a.locals z)) (sym (eqb-true x y e)) ∙ ap is_outside s.holds
        at y (inr h) = s.inside y h

    -- ---- an iteration

    abbrev place : Vector → State
    place u = at_vector loops u o

    abbrev behind1 : Effect → Effect
    behind1 f = behind vars shadow named known vars f

    -- what its input phase does alone, by its operands
    abbrev pub Tells : Vector → Effect → Type 0
    Tells u f = run (own_body vars shadow) (place u) ≡ Some (behind1 f)

    abbrev pub partial : Effect → Option ℕ
    partial f = partial_of op x None f.writes

    its_operator : operator_of rs x ≡ Some op
    its_operator = ap (λ b. cond b (Some op) None) (eq-eqb x x refl)

    its_own : (y : Variable) (o' : ReduceOp) → operator_of rs y ≡ Some o' → (x == y) ≡ true
    its_own y o' h = at (x == y) h
      where
        at : (b : Bool) → cond b (Some op) None ≡ Some o' → b ≡ true
        at true k = refl
        at false k = absurd (none-some o' k)

    itself : (q : State) → AgreesBut rs q q
    itself q = record { locals = λ y h. refl; cells = λ y is h. refl }

    held : (q : State) (v : ℕ) → q.locals x ≡ Holds v → AreHeld rs q
    held q v h y o' k = subst (λ z. IsSome (look q z [])) (eqb-true x y (its_own y o' k)) (subst (λ l. IsSome (look_in l q x [])) (sym h) refl)

    are_local : (q : State) (v : ℕ) → q.locals x ≡ Holds v → AreLocal rs q
    are_local q v h y o' k = subst (λ z. is_outside (q.locals z) ≡ false) (eqb-true x y (its_own y o' k)) (ap is_outside h)

    -- the input phase, by its operands
    record Inputs (q : State) (v : ℕ) (f : Effect) : Type 0 where
      effect : Effect
      is : run input q ≡ Some effect
      agrees : AgreesBut rs (overwritten q effect.writes) (overwritten q f.writes)
      value : (overwritten q effect.writes).locals x ≡ Holds (combined op v (partial f))

    inputs : (q : State) (v : ℕ) (f : Effect) → q.locals x ≡ Holds v → run (operands rs input) q ≡ Some f → Inputs q v f
    inputs q v f h is =
        let t = tell rs input q q f inp.updates (itself q) (held q v h) (are_local q v h) is in
        let seen : look (overwritten q t.effect.writes) x [] ≡ Some (combined op v (partial f)) = t.shifted x op v its_operator (ap (λ l. look_in l q x []) h) in
        record {
          effect = t.effect;
          is = t.is;
          agrees = t.agrees;
          value = at (overwritten q t.effect.writes) ((overwritten q t.effect.writes).locals x) refl (all_inside t.effect.writes q x (ap is_outside h)) seen;
        }
      where
        at : (s : State) (k : Slot) → s.locals x ≡ k → is_outside (s.locals x) ≡ false → look s x [] ≡ Some (combined op v (partial f)) → s.locals x ≡ Holds (combined op v (partial f))
        at s Outside e inside k = absurd (true≢false (sym (ap is_outside e) ∙ inside))
        at s Empty e inside k = absurd (none-some (combined op v (partial f)) (sym (ap (λ l. look_in l s x []) e) ∙ k))
        at s (Holds n) e inside k = e ∙ ap Holds (same_Some n (combined op v (partial f)) (sym (ap (λ l. look_in l s x []) e) ∙ k))

    abbrev Sound1 : Vector → Type 0
    Sound1 u = (length u ≡ length loops) × InnerLoopsTurn loops body o u

    -- in sequence, where no operand is left out
    abbrev pub Told : Vector → Type 0
    Told u = (f : Effect) × Tells u f

    told : takes_all rs ≡ true → (u : Vector) (us : List Vector) (a : State) (v : ℕ) (e : Effect) → Sound1 u → IsSet x ps loops body o (u ∷ us) a v → Each (Apart loops body o u) us → run body (at_vector loops u a) ≡ Some e
        → Told u
    told all_taken u us a v e sound set clear is =
        let q : State = at_vector loops u a in
        let holds : q.locals x ≡ Holds v = kept_entered loops u a x not_of_loops ∙ set.holds in
        let i = inp.runs q v e holds is in
        let f = there (run (operands rs input) q) (go rs input q q i.0 inp.updates all_taken (itself q) (held q v holds) (are_local q v holds) i.1) in
        let s = steps vars shadow named known loops o keeps_own u us a f.0 (good1 u sound.0 sound.1) (ready1 (u ∷ us) a v set) (clear1 u us clear) (beside_runs (operands rs input) (declared_in body) q ∙ f.1) in
        (f.0, s.own_is)
      where
        there : (o : Option Effect) → IsSome o → (f : Effect) × (o ≡ Some f)
        there None h = absurd (true≢false (sym h))
        there (Some f) h = (f, refl)

    -- alone
    same_effect : (e f : Effect) → behind1 e ≡ behind1 f → e ≡ f
    same_effect e f h = λ i. record { writes = writes i; text = text i }
      where
        bare : (g : Effect) → dropped vars (behind1 g).writes ≡ g.writes
        bare g = drops vars shadow named known vars (g.writes ++ []) ∙ append-nil g.writes

        writes : e.writes ≡ f.writes
        writes = sym (bare e) ∙ ap (λ (g : Effect). dropped vars g.writes) h ∙ bare f

        text : e.text ≡ f.text
        text = sym (append-nil e.text) ∙ ap (λ (g : Effect). g.text) h ∙ append-nil f.text

    pub record Alone (u : Vector) (us : List Vector) (t : State) (w : ℕ) (f : Effect) : Type 0 where
      pub effect : Effect
      pub is : run input (at_vector loops u t) ≡ Some effect
      pub ready : Ready1 us (overwritten (at_vector loops u t) effect.writes)
      pub value : (overwritten (at_vector loops u t) effect.writes).locals x ≡ Holds (combined op w (partial f))

    pub alone : (u : Vector) (us : List Vector) (t : State) (w : ℕ) (f : Effect) → Sound1 u → Ready1 (u ∷ us) t → t.locals x ≡ Holds w → Each (Apart loops body o u) us → Tells u f → Alone u us t w f
    alone u us t w f sound ready holds clear tells =
        let s = steps vars shadow named known loops o keeps_own u us t mine.0 (good1 u sound.0 sound.1) ready (clear1 u us clear) mine.1 in
        let same : mine.0 ≡ f = same_effect mine.0 f (same_Some (behind1 mine.0) (behind1 f) (sym s.own_is ∙ tells)) in
        let i = inputs q w f entered_holds (sym (beside_runs (operands rs input) (declared_in body) q) ∙ mine.1 ∙ ap Some same) in
        let r : Ready1 us (overwritten q f.writes) = subst (λ (g : Effect). Ready1 us (overwritten q g.writes)) same s.ready in
        record { effect = i.effect; is = i.is; ready = moved i.effect i.agrees r; value = i.value }
      where
        q : State
        q = at_vector loops u t

        entered_holds : q.locals x ≡ Holds w
        entered_holds = kept_entered loops u t x not_of_loops ∙ holds

        inside : (y : Variable) → is_among vars y ≡ true → is_outside (q.locals y) ≡ false
        inside y h = ap (λ (r : State). is_outside (r.locals y)) (sym (entered_is loops u t)) ∙ all_inside (entered loops u) t y (ready.inside y h)

        alike : LooksAlike [] (own_body vars shadow) (place u) [] q
        alike = record {
          locals = λ y h. same_entered loops u t o y sound.0 (λ free. ready.locals y h free);
          scalars = λ y h. cells_at loops u t y [] ∙ ready.scalars y h ∙ sym (cells_at loops u o y []);
          elements = λ y j js mode k. cells_at loops u t y (j ∷ js) ∙ ready.elements.0 y j js mode k ∙ sym (cells_at loops u o y (j ∷ js));
        }

        own_ran : run (own_body vars shadow) q ≡ Some (behind1 f)
        own_ran = (one_iteration [] (own_body vars shadow) (place u) [] keeps_own (good1 u sound.0 sound.1).1 q alike).same ∙ tells

        mine : (g : Effect) × (run shadow q ≡ Some g)
        mine = found (run shadow q) refl (subst (Twin vars (run shadow q)) own_ran (twin_body vars shadow (visible_behind shadow) named known q q (near_self vars q inside)))
          where
            found : (p : Option Effect) → run shadow q ≡ p → Twin vars (run shadow q) (Some (behind1 f)) → (g : Effect) × (run shadow q ≡ Some g)
            found None k h = absurd (subst (λ p. Twin vars p (Some (behind1 f))) k h)
            found (Some g) k h = (g, k)

        moved : (e : Effect) → AgreesBut rs (overwritten q e.writes) (overwritten q f.writes) → Ready1 us (overwritten q f.writes) → Ready1 us (overwritten q e.writes)
        moved e agrees r = record {
          locals = λ y h free. agrees.locals y (plain y h) ∙ r.locals y h free;
          scalars = λ y h. agrees.cells y [] (plain y h) ∙ r.scalars y h;
          elements = all us r.elements;
          inside = λ y h. all_inside e.writes q y (inside y h);
        }
          where
            plain : (y : Variable) → visible_behind (own_body vars shadow) y ≡ true → is_plain rs y ≡ true
            plain y h = is_plain_of y (or_parts (x == y) (is_among ps y) (own_visible vars shadow named known y h)).0

            cells : (y : Variable) (is : List ℕ) (b : Bool) → (x == y) ≡ b → (overwritten q e.writes).cells y is ≡ (overwritten q f.writes).cells y is
            cells y is false k = agrees.cells y is (is_plain_of y k)
            cells y is true k =
                subst (λ z. (overwritten q e.writes).cells z is ≡ (overwritten q f.writes).cells z is) (eqb-true x y k)
                (cells_stay x is e.writes q (ap is_outside entered_holds) ∙ sym (cells_stay x is f.writes q (ap is_outside entered_holds)))

            all : (vs : List Vector) → Each (Untouched vars shadow named known loops o keeps_own (overwritten q f.writes)) vs → Each (Untouched vars shadow named known loops o keeps_own (overwritten q e.writes)) vs
            all [] h = tt
            all (v ∷ vs) h = (λ y j js mode k. cells y (j ∷ js) (x == y) refl ∙ h.0 y j js mode k, all vs h.1)

    -- ---- walks

    abbrev pub AllTell : List Vector → List Effect → Type 0
    AllTell [] [] = Unit {0}
    AllTell (u ∷ us) (f ∷ fs) = Tells u f × AllTell us fs
    AllTell _ _ = ⊥

    abbrev pub joined_all : Option ℕ → List Effect → Option ℕ
    joined_all p [] = p
    joined_all p (f ∷ fs) = joined_all (joined_maybe op p (partial f)) fs

    pub record Sequence (us vs : List Vector) (a : State) (v : ℕ) (p : Option ℕ) (f : Effect) : Type 0 where
      pub operands : List Effect
      pub tells : AllTell us operands
      pub value : (overwritten a f.writes).locals x ≡ Holds (combined op v (joined_all p operands))

    set_to : (us : List Vector) (b : State) (m n : ℕ) → IsSet x ps loops body o us b m → b.locals x ≡ Holds n → IsSet x ps loops body o us b n
    set_to us b m n k h = record { locals = k.locals; scalars = k.scalars; elements = k.elements; inside = k.inside; holds = h }

    pub sequence : (us vs : List Vector) (a : State) (v : ℕ) (p : Option ℕ) (f : Effect) → Each Sound1 us → AllApart loops body o (us ++ vs)
        → IsSet x ps loops body o (us ++ vs) a (combined op v p) → Each Told us → walk loops body us a ≡ Some f → Sequence us vs a v p f
    sequence [] vs a v p f sound clear set all ran =
        subst (Sequence [] vs a v p) (same_Some nothing f ran) (record { operands = []; tells = tt; value = set.holds })
    sequence (u ∷ us) vs a v p f sound clear set all ran =
        let s = split_of loops body u us a f ran in
        let t : State = at_vector loops u a in
        let q : State = overwritten t s.one.writes in
        let one = goes x ps body keeps none first apart loops o not_of_loops u (us ++ vs) a (combined op v p) s.one sound.0.0 sound.0.1 set clear.0 s.one_is in
        let mine = alone u (us ++ vs) a (combined op v p) all.0.0 sound.0 (ready1 (u ∷ (us ++ vs)) a (combined op v p) set) set.holds clear.0 all.0.1 in
        let i = inp.runs t (combined op v p) s.one (kept_entered loops u a x not_of_loops ∙ set.holds) s.one_is in
        let same : mine.effect ≡ i.0 = same_Some mine.effect i.0 (sym mine.is ∙ i.1) in
        let p' = joined_maybe op p (partial all.0.0) in
        let next : q.locals x ≡ Holds (combined op v p') = sym i.2 ∙ ap (λ (g : Effect). (overwritten t g.writes).locals x) (sym same) ∙ mine.value ∙ ap Holds (joined_is op v p (partial all.0.0)) in
        let rest = sequence us vs q v p' s.two sound.1 clear.1 (set_to (us ++ vs) q one.next (combined op v p') one.after next) all.1 s.two_is in
        subst (Sequence (u ∷ us) vs a v p) s.whole
        (record {
          operands = all.0.0 ∷ rest.operands;
          tells = (all.0.1, rest.tells);
          value = ap (λ (z : State). z.locals x) (left_cons loops u a s.one s.two) ∙ rest.value;
        })

    -- where no operand is left out, each iteration tells
    pub all_told : takes_all rs ≡ true → (us : List Vector) (a : State) (v : ℕ) (f : Effect) → Each Sound1 us → AllApart loops body o us → IsSet x ps loops body o us a v → walk loops body us a ≡ Some f → Each Told us
    all_told taken [] a v f sound clear set ran = tt
    all_told taken (u ∷ us) a v f sound clear set ran =
        let s = split_of loops body u us a f ran in
        let one = goes x ps body keeps none first apart loops o not_of_loops u us a v s.one sound.0.0 sound.0.1 set clear.0 s.one_is in (
          told taken u us a v s.one sound.0 set clear.0 s.one_is,
          all_told taken us (overwritten (at_vector loops u a) s.one.writes) one.next s.two sound.1 clear.1 one.after s.two_is,
        )

    -- so it does where the operands have a walk
    pub walk_tells : (us : List Vector) (a : State) (f : Effect) → Each Sound1 us → AllApart loops body o us → Ready1 us a → walk loops (operands rs input) us a ≡ Some f → Each Told us
    walk_tells [] a f sound clear ready ran = tt
    walk_tells (u ∷ us) a f sound clear ready ran =
        let s = split_of loops (operands rs input) u us a f ran in
        let q : State = at_vector loops u a in
        let one = steps vars shadow named known loops o keeps_own u us a s.one (good1 u sound.0.0 sound.0.1) ready (clear1 u us clear.0) (beside_runs (operands rs input) (declared_in body) q ∙ s.one_is) in
        ((s.one, one.own_is), walk_tells us (overwritten q s.one.writes) s.two sound.1 clear.1 one.ready s.two_is)

    pub record Pass (us : List Vector) (t : State) (v : ℕ) (p : Option ℕ) (fs : List Effect) : Type 0 where
      pub effect : Effect
      pub is : walk loops input us t ≡ Some effect
      pub value : (overwritten t effect.writes).locals x ≡ Holds (combined op v (joined_all p fs))

    pub pass : (us : List Vector) (fs : List Effect) (t : State) (v : ℕ) (p : Option ℕ) → Each Sound1 us → AllApart loops body o us → AllTell us fs → Ready1 us t → t.locals x ≡ Holds (combined op v p) → Pass us t v p fs
    pass [] [] t v p sound clear tells ready holds = record { effect = nothing; is = refl; value = holds }
    pass [] (f ∷ fs) t v p sound clear tells ready holds = absurd tells
    pass (u ∷ us) [] t v p sound clear tells ready holds = absurd tells
    pass (u ∷ us) (f ∷ fs) t v p sound clear tells ready holds =
        let one = alone u us t (combined op v p) f sound.0 ready holds clear.0 tells.0 in
        let q : State = overwritten (at_vector loops u t) one.effect.writes in
        let rest = pass us fs q v (joined_maybe op p (partial f)) sound.1 clear.1 tells.1 one.ready (one.value ∙ ap Holds (joined_is op v p (partial f))) in
        record {
          effect = joined (enters loops u) (joined one.effect rest.effect);
          is = walk_cons loops input u us t one.effect rest.effect one.is rest.is;
          value = ap (λ (z : State). z.locals x) (left_cons loops u t one.effect rest.effect) ∙ rest.value;
        }
