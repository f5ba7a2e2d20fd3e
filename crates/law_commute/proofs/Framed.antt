-- An iteration does the same from two states that look alike to it, and writes only what it touches.
use Rattle.std.specs.Prelude.{ℕ, zero, suc, Bool, true, false, ◌≡◌, ◌==◌, ◌&&◌, ◌||◌, List, [], ◌∷◌, ◌++◌, Option, Some, None, Contains, IsSome}
use Rattle.std.proofs.Common.{refl, sym, ap, ◌∙◌, subst, cond}
use Rattle.std.proofs.lemmas.Bool.{eq-eqb}
use Rattle.std.specs.List.{AllByRecursion as Each}
use Rattle.semantics.specs.Tree.{Variable, Name, Plus, Minus, Object, Exprs, no_exprs, more_exprs, Cond, Source, Increment, Up, Down, Set, Change, Stmt, Assign, Update, If, IfElse, For, Block, Print, Items, no_items, mark, local, stmt}
use Rattle.semantics.specs.Meaning.State.{State, Slot, Outside, Empty, Holds, Write, Declared, Assigned, with_local, with_cell, assign_at, written, overwritten, look, look_in, is_object, is_object_in, is_there}
use Rattle.semantics.specs.Meaning.Value.{value, values, holds, source_value, both_then, map_option, operate}
use Rattle.semantics.specs.Meaning.Runs.{Effect, nothing, one_write, then_from, declares, declared, assigned, incremented, print_text, turns, greatest_trip_count, run, run_items}
use Rattle.semantics.specs.Meaning.Agrees.{also, visible_behind, names_expr, names_exprs, names_cond, names_source, names_start, names_step, names_only, names_items}
use Rattle.semantics.specs.Loops.Nest.{Loop, Vector, at_value, iterations, at_vector}
use Rattle.semantics.specs.Loops.Access.{Access, Mode, Writes, named, expr_accesses, cond_accesses, source_accesses, start_accesses, accesses, items_accesses, Touches}
use Rattle.semantics.proofs.NestLaw.{local_same, local_twice}
use Rattle.law_commute.specs.Steady.{IsFixedCond, IsFixedSource, IsFixedStep, AreFixed, IsSteadyStart, IsSteadyTarget, IsSteady, AreSteady}
use Rattle.law_commute.specs.Commuting.{InnerLoopsTurn, IsOwnWrite}
use Rattle.law_commute.proofs.Same.{SameVariable, look_same, is_object_same, also_other, also_more, Point, point_less, point_declared, point_counted, point_stepped, point_behind, point_element, point_assigned}
use Rattle.law_commute.proofs.Lists.{each_left, each_right, contains_among}
use Rattle.law_commute.proofs.Values.{first_of, second_of, fixed_holds, fixed_source, fixed_value, fixed_values, not_no_indexes, object_same, steady_value, steady_holds, steady_source, steady_parts}
use Rattle.law_commute.proofs.Paths.{Visits, now, later, Path, path_among, path_more, at_vector_more}
use Rattle.law_commute.proofs.Matched.{Matched, matched_none, matched_some, matched_nothing, matched_write, matched_like, matched_test, matched_weaker, matched_then}

some_there : {A : Type 0} (o : Option A) → IsSome o → (a : A) × (o ≡ Some a)
some_there None h = absurd cc
some_there (Some a) h = (a, refl)

-- what a step gives its variable
abbrev pub step_number : State → Increment → Option ℕ
step_number s (Up x) = both_then (operate Plus) (look s x []) (Some 1)
step_number s (Down x) = both_then (operate Minus) (look s x []) (Some 1)
step_number s (Set x e) = source_value s e
step_number s (Change x op e) = both_then (operate op) (look s x []) (value s e)

abbrev pub number_to : Variable → Option ℕ → Option Effect
number_to x o = map_option (λ n. one_write (Assigned x [] n)) o

to_local : (s : State) (x : Variable) (v : ℕ) → s.locals x ≡ Holds v → (o : Option ℕ) → assigned s x (Some []) o ≡ number_to x o
to_local s x v e None = refl
to_local s x v e (Some n) = ap (λ k. cond (is_object_in k s x []) (Some (one_write (Assigned x [] n))) None) e

to_own : (s : State) (x y : Variable) (v : ℕ) → s.locals x ≡ Holds v → y ≡ x → (o : Option ℕ) → assigned s y (Some []) o ≡ number_to x o
to_own s x y v e same o = ap (λ z. assigned s z (Some []) o) same ∙ to_local s x v e o

pub step_is : (F : Variable → Bool) (s : State) (x : Variable) (v : ℕ) (step : Increment) → s.locals x ≡ Holds v → IsFixedStep F x step → incremented s step ≡ number_to x (step_number s step)
step_is F s x v (Up y) e h = to_own s x y v e h (step_number s (Up y))
step_is F s x v (Down y) e h = to_own s x y v e h (step_number s (Down y))
step_is F s x v (Set y a) e h = to_own s x y v e h.0 (step_number s (Set y a))
step_is F s x v (Change y op a) e h = to_own s x y v e h.0 (step_number s (Change y op a))

module _ (F : Variable → Bool) (s t : State) (same : (y : Variable) → F y ≡ true → SameVariable y s t) (x : Variable) (there : F x ≡ true) where
  own_look : (y : Variable) → y ≡ x → look s y [] ≡ look t y []
  own_look y e = look_same y s t (same y (ap F e ∙ there))

  pub step_same : (step : Increment) → IsFixedStep F x step → step_number s step ≡ step_number t step
  step_same (Up y) h = ap (λ o. both_then (operate Plus) o (Some 1)) (own_look y h)
  step_same (Down y) h = ap (λ o. both_then (operate Minus) o (Some 1)) (own_look y h)
  step_same (Set y a) h = fixed_source F s t same a h.1
  step_same (Change y op a) h = λ i. both_then (operate op) (own_look y h.0 i) (fixed_value F s t same a h.1 i)

pub also_itself : (V : Variable → Bool) (x : Variable) → also V x x ≡ true
also_itself V x = ap (λ b. b || V x) (eq-eqb x x refl)

pub true_not_false : (b : Bool) → b ≡ true → b ≡ false → ⊥
true_not_false true e h = absurd cc
true_not_false false e h = absurd cc

module _ (loops : List Loop) (whole : Stmt) (outer : State) (u : Vector) (turn : InnerLoopsTurn loops whole outer u) where
  abbrev seen : Variable → Bool
  seen = visible_behind whole

  abbrev base : State
  base = at_vector loops u outer

  abbrev Q : Access → Type 0
  Q a = Contains (accesses [] whole) a

  abbrev TouchesBy : Mode → Variable → ℕ → List ℕ → Type 0
  TouchesBy mode x i is = Touches loops whole outer u (record { array = x; indexes = i ∷ is }) mode

  abbrev T : Variable → ℕ → List ℕ → Type 0
  T x i is = (mode : Mode) × TouchesBy mode x i is

  abbrev Own : Write → Type 0
  Own = IsOwnWrite loops whole outer u

  -- a turn of the loops round a place
  pub record Spot (inner : List Loop) (m : State) : Type 0 where
    pub vector : Vector
    pub path : Path inner vector base
    pub is : m ≡ at_vector inner vector base

  reach : (inner : List Loop) (m : State) → Spot inner m → (x : Variable) (is : Exprs) (mode : Mode) → Q (record { array = x; subscripts = is; mode = mode; inner = inner }) → (j : ℕ) (js : List ℕ) → values m is ≡ Some (j ∷ js) → TouchesBy mode x j js
  reach inner m spot x is mode q j js e =
      let a : Access = record { array = x; subscripts = is; mode = mode; inner = inner } in
      let ts = some_there (iterations inner base) (turn a q) in
      record {
        access = a;
        there = q;
        reaches = record {
          turns = ts.0;
          are = ts.1;
          turn = spot.vector;
          among = contains_among ts.0 spot.vector (path_among inner spot.vector base ts.0 spot.path ts.1);
          array = refl;
          indexes = ap (λ s. values s is) (sym spot.is) ∙ e;
        };
        mode_is = refl;
      }

  -- what is fixed at a place
  pub record Fixed (F : Variable → Bool) (m : State) : Type 0 where
    pub wide : (y : Variable) → seen y ≡ true → F y ≡ true
    pub arrays : (y : Variable) → F y ≡ true → m.locals y ≡ Outside → (seen y ≡ true) × (outer.locals y ≡ Outside)

  unseen : (F : Variable → Bool) (m : State) → Fixed F m → (x : Variable) → F x ≡ false → seen x ≡ false
  unseen F m f x h = at (seen x) refl
    where
      at : (b : Bool) → seen x ≡ b → seen x ≡ false
      at true e = absurd (true_not_false (F x) (f.wide x e) h)
      at false e = e

  fixed_inside : (F : Variable → Bool) (m : State) (x : Variable) (v : ℕ) → Fixed F m → Fixed (also F x) (at_value m x v)
  fixed_inside F m x v f = record { wide = λ y h. also_more F x y (f.wide y h); arrays = λ y h o. at y h o (y == x) refl }
    where
      at : (y : Variable) → also F x y ≡ true → (at_value m x v).locals y ≡ Outside → (b : Bool) → (y == x) ≡ b → (seen y ≡ true) × (outer.locals y ≡ Outside)
      at y h o true e = let q : Holds v ≡ Outside = sym (ap (λ b. cond b (Holds v) (m.locals y)) e) ∙ o in absurd cc
      at y h o false e = f.arrays y (also_other F x y h e) (sym (ap (λ b. cond b (Holds v) (m.locals y)) e) ∙ o)

  -- at a place of the body
  module _ (inner : List Loop) (F K : Variable → Bool) (m : State) (spot : Spot inner m) (fixed : Fixed F m) where
    abbrev Here : State → State → Type 0
    Here s t = Point T F K m s t

    module _ (r r' : State) (p : Point T F K m r r') where
      touched : (x : Variable) (is : Exprs) (mode : Mode) → Q (record { array = x; subscripts = is; mode = mode; inner = inner }) → (j : ℕ) (js : List ℕ) → values m is ≡ Some (j ∷ js) → T x j js
      touched x is mode q j js e = (mode, reach inner m spot x is mode q j js e)

      write_if : (b b' : Bool) (w : Write) → b ≡ b' → (b ≡ true → Matched Own Here r r' (Some (one_write w)) (Some (one_write w))) → Matched Own Here r r' (cond b (Some (one_write w)) None) (cond b' (Some (one_write w)) None)
      write_if b b' w e h = matched_like Own Here r r' refl (ap (λ c. cond c (Some (one_write w)) None) (sym e)) (at b refl)
        where
          at : (c : Bool) → b ≡ c → Matched Own Here r r' (cond c (Some (one_write w)) None) (cond c (Some (one_write w)) None)
          at true k = h k
          at false k = matched_none Own Here r r'

      -- a scalar is assigned
      to_scalar : (x : Variable) → K x ≡ true → F x ≡ false → (o : Option ℕ) → Matched Own Here r r' (assigned r x (Some []) o) (assigned r' x (Some []) o)
      to_scalar x k free None = matched_none Own Here r r'
      to_scalar x k free (Some v) =
          write_if (is_object r x []) (is_object r' x []) (Assigned x [] v) (is_object_same x r r' (p.both x k))
          (λ e. matched_write Own Here r r' (Assigned x [] v) (unseen F m fixed x free) (point_assigned T F K m r r' x v free k p))

      -- an element is
      to_element : (x : Variable) (j : ℕ) (js : List ℕ) → F x ≡ true → TouchesBy Writes x j js → (o : Option ℕ) → Matched Own Here r r' (assigned r x (Some (j ∷ js)) o) (assigned r' x (Some (j ∷ js)) o)
      to_element x j js h t None = matched_none Own Here r r'
      to_element x j js h t (Some v) = at (m.locals x) refl
        where
          none_there : (s : State) (k : Slot) → s.locals x ≡ k → is_object_in k s x (j ∷ js) ≡ false → assigned s x (Some (j ∷ js)) (Some v) ≡ None
          none_there s k e is = ap (λ b. cond b (Some (one_write (Assigned x (j ∷ js) v))) None) (ap (λ l. is_object_in l s x (j ∷ js)) e ∙ is)

          at : (k : Slot) → m.locals x ≡ k → Matched Own Here r r' (assigned r x (Some (j ∷ js)) (Some v)) (assigned r' x (Some (j ∷ js)) (Some v))
          at Outside e =
              let one = (p.one x h).locals ∙ e in
              let two = (p.two x h).locals ∙ e in
              let there : is_object r x (j ∷ js) ≡ is_object r' x (j ∷ js) = ap (λ l. is_object_in l r x (j ∷ js)) one ∙ ap is_there (p.elements x j js (Writes, t)) ∙ sym (ap (λ l. is_object_in l r' x (j ∷ js)) two) in
              let own = fixed.arrays x h e in
              write_if (is_object r x (j ∷ js)) (is_object r' x (j ∷ js)) (Assigned x (j ∷ js) v) there
              (λ is. matched_write Own Here r r' (Assigned x (j ∷ js) v) (own.0, own.1, t)
              (subst (λ (l : Slot). Point T F K m (assign_at l r x (j ∷ js) v) (written r' (Assigned x (j ∷ js) v))) (sym one)
              (subst (λ (l : Slot). Point T F K m (with_cell r x (j ∷ js) v) (assign_at l r' x (j ∷ js) v)) (sym two) (point_element T F K m r r' x j js v p))))
          at Empty e =
              matched_like Own Here r r' (none_there r Empty ((p.one x h).locals ∙ e) refl) (none_there r' Empty ((p.two x h).locals ∙ e) refl) (matched_none Own Here r r')
          at (Holds n) e =
              matched_like Own Here r r' (none_there r (Holds n) ((p.one x h).locals ∙ e) refl) (none_there r' (Holds n) ((p.two x h).locals ∙ e) refl) (matched_none Own Here r r')

      -- an assignment of the same number
      to_target : (x : Variable) (is : Exprs) → K x ≡ true → IsSteadyTarget F x is → Each Q (named x is Writes inner) → (o : Option ℕ) → Matched Own Here r r' (assigned r x (values r is) o) (assigned r' x (values r' is) o)
      to_target x no_exprs k h q o = to_scalar x k h o
      to_target x (more_exprs i is) k h q o =
          matched_like Own Here r r' (ap (λ ks. assigned r x ks o) (fixed_values F r m p.one (more_exprs i is) h.1)) (ap (λ ks. assigned r' x ks o) (fixed_values F r' m p.two (more_exprs i is) h.1))
          (at (values m (more_exprs i is)) refl)
        where
          at : (ks : Option (List ℕ)) → values m (more_exprs i is) ≡ ks → Matched Own Here r r' (assigned r x ks o) (assigned r' x ks o)
          at None e = matched_none Own Here r r'
          at (Some []) e = absurd (not_no_indexes m i is e)
          at (Some (j ∷ js)) e = to_element x j js h.0 (reach inner m spot x (more_exprs i is) Writes q.0 j js e) o

      assigns_same : (x : Variable) (is : Exprs) → K x ≡ true → IsSteadyTarget F x is → Each Q (named x is Writes inner) → (o o' : Option ℕ) → o ≡ o' → Matched Own Here r r' (assigned r x (values r is) o) (assigned r' x (values r' is) o')
      assigns_same x is k h q o o' e = matched_like Own Here r r' refl (ap (λ v. assigned r' x (values r' is) v) (sym e)) (to_target x is k h q o)

      target_fixed : (x : Variable) (is : Exprs) → IsSteadyTarget F x is → AreFixed F is
      target_fixed x no_exprs h = tt
      target_fixed x (more_exprs i is) h = h.1

      -- a local is declared
      declares_same : (x : Variable) → F x ≡ false → (o o' : Option ℕ) → o ≡ o' → Matched Own (Point T F (also K x) m) r r' (declares x o) (declares x o')
      declares_same x free o o' e = matched_like Own (Point T F (also K x) m) r r' refl (ap (declares x) (sym e)) (at o)
        where
          at : (v : Option ℕ) → Matched Own (Point T F (also K x) m) r r' (declares x v) (declares x v)
          at None = matched_none Own (Point T F (also K x) m) r r'
          at (Some v) = matched_write Own (Point T F (also K x) m) r r' (Declared x (Some v)) (unseen F m fixed x free) (point_declared T F K m r r' x (Holds v) refl free p)

      declared_same : (x : Variable) (start : Option Source) → F x ≡ false → names_start K start ≡ true → IsSteadyStart F start → Each Q (start_accesses inner start) → Matched Own (Point T F (also K x) m) r r' (declared r x start) (declared r' x start)
      declared_same x None free k h q = matched_write Own (Point T F (also K x) m) r r' (Declared x None) (unseen F m fixed x free) (point_declared T F K m r r' x Empty refl free p)
      declared_same x (Some a) free k h q = declares_same x free (source_value r a) (source_value r' a) (steady_source T F K m r r' p inner Q touched a k h q)

      -- a text is printed
      printed_same : (o o' : Option (List ℕ)) → o ≡ o' → Matched Own Here r r' (map_option (λ b. record { writes = []; text = b }) o) (map_option (λ b. record { writes = []; text = b }) o')
      printed_same o o' e = matched_like Own Here r r' refl (ap (map_option (λ b. record { writes = []; text = b })) (sym e)) (at o)
        where
          at : (v : Option (List ℕ)) → Matched Own Here r r' (map_option (λ b. record { writes = []; text = b }) v) (map_option (λ b. record { writes = []; text = b }) v)
          at None = matched_none Own Here r r'
          at (Some b) = matched_some Own Here r r' (record { writes = []; text = b }) tt p

    -- a loop
    module _ (x : Variable) (start : Source) (test : Cond) (step : Increment) (body : Stmt) (free : F x ≡ false) (test_fixed : IsFixedCond (also F x) test) (step_fixed : IsFixedStep (also F x) x step)
        (first : ℕ) (start_is : source_value m start ≡ Some first) where
      abbrev l : Loop
      l = record { variable = x; start = start; test = test; step = step }

      abbrev Inside : ℕ → State → State → Type 0
      Inside v s t = Point T (also F x) (also K x) (at_value m x v) s t

      abbrev FromStart : ℕ → Type 0
      FromStart v = (z : ℕ) → Visits l (at_value m x v) z → Visits l (at_value m x first) z

      abbrev Next : State → State → Type 0
      Next s t = (v : ℕ) × FromStart v × Inside v s t

      held : (v : ℕ) (s : State) → SameVariable x s (at_value m x v) → s.locals x ≡ Holds v
      held v s h = h.locals ∙ local_same m x (Holds v)

      -- the step
      steps : (v : ℕ) (t t' : State) → holds (at_value m x v) test ≡ Some true → FromStart v → Inside v t t' → Matched Own Next t t' (incremented t step) (incremented t' step)
      steps v t t' tested from p =
          let there = also_itself F x in
          let mv = at_value m x v in
          let one = held v t (p.one x there) in
          let two = held v t' (p.two x there) in
          matched_like Own Next t t' (step_is (also F x) t x v step one step_fixed ∙ ap (number_to x) (step_same (also F x) t mv p.one x there step step_fixed))
          (step_is (also F x) t' x v step two step_fixed ∙ ap (number_to x) (step_same (also F x) t' mv p.two x there step step_fixed))
          (at (step_number mv step) refl)
        where
          at : (o : Option ℕ) → step_number (at_value m x v) step ≡ o → Matched Own Next t t' (number_to x o) (number_to x o)
          at None e = matched_none Own Next t t'
          at (Some n) e =
              let there = also_itself F x in
              let one = held v t (p.one x there) in
              let two = held v t' (p.two x there) in
              let after : overwritten (at_value m x v) (Assigned x [] n ∷ []) ≡ at_value m x n = ap (λ slot. assign_at slot (at_value m x v) x [] n) (local_same m x (Holds v)) ∙ local_twice m x (Holds v) (Holds n) in
              let goes : incremented (at_value m x v) step ≡ Some (one_write (Assigned x [] n)) = step_is (also F x) (at_value m x v) x v step (local_same m x (Holds v)) step_fixed ∙ ap (number_to x) e in
              matched_write Own Next t t' (Assigned x [] n) (unseen F m fixed x free) (
                n,
                (λ z h. from z (later tested goes (subst (λ (s : State). Visits l s z) (sym after) h))),
                subst (λ (k : Slot). Inside n (assign_at k t x [] n) (written t' (Assigned x [] n))) (sym one)
                    (subst (λ (k : Slot). Inside n (with_local t x (Holds n)) (assign_at k t' x [] n)) (sym two) (point_stepped T F K m t t' x v n p)),
              )

      -- one turn of it
      spot_inside : (v : ℕ) → holds (at_value m x v) test ≡ Some true → FromStart v → Spot (inner ++ l ∷ []) (at_value m x v)
      spot_inside v tested from =
          let visit = from v (now tested (ap (λ slot. look_in slot (at_value m x v) x []) (local_same m x (Holds v)))) in
          record {
            vector = spot.vector ++ v ∷ [];
            path = path_more inner spot.vector base l v first spot.path (ap (λ s. source_value s start) (sym spot.is) ∙ start_is)
                (subst (λ (s : State). Visits l (at_value s x first) v) spot.is visit);
            is = ap (λ s. at_value s x v) spot.is ∙ sym (at_vector_more inner spot.vector base l v spot.path);
          }

      module _ (body_law : (v : ℕ) (s t : State) → Spot (inner ++ l ∷ []) (at_value m x v) → Inside v s t → Matched Own (Inside v) s t (run body s) (run body t)) where
        abbrev turning : ℕ → State → Option Effect
        turning n s = turns n (λ t. holds t test) (run body) (λ t. incremented t step) s

        tested_same : (v : ℕ) (s t : State) → Inside v s t → holds s test ≡ holds t test
        tested_same v s t p = fixed_holds (also F x) s (at_value m x v) p.one test test_fixed ∙ sym (fixed_holds (also F x) t (at_value m x v) p.two test test_fixed)

        pub loop_law : (n v : ℕ) (s t : State) → FromStart v → Inside v s t → Matched Own Here s t (turning n s) (turning n t)
        loop_law zero v s t from p =
            matched_test Own Here s t (holds s test) (holds t test) None (Some nothing) None (Some nothing) (tested_same v s t p)
            (λ e. matched_none Own Here s t)
            (λ e. matched_nothing Own Here s t (point_behind T F K m s t x v free p))
        loop_law (suc n) v s t from p =
            matched_test Own Here s t (holds s test) (holds t test)
            (then_from s (run body s) (λ u. then_from u (incremented u step) (turning n))) (Some nothing)
            (then_from t (run body t) (λ u. then_from u (incremented u step) (turning n))) (Some nothing)
            (tested_same v s t p)
            (λ e. let tested = sym (fixed_holds (also F x) s (at_value m x v) p.one test test_fixed) ∙ e in
            matched_then Own (Inside v) Here s t (run body s) (run body t) (λ u. then_from u (incremented u step) (turning n)) (λ u. then_from u (incremented u step) (turning n))
            (body_law v s t (spot_inside v tested from) p)
            (λ s' t' q. matched_then Own Next Here s' t' (incremented s' step) (incremented t' step) (turning n) (turning n)
            (steps v s' t' tested from q)
            (λ s'' t'' next. loop_law n next.0 s'' t'' next.1 next.2)))
            (λ e. matched_nothing Own Here s t (point_behind T F K m s t x v free p))

  -- a loop from its start
  for_law : (inner : List Loop) (F K : Variable → Bool) (m : State) (spot : Spot inner m) (fixed : Fixed F m) (r r' : State) → Point T F K m r r' → (x : Variable) (name : Name) (start : Source) (test : Cond) (step : Increment) (body : Stmt)
      → F x ≡ false → IsFixedSource F start → IsFixedCond (also F x) test → IsFixedStep (also F x) x step
      → ((v : ℕ) (s t : State) → Spot (inner ++ record { variable = x; start = start; test = test; step = step } ∷ []) (at_value m x v) → Point T (also F x) (also K x) (at_value m x v) s t
      → Matched Own (Point T (also F x) (also K x) (at_value m x v)) s t (run body s) (run body t))
      → Matched Own (Point T F K m) r r' (run (For x name start test step body) r) (run (For x name start test step body) r')
  for_law inner F K m spot fixed r r' p x name start test step body free start_fixed test_fixed step_fixed body_law =
      matched_like Own (Point T F K m) r r' (ap (λ o. then_from r (declares x o) (turns greatest_trip_count (λ t. holds t test) (run body) (λ t. incremented t step))) (fixed_source F r m p.one start start_fixed)) (ap (λ o. then_from r' (declares x o) (turns greatest_trip_count (λ t. holds t test) (run body) (λ t. incremented t step))) (fixed_source F r' m p.two start start_fixed)) (at (source_value m start) refl)
    where
      at : (o : Option ℕ) → source_value m start ≡ o → Matched Own (Point T F K m) r r' (then_from r (declares x o) (turns greatest_trip_count (λ t. holds t test) (run body) (λ t. incremented t step))) (then_from r' (declares x o) (turns greatest_trip_count (λ t. holds t test) (run body) (λ t. incremented t step)))
      at None e = matched_none Own (Point T F K m) r r'
      at (Some first) e =
          let all = turns greatest_trip_count (λ t. holds t test) (run body) (λ t. incremented t step) in
          let Begins = Point T (also F x) (also K x) (at_value m x first) in
          matched_then Own Begins (Point T F K m) r r' (Some (one_write (Declared x (Some first)))) (Some (one_write (Declared x (Some first)))) all all
          (matched_write Own Begins r r' (Declared x (Some first)) (unseen F m fixed x free) (point_counted T F K m r r' x first p))
          (λ t t' q. loop_law inner F K m spot fixed x start test step body free test_fixed step_fixed first e body_law greatest_trip_count first t t' (λ z h. h) q)

  mutual
    -- a statement does the same
    pub stmt_law : (a : Stmt) (inner : List Loop) (F K : Variable → Bool) (m r r' : State) → Spot inner m → Fixed F m → Point T F K m r r' → names_only K a ≡ true → IsSteady F a → Each Q (accesses inner a) → Matched Own (Point T F K m) r r' (run a r) (run a r')
    stmt_law (Assign x is e) inner F K m r r' spot fixed p k h q =
        let front = first_of (K x && names_exprs K is) (names_source K e) k in
        assigns_same inner F K m spot fixed r r' p x is (first_of (K x) (names_exprs K is) front) h.0 (each_left Q (named x is Writes inner) (source_accesses inner e) q) (source_value r e) (source_value r' e)
        (steady_source T F K m r r' p inner Q (touched inner F K m spot fixed r r' p) e (second_of (K x && names_exprs K is) (names_source K e) k) h.1 (each_right Q (named x is Writes inner) (source_accesses inner e) q))
    stmt_law (Update x is op e) inner F K m r r' spot fixed p k h q =
        let front = first_of (K x && names_exprs K is) (names_expr K e) k in
        let known = first_of (K x) (names_exprs K is) front in
        let target = each_left Q (named x is Writes inner) (expr_accesses inner e) q in
        let old = object_same T F K m r r' p inner Q (touched inner F K m spot fixed r r' p) x is Writes known (target_fixed inner F K m spot fixed r r' p x is h.0) target in
        let other = steady_value T F K m r r' p inner Q (touched inner F K m spot fixed r r' p) e (second_of (K x && names_exprs K is) (names_expr K e) k) h.1 (each_right Q (named x is Writes inner) (expr_accesses inner e) q) in
        assigns_same inner F K m spot fixed r r' p x is known h.0 target (both_then (operate op) (value r (Object x is)) (value r e)) (both_then (operate op) (value r' (Object x is)) (value r' e))
        (λ i. both_then (operate op) (old i) (other i))
    stmt_law (If c a) inner F K m r r' spot fixed p k h q =
        matched_test Own (Point T F K m) r r' (holds r c) (holds r' c) (run a r) (Some nothing) (run a r') (Some nothing)
        (steady_holds T F K m r r' p inner Q (touched inner F K m spot fixed r r' p) c (first_of (names_cond K c) (names_only K a) k) h.0 (each_left Q (cond_accesses inner c) (accesses inner a) q))
        (λ e. stmt_law a inner F K m r r' spot fixed p (second_of (names_cond K c) (names_only K a) k) h.1 (each_right Q (cond_accesses inner c) (accesses inner a) q))
        (λ e. matched_nothing Own (Point T F K m) r r' p)
    stmt_law (IfElse c a b) inner F K m r r' spot fixed p k h q =
        let front = first_of (names_cond K c && names_only K a) (names_only K b) k in
        let before = each_left Q (cond_accesses inner c ++ accesses inner a) (accesses inner b) q in
        matched_test Own (Point T F K m) r r' (holds r c) (holds r' c) (run a r) (run b r) (run a r') (run b r')
        (steady_holds T F K m r r' p inner Q (touched inner F K m spot fixed r r' p) c (first_of (names_cond K c) (names_only K a) front) h.0 (each_left Q (cond_accesses inner c) (accesses inner a) before))
        (λ e. stmt_law a inner F K m r r' spot fixed p (second_of (names_cond K c) (names_only K a) front) h.1 (each_right Q (cond_accesses inner c) (accesses inner a) before))
        (λ e. stmt_law b inner F K m r r' spot fixed p (second_of (names_cond K c && names_only K a) (names_only K b) k) h.2 (each_right Q (cond_accesses inner c ++ accesses inner a) (accesses inner b) q))
    stmt_law (For x name start test step body) inner F K m r r' spot fixed p k h q =
        for_law inner F K m spot fixed r r' p x name start test step body h.0 h.1 h.2 h.3
        (λ v s t spot' p'. stmt_law body (inner ++ record { variable = x; start = start; test = test; step = step } ∷ []) (also F x) (also K x) (at_value m x v) s t spot' (fixed_inside F m x v fixed) p'
        (second_of (names_source K start && names_cond (also K x) test && names_step (also K x) step) (names_only (also K x) body) k) h.4 q)
    stmt_law (Block items) inner F K m r r' spot fixed p k h q = items_law items inner F K m r r' spot fixed p k h q
    stmt_law (Print parts) inner F K m r r' spot fixed p k h q =
        printed_same inner F K m spot fixed r r' p (print_text r parts) (print_text r' parts) (steady_parts T F K m r r' p inner Q (touched inner F K m spot fixed r r' p) parts k h q)

    -- and so do a block's items
    pub items_law : (items : Items) (inner : List Loop) (F K : Variable → Bool) (m r r' : State) → Spot inner m → Fixed F m → Point T F K m r r' → names_items K items ≡ true → AreSteady F items → Each Q (items_accesses inner items) → Matched Own (Point T F K m) r r' (run_items items r) (run_items items r')
    items_law no_items inner F K m r r' spot fixed p k h q = matched_nothing Own (Point T F K m) r r' p
    items_law (mark line rest) inner F K m r r' spot fixed p k h q = items_law rest inner F K m r r' spot fixed p k h q
    items_law (local x name start rest) inner F K m r r' spot fixed p k h q =
        matched_then Own (Point T F (also K x) m) (Point T F K m) r r' (declared r x start) (declared r' x start) (run_items rest) (run_items rest)
        (declared_same inner F K m spot fixed r r' p x start h.0 (first_of (names_start K start) (names_items (also K x) rest) k) h.1 (each_left Q (start_accesses inner start) (items_accesses inner rest) q))
        (λ t t' p'. matched_weaker Own (Point T F (also K x) m) t t' (Point T F K m) (λ s s' p''. point_less T F (also K x) m s s' K (λ y e. also_more K x y e) p'') (run_items rest t) (run_items rest t')
        (items_law rest inner F (also K x) m t t' spot fixed p' (second_of (names_start K start) (names_items (also K x) rest) k) h.2 (each_right Q (start_accesses inner start) (items_accesses inner rest) q)))
    items_law (stmt a rest) inner F K m r r' spot fixed p k h q =
        matched_then Own (Point T F K m) (Point T F K m) r r' (run a r) (run a r') (run_items rest) (run_items rest)
        (stmt_law a inner F K m r r' spot fixed p (first_of (names_only K a) (names_items K rest) k) h.0 (each_left Q (accesses inner a) (items_accesses inner rest) q))
        (λ t t' p'. items_law rest inner F K m t t' spot fixed p' (second_of (names_only K a) (names_items K rest) k) h.1 (each_right Q (accesses inner a) (items_accesses inner rest) q))
