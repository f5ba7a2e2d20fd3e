-- Scalars at file scope, and locals that hold the same in their place.
use Rattle.std.specs.Prelude.{ℕ, zero, suc, Bool, true, false, ◌≡◌, ◌==◌, ◌&&◌, ◌⊎◌, List, [], ◌∷◌, map, Option, Some, None, option_and_then}
use Rattle.std.proofs.Common.{refl, sym, ap, ◌∙◌, subst, cond, inl, inr}
use Rattle.std.proofs.lemmas.Bool.{true≢false, eq-eqb, eqb-true}
use Rattle.semantics.specs.Tree.{Variable, Literal, Bare, Constant, Object, Unary, Binary, Conditional, Expr, Exprs, no_exprs, more_exprs, Cond, NotZero, Compare, Not, LogicalAnd, LogicalOr, Source, Number, Truth, BinaryOp, Plus, Minus, Increment, Up, Down, Set, Change, PrintPart, Characters, Decimal, Stmt, Assign, Update, If, IfElse, For, Block, Print, Items, no_items, mark, local, stmt}
use Rattle.semantics.specs.Meaning.State.{State, Slot, Outside, Empty, Holds, Declared, Assigned, renewed, same_indexes, slot_of, with_local, with_cell, assign_at, is_there, look, look_in, is_object, is_object_in, written, overwritten}
use Rattle.semantics.specs.Meaning.Value.{operate, map_option, both, both_then, by_test, value, values, holds, source_value}
use Rattle.semantics.specs.Meaning.Runs.{Effect, nothing, one_write, then_from, declares, declared, assigned, updated, incremented, print_text, turns, greatest_trip_count, run, run_items}
use Rattle.semantics.specs.Meaning.Agrees.{is_among, names_expr, names_exprs, names_cond, names_source, names_parts}
use Rattle.semantics.specs.Loops.Nest.{Loop, Vector, at_value, at_vector, values_from, loop_values, iterations, concat_options}
use Rattle.semantics.specs.Loops.Access.{Element, Mode, Touches, Conflict}
use Rattle.semantics.specs.Loops.Piece.{is_outside}
use Rattle.semantics.proofs.NestLaw.{local_same}
use Rattle.law_nests.specs.Walks.{entered, enters, walk}
use Rattle.law_private.proofs.Alike.{Both, both_none, both_some, both_like, both_test, both_steps}
use Rattle.law_private.proofs.Seen.{source_seen, value_seen, values_seen, holds_seen, text_seen}
use Rattle.law_private.proofs.Chunks.{conflict_by}
use Rattle.law_roles.proofs.Seen.{look_of, object_of, Only, only_declared, only_assigned}

-- ---- everything names some variables

abbrev every : Variable → Bool
every x = true

mutual
  expr_names : (e : Expr) → names_expr every e ≡ true
  expr_names (Literal n suffix) = refl
  expr_names (Constant name n) = refl
  expr_names (Object x is) = exprs_name is
  expr_names (Unary op a) = expr_names a
  expr_names (Binary op a b) = λ i. expr_names a i && expr_names b i
  expr_names (Conditional c a b) = λ i. cond_names c i && expr_names a i && expr_names b i

  exprs_name : (es : Exprs) → names_exprs every es ≡ true
  exprs_name no_exprs = refl
  exprs_name (more_exprs e es) = λ i. expr_names e i && exprs_name es i

  cond_names : (c : Cond) → names_cond every c ≡ true
  cond_names (NotZero e) = expr_names e
  cond_names (Compare op a b) = λ i. expr_names a i && expr_names b i
  cond_names (Not c) = cond_names c
  cond_names (LogicalAnd c d) = λ i. cond_names c i && cond_names d i
  cond_names (LogicalOr c d) = λ i. cond_names c i && cond_names d i

source_names : (e : Source) → names_source every e ≡ true
source_names (Number e) = expr_names e
source_names (Truth c) = cond_names c

parts_name : (parts : List PrintPart) → names_parts every parts ≡ true
parts_name [] = refl
parts_name (Characters bs ∷ ps) = parts_name ps
parts_name (Decimal e ∷ ps) = λ i. expr_names e i && parts_name ps i

-- ---- the same state with some scalars as locals

-- the same local in both
pub record Kept (x : Variable) (s t : State) : Type 0 where
  pub same : s.locals x ≡ t.locals x
  pub inside : is_outside (t.locals x) ≡ false

-- a scalar at file scope in the first, and a local that holds the same in the second
pub record Shifted (x : Variable) (s t : State) : Type 0 where
  pub outside : s.locals x ≡ Outside
  pub number : ℕ
  pub holds : t.locals x ≡ Holds number
  pub cell : s.cells x [] ≡ Some number
  pub scalar : (i : ℕ) (is : List ℕ) → s.cells x (i ∷ is) ≡ None

module _ (vars : List Variable) where
  pub record Moved (s t : State) : Type 0 where
    pub locals : (x : Variable) → is_among vars x ≡ false → s.locals x ≡ t.locals x
    pub cells : (x : Variable) (is : List ℕ) → is_among vars x ≡ false → s.cells x is ≡ t.cells x is
    pub theirs : (x : Variable) → is_among vars x ≡ true → Kept x s t ⊎ Shifted x s t

  kept_look : (x : Variable) (s t : State) → Kept x s t → (is : List ℕ) → look s x is ≡ look t x is
  kept_look x s t k is = ap (λ l. look_in l s x is) k.same ∙ at (t.locals x) k.inside
    where
      at : (l : Slot) → is_outside l ≡ false → look_in l s x is ≡ look_in l t x is
      at Outside h = absurd (true≢false h)
      at Empty h = refl
      at (Holds n) h = refl

  kept_object : (x : Variable) (s t : State) → Kept x s t → (is : List ℕ) → is_object s x is ≡ is_object t x is
  kept_object x s t k is = ap (λ l. is_object_in l s x is) k.same ∙ at (t.locals x) k.inside
    where
      at : (l : Slot) → is_outside l ≡ false → is_object_in l s x is ≡ is_object_in l t x is
      at Outside h = absurd (true≢false h)
      at Empty h = refl
      at (Holds n) h = refl

  shifted_look : (x : Variable) (s t : State) → Shifted x s t → (is : List ℕ) → look s x is ≡ look t x is
  shifted_look x s t k [] = ap (λ l. look_in l s x []) k.outside ∙ k.cell ∙ sym (ap (λ l. look_in l t x []) k.holds)
  shifted_look x s t k (i ∷ is) = ap (λ l. look_in l s x (i ∷ is)) k.outside ∙ k.scalar i is ∙ sym (ap (λ l. look_in l t x (i ∷ is)) k.holds)

  shifted_object : (x : Variable) (s t : State) → Shifted x s t → (is : List ℕ) → is_object s x is ≡ is_object t x is
  shifted_object x s t k [] = ap (λ l. is_object_in l s x []) k.outside ∙ ap is_there k.cell ∙ sym (ap (λ l. is_object_in l t x []) k.holds)
  shifted_object x s t k (i ∷ is) = ap (λ l. is_object_in l s x (i ∷ is)) k.outside ∙ ap is_there (k.scalar i is) ∙ sym (ap (λ l. is_object_in l t x (i ∷ is)) k.holds)

  module _ (s t : State) (m : Moved s t) where
    pub moved_look : (x : Variable) (is : List ℕ) → look s x is ≡ look t x is
    moved_look x is = at (is_among vars x) refl
      where
        of : Kept x s t ⊎ Shifted x s t → look s x is ≡ look t x is
        of (inl k) = kept_look x s t k is
        of (inr k) = shifted_look x s t k is

        at : (b : Bool) → is_among vars x ≡ b → look s x is ≡ look t x is
        at true e = of (m.theirs x e)
        at false e = look_of x s t (m.locals x e) (λ js. m.cells x js e) is

    moved_object : (x : Variable) (is : List ℕ) → is_object s x is ≡ is_object t x is
    moved_object x is = at (is_among vars x) refl
      where
        of : Kept x s t ⊎ Shifted x s t → is_object s x is ≡ is_object t x is
        of (inl k) = kept_object x s t k is
        of (inr k) = shifted_object x s t k is

        at : (b : Bool) → is_among vars x ≡ b → is_object s x is ≡ is_object t x is
        at true e = of (m.theirs x e)
        at false e = object_of x s t (m.locals x e) (λ js. m.cells x js e) is

    seen : (x : Variable) (is : List ℕ) → every x ≡ true → look s x is ≡ look t x is
    seen x is h = moved_look x is

    pub moved_value : (e : Expr) → value s e ≡ value t e
    moved_value e = value_seen every s t seen e (expr_names e)

    pub moved_values : (es : Exprs) → values s es ≡ values t es
    moved_values es = values_seen every s t seen es (exprs_name es)

    pub moved_holds : (c : Cond) → holds s c ≡ holds t c
    moved_holds c = holds_seen every s t seen c (cond_names c)

    pub moved_source : (e : Source) → source_value s e ≡ source_value t e
    moved_source e = source_seen every s t seen e (source_names e)

    -- ---- writes

    -- both write to one variable, which is as before in both else
    module _ (x : Variable) (s' t' : State) (one : Only x s s') (two : Only x t t') (plain_locals : is_among vars x ≡ false → s'.locals x ≡ t'.locals x)
        (plain_cells : (is : List ℕ) → is_among vars x ≡ false → s'.cells x is ≡ t'.cells x is) (own : is_among vars x ≡ true → Kept x s' t' ⊎ Shifted x s' t') where
      moved_write : Moved s' t'
      moved_write = record {
        locals = λ y h. locals y h (y == x) refl;
        cells = λ y is h. cells y is h (y == x) refl;
        theirs = λ y h. theirs y h (y == x) refl;
      }
        where
          locals : (y : Variable) → is_among vars y ≡ false → (c : Bool) → (y == x) ≡ c → s'.locals y ≡ t'.locals y
          locals y h true e = subst (λ z. s'.locals z ≡ t'.locals z) (sym (eqb-true y x e)) (plain_locals (ap (is_among vars) (sym (eqb-true y x e)) ∙ h))
          locals y h false e = one.locals y e ∙ m.locals y h ∙ sym (two.locals y e)

          cells : (y : Variable) (is : List ℕ) → is_among vars y ≡ false → (c : Bool) → (y == x) ≡ c → s'.cells y is ≡ t'.cells y is
          cells y is h true e = subst (λ z. s'.cells z is ≡ t'.cells z is) (sym (eqb-true y x e)) (plain_cells is (ap (is_among vars) (sym (eqb-true y x e)) ∙ h))
          cells y is h false e = one.cells y is e ∙ m.cells y is h ∙ sym (two.cells y is e)

          still : (y : Variable) → (y == x) ≡ false → Kept y s t ⊎ Shifted y s t → Kept y s' t' ⊎ Shifted y s' t'
          still y e (inl k) = inl (record { same = one.locals y e ∙ k.same ∙ sym (two.locals y e); inside = ap is_outside (two.locals y e) ∙ k.inside })
          still y e (inr k) = inr (record {
            outside = one.locals y e ∙ k.outside;
            number = k.number;
            holds = two.locals y e ∙ k.holds;
            cell = one.cells y [] e ∙ k.cell;
            scalar = λ i is. one.cells y (i ∷ is) e ∙ k.scalar i is;
          })

          theirs : (y : Variable) → is_among vars y ≡ true → (c : Bool) → (y == x) ≡ c → Kept y s' t' ⊎ Shifted y s' t'
          theirs y h true e = subst (λ z. Kept z s' t' ⊎ Shifted z s' t') (sym (eqb-true y x e)) (own (ap (is_among vars) (sym (eqb-true y x e)) ∙ h))
          theirs y h false e = still y e (m.theirs y h)

    slot_inside : (v : Option ℕ) → is_outside (slot_of v) ≡ false
    slot_inside None = refl
    slot_inside (Some n) = refl

    pub moved_declared : (x : Variable) (v : Option ℕ) → Moved (written s (Declared x v)) (written t (Declared x v))
    moved_declared x v =
        let same = local_same s x (slot_of v) ∙ sym (local_same t x (slot_of v)) in
        moved_write x (written s (Declared x v)) (written t (Declared x v)) (only_declared x v s) (only_declared x v t) (λ h. same) (λ is h. m.cells x is h)
        (λ h. inl (record { same = same; inside = ap is_outside (local_same t x (slot_of v)) ∙ slot_inside v }))

    pub moved_assigned : (x : Variable) (is : List ℕ) (n : ℕ) → is_object s x is ≡ true → Moved (written s (Assigned x is n)) (written t (Assigned x is n))
    moved_assigned x is n there =
        moved_write x (written s (Assigned x is n)) (written t (Assigned x is n)) (only_assigned x is n s) (only_assigned x is n t)
        (λ h. same_slot (s.locals x) (t.locals x) (m.locals x h)) (λ js h. same_cell js h (s.locals x) (t.locals x) (m.locals x h)) (λ h. own (m.theirs x h))
      where
        same_slot : (l k : Slot) → s.locals x ≡ t.locals x → (assign_at (s.locals x) s x is n).locals x ≡ (assign_at (t.locals x) t x is n).locals x
        same_slot l k e = subst (λ q. (assign_at (s.locals x) s x is n).locals x ≡ (assign_at q t x is n).locals x) e (at (s.locals x) e)
          where
            at : (q : Slot) → q ≡ t.locals x → (assign_at q s x is n).locals x ≡ (assign_at q t x is n).locals x
            at Outside f = e
            at Empty f = local_same s x (Holds n) ∙ sym (local_same t x (Holds n))
            at (Holds j) f = local_same s x (Holds n) ∙ sym (local_same t x (Holds n))

        same_cell : (js : List ℕ) → is_among vars x ≡ false → (l k : Slot) → s.locals x ≡ t.locals x → (assign_at (s.locals x) s x is n).cells x js ≡ (assign_at (t.locals x) t x is n).cells x js
        same_cell js h l k e = subst (λ q. (assign_at (s.locals x) s x is n).cells x js ≡ (assign_at q t x is n).cells x js) e (at (s.locals x))
          where
            at : (q : Slot) → (assign_at q s x is n).cells x js ≡ (assign_at q t x is n).cells x js
            at Outside = ap (λ c. cond ((x == x) && same_indexes js is) (renewed c n) c) (m.cells x js h)
            at Empty = m.cells x js h
            at (Holds j) = m.cells x js h

        itself : (x == x) ≡ true
        itself = eq-eqb x x refl

        own : Kept x s t ⊎ Shifted x s t → Kept x (written s (Assigned x is n)) (written t (Assigned x is n)) ⊎ Shifted x (written s (Assigned x is n)) (written t (Assigned x is n))
        own (inl k) = inl (record { same = same_slot (s.locals x) (t.locals x) k.same; inside = at (t.locals x) k.inside })
          where
            at : (q : Slot) → is_outside q ≡ false → is_outside ((assign_at q t x is n).locals x) ≡ false
            at Outside h = absurd (true≢false h)
            at Empty h = ap is_outside (local_same t x (Holds n))
            at (Holds j) h = ap is_outside (local_same t x (Holds n))
        own (inr k) = inr (at is there)
          where
            at : (js : List ℕ) → is_object s x js ≡ true → Shifted x (written s (Assigned x js n)) (written t (Assigned x js n))
            at (i ∷ js) h = absurd (true≢false (sym h ∙ ap (λ l. is_object_in l s x (i ∷ js)) k.outside ∙ ap is_there (k.scalar i js)))
            at [] h =
                let first : written s (Assigned x [] n) ≡ with_cell s x [] n = ap (λ l. assign_at l s x [] n) k.outside in
                let second : written t (Assigned x [] n) ≡ with_local t x (Holds n) = ap (λ l. assign_at l t x [] n) k.holds in
                record {
                  outside = ap (λ (q : State). q.locals x) first ∙ k.outside;
                  number = n;
                  holds = ap (λ (q : State). q.locals x) second ∙ local_same t x (Holds n);
                  cell = ap (λ (q : State). q.cells x []) first ∙ ap (λ b. cond (b && same_indexes [] []) (renewed (s.cells x []) n) (s.cells x [])) itself ∙ ap (λ o. renewed o n) k.cell;
                  scalar = λ i js. ap (λ (q : State). q.cells x (i ∷ js)) first ∙ unchanged i js (x == x) ∙ k.scalar i js;
                }
              where
                unchanged : (i : ℕ) (js : List ℕ) (b : Bool) → cond (b && same_indexes (i ∷ js) []) (renewed (s.cells x (i ∷ js)) n) (s.cells x (i ∷ js)) ≡ s.cells x (i ∷ js)
                unchanged i js true = refl
                unchanged i js false = refl

    -- ---- steps

    moved_put : (x : Variable) (is is' : Option (List ℕ)) (o p : Option ℕ) → is ≡ is' → o ≡ p → Both Moved s t (assigned s x is o) (assigned t x is' p)
    moved_put x is is' o p e f = both_like Moved s t refl (λ i. assigned t x (sym e i) (sym f i)) (at is o)
      where
        at : (is : Option (List ℕ)) (o : Option ℕ) → Both Moved s t (assigned s x is o) (assigned t x is o)
        at None o = both_none Moved s t
        at (Some ks) None = both_none Moved s t
        at (Some ks) (Some n) = both_like Moved s t refl (ap (λ b. cond b (Some (one_write (Assigned x ks n))) None) (sym (moved_object x ks))) (go (is_object s x ks) refl)
          where
            go : (b : Bool) → is_object s x ks ≡ b → Both Moved s t (cond b (Some (one_write (Assigned x ks n))) None) (cond b (Some (one_write (Assigned x ks n))) None)
            go true h = both_some Moved s t (one_write (Assigned x ks n)) (moved_assigned x ks n h)
            go false h = both_none Moved s t

    moved_updated : (x : Variable) (is : Exprs) (op : BinaryOp) (e : Expr) → Both Moved s t (updated s x is op e) (updated t x is op e)
    moved_updated x is op e =
        moved_put x (values s is) (values t is) _ _ (moved_values is) (λ i. both_then (operate op) (moved_value (Object x is) i) (moved_value e i))

    pub moved_incremented : (step : Increment) → Both Moved s t (incremented s step) (incremented t step)
    moved_incremented (Up x) = moved_updated x no_exprs Plus (Literal 1 Bare)
    moved_incremented (Down x) = moved_updated x no_exprs Minus (Literal 1 Bare)
    moved_incremented (Set x e) = moved_put x (Some []) (Some []) (source_value s e) (source_value t e) refl (moved_source e)
    moved_incremented (Change x op e) = moved_updated x no_exprs op e

    moved_start : (x : Variable) (start : Option Source) → Both Moved s t (declared s x start) (declared t x start)
    moved_start x None = both_some Moved s t (one_write (Declared x None)) (moved_declared x None)
    moved_start x (Some e) = both_like Moved s t refl (ap (declares x) (sym (moved_source e))) (at (source_value s e))
      where
        at : (o : Option ℕ) → Both Moved s t (declares x o) (declares x o)
        at None = both_none Moved s t
        at (Some n) = both_some Moved s t (one_write (Declared x (Some n))) (moved_declared x (Some n))

    moved_printed : (parts : List PrintPart) → Both Moved s t (run (Print parts) s) (run (Print parts) t)
    moved_printed parts = both_like Moved s t refl (ap (map_option (λ b. record { writes = []; text = b })) (sym (text_seen every s t seen parts (parts_name parts)))) (at (print_text s parts))
      where
        at : (o : Option (List ℕ)) → Both Moved s t (map_option (λ b. record { writes = []; text = b }) o) (map_option (λ b. record { writes = []; text = b }) o)
        at None = both_none Moved s t
        at (Some b) = both_some Moved s t (record { writes = []; text = b }) m

  -- ---- statements

  moved_turns : (test : Cond) (body : Stmt) (step : Increment) → ((s t : State) → Moved s t → Both Moved s t (run body s) (run body t)) → (n : ℕ) (s t : State) → Moved s t
      → Both Moved s t (turns n (λ u. holds u test) (run body) (λ u. incremented u step) s) (turns n (λ u. holds u test) (run body) (λ u. incremented u step) t)
  moved_turns test body step goes zero s t m =
      both_test Moved s t (holds s test) (holds t test) None (Some nothing) None (Some nothing) (moved_holds s t m test) (both_none Moved s t) (both_some Moved s t nothing m)
  moved_turns test body step goes (suc n) s t m =
      let more = turns n (λ u. holds u test) (run body) (λ u. incremented u step) in
      both_test Moved s t (holds s test) (holds t test)
      (then_from s (run body s) (λ u. then_from u (incremented u step) more)) (Some nothing)
      (then_from t (run body t) (λ u. then_from u (incremented u step) more)) (Some nothing) (moved_holds s t m test)
      (both_steps Moved Moved s t (run body s) (run body t) (λ u. then_from u (incremented u step) more) (λ u. then_from u (incremented u step) more) (goes s t m)
      (λ u v k. both_steps Moved Moved u v (incremented u step) (incremented v step) more more (moved_incremented u v k step)
      (λ u' v' j. moved_turns test body step goes n u' v' j)))
      (both_some Moved s t nothing m)

  mutual
    pub moved_stmt : (a : Stmt) (s t : State) → Moved s t → Both Moved s t (run a s) (run a t)
    moved_stmt (Assign x is e) s t m = moved_put s t m x (values s is) (values t is) (source_value s e) (source_value t e) (moved_values s t m is) (moved_source s t m e)
    moved_stmt (Update x is op e) s t m = moved_updated s t m x is op e
    moved_stmt (If c a) s t m = both_test Moved s t (holds s c) (holds t c) (run a s) (Some nothing) (run a t) (Some nothing) (moved_holds s t m c) (moved_stmt a s t m) (both_some Moved s t nothing m)
    moved_stmt (IfElse c a b) s t m = both_test Moved s t (holds s c) (holds t c) (run a s) (run b s) (run a t) (run b t) (moved_holds s t m c) (moved_stmt a s t m) (moved_stmt b s t m)
    moved_stmt (For x name start test step body) s t m =
        let all = turns greatest_trip_count (λ u. holds u test) (run body) (λ u. incremented u step) in
        both_steps Moved Moved s t (declared s x (Some start)) (declared t x (Some start)) all all (moved_start s t m x (Some start))
        (λ u v k. moved_turns test body step (λ u' v' j. moved_stmt body u' v' j) greatest_trip_count u v k)
    moved_stmt (Block items) s t m = moved_items items s t m
    moved_stmt (Print parts) s t m = moved_printed s t m parts

    moved_items : (items : Items) (s t : State) → Moved s t → Both Moved s t (run_items items s) (run_items items t)
    moved_items no_items s t m = both_some Moved s t nothing m
    moved_items (mark line rest) s t m = moved_items rest s t m
    moved_items (local x name start rest) s t m =
        both_steps Moved Moved s t (declared s x start) (declared t x start) (run_items rest) (run_items rest) (moved_start s t m x start) (λ u v k. moved_items rest u v k)
    moved_items (stmt a rest) s t m = both_steps Moved Moved s t (run a s) (run a t) (run_items rest) (run_items rest) (moved_stmt a s t m) (λ u v k. moved_items rest u v k)

  -- ---- iterations

  moved_entered : (ls : List Loop) (u : Vector) (s t : State) → Moved s t → Moved (overwritten s (entered ls u)) (overwritten t (entered ls u))
  moved_entered [] u s t m = m
  moved_entered (l ∷ ls) [] s t m = m
  moved_entered (l ∷ ls) (v ∷ vs) s t m = moved_entered ls vs (with_local s l.variable (Holds v)) (with_local t l.variable (Holds v)) (moved_declared s t m l.variable (Some v))

  pub moved_walk : (loops : List Loop) (body : Stmt) (us : List Vector) (s t : State) → Moved s t → Both Moved s t (walk loops body us s) (walk loops body us t)
  moved_walk loops body [] s t m = both_some Moved s t nothing m
  moved_walk loops body (u ∷ us) s t m =
      both_steps Moved Moved s t (Some (enters loops u)) (Some (enters loops u)) (λ q. then_from q (run body q) (walk loops body us)) (λ q. then_from q (run body q) (walk loops body us))
      (both_some Moved s t (enters loops u) (moved_entered loops u s t m))
      (λ p q k. both_steps Moved Moved p q (run body p) (run body q) (walk loops body us) (walk loops body us) (moved_stmt body p q k) (λ p' q' j. moved_walk loops body us p' q' j))

  pub moved_at : (ls : List Loop) (u : Vector) (s t : State) → Moved s t → Moved (at_vector ls u s) (at_vector ls u t)
  moved_at [] u s t m = m
  moved_at (l ∷ ls) [] s t m = m
  moved_at (l ∷ ls) (v ∷ vs) s t m = moved_at ls vs (with_local s l.variable (Holds v)) (with_local t l.variable (Holds v)) (moved_declared s t m l.variable (Some v))

  moved_values_from : (n : ℕ) (l : Loop) (s t : State) → Moved s t → values_from n l s ≡ values_from n l t
  moved_values_from zero l s t m = ap (λ b. by_test b None (Some [])) (moved_holds s t m l.test)
  moved_values_from (suc n) l s t m =
      let b = moved_incremented s t m l.step in
      let more : option_and_then (λ (e : Effect). values_from n l (overwritten s e.writes)) (incremented s l.step) ≡ option_and_then (λ (e : Effect). values_from n l (overwritten t e.writes)) (incremented t l.step) =
      at (incremented s l.step) b.left (λ u v k. moved_values_from n l u v k) ∙ ap (option_and_then (λ (e : Effect). values_from n l (overwritten t e.writes))) b.same in
      λ i. by_test (moved_holds s t m l.test i) (both (λ w ws. w ∷ ws) (moved_look s t m l.variable [] i) (more i)) (Some [])
    where
      at : (o : Option Effect) → ((e : Effect) → o ≡ Some e → Moved (overwritten s e.writes) (overwritten t e.writes)) → ((u v : State) → Moved u v → values_from n l u ≡ values_from n l v)
          → option_and_then (λ (e : Effect). values_from n l (overwritten s e.writes)) o ≡ option_and_then (λ (e : Effect). values_from n l (overwritten t e.writes)) o
      at None left goes = refl
      at (Some e) left goes = goes (overwritten s e.writes) (overwritten t e.writes) (left e refl)

  pub moved_iterations : (ls : List Loop) (s t : State) → Moved s t → iterations ls s ≡ iterations ls t
  moved_iterations [] s t m = refl
  moved_iterations (l ∷ ls) s t m =
      let held : (v : ℕ) → Moved (at_value s l.variable v) (at_value t l.variable v) = λ v. moved_declared s t m l.variable (Some v) in
      let all : loop_values l s ≡ loop_values l t =
      λ i. option_and_then (λ v. moved_values_from greatest_trip_count l (at_value s l.variable v) (at_value t l.variable v) (held v) i) (moved_source s t m l.start i) in
      let inner : (v : ℕ) → iterations ls (at_value s l.variable v) ≡ iterations ls (at_value t l.variable v) =
      λ v. moved_iterations ls (at_value s l.variable v) (at_value t l.variable v) (held v) in
      λ i. option_and_then (λ vs. concat_options (map (λ v. map_option (map (λ us. v ∷ us)) (inner v i)) vs)) (all i)

  -- ---- accesses

  moved_touches : (loops : List Loop) (body : Stmt) (s t : State) → Moved s t → (u : Vector) (element : Element) (mode : Mode) → Touches loops body t u element mode → Touches loops body s u element mode
  moved_touches loops body s t m u element mode h =
      let r = h.reaches in
      let inside = moved_at loops u s t m in
      record {
        access = h.access;
        there = h.there;
        reaches = record {
          turns = r.turns;
          are = moved_iterations h.access.inner (at_vector loops u s) (at_vector loops u t) inside ∙ r.are;
          turn = r.turn;
          among = r.among;
          array = r.array;
          indexes =
              moved_values (at_vector h.access.inner r.turn (at_vector loops u s)) (at_vector h.access.inner r.turn (at_vector loops u t))
              (moved_at h.access.inner r.turn (at_vector loops u s) (at_vector loops u t) inside) h.access.subscripts
              ∙ r.indexes;
        };
        mode_is = h.mode_is;
      }

  pub moved_conflict : (loops : List Loop) (body : Stmt) (s t : State) → Moved s t → (u v : Vector) → Conflict loops body t u v → Conflict loops body s u v
  moved_conflict loops body s t m = conflict_by loops body body t s (moved_touches loops body s t m)
