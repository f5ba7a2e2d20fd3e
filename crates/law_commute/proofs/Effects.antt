-- What holds of all that a statement does, where it has a run, by what holds of its writes.
use Rattle.std.specs.Prelude.{ℕ, zero, suc, Bool, true, false, ◌≡◌, ◌==◌, List, [], ◌++◌, Option, Some, None}
use Rattle.std.proofs.Common.{refl, sym, ◌∙◌, subst, cond}
use Rattle.std.proofs.lemmas.Bool.{or_parts}
use Rattle.std.proofs.lemmas.List.Folds.{list_any-append}
use Rattle.std.proofs.lemmas.Option.{none-some, same_Some}
use Rattle.semantics.specs.Tree.{Variable, BinaryOp, Plus, Minus, Expr, Literal, Bare, Object, Exprs, no_exprs, Source, Cond, Increment, Up, Down, Set, Change, Stmt, Assign, Update, If, IfElse, For, Block, Print, Items, no_items, mark, local, stmt}
use Rattle.semantics.specs.Meaning.State.{State, Declared, Assigned, is_object, overwritten}
use Rattle.semantics.specs.Meaning.Value.{map_option, by_test, both_then, operate, value, values, holds, source_value}
use Rattle.semantics.specs.Meaning.Runs.{Effect, nothing, one_write, joined, then_from, declares, declared, assigned, updated, incremented, print_text, turns, greatest_trip_count, run, run_items}
use Rattle.semantics.specs.Meaning.Agrees.{is_among, declared_in, declared_among}

-- it holds of nothing, and of two in a row
pub record Composes (R : State → Effect → Type 0) : Type 0 where
  pub none : (s : State) → R s nothing
  pub two : (s : State) (d e : Effect) → R s d → R (overwritten s d.writes) e → R s (joined d e)

-- it holds of an effect, if there is one
abbrev pub IfAny : (Effect → Type 0) → Option Effect → Type 0
IfAny P o = (e : Effect) → o ≡ Some e → P e

module _ (R : State → Effect → Type 0) (c : Composes R) where
  pub none_holds : (s : State) → IfAny (R s) None
  none_holds s e h = absurd (none-some e h)

  pub some_holds : (s : State) (e : Effect) → R s e → IfAny (R s) (Some e)
  some_holds s e k f h = subst (R s) (same_Some e f h) k

  pub nothing_holds : (s : State) → IfAny (R s) (Some nothing)
  nothing_holds s = some_holds s nothing (c.none s)

  pub test_holds : (s : State) (b : Option Bool) (o p : Option Effect) → IfAny (R s) o → IfAny (R s) p → IfAny (R s) (by_test b o p)
  test_holds s None o p one two = none_holds s
  test_holds s (Some true) o p one two = one
  test_holds s (Some false) o p one two = two

  pub steps_hold : (s : State) (o : Option Effect) (f : State → Option Effect) → IfAny (R s) o → ((t : State) → IfAny (R t) (f t)) → IfAny (R s) (then_from s o f)
  steps_hold s None f one two = none_holds s
  steps_hold s (Some e) f one two = at (f (overwritten s e.writes)) (two (overwritten s e.writes))
    where
      at : (o : Option Effect) → IfAny (R (overwritten s e.writes)) o → IfAny (R s) (map_option (joined e) o)
      at None k = none_holds s
      at (Some d) k = some_holds s (joined e d) (c.two s e d (one e refl) (k d refl))

  pub turns_hold : (test : Cond) (step : Increment) (body : State → Option Effect) → ((s : State) → IfAny (R s) (incremented s step)) → ((s : State) → IfAny (R s) (body s)) → (n : ℕ) (s : State)
      → IfAny (R s) (turns n (λ t. holds t test) body (λ t. incremented t step) s)
  turns_hold test step body steps goes zero s = test_holds s (holds s test) None (Some nothing) (none_holds s) (nothing_holds s)
  turns_hold test step body steps goes (suc n) s =
      let more = turns n (λ t. holds t test) body (λ t. incremented t step) in
      test_holds s (holds s test) (then_from s (body s) (λ t. then_from t (incremented t step) more)) (Some nothing)
      (steps_hold s (body s) (λ t. then_from t (incremented t step) more) (goes s) (λ t. steps_hold t (incremented t step) more (steps t) (turns_hold test step body steps goes n)))
      (nothing_holds s)

  pub assigned_holds : (s : State) (x : Variable) (is : Option (List ℕ)) (o : Option ℕ) → ((ks : List ℕ) (v : ℕ) → is ≡ Some ks → is_object s x ks ≡ true → R s (one_write (Assigned x ks v))) → IfAny (R s) (assigned s x is o)
  assigned_holds s x None o k = none_holds s
  assigned_holds s x (Some ks) None k = none_holds s
  assigned_holds s x (Some ks) (Some v) k = at (is_object s x ks) refl
    where
      at : (b : Bool) → is_object s x ks ≡ b → IfAny (R s) (cond b (Some (one_write (Assigned x ks v))) None)
      at true e = some_holds s (one_write (Assigned x ks v)) (k ks v refl e)
      at false e = none_holds s

  pub declares_holds : (s : State) (x : Variable) (o : Option ℕ) → ((v : ℕ) → R s (one_write (Declared x (Some v)))) → IfAny (R s) (declares x o)
  declares_holds s x None k = none_holds s
  declares_holds s x (Some v) k = some_holds s (one_write (Declared x (Some v))) (k v)

  pub declared_holds : (s : State) (x : Variable) (start : Option Source) → ((o : Option ℕ) → R s (one_write (Declared x o))) → IfAny (R s) (declared s x start)
  declared_holds s x None k = some_holds s (one_write (Declared x None)) (k None)
  declared_holds s x (Some e) k = declares_holds s x (source_value s e) (λ v. k (Some v))

  pub text_holds : (s : State) (o : Option (List ℕ)) → ((t : List ℕ) → R s (record { writes = []; text = t })) → IfAny (R s) (map_option (λ t. record { writes = []; text = t }) o)
  text_holds s None k = none_holds s
  text_holds s (Some t) k = some_holds s (record { writes = []; text = t }) (k t)

  -- ---- what holds of each assignment

  module _ (assigns : (s : State) (x : Variable) (is : List ℕ) (v : ℕ) → R s (one_write (Assigned x is v))) where
    pub write_holds : (s : State) (x : Variable) (is : Option (List ℕ)) (o : Option ℕ) → IfAny (R s) (assigned s x is o)
    write_holds s x is o = assigned_holds s x is o (λ ks v k there. assigns s x ks v)

    pub update_holds : (s : State) (x : Variable) (is : Exprs) (op : BinaryOp) (e : Expr) → IfAny (R s) (updated s x is op e)
    update_holds s x is op e = write_holds s x (values s is) (both_then (operate op) (value s (Object x is)) (value s e))

    pub step_holds : (s : State) (step : Increment) → IfAny (R s) (incremented s step)
    step_holds s (Up x) = update_holds s x no_exprs Plus (Literal 1 Bare)
    step_holds s (Down x) = update_holds s x no_exprs Minus (Literal 1 Bare)
    step_holds s (Set x e) = write_holds s x (Some []) (source_value s e)
    step_holds s (Change x op e) = update_holds s x no_exprs op e

    -- and of each text, and of declarations but those of one variable, holds of statements that do not declare it
    module _ (prints : (s : State) (t : List ℕ) → R s (record { writes = []; text = t })) (x : Variable) (declares_it : (s : State) (y : Variable) (o : Option ℕ) → (y == x) ≡ false → R s (one_write (Declared y o))) where
      among_parts : (xs ys : List Variable) → is_among (xs ++ ys) x ≡ false → (is_among xs x ≡ false) × (is_among ys x ≡ false)
      among_parts xs ys h = or_parts (is_among xs x) (is_among ys x) (sym (list_any-append (λ y. y == x) xs ys) ∙ h)

      mutual
        pub run_holds : (a : Stmt) → is_among (declared_in a) x ≡ false → (s : State) → IfAny (R s) (run a s)
        run_holds (Assign y is e) h s = write_holds s y (values s is) (source_value s e)
        run_holds (Update y is op e) h s = update_holds s y is op e
        run_holds (If b a) h s = test_holds s (holds s b) (run a s) (Some nothing) (run_holds a h s) (nothing_holds s)
        run_holds (IfElse b a d) h s =
            let parts = among_parts (declared_in a) (declared_in d) h in
            test_holds s (holds s b) (run a s) (run d s) (run_holds a parts.0 s) (run_holds d parts.1 s)
        run_holds (For y name start test step body) h s =
            let parts = or_parts (y == x) (is_among (declared_in body) x) h in
            steps_hold s (declared s y (Some start)) (turns greatest_trip_count (λ t. holds t test) (run body) (λ t. incremented t step)) (declared_holds s y (Some start) (λ o. declares_it s y o parts.0))
            (turns_hold test step (run body) (λ t. step_holds t step) (run_holds body parts.1) greatest_trip_count)
        run_holds (Block items) h s = items_hold items h s
        run_holds (Print parts) h s = text_holds s (print_text s parts) (prints s)

        items_hold : (items : Items) → is_among (declared_among items) x ≡ false → (s : State) → IfAny (R s) (run_items items s)
        items_hold no_items h s = nothing_holds s
        items_hold (mark line rest) h s = items_hold rest h s
        items_hold (local y name start rest) h s =
            let parts = or_parts (y == x) (is_among (declared_among rest) x) h in
            steps_hold s (declared s y start) (run_items rest) (declared_holds s y start (λ o. declares_it s y o parts.0)) (items_hold rest parts.1)
        items_hold (stmt a rest) h s =
            let parts = among_parts (declared_in a) (declared_among rest) h in
            steps_hold s (run a s) (run_items rest) (run_holds a parts.0 s) (items_hold rest parts.1)
