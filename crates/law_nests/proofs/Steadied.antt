-- Loops whose heads nothing changes that stands in them.
use Rattle.std.specs.Prelude.{ℕ, zero, suc, Bool, true, false, ◌≡◌, ◌==◌, ◌||◌, List, [], ◌∷◌, ◌++◌, map, filter, Option, Some, None, option_and_then, Contains}
use Rattle.std.specs.List.{AllByRecursion as Each}
use Rattle.std.proofs.Common.{refl, sym, ap, ◌∙◌, subst, cond}
use Rattle.std.proofs.lemmas.Bool.{eqb-true}
use Rattle.std.proofs.lemmas.List.{append_assoc, append-nil}
use Rattle.std.proofs.lemmas.List.Elements.{All-contains, All-from_recursion}
use Rattle.semantics.specs.Tree.{Variable, Expr, Literal, Constant, Object, Unary, Binary, Conditional, Exprs, no_exprs, more_exprs, Cond, NotZero, Compare, Not, LogicalAnd, LogicalOr, Source, Number, Truth, PrintPart, Characters, Decimal, Stmt, Assign, Update, If, IfElse, For, Block, Print, Items, no_items, mark, local, stmt}
use Rattle.semantics.specs.Meaning.State.{State, Holds, Assigned, assign_at, with_local, overwritten, look, look_in}
use Rattle.semantics.specs.Meaning.Value.{by_test, both, map_option}
use Rattle.semantics.specs.Meaning.Runs.{Effect, incremented, greatest_trip_count}
use Rattle.semantics.specs.Meaning.Agrees.{also, declared_in, declared_among, is_among, visible_behind}
use Rattle.semantics.specs.Loops.Nest.{Loop, at_value, values_from, loop_values, iterations, concat_options}
use Rattle.semantics.specs.Loops.Access.{Access, Mode, Writes, accesses, items_accesses, named, expr_accesses, cond_accesses, source_accesses, start_accesses, part_accesses}
use Rattle.semantics.proofs.NestLaw.{local_same}
use Rattle.law_commute.specs.Steady.{IsFixedSource, IsFixedCond, IsFixedStep, IsSteadyTarget, IsSteady, AreSteady}
use Rattle.law_commute.specs.Targets.{scalar, targets, targets_among, targets_outside}
use Rattle.law_commute.specs.Commuting.{KeepsToItself}
use Rattle.law_commute.proofs.Same.{SameVariable, same_set, also_other, also_more}
use Rattle.law_commute.proofs.Lists.{each_join}
use Rattle.law_commute.proofs.Values.{fixed_source, fixed_holds}
use Rattle.law_commute.proofs.Framed.{step_number, number_to, step_is, step_same, also_itself, true_not_false}

-- loops inside each other: each one's bounds and step are of what is fixed, or of the variables of those round it
abbrev pub AreFixedLoops : (Variable → Bool) → List Loop → Type 0
AreFixedLoops F [] = Unit {0}
AreFixedLoops F (l ∷ ls) =
    IsFixedSource F l.start × IsFixedCond (also F l.variable) l.test × IsFixedStep (also F l.variable) l.variable l.step × AreFixedLoops (also F l.variable) ls

-- what is fixed is the same in both
abbrev pub SameFixed : (Variable → Bool) → State → State → Type 0
SameFixed F s t = (y : Variable) → F y ≡ true → SameVariable y s t

pub same_at_value : (F : Variable → Bool) (x : Variable) (v : ℕ) (s t : State) → SameFixed F s t → SameFixed (also F x) (at_value s x v) (at_value t x v)
same_at_value F x v s t same y h = same_set x y s t (Holds v) refl (λ other. same y (also_other F x y h other))

-- a step writes the loop's own variable
pub step_left : (s : State) (x : Variable) (v k : ℕ) → s.locals x ≡ Holds v → overwritten s (Assigned x [] k ∷ []) ≡ with_local s x (Holds k)
step_left s x v k e = ap (λ slot. assign_at slot s x [] k) e

module _ (F : Variable → Bool) (l : Loop) (test_fixed : IsFixedCond (also F l.variable) l.test) (step_fixed : IsFixedStep (also F l.variable) l.variable l.step) where
  abbrev own : Variable
  own = l.variable

  abbrev next : ℕ → State → Effect → Option (List ℕ)
  next n s e = values_from n l (overwritten s e.writes)

  own_look : (v : ℕ) (q : State) → q.locals own ≡ Holds v → look q own [] ≡ Some v
  own_look v q e = ap (λ slot. look_in slot q own []) e

  -- behind a step
  same_next : (n v : ℕ) (s t : State) → s.locals own ≡ Holds v → t.locals own ≡ Holds v → SameFixed (also F own) s t
      → ((k : ℕ) → values_from n l (with_local s own (Holds k)) ≡ values_from n l (with_local t own (Holds k)))
      → option_and_then (next n s) (incremented s l.step) ≡ option_and_then (next n t) (incremented t l.step)
  same_next n v s t hs ht same rest =
      ap (option_and_then (next n s)) (step_is (also F own) s own v l.step hs step_fixed)
      ∙ at (step_number s l.step)
      ∙ ap (λ o. option_and_then (next n t) (number_to own o)) (step_same (also F own) s t same own (also_itself F own) l.step step_fixed)
      ∙ sym (ap (option_and_then (next n t)) (step_is (also F own) t own v l.step ht step_fixed))
    where
      at : (o : Option ℕ) → option_and_then (next n s) (number_to own o) ≡ option_and_then (next n t) (number_to own o)
      at None = refl
      at (Some k) = ap (values_from n l) (step_left s own v k hs) ∙ rest k ∙ sym (ap (values_from n l) (step_left t own v k ht))

  pub same_values : (n v : ℕ) (s t : State) → s.locals own ≡ Holds v → t.locals own ≡ Holds v → SameFixed (also F own) s t → values_from n l s ≡ values_from n l t
  same_values zero v s t hs ht same = ap (λ b. by_test b None (Some [])) (fixed_holds (also F own) s t same l.test test_fixed)
  same_values (suc n) v s t hs ht same =
      let seen = own_look v s hs ∙ sym (own_look v t ht) in
      let rest = same_next n v s t hs ht same
      (λ k. same_values n k (with_local s own (Holds k)) (with_local t own (Holds k)) (local_same s own (Holds k)) (local_same t own (Holds k)) (λ y h. same_set own y s t (Holds k) refl (λ other. same y h))) in
      λ i. by_test (fixed_holds (also F own) s t same l.test test_fixed i) (both (λ w ws. w ∷ ws) (seen i) (rest i)) (Some [])

-- such loops have the same iterations in both
pub same_iterations : (ls : List Loop) (F : Variable → Bool) (s t : State) → SameFixed F s t → AreFixedLoops F ls → iterations ls s ≡ iterations ls t
same_iterations [] F s t same h = refl
same_iterations (l ∷ ls) F s t same h =
    let all : loop_values l s ≡ loop_values l t =
    λ i. option_and_then (λ v. same_values F l h.1 h.2 greatest_trip_count v (at_value s l.variable v) (at_value t l.variable v) (local_same s l.variable (Holds v)) (local_same t l.variable (Holds v)) (same_at_value F l.variable v s t same) i)
    (fixed_source F s t same l.start h.0 i) in
    let inner : (v : ℕ) → iterations ls (at_value s l.variable v) ≡ iterations ls (at_value t l.variable v) =
    λ v. same_iterations ls (also F l.variable) (at_value s l.variable v) (at_value t l.variable v) (same_at_value F l.variable v s t same) h.3 in
    λ i. option_and_then (λ vs. concat_options (map (λ v. map_option (map (λ us. v ∷ us)) (inner v i)) vs)) (all i)

-- an access whose loops are these and fixed ones inside them
abbrev Behind : (Variable → Bool) → List Loop → Access → Type 0
Behind F inner a = (more : List Loop) × (a.inner ≡ inner ++ more) × AreFixedLoops F more

each_weaker : (P Q : Access → Type 0) (xs : List Access) → ((a : Access) → P a → Q a) → Each P xs → Each Q xs
each_weaker P Q [] h k = tt
each_weaker P Q (a ∷ xs) h k = (h a k.0, each_weaker P Q xs h k.1)

module _ (F : Variable → Bool) (inner : List Loop) where
  abbrev Here : Access → Type 0
  Here = Behind F inner

  here : (x : Variable) (is : Exprs) (mode : Mode) → Each Here (named x is mode inner)
  here x no_exprs mode = tt
  here x (more_exprs i is) mode = (([], sym (append-nil inner), tt), tt)

  mutual
    expr_here : (e : Expr) → Each Here (expr_accesses inner e)
    expr_here (Literal n suffix) = tt
    expr_here (Constant name n) = tt
    expr_here (Object x is) = here x is Mode.Reads
    expr_here (Unary op a) = expr_here a
    expr_here (Binary op a b) = each_join Here (expr_accesses inner a) (expr_accesses inner b) (expr_here a) (expr_here b)
    expr_here (Conditional c a b) =
        each_join Here (cond_accesses inner c ++ expr_accesses inner a) (expr_accesses inner b)
        (each_join Here (cond_accesses inner c) (expr_accesses inner a) (cond_here c) (expr_here a)) (expr_here b)

    cond_here : (c : Cond) → Each Here (cond_accesses inner c)
    cond_here (NotZero a) = expr_here a
    cond_here (Compare op a b) = each_join Here (expr_accesses inner a) (expr_accesses inner b) (expr_here a) (expr_here b)
    cond_here (Not c) = cond_here c
    cond_here (LogicalAnd c d) = each_join Here (cond_accesses inner c) (cond_accesses inner d) (cond_here c) (cond_here d)
    cond_here (LogicalOr c d) = each_join Here (cond_accesses inner c) (cond_accesses inner d) (cond_here c) (cond_here d)

  source_here : (e : Source) → Each Here (source_accesses inner e)
  source_here (Number a) = expr_here a
  source_here (Truth c) = cond_here c

  start_here : (e : Option Source) → Each Here (start_accesses inner e)
  start_here None = tt
  start_here (Some a) = source_here a

  parts_here : (ps : List PrintPart) → Each Here (part_accesses inner ps)
  parts_here [] = tt
  parts_here (Characters bs ∷ ps) = parts_here ps
  parts_here (Decimal a ∷ ps) = each_join Here (expr_accesses inner a) (part_accesses inner ps) (expr_here a) (parts_here ps)

mutual
  -- the loops round an access of a steady statement
  stmt_behind : (a : Stmt) (inner : List Loop) (F : Variable → Bool) → IsSteady F a → Each (Behind F inner) (accesses inner a)
  stmt_behind (Assign x is e) inner F h =
      each_join (Behind F inner) (named x is Writes inner) (source_accesses inner e) (here F inner x is Writes) (source_here F inner e)
  stmt_behind (Update x is op e) inner F h =
      each_join (Behind F inner) (named x is Writes inner) (expr_accesses inner e) (here F inner x is Writes) (expr_here F inner e)
  stmt_behind (If c a) inner F h = each_join (Behind F inner) (cond_accesses inner c) (accesses inner a) (cond_here F inner c) (stmt_behind a inner F h.1)
  stmt_behind (IfElse c a b) inner F h =
      each_join (Behind F inner) (cond_accesses inner c ++ accesses inner a) (accesses inner b)
      (each_join (Behind F inner) (cond_accesses inner c) (accesses inner a) (cond_here F inner c) (stmt_behind a inner F h.1)) (stmt_behind b inner F h.2)
  stmt_behind (For x name start test step body) inner F h =
      let l : Loop = record { variable = x; start = start; test = test; step = step } in
      each_weaker (Behind (also F x) (inner ++ l ∷ [])) (Behind F inner) (accesses (inner ++ l ∷ []) body)
      (λ a k. (l ∷ k.0, k.1 ∙ append_assoc inner (l ∷ []) k.0, (h.1, h.2, h.3, k.2)))
      (stmt_behind body (inner ++ l ∷ []) (also F x) h.4)
  stmt_behind (Block items) inner F h = items_behind items inner F h
  stmt_behind (Print parts) inner F h = parts_here F inner parts

  items_behind : (items : Items) (inner : List Loop) (F : Variable → Bool) → AreSteady F items → Each (Behind F inner) (items_accesses inner items)
  items_behind no_items inner F h = tt
  items_behind (mark line rest) inner F h = items_behind rest inner F h
  items_behind (local x name start rest) inner F h =
      each_join (Behind F inner) (start_accesses inner start) (items_accesses inner rest) (start_here F inner start) (items_behind rest inner F h.2)
  items_behind (stmt a rest) inner F h =
      each_join (Behind F inner) (accesses inner a) (items_accesses inner rest) (stmt_behind a inner F h.0) (items_behind rest inner F h.1)

-- so the loops round an access of a steady body have the same turns in states where what is fixed is the same
pub same_inner : (body : Stmt) (F : Variable → Bool) (s t : State) → IsSteady F body → SameFixed F s t → (a : Access) → Contains (accesses [] body) a → iterations a.inner s ≡ iterations a.inner t
same_inner body F s t steady same a among =
    let k = All-contains (Behind F []) (accesses [] body) a (All-from_recursion (Behind F []) (accesses [] body) (stmt_behind body [] F steady)) among in
    same_iterations a.inner F s t same (subst (AreFixedLoops F) (sym k.1) k.2)

-- it is one of the first, or of the others
among_either : (P : Type 0) (xs ys : List Variable) (x : Variable) → is_among (xs ++ ys) x ≡ true → (is_among xs x ≡ true → P) → (is_among ys x ≡ true → P) → P
among_either P [] ys x h first second = second h
among_either P (z ∷ xs) ys x h first second = at (z == x) refl h (λ k others. among_either P xs ys x k others second)
  where
    at : (b : Bool) → (z == x) ≡ b → (b || is_among (xs ++ ys) x) ≡ true → (is_among (xs ++ ys) x ≡ true → (is_among xs x ≡ true → P) → P) → P
    at true e k rest = first (ap (λ b. b || is_among xs x) e)
    at false e k rest = rest k (λ j. first (ap (λ b. b || is_among xs x) e ∙ j))

one_of_two : (F : Variable → Bool) (x y : Variable) (others : Bool) → F y ≡ false → ((y == x) || others) ≡ true → (others ≡ true → F x ≡ false) → F x ≡ false
one_of_two F x y others h k rest = at (y == x) refl k
  where
    at : (b : Bool) → (y == x) ≡ b → (b || others) ≡ true → F x ≡ false
    at true e j = ap F (sym (eqb-true y x e)) ∙ h
    at false e j = rest j

less_fixed : (F : Variable → Bool) (x y : Variable) → also F y x ≡ false → F x ≡ false
less_fixed F x y h = at (F x) refl
  where
    at : (b : Bool) → F x ≡ b → F x ≡ false
    at true e = absurd (true_not_false (also F y x) (also_more F y x e) h)
    at false e = e

mutual
  -- what a steady statement declares is not fixed
  pub declared_free : (a : Stmt) (F : Variable → Bool) (x : Variable) → IsSteady F a → is_among (declared_in a) x ≡ true → F x ≡ false
  declared_free (Assign y is e) F x h k = absurd (let q : false ≡ true = k in cc)
  declared_free (Update y is op e) F x h k = absurd (let q : false ≡ true = k in cc)
  declared_free (If c a) F x h k = declared_free a F x h.1 k
  declared_free (IfElse c a b) F x h k = among_either (F x ≡ false) (declared_in a) (declared_in b) x k (declared_free a F x h.1) (declared_free b F x h.2)
  declared_free (For y name start test step body) F x h k =
      one_of_two F x y (is_among (declared_in body) x) h.0 k (λ j. less_fixed F x y (declared_free body (also F y) x h.4 j))
  declared_free (Block items) F x h k = items_free items F x h k
  declared_free (Print parts) F x h k = absurd (let q : false ≡ true = k in cc)

  items_free : (items : Items) (F : Variable → Bool) (x : Variable) → AreSteady F items → is_among (declared_among items) x ≡ true → F x ≡ false
  items_free no_items F x h k = absurd (let q : false ≡ true = k in cc)
  items_free (mark line rest) F x h k = items_free rest F x h k
  items_free (local y name start rest) F x h k = one_of_two F x y (is_among (declared_among rest) x) h.0 k (λ j. items_free rest F x h.2 j)
  items_free (stmt a rest) F x h k = among_either (F x ≡ false) (declared_in a) (declared_among rest) x k (declared_free a F x h.0) (items_free rest F x h.1)

scalar_free : (y : Variable) (is : Exprs) (F : Variable → Bool) (x : Variable) → IsSteadyTarget F y is → is_among (scalar y is) x ≡ true → F x ≡ false
scalar_free y no_exprs F x h k = one_of_two F x y false h k (λ j. absurd (let q : false ≡ true = j in cc))
scalar_free y (more_exprs i is) F x h k = absurd (let q : false ≡ true = k in cc)

mutual
  -- so is a scalar that it assigns
  pub target_free : (a : Stmt) (F : Variable → Bool) (x : Variable) → IsSteady F a → is_among (targets a) x ≡ true → F x ≡ false
  target_free (Assign y is e) F x h k = scalar_free y is F x h.0 k
  target_free (Update y is op e) F x h k = scalar_free y is F x h.0 k
  target_free (If c a) F x h k = target_free a F x h.1 k
  target_free (IfElse c a b) F x h k = among_either (F x ≡ false) (targets a) (targets b) x k (target_free a F x h.1) (target_free b F x h.2)
  target_free (For y name start test step body) F x h k = less_fixed F x y (target_free body (also F y) x h.4 k)
  target_free (Block items) F x h k = item_targets_free items F x h k
  target_free (Print parts) F x h k = absurd (let q : false ≡ true = k in cc)

  item_targets_free : (items : Items) (F : Variable → Bool) (x : Variable) → AreSteady F items → is_among (targets_among items) x ≡ true → F x ≡ false
  item_targets_free no_items F x h k = absurd (let q : false ≡ true = k in cc)
  item_targets_free (mark line rest) F x h k = item_targets_free rest F x h k
  item_targets_free (local y name start rest) F x h k = item_targets_free rest F x h.2 k
  item_targets_free (stmt a rest) F x h k = among_either (F x ≡ false) (targets a) (targets_among rest) x k (target_free a F x h.0) (item_targets_free rest F x h.1)

-- what is left of a list by a test passes it, and stands in the list
pub among_filter : (f : Variable → Bool) (xs : List Variable) (x : Variable) → is_among (filter f xs) x ≡ true → (f x ≡ true) × (is_among xs x ≡ true)
among_filter f [] x h = absurd (let q : false ≡ true = h in cc)
among_filter f (y ∷ xs) x h = at (f y) refl h (λ k. among_filter f xs x k)
  where
    later : (c : Bool) → (f x ≡ true) × (is_among xs x ≡ true) → (f x ≡ true) × ((c || is_among xs x) ≡ true)
    later true r = (r.0, refl)
    later false r = r

    here : (c : Bool) → (y == x) ≡ c → f y ≡ true → (c || is_among (filter f xs) x) ≡ true → (is_among (filter f xs) x ≡ true → (f x ≡ true) × (is_among xs x ≡ true)) → (f x ≡ true) × ((c || is_among xs x) ≡ true)
    here true e p k rest = (ap f (sym (eqb-true y x e)) ∙ p, refl)
    here false e p k rest = rest k

    at : (b : Bool) → f y ≡ b → is_among (cond b (y ∷ filter f xs) (filter f xs)) x ≡ true → (is_among (filter f xs) x ≡ true → (f x ≡ true) × (is_among xs x ≡ true)) → (f x ≡ true) × (((y == x) || is_among xs x) ≡ true)
    at true p k rest = here (y == x) refl p k rest
    at false p k rest = later (y == x) (rest k)

-- a statement that keeps to itself assigns no scalar from outside
pub no_targets : (s : Stmt) (x : Variable) → KeepsToItself s → is_among (targets_outside s) x ≡ false
no_targets s x keeps = at (is_among (targets_outside s) x) refl
  where
    at : (b : Bool) → is_among (targets_outside s) x ≡ b → is_among (targets_outside s) x ≡ false
    at true e =
        let found = among_filter (visible_behind s) (targets s) x e in
        absurd (true_not_false (visible_behind s x) found.0 (target_free s (visible_behind s) x keeps.steady found.1))
    at false e = e
