-- Expressions have the same values in both states.
use Rattle.std.specs.Prelude.{ℕ, Bool, true, false, not, ◌==◌, ◌≡◌, ◌&&◌, List, [], ◌∷◌, ◌++◌, Option, Some, None, option_and_then}
use Rattle.std.proofs.Common.{refl, sym, ap, ◌∙◌, cond}
use Rattle.std.specs.Fmt.{decimal}
use Rattle.std.specs.List.{AllByRecursion as Each}
use Rattle.semantics.specs.Tree.{Variable, Expr, Literal, Constant, Object, Unary, Binary, Conditional, Exprs, no_exprs, more_exprs, Cond, NotZero, Compare, Not, LogicalAnd, LogicalOr, Source, Number, Truth, PrintPart, Characters, Decimal}
use Rattle.semantics.specs.Meaning.State.{State, Slot, Outside, Empty, Holds, look, look_in}
use Rattle.semantics.specs.Meaning.Value.{value, values, holds, source_value, by_test, both, both_then, map_option, change, operate, compare}
use Rattle.semantics.specs.Meaning.Runs.{print_text}
use Rattle.semantics.specs.Meaning.Agrees.{names_expr, names_exprs, names_cond, names_source, names_parts}
use Rattle.semantics.specs.Loops.Nest.{Loop}
use Rattle.semantics.specs.Loops.Access.{Access, Mode, Reads, named, expr_accesses, cond_accesses, source_accesses, part_accesses}
use Rattle.law_commute.specs.Steady.{IsFixedExpr, IsFixedCond, IsFixedSource, AreFixed, IsSteadyExpr, IsSteadyCond, IsSteadySource, AreSteadyParts}
use Rattle.law_commute.proofs.Same.{SameVariable, look_same, Point}
use Rattle.law_commute.proofs.Lists.{each_left, each_right}

pub first_of : (a b : Bool) → (a && b) ≡ true → a ≡ true
first_of true b h = refl
first_of false b h = h

pub second_of : (a b : Bool) → (a && b) ≡ true → b ≡ true
second_of true b h = h
second_of false b h = absurd cc

-- of fixed variables
module _ (F : Variable → Bool) (s t : State) (same : (y : Variable) → F y ≡ true → SameVariable y s t) where
  mutual
    pub fixed_value : (e : Expr) → IsFixedExpr F e → value s e ≡ value t e
    fixed_value (Literal n suffix) h = refl
    fixed_value (Constant name n) h = refl
    fixed_value (Object x no_exprs) h = look_same x s t (same x h)
    fixed_value (Object x (more_exprs i is)) h = absurd h
    fixed_value (Unary op a) h = ap (map_option (change op)) (fixed_value a h)
    fixed_value (Binary op a b) h = λ i. both_then (operate op) (fixed_value a h.0 i) (fixed_value b h.1 i)
    fixed_value (Conditional c a b) h = λ i. by_test (fixed_holds c h.0 i) (fixed_value a h.1 i) (fixed_value b h.2 i)

    pub fixed_holds : (c : Cond) → IsFixedCond F c → holds s c ≡ holds t c
    fixed_holds (NotZero a) h = ap (map_option (λ v. not (v == 0))) (fixed_value a h)
    fixed_holds (Compare op a b) h = λ i. both (compare op) (fixed_value a h.0 i) (fixed_value b h.1 i)
    fixed_holds (Not c) h = ap (map_option not) (fixed_holds c h)
    fixed_holds (LogicalAnd c d) h = λ i. by_test (fixed_holds c h.0 i) (fixed_holds d h.1 i) (Some false)
    fixed_holds (LogicalOr c d) h = λ i. by_test (fixed_holds c h.0 i) (Some true) (fixed_holds d h.1 i)

  pub fixed_source : (e : Source) → IsFixedSource F e → source_value s e ≡ source_value t e
  fixed_source (Number a) h = fixed_value a h
  fixed_source (Truth c) h = ap (map_option (λ b. cond b 1 0)) (fixed_holds c h)

  pub fixed_values : (is : Exprs) → AreFixed F is → values s is ≡ values t is
  fixed_values no_exprs h = refl
  fixed_values (more_exprs i is) h = λ j. both (λ k ks. k ∷ ks) (fixed_value i h.0 j) (fixed_values is h.1 j)

-- subscripts of an element are some
both_not_none : (a : Option ℕ) (b : Option (List ℕ)) → both (λ k ks. k ∷ ks) a b ≡ Some [] → ⊥
both_not_none (Some a) (Some b) e = absurd cc
both_not_none (Some a) None e = absurd cc
both_not_none None b e = absurd cc

pub not_no_indexes : (s : State) (i : Expr) (is : Exprs) → values s (more_exprs i is) ≡ Some [] → ⊥
not_no_indexes s i is e = both_not_none (value s i) (values s is) e

-- at a place of the body, inside these loops; an access of it reaches elements that are the same
module _ (T : Variable → ℕ → List ℕ → Type 0) (F K : Variable → Bool) (m r r' : State) (p : Point T F K m r r') (inner : List Loop) (Q : Access → Type 0)
    (reach : (x : Variable) (is : Exprs) (mode : Mode) → Q (record { array = x; subscripts = is; mode = mode; inner = inner }) → (j : ℕ) (js : List ℕ) → values m is ≡ Some (j ∷ js) → T x j js) where
  -- an element
  element_same : (x : Variable) (j : ℕ) (js : List ℕ) → K x ≡ true → T x j js → look r x (j ∷ js) ≡ look r' x (j ∷ js)
  element_same x j js k t = ap (λ l. look_in l r x (j ∷ js)) (p.both x k).locals ∙ at (r'.locals x)
    where
      at : (l : Slot) → look_in l r x (j ∷ js) ≡ look_in l r' x (j ∷ js)
      at Outside = p.elements x j js t
      at Empty = refl
      at (Holds v) = refl

  -- an object, read or about to be written
  pub object_same : (x : Variable) (is : Exprs) (mode : Mode) → K x ≡ true → AreFixed F is → Each Q (named x is mode inner) → value r (Object x is) ≡ value r' (Object x is)
  object_same x no_exprs mode k h q = look_same x r r' (p.both x k)
  object_same x (more_exprs i is) mode k h q =
      let one = fixed_values F r m p.one (more_exprs i is) h in
      let two = fixed_values F r' m p.two (more_exprs i is) h in
      ap (option_and_then (λ ks. look r x ks)) one ∙ at (values m (more_exprs i is)) refl ∙ sym (ap (option_and_then (λ ks. look r' x ks)) two)
    where
      at : (o : Option (List ℕ)) → values m (more_exprs i is) ≡ o → option_and_then (λ ks. look r x ks) o ≡ option_and_then (λ ks. look r' x ks) o
      at None e = refl
      at (Some []) e = absurd (not_no_indexes m i is e)
      at (Some (j ∷ js)) e = element_same x j js k (reach x (more_exprs i is) mode q.0 j js e)

  mutual
    pub steady_value : (e : Expr) → names_expr K e ≡ true → IsSteadyExpr F e → Each Q (expr_accesses inner e) → value r e ≡ value r' e
    steady_value (Literal n suffix) k h q = refl
    steady_value (Constant name n) k h q = refl
    steady_value (Object x is) k h q = object_same x is Reads (first_of (K x) (names_exprs K is) k) h q
    steady_value (Unary op a) k h q = ap (map_option (change op)) (steady_value a k h q)
    steady_value (Binary op a b) k h q =
        let one = steady_value a (first_of (names_expr K a) (names_expr K b) k) h.0 (each_left Q (expr_accesses inner a) (expr_accesses inner b) q) in
        let two = steady_value b (second_of (names_expr K a) (names_expr K b) k) h.1 (each_right Q (expr_accesses inner a) (expr_accesses inner b) q) in
        λ i. both_then (operate op) (one i) (two i)
    steady_value (Conditional c a b) k h q =
        let front = first_of (names_cond K c && names_expr K a) (names_expr K b) k in
        let behind = each_left Q (cond_accesses inner c ++ expr_accesses inner a) (expr_accesses inner b) q in
        let test = steady_holds c (first_of (names_cond K c) (names_expr K a) front) h.0 (each_left Q (cond_accesses inner c) (expr_accesses inner a) behind) in
        let one = steady_value a (second_of (names_cond K c) (names_expr K a) front) h.1 (each_right Q (cond_accesses inner c) (expr_accesses inner a) behind) in
        let two = steady_value b (second_of (names_cond K c && names_expr K a) (names_expr K b) k) h.2 (each_right Q (cond_accesses inner c ++ expr_accesses inner a) (expr_accesses inner b) q) in
        λ i. by_test (test i) (one i) (two i)

    pub steady_holds : (c : Cond) → names_cond K c ≡ true → IsSteadyCond F c → Each Q (cond_accesses inner c) → holds r c ≡ holds r' c
    steady_holds (NotZero a) k h q = ap (map_option (λ v. not (v == 0))) (steady_value a k h q)
    steady_holds (Compare op a b) k h q =
        let one = steady_value a (first_of (names_expr K a) (names_expr K b) k) h.0 (each_left Q (expr_accesses inner a) (expr_accesses inner b) q) in
        let two = steady_value b (second_of (names_expr K a) (names_expr K b) k) h.1 (each_right Q (expr_accesses inner a) (expr_accesses inner b) q) in
        λ i. both (compare op) (one i) (two i)
    steady_holds (Not c) k h q = ap (map_option not) (steady_holds c k h q)
    steady_holds (LogicalAnd c d) k h q =
        let one = steady_holds c (first_of (names_cond K c) (names_cond K d) k) h.0 (each_left Q (cond_accesses inner c) (cond_accesses inner d) q) in
        let two = steady_holds d (second_of (names_cond K c) (names_cond K d) k) h.1 (each_right Q (cond_accesses inner c) (cond_accesses inner d) q) in
        λ i. by_test (one i) (two i) (Some false)
    steady_holds (LogicalOr c d) k h q =
        let one = steady_holds c (first_of (names_cond K c) (names_cond K d) k) h.0 (each_left Q (cond_accesses inner c) (cond_accesses inner d) q) in
        let two = steady_holds d (second_of (names_cond K c) (names_cond K d) k) h.1 (each_right Q (cond_accesses inner c) (cond_accesses inner d) q) in
        λ i. by_test (one i) (Some true) (two i)

  pub steady_source : (e : Source) → names_source K e ≡ true → IsSteadySource F e → Each Q (source_accesses inner e) → source_value r e ≡ source_value r' e
  steady_source (Number a) k h q = steady_value a k h q
  steady_source (Truth c) k h q = ap (map_option (λ b. cond b 1 0)) (steady_holds c k h q)

  pub steady_parts : (ps : List PrintPart) → names_parts K ps ≡ true → AreSteadyParts F ps → Each Q (part_accesses inner ps) → print_text r ps ≡ print_text r' ps
  steady_parts [] k h q = refl
  steady_parts (Characters bs ∷ ps) k h q = ap (both (λ a b. a ++ b) (Some bs)) (steady_parts ps k h q)
  steady_parts (Decimal a ∷ ps) k h q =
      let one = steady_value a (first_of (names_expr K a) (names_parts K ps) k) h.0 (each_left Q (expr_accesses inner a) (part_accesses inner ps) q) in
      let others = steady_parts ps (second_of (names_expr K a) (names_parts K ps) k) h.1 (each_right Q (expr_accesses inner a) (part_accesses inner ps) q) in
      λ i. both (λ a b. a ++ b) (map_option decimal (one i)) (others i)
