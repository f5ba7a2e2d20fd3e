-- Values of what names variables that look the same in two states.
use Rattle.std.specs.Prelude.{ℕ, Bool, true, false, ◌≡◌, ◌==◌, ◌&&◌, not, List, [], ◌∷◌, ◌++◌, Option, Some, None, option_and_then}
use Rattle.std.specs.Fmt.{decimal}
use Rattle.std.proofs.Common.{refl, ap, ◌∙◌, cond}
use Rattle.semantics.specs.Tree.{Variable, Expr, Literal, Constant, Object, Unary, Binary, Conditional, Exprs, no_exprs, more_exprs, Cond, NotZero, Compare, Not, LogicalAnd, LogicalOr, Source, Number, Truth, PrintPart, Characters, Decimal}
use Rattle.semantics.specs.Meaning.State.{State, look}
use Rattle.semantics.specs.Meaning.Value.{operate, change, compare, map_option, both, both_then, by_test, value, values, holds, source_value}
use Rattle.semantics.specs.Meaning.Runs.{print_text}
use Rattle.semantics.specs.Meaning.Agrees.{names_expr, names_exprs, names_cond, names_source, names_parts}
use Rattle.law_commute.proofs.Values.{first_of, second_of}

module _ (V : Variable → Bool) (s t : State) (same : (x : Variable) (is : List ℕ) → V x ≡ true → look s x is ≡ look t x is) where
  mutual
    pub value_seen : (e : Expr) → names_expr V e ≡ true → value s e ≡ value t e
    value_seen (Literal n suffix) h = refl
    value_seen (Constant name n) h = refl
    value_seen (Object x is) h = ap (option_and_then (λ ks. look s x ks)) (values_seen is (second_of (V x) (names_exprs V is) h)) ∙ at (values t is)
      where
        at : (o : Option (List ℕ)) → option_and_then (λ ks. look s x ks) o ≡ option_and_then (λ ks. look t x ks) o
        at None = refl
        at (Some ks) = same x ks (first_of (V x) (names_exprs V is) h)
    value_seen (Unary op a) h = ap (map_option (change op)) (value_seen a h)
    value_seen (Binary op a b) h =
        let one = value_seen a (first_of (names_expr V a) (names_expr V b) h) in
        let two = value_seen b (second_of (names_expr V a) (names_expr V b) h) in
        λ i. both_then (operate op) (one i) (two i)
    value_seen (Conditional c a b) h =
        let front = first_of (names_cond V c && names_expr V a) (names_expr V b) h in
        let test = holds_seen c (first_of (names_cond V c) (names_expr V a) front) in
        let one = value_seen a (second_of (names_cond V c) (names_expr V a) front) in
        let two = value_seen b (second_of (names_cond V c && names_expr V a) (names_expr V b) h) in
        λ i. by_test (test i) (one i) (two i)

    pub values_seen : (es : Exprs) → names_exprs V es ≡ true → values s es ≡ values t es
    values_seen no_exprs h = refl
    values_seen (more_exprs e es) h =
        let one = value_seen e (first_of (names_expr V e) (names_exprs V es) h) in
        let others = values_seen es (second_of (names_expr V e) (names_exprs V es) h) in
        λ i. both (λ n ns. n ∷ ns) (one i) (others i)

    pub holds_seen : (c : Cond) → names_cond V c ≡ true → holds s c ≡ holds t c
    holds_seen (NotZero e) h = ap (map_option (λ v. not (v == 0))) (value_seen e h)
    holds_seen (Compare op a b) h =
        let one = value_seen a (first_of (names_expr V a) (names_expr V b) h) in
        let two = value_seen b (second_of (names_expr V a) (names_expr V b) h) in
        λ i. both (compare op) (one i) (two i)
    holds_seen (Not c) h = ap (map_option not) (holds_seen c h)
    holds_seen (LogicalAnd c d) h =
        let one = holds_seen c (first_of (names_cond V c) (names_cond V d) h) in
        let two = holds_seen d (second_of (names_cond V c) (names_cond V d) h) in
        λ i. by_test (one i) (two i) (Some false)
    holds_seen (LogicalOr c d) h =
        let one = holds_seen c (first_of (names_cond V c) (names_cond V d) h) in
        let two = holds_seen d (second_of (names_cond V c) (names_cond V d) h) in
        λ i. by_test (one i) (Some true) (two i)

  pub source_seen : (e : Source) → names_source V e ≡ true → source_value s e ≡ source_value t e
  source_seen (Number e) h = value_seen e h
  source_seen (Truth c) h = ap (map_option (λ b. cond b 1 0)) (holds_seen c h)

  pub text_seen : (parts : List PrintPart) → names_parts V parts ≡ true → print_text s parts ≡ print_text t parts
  text_seen [] h = refl
  text_seen (Characters bs ∷ parts) h = ap (both (λ a b. a ++ b) (Some bs)) (text_seen parts h)
  text_seen (Decimal e ∷ parts) h =
      let one = value_seen e (first_of (names_expr V e) (names_parts V parts) h) in
      let others = text_seen parts (second_of (names_expr V e) (names_parts V parts) h) in
      λ i. both (λ a b. a ++ b) (map_option decimal (one i)) (others i)
