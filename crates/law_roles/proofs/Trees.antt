-- Expressions that are the same tree are equal.
use Rattle.std.specs.Prelude.{ℕ, true, ◌≡◌, ◌==◌, ◌&&◌}
use Rattle.std.proofs.Common.{refl, sym, ap, ◌∙◌, cond}
use Rattle.std.proofs.lemmas.Bool.{true≢false, eqb-true}
use Rattle.std.specs.Cmp.Lexicographic.{same_text}
use Rattle.semantics.specs.Tree.{Suffix, Bare, Ull, UnaryOp, Negate, Complement, BinaryOp, Plus, Minus, Times, Divide, Remainder, BitAnd, BitOr, BitXor, ShiftLeft, ShiftRight, CompareOp, Less, LessEqual, Greater, GreaterEqual, Equal, NotEqual, Expr, Literal, Constant, Object, Unary, Binary, Conditional, Exprs, no_exprs, more_exprs, Cond, NotZero, Compare, Not, LogicalAnd, LogicalOr}
use Rattle.semantics.specs.Meaning.State.{same_indexes}
use Rattle.law_commute.proofs.Values.{first_of, second_of}
use Rattle.law_roles.specs.Updates.{suffix_number, unary_number, binary_number, compare_number, same_expr, same_exprs, same_cond}

abbrev suffix_of : ℕ → Suffix
suffix_of n = cond (n == 0) Bare Ull

suffix_back : (a : Suffix) → suffix_of (suffix_number a) ≡ a
suffix_back Bare = refl
suffix_back Ull = refl

abbrev unary_of : ℕ → UnaryOp
unary_of n = cond (n == 0) Negate Complement

unary_back : (a : UnaryOp) → unary_of (unary_number a) ≡ a
unary_back Negate = refl
unary_back Complement = refl

abbrev binary_of : ℕ → BinaryOp
binary_of n = cond (n == 0) Plus (cond (n == 1) Minus (cond (n == 2) Times (cond (n == 3) Divide (cond (n == 4) Remainder (cond (n == 5) BitAnd (cond (n == 6) BitOr (cond (n == 7) BitXor (cond (n == 8) ShiftLeft ShiftRight))))))))

binary_back : (a : BinaryOp) → binary_of (binary_number a) ≡ a
binary_back Plus = refl
binary_back Minus = refl
binary_back Times = refl
binary_back Divide = refl
binary_back Remainder = refl
binary_back BitAnd = refl
binary_back BitOr = refl
binary_back BitXor = refl
binary_back ShiftLeft = refl
binary_back ShiftRight = refl

abbrev compare_of : ℕ → CompareOp
compare_of n = cond (n == 0) Less (cond (n == 1) LessEqual (cond (n == 2) Greater (cond (n == 3) GreaterEqual (cond (n == 4) Equal NotEqual))))

compare_back : (a : CompareOp) → compare_of (compare_number a) ≡ a
compare_back Less = refl
compare_back LessEqual = refl
compare_back Greater = refl
compare_back GreaterEqual = refl
compare_back Equal = refl
compare_back NotEqual = refl

-- numbers tell what they number
told : {A : Type 0} (number : A → ℕ) (of : ℕ → A) (a b : A) → of (number a) ≡ a → of (number b) ≡ b → (number a == number b) ≡ true → a ≡ b
told number of a b one two e = sym one ∙ ap of (eqb-true (number a) (number b) e) ∙ two

mutual
  pub same_expr_is : (a b : Expr) → same_expr a b ≡ true → a ≡ b
  same_expr_is (Literal m p) (Literal n q) h =
      let one = eqb-true m n (first_of (m == n) (suffix_number p == suffix_number q) h) in
      let two = told suffix_number suffix_of p q (suffix_back p) (suffix_back q) (second_of (m == n) (suffix_number p == suffix_number q) h) in
      λ i. Literal (one i) (two i)
  same_expr_is (Constant name m) (Constant other n) h =
      let one = same_text name other (sym (first_of (same_indexes name other) (m == n) h)) in
      let two = eqb-true m n (second_of (same_indexes name other) (m == n) h) in
      λ i. Constant (one i) (two i)
  same_expr_is (Object x is) (Object y js) h =
      let one = eqb-true x y (first_of (x == y) (same_exprs is js) h) in
      let two = same_exprs_is is js (second_of (x == y) (same_exprs is js) h) in
      λ i. Object (one i) (two i)
  same_expr_is (Unary p a) (Unary q b) h =
      let one = told unary_number unary_of p q (unary_back p) (unary_back q) (first_of (unary_number p == unary_number q) (same_expr a b) h) in
      let two = same_expr_is a b (second_of (unary_number p == unary_number q) (same_expr a b) h) in
      λ i. Unary (one i) (two i)
  same_expr_is (Binary p a b) (Binary q c d) h =
      let front = first_of ((binary_number p == binary_number q) && same_expr a c) (same_expr b d) h in
      let one = told binary_number binary_of p q (binary_back p) (binary_back q) (first_of (binary_number p == binary_number q) (same_expr a c) front) in
      let two = same_expr_is a c (second_of (binary_number p == binary_number q) (same_expr a c) front) in
      let three = same_expr_is b d (second_of ((binary_number p == binary_number q) && same_expr a c) (same_expr b d) h) in
      λ i. Binary (one i) (two i) (three i)
  same_expr_is (Conditional p a b) (Conditional q c d) h =
      let front = first_of (same_cond p q && same_expr a c) (same_expr b d) h in
      let one = same_cond_is p q (first_of (same_cond p q) (same_expr a c) front) in
      let two = same_expr_is a c (second_of (same_cond p q) (same_expr a c) front) in
      let three = same_expr_is b d (second_of (same_cond p q && same_expr a c) (same_expr b d) h) in
      λ i. Conditional (one i) (two i) (three i)
  same_expr_is _ _ h = absurd (true≢false (sym h))

  pub same_exprs_is : (a b : Exprs) → same_exprs a b ≡ true → a ≡ b
  same_exprs_is no_exprs no_exprs h = refl
  same_exprs_is (more_exprs a is) (more_exprs b js) h =
      let one = same_expr_is a b (first_of (same_expr a b) (same_exprs is js) h) in
      let two = same_exprs_is is js (second_of (same_expr a b) (same_exprs is js) h) in
      λ i. more_exprs (one i) (two i)
  same_exprs_is _ _ h = absurd (true≢false (sym h))

  pub same_cond_is : (a b : Cond) → same_cond a b ≡ true → a ≡ b
  same_cond_is (NotZero a) (NotZero b) h = ap NotZero (same_expr_is a b h)
  same_cond_is (Compare p a b) (Compare q c d) h =
      let front = first_of ((compare_number p == compare_number q) && same_expr a c) (same_expr b d) h in
      let one = told compare_number compare_of p q (compare_back p) (compare_back q) (first_of (compare_number p == compare_number q) (same_expr a c) front) in
      let two = same_expr_is a c (second_of (compare_number p == compare_number q) (same_expr a c) front) in
      let three = same_expr_is b d (second_of ((compare_number p == compare_number q) && same_expr a c) (same_expr b d) h) in
      λ i. Compare (one i) (two i) (three i)
  same_cond_is (Not p) (Not q) h = ap Not (same_cond_is p q h)
  same_cond_is (LogicalAnd a b) (LogicalAnd c d) h =
      let one = same_cond_is a c (first_of (same_cond a c) (same_cond b d) h) in
      let two = same_cond_is b d (second_of (same_cond a c) (same_cond b d) h) in
      λ i. LogicalAnd (one i) (two i)
  same_cond_is (LogicalOr a b) (LogicalOr c d) h =
      let one = same_cond_is a c (first_of (same_cond a c) (same_cond b d) h) in
      let two = same_cond_is b d (second_of (same_cond a c) (same_cond b d) h) in
      λ i. LogicalOr (one i) (two i)
  same_cond_is _ _ h = absurd (true≢false (sym h))
