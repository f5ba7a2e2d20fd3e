-- What one part writes and the other reads.
use Rattle.std.specs.Prelude.{ℕ, Bool, true, false, not, ◌==◌, ◌&&◌, ◌||◌, ◌≡◌, List, [], ◌∷◌, ◌++◌, flat_map, Option, Some, None}
use Rattle.std.specs.HashSet.{HashSet}
use Rattle.std.specs.List.{list_all}
use Rattle.std.proofs.Common.{refl, sym, ap, ◌∙◌}
use Rattle.std.proofs.lemmas.Bool.{eqb-true, eqb-false, true_from_ne_false, false_from_ne_true}
use Rattle.std.proofs.Math.Path.{fun_ext}
use Rattle.std.proofs.lemmas.List.Folds.{list_all-append}
use Rattle.semantics.specs.Tree.{Variable, Expr, Literal, Constant, Object, Unary, Binary, Conditional, Exprs, no_exprs, more_exprs, Cond, NotZero, Compare, Not, LogicalAnd, LogicalOr, Source, Number, Truth, Increment, Up, Down, Set, Change, PrintPart, Characters, Decimal, Stmt, Assign, Update, If, IfElse, For, Block, Print, Items, no_items, mark, local, stmt}
use Rattle.semantics.specs.Directives.Naming.{named_expr, named_exprs, named_cond, named_source, named_start, named_step, named_part}
use Rattle.semantics.specs.Meaning.Agrees.{is_among, names_expr, names_exprs, names_cond, names_source, names_start, names_step, names_parts}
use Rattle.law_scans.specs.Phases.{written_among, read_in, read_among, spares}
use Rattle.pragma_mention.specs.Sets.{holds}
use Rattle.flow_scan.specs.Sharing.{reads_only, read_only}
use Rattle.flow_scan.specs.Views.{is_spared}

and_same : {a b c d : Bool} → a ≡ b → c ≡ d → (a && c) ≡ (b && d)
and_same {a} {b} {c} {d} p q = ap (λ x. x && c) p ∙ ap (λ x. b && x) q

and_assoc : (a b c : Bool) → ((a && b) && c) ≡ (a && (b && c))
and_assoc true b c = refl
and_assoc false b c = refl

-- ---- each part reads nothing else, and each name that it reads is none else

module _ (V : Variable → Bool) where
  abbrev each : List Variable → Bool
  each xs = list_all V xs

  two : (xs ys : List Variable) {a b : Bool} → a ≡ each xs → b ≡ each ys → (a && b) ≡ each (xs ++ ys)
  two xs ys p q = and_same p q ∙ sym (list_all-append V xs ys)

  mutual
    in_expr : (e : Expr) → names_expr V e ≡ each (named_expr e)
    in_expr (Literal n suffix) = refl
    in_expr (Constant name n) = refl
    in_expr (Object x is) = ap (λ b. V x && b) (in_exprs is)
    in_expr (Unary op a) = in_expr a
    in_expr (Binary op a b) = two (named_expr a) (named_expr b) (in_expr a) (in_expr b)
    in_expr (Conditional c a b) = two (named_cond c ++ named_expr a) (named_expr b) (two (named_cond c) (named_expr a) (in_cond c) (in_expr a)) (in_expr b)

    in_exprs : (es : Exprs) → names_exprs V es ≡ each (named_exprs es)
    in_exprs no_exprs = refl
    in_exprs (more_exprs e es) = two (named_expr e) (named_exprs es) (in_expr e) (in_exprs es)

    in_cond : (c : Cond) → names_cond V c ≡ each (named_cond c)
    in_cond (NotZero a) = in_expr a
    in_cond (Compare op a b) = two (named_expr a) (named_expr b) (in_expr a) (in_expr b)
    in_cond (Not c) = in_cond c
    in_cond (LogicalAnd c d) = two (named_cond c) (named_cond d) (in_cond c) (in_cond d)
    in_cond (LogicalOr c d) = two (named_cond c) (named_cond d) (in_cond c) (in_cond d)

  in_source : (s : Source) → names_source V s ≡ each (named_source s)
  in_source (Number a) = in_expr a
  in_source (Truth c) = in_cond c

  in_start : (s : Option Source) → names_start V s ≡ each (named_start s)
  in_start None = refl
  in_start (Some a) = in_source a

  alone : (b : Bool) → b ≡ (b && true)
  alone true = refl
  alone false = refl

  in_step : (s : Increment) → names_step V s ≡ each (named_step s)
  in_step (Up x) = alone (V x)
  in_step (Down x) = alone (V x)
  in_step (Set x a) = ap (λ b. V x && b) (in_source a)
  in_step (Change x op a) = ap (λ b. V x && b) (in_expr a)

  in_parts : (ps : List PrintPart) → names_parts V ps ≡ each (flat_map named_part ps)
  in_parts [] = refl
  in_parts (Characters bs ∷ ps) = in_parts ps
  in_parts (Decimal a ∷ ps) = two (named_expr a) (flat_map named_part ps) (in_expr a) (in_parts ps)

  mutual
    in_statement : (s : Stmt) → reads_only V s ≡ each (read_in s)
    in_statement (Assign x is a) = two (named_exprs is) (named_source a) (in_exprs is) (in_source a)
    in_statement (Update x is op a) =
        and_assoc (V x) (names_exprs V is) (names_expr V a) ∙ ap (λ b. V x && b) (two (named_exprs is) (named_expr a) (in_exprs is) (in_expr a))
    in_statement (If c a) = two (named_cond c) (read_in a) (in_cond c) (in_statement a)
    in_statement (IfElse c a b) = two (named_cond c ++ read_in a) (read_in b) (two (named_cond c) (read_in a) (in_cond c) (in_statement a)) (in_statement b)
    in_statement (For x name start test step body) =
        two (named_source start ++ named_cond test ++ named_step step) (read_in body)
        (two (named_source start ++ named_cond test) (named_step step) (two (named_source start) (named_cond test) (in_source start) (in_cond test)) (in_step step)) (in_statement body)
    in_statement (Block items) = in_items items
    in_statement (Print parts) = in_parts parts

    in_items : (items : Items) → read_only V items ≡ each (read_among items)
    in_items no_items = refl
    in_items (mark line rest) = in_items rest
    in_items (local x name start rest) = two (named_start start) (read_among rest) (in_start start) (in_items rest)
    in_items (stmt a rest) = two (read_in a) (read_among rest) (in_statement a) (in_items rest)

-- ---- from what is read to what is written

all_and : (a b : Variable → Bool) (xs : List Variable) → list_all (λ y. a y && b y) xs ≡ (list_all a xs && list_all b xs)
all_and a b [] = refl
all_and a b (x ∷ xs) = ap (λ c. (a x && b x) && c) (all_and a b xs) ∙ swapped (a x) (b x) (list_all a xs) (list_all b xs)
  where
    swapped : (a b c d : Bool) → ((a && b) && (c && d)) ≡ ((a && c) && (b && d))
    swapped true true c d = refl
    swapped true false true d = refl
    swapped true false false d = refl
    swapped false b c d = refl

same_all : (a b : Variable → Bool) → ((y : Variable) → a y ≡ b y) → (xs : List Variable) → list_all a xs ≡ list_all b xs
same_all a b same xs = ap (λ f. list_all f xs) (fun_ext same)

all_true : (xs : List Variable) → list_all (λ y. true) xs ≡ true
all_true [] = refl
all_true (x ∷ xs) = all_true xs

or_true : (b : Bool) → (b || true) ≡ true
or_true true = refl
or_true false = refl

or_false : (b : Bool) → (b || false) ≡ b
or_false true = refl
or_false false = refl

same_itself : (n : ℕ) → (n == n) ≡ true
same_itself n = true_from_ne_false (n == n) (λ e. eqb-false n n e refl)

other_way : (m n : ℕ) → (m == n) ≡ false → (n == m) ≡ false
other_way m n e = false_from_ne_true (n == m) (λ f. eqb-false m n e (sym (eqb-true n m f)))

-- one that is neither, whatever it is
not_both : (x y : Variable) → true ≡ (y == x || not (x == y))
not_both x y = by (y == x) refl
  where
    by : (b : Bool) → (y == x) ≡ b → true ≡ (y == x || not (x == y))
    by true e = sym (ap (λ b. b || not (x == y)) e)
    by false e = sym (ap (λ b. b || not (x == y)) e ∙ ap not (other_way y x e))

module _ (x : Variable) where
  abbrev differs : Variable → Variable → Bool
  differs r y = y == x || not (r == y)

  -- x itself, and a name that is written
  own : (r : Variable) (ws : List Variable) (b : Bool) → (r == x) ≡ b → (r == x) ≡ ((r == x || false) && list_all (differs r) ws)
  own r ws false e = e ∙ sym (ap (λ b. (b || false) && list_all (differs r) ws) e)
  own r ws true e =
      let all : list_all (differs r) ws ≡ true = ap (λ z. list_all (differs z) ws) (eqb-true r x e) ∙ sym (same_all (λ y. true) (differs x) (not_both x) ws) ∙ all_true ws in
      e ∙ sym (ap (λ b. (b || false) && list_all (differs r) ws) e ∙ all)

  -- a name that is read is x, or none of those that are written
  one_read : (r : Variable) (ws : List Variable) → (r == x || not (is_among ws r)) ≡ list_all (differs r) ws
  one_read r [] = or_true (r == x)
  one_read r (w ∷ ws) = by (w == r) refl (one_read r ws)
    where
      by : (b : Bool) → (w == r) ≡ b → (r == x || not (is_among ws r)) ≡ list_all (differs r) ws → (r == x || not (is_among (w ∷ ws) r)) ≡ list_all (differs r) (w ∷ ws)
      by true e rest =
          ap (λ b. r == x || not (b || is_among ws r)) e ∙ or_false (r == x) ∙ own r ws (r == x) refl
          ∙ sym (ap (λ z. (z == x || not (r == z)) && list_all (differs r) ws) (eqb-true w r e) ∙ ap (λ b. (r == x || not b) && list_all (differs r) ws) (same_itself r))
      by false e rest =
          ap (λ b. r == x || not (b || is_among ws r)) e ∙ rest
          ∙ sym (ap (λ b. (w == x || not b) && list_all (differs r) ws) (other_way w r e) ∙ ap (λ b. b && list_all (differs r) ws) (or_true (w == x)))

  either : (a b c : Bool) → (a || not (b || c)) ≡ ((a || not b) && (a || not c))
  either true b c = refl
  either false true c = refl
  either false false c = refl

  -- and each that is written is x, or none of those that are read
  turned : (rs ws : List Variable) → list_all (λ r. r == x || not (is_among ws r)) rs ≡ list_all (λ y. y == x || not (is_among rs y)) ws
  turned [] ws = sym (same_all (λ y. y == x || true) (λ y. true) (λ y. or_true (y == x)) ws ∙ all_true ws)
  turned (r ∷ rs) ws =
      and_same (one_read r ws) (turned rs ws)
      ∙ sym (same_all (λ y. y == x || not (r == y || is_among rs y)) (λ y. differs r y && (y == x || not (is_among rs y))) (λ y. either (y == x) (r == y) (is_among rs y)) ws
      ∙ all_and (differs r) (λ y. y == x || not (is_among rs y)) ws)

  -- a set of what is written, and what reads none of it
  pub spares_are : {S : Type 0} (set : HashSet ℕ S) (writer reader : Items) → ((q : ℕ) → holds set q ≡ is_among (written_among writer) q)
      → read_only (is_spared set x) reader ≡ spares x writer reader
  spares_are set writer reader are =
      in_items (is_spared set x) reader
      ∙ same_all (is_spared set x) (λ r. r == x || not (is_among (written_among writer) r)) (λ r. ap (λ b. r == x || not b) (are r)) (read_among reader)
      ∙ turned (read_among reader) (written_among writer)
