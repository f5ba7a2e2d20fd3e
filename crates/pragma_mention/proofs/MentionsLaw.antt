-- What is asked of a statement's parts is asked of each name in it.
use Rattle.std.specs.Prelude.{Bool, true, false, ◌&&◌, ◌≡◌, List, [], ◌∷◌, ◌++◌, flat_map, Option, Some, None}
use Rattle.std.specs.List.{list_all}
use Rattle.std.proofs.Common.{refl, sym, ap, ◌∙◌}
use Rattle.std.proofs.lemmas.List.Folds.{list_all-append}
use Rattle.semantics.specs.Tree.{Variable, Expr, Literal, Constant, Object, Unary, Binary, Conditional, Exprs, no_exprs, more_exprs, Cond, NotZero, Compare, Not, LogicalAnd, LogicalOr, Source, Number, Truth, Increment, Up, Down, Set, Change, PrintPart, Characters, Decimal, Stmt, Assign, Update, If, IfElse, For, Block, Print, Items, no_items, mark, local, stmt}
use Rattle.semantics.specs.Directives.Naming.{named_expr, named_exprs, named_cond, named_source, named_start, named_step, named_part, named_in, named_among}
use Rattle.semantics.specs.Meaning.Agrees.{names_expr, names_exprs, names_cond, names_source, names_start, names_step, names_parts}
use Rattle.pragma_mention.specs.Mentions.{mentions_only, mention_only}

and_same : {a b c d : Bool} → a ≡ b → c ≡ d → (a && c) ≡ (b && d)
and_same {a} {b} {c} {d} p q = ap (λ x. x && c) p ∙ ap (λ x. b && x) q

and_assoc : (a b c : Bool) → ((a && b) && c) ≡ (a && (b && c))
and_assoc true b c = refl
and_assoc false b c = refl

module _ (V : Variable → Bool) where
  abbrev each : List Variable → Bool
  each xs = list_all V xs

  -- two lists, and what is asked of each
  two : (xs ys : List Variable) {a b : Bool} → a ≡ each xs → b ≡ each ys → (a && b) ≡ each (xs ++ ys)
  two xs ys p q = and_same p q ∙ sym (list_all-append V xs ys)

  mutual
    in_expr : (e : Expr) → names_expr V e ≡ each (named_expr e)
    in_expr (Literal n suffix) = refl
    in_expr (Constant name n) = refl
    in_expr (Object x is) = ap (λ b. V x && b) (in_exprs is)
    in_expr (Unary op a) = in_expr a
    in_expr (Binary op a b) = two (named_expr a) (named_expr b) (in_expr a) (in_expr b)
    in_expr (Conditional c a b) = two (named_cond c ++ named_expr a) (named_expr b) (two (named_cond c) (named_expr a) (in_cond c) (in_expr a)) (in_expr b)

    in_exprs : (es : Exprs) → names_exprs V es ≡ each (named_exprs es)
    in_exprs no_exprs = refl
    in_exprs (more_exprs e es) = two (named_expr e) (named_exprs es) (in_expr e) (in_exprs es)

    in_cond : (c : Cond) → names_cond V c ≡ each (named_cond c)
    in_cond (NotZero a) = in_expr a
    in_cond (Compare op a b) = two (named_expr a) (named_expr b) (in_expr a) (in_expr b)
    in_cond (Not c) = in_cond c
    in_cond (LogicalAnd c d) = two (named_cond c) (named_cond d) (in_cond c) (in_cond d)
    in_cond (LogicalOr c d) = two (named_cond c) (named_cond d) (in_cond c) (in_cond d)

  in_source : (s : Source) → names_source V s ≡ each (named_source s)
  in_source (Number a) = in_expr a
  in_source (Truth c) = in_cond c

  in_start : (s : Option Source) → names_start V s ≡ each (named_start s)
  in_start None = refl
  in_start (Some a) = in_source a

  alone : (b : Bool) → b ≡ (b && true)
  alone true = refl
  alone false = refl

  in_step : (s : Increment) → names_step V s ≡ each (named_step s)
  in_step (Up x) = alone (V x)
  in_step (Down x) = alone (V x)
  in_step (Set x a) = ap (λ b. V x && b) (in_source a)
  in_step (Change x op a) = ap (λ b. V x && b) (in_expr a)

  in_parts : (ps : List PrintPart) → names_parts V ps ≡ each (flat_map named_part ps)
  in_parts [] = refl
  in_parts (Characters bs ∷ ps) = in_parts ps
  in_parts (Decimal a ∷ ps) = two (named_expr a) (flat_map named_part ps) (in_expr a) (in_parts ps)

  -- a target, its subscripts and what is assigned
  assigned : (x : Variable) (is : Exprs) (xs : List Variable) (b : Bool) → b ≡ each xs → (V x && names_exprs V is && b) ≡ each (x ∷ (named_exprs is ++ xs))
  assigned x is xs b e = and_assoc (V x) (names_exprs V is) b ∙ ap (λ c. V x && c) (two (named_exprs is) xs (in_exprs is) e)

  mutual
    -- of a statement
    pub in_statement : (s : Stmt) → mentions_only V s ≡ each (named_in s)
    in_statement (Assign x is a) = assigned x is (named_source a) (names_source V a) (in_source a)
    in_statement (Update x is op a) = assigned x is (named_expr a) (names_expr V a) (in_expr a)
    in_statement (If c a) = two (named_cond c) (named_in a) (in_cond c) (in_statement a)
    in_statement (IfElse c a b) = two (named_cond c ++ named_in a) (named_in b) (two (named_cond c) (named_in a) (in_cond c) (in_statement a)) (in_statement b)
    in_statement (For x name start test step body) =
        two (named_source start ++ named_cond test ++ named_step step) (named_in body)
        (two (named_source start ++ named_cond test) (named_step step) (two (named_source start) (named_cond test) (in_source start) (in_cond test)) (in_step step)) (in_statement body)
    in_statement (Block items) = in_items items
    in_statement (Print parts) = in_parts parts

    in_items : (items : Items) → mention_only V items ≡ each (named_among items)
    in_items no_items = refl
    in_items (mark line rest) = in_items rest
    in_items (local x name start rest) = two (named_start start) (named_among rest) (in_start start) (in_items rest)
    in_items (stmt a rest) = two (named_in a) (named_among rest) (in_statement a) (in_items rest)
