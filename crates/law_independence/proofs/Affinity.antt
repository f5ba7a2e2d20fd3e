-- In a body whose subscripts are in range each access is affine.
use Rattle.std.specs.Prelude.{ℕ, ◌≡◌, ◌⊎◌, List, [], ◌∷◌, ◌++◌, Option, Some, None, slice_get}
use Rattle.std.proofs.Common.{refl, inl, inr}
use Rattle.semantics.specs.Tree.{Variable, Expr, Literal, Constant, Object, Unary, Binary, Conditional, Exprs, no_exprs, more_exprs, Cond, NotZero, Compare, Not, LogicalAnd, LogicalOr, Source, Number, Truth, PrintPart, Characters, Decimal, Stmt, Assign, Update, If, IfElse, For, Block, Print, Items, no_items, mark, local, stmt, Declaration}
use Rattle.semantics.specs.Loops.Nest.{Loop}
use Rattle.affine.specs.declared.interval.Side.{Side}
use Rattle.affine.specs.Affine.{Affine}
use Rattle.affine_expr.specs.Forms.{form_of}
use Rattle.pairtest_counter.specs.Levels.{Nesting}
use Rattle.pairtest.specs.declared.access.Mode.{Mode}
use Rattle.nest.specs.Nests.{StaysBelow, AllStay, lengths_of, StaysInside, ExprHas, CondHas, SourceHas, StartHas, PartsHave, Has, Have}
use Rattle.pairtest_access.specs.Sites.{Site, named, expr_sites, cond_sites, source_sites, start_sites, part_sites}
use Rattle.pairtest_access.specs.Found.{AreEach}
use Rattle.pairtest_access.specs.Refused.{Lacks, IsStuck, AreStuck}
use Rattle.law_independence.specs.Inside.{LoopsAreRead, ItemsAreRead}
use Rattle.law_independence.proofs.IndependentNests.{body_there}

form_there : (box : List Side) (n : ℕ) (o : Option Affine) → StaysBelow box n o → (f : Affine) × (o ≡ Some f)
form_there box n None h = absurd h
form_there box n (Some f) h = (f, refl)

-- subscripts in range have forms
forms_there : (box : List Side) (ns : List ℕ) (es : Exprs) → AllStay box ns es → (fs : List Affine) × AreEach (λ e f. form_of box e ≡ Some f) es fs
forms_there box [] no_exprs h = ([], tt)
forms_there box (n ∷ ns) no_exprs h = absurd h
forms_there box [] (more_exprs e es) h = absurd h
forms_there box (n ∷ ns) (more_exprs e es) h =
    let here = form_there box n (form_of box e) h.0 in
    let rest = forms_there box ns es h.1 in
    (here.0 ∷ rest.0, (here.1, rest.1))

lacks_cases : (xs ys : List Site) → Lacks (xs ++ ys) → Lacks xs ⊎ Lacks ys
lacks_cases [] ys h = inr h
lacks_cases (s ∷ xs) ys (inl h) = inl (inl h)
lacks_cases (s ∷ xs) ys (inr h) = go (lacks_cases xs ys h)
  where
    go : Lacks xs ⊎ Lacks ys → Lacks (s ∷ xs) ⊎ Lacks ys
    go (inl k) = inl (inr k)
    go (inr k) = inr k

lacks_both : (xs ys : List Site) → (Lacks xs → ⊥) → (Lacks ys → ⊥) → Lacks (xs ++ ys) → ⊥
lacks_both xs ys p q h = go (lacks_cases xs ys h)
  where
    go : Lacks xs ⊎ Lacks ys → ⊥
    go (inl k) = p k
    go (inr k) = q k

module _ (ds : List Declaration) where
  module _ (n : Nesting) where
    named_affine : (mode : Mode) (x : Variable) (es : Exprs) → StaysInside ds n.box x es → Lacks (named n mode x es) → ⊥
    named_affine mode x no_exprs h k = k
    named_affine mode x (more_exprs e es) h (inl none) = let fs = forms_there n.box (lengths_of (slice_get ds x)) (more_exprs e es) h in none fs.0 fs.1
    named_affine mode x (more_exprs e es) h (inr k) = k

    mutual
      expr_affine : (e : Expr) → ExprHas (StaysInside ds) n.box e → Lacks (expr_sites n e) → ⊥
      expr_affine (Literal value suffix) h k = k
      expr_affine (Constant name value) h k = k
      expr_affine (Object x es) h k = named_affine _ x es h k
      expr_affine (Unary op a) h k = expr_affine a h k
      expr_affine (Binary op a b) h k = lacks_both (expr_sites n a) (expr_sites n b) (expr_affine a h.0) (expr_affine b h.1) k
      expr_affine (Conditional c a b) h k =
          lacks_both (cond_sites n c) (expr_sites n a ++ expr_sites n b) (cond_affine c h.0) (lacks_both (expr_sites n a) (expr_sites n b) (expr_affine a h.1) (expr_affine b h.2)) k

      cond_affine : (c : Cond) → CondHas (StaysInside ds) n.box c → Lacks (cond_sites n c) → ⊥
      cond_affine (NotZero a) h k = expr_affine a h k
      cond_affine (Compare op a b) h k = lacks_both (expr_sites n a) (expr_sites n b) (expr_affine a h.0) (expr_affine b h.1) k
      cond_affine (Not c) h k = cond_affine c h k
      cond_affine (LogicalAnd c d) h k = lacks_both (cond_sites n c) (cond_sites n d) (cond_affine c h.0) (cond_affine d h.1) k
      cond_affine (LogicalOr c d) h k = lacks_both (cond_sites n c) (cond_sites n d) (cond_affine c h.0) (cond_affine d h.1) k

    source_affine : (e : Source) → SourceHas (StaysInside ds) n.box e → Lacks (source_sites n e) → ⊥
    source_affine (Number a) h k = expr_affine a h k
    source_affine (Truth c) h k = cond_affine c h k

    start_affine : (o : Option Source) → StartHas (StaysInside ds) n.box o → Lacks (start_sites n o) → ⊥
    start_affine None h k = k
    start_affine (Some e) h k = source_affine e h k

    parts_affine : (ps : List PrintPart) → PartsHave (StaysInside ds) n.box ps → Lacks (part_sites n ps) → ⊥
    parts_affine [] h k = k
    parts_affine (Characters bs ∷ ps) h k = parts_affine ps h k
    parts_affine (Decimal a ∷ ps) h k = lacks_both (expr_sites n a) (part_sites n ps) (expr_affine a h.0) (parts_affine ps h.1) k

  mutual
    -- nothing is stuck there
    pub none_stuck : (s : Stmt) (n : Nesting) → LoopsAreRead n.box s → Has (StaysInside ds) n.box s → IsStuck n s → ⊥
    none_stuck (Assign x es e) n read has k = lacks_both (named n _ x es) (source_sites n e) (named_affine n _ x es has.0) (source_affine n e has.1) k
    none_stuck (Update x es op e) n read has k = lacks_both (named n _ x es) (expr_sites n e) (named_affine n _ x es has.0) (expr_affine n e has.1) k
    none_stuck (If c a) n read has (inl k) = cond_affine n c has.0 k
    none_stuck (If c a) n read has (inr k) = none_stuck a n read has.1 k
    none_stuck (IfElse c a b) n read has (inl k) = cond_affine n c has.0 k
    none_stuck (IfElse c a b) n read has (inr (inl k)) = none_stuck a n read.0 has.1 k
    none_stuck (IfElse c a b) n read has (inr (inr k)) = none_stuck b n read.1 has.2 k
    none_stuck (For x name start test step body) n read has (inner, into, k) =
        let h : Loop = record { variable = x; start = start; test = test; step = step } in
        let there = body_there ds n inner h body into (record { read = read.0; each = read.1; loop = has.0; numbers = has.1; is = has.2; stays = has.3 }) in
        none_stuck body inner there.read there.stays k
    none_stuck (Block items) n read has k = none_stuck_among items n read has k
    none_stuck (Print parts) n read has k = parts_affine n parts has k

    none_stuck_among : (items : Items) (n : Nesting) → ItemsAreRead n.box items → Have (StaysInside ds) n.box items → AreStuck n items → ⊥
    none_stuck_among no_items n read has k = k
    none_stuck_among (mark line rest) n read has k = none_stuck_among rest n read has k
    none_stuck_among (local x name start rest) n read has (inl k) = start_affine n start has.0 k
    none_stuck_among (local x name start rest) n read has (inr k) = none_stuck_among rest n read has.1 k
    none_stuck_among (stmt s rest) n read has (inl k) = none_stuck s n read.0 has.0 k
    none_stuck_among (stmt s rest) n read has (inr k) = none_stuck_among rest n read.1 has.1 k
