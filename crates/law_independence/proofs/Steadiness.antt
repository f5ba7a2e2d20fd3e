-- Subscripts and inner loops of a body are fixed by the variables of the loops round them, and it assigns none of the variables that are fixed. (OpenMP 5.2, 4.4.1 and 5.1.1)
use Rattle.std.specs.Prelude.{ℕ, suc, Bool, true, false, ◌≡◌, ◌<◌, ◌≤◌, ◌==◌, List, [], ◌∷◌, ◌++◌, length, Option, Some, None, slice_get}
use Rattle.std.proofs.Common.{refl, sym, ap, ◌∙◌, subst, arith}
use Rattle.std.proofs.lemmas.Bool.{eqb-true, eq-eqb, or_left, or_right, or_from, true≢false}
use Rattle.std.proofs.lemmas.Option.{slice_get_within}
use Rattle.semantics.specs.Tree.{Variable, Expr, Literal, Constant, Object, Unary, Binary, Conditional, Exprs, no_exprs, more_exprs, Cond, NotZero, Compare, Not, LogicalAnd, LogicalOr, Source, Number, Truth, PrintPart, Characters, Decimal, Stmt, Items, Declaration}
use Rattle.semantics.specs.Source.Token.{Token}
use Rattle.semantics.specs.Source.Scope.{Scope}
use Rattle.semantics.specs.Source.Statements.{ReadsStmt, assign, update, if_only, if_else, for_loop, block, print, ReadsItems, no_more, line, empty_local, first_local, statement}
use Rattle.semantics.specs.Meaning.Agrees.{also, is_among, declared_in, declared_among}
use Rattle.affine.specs.declared.interval.Interval.{Interval}
use Rattle.affine.specs.declared.interval.Side.{Side}
use Rattle.affine.specs.Affine.{Affine}
use Rattle.affine_expr.specs.Forms.{form_of}
use Rattle.nest_loop.specs.Loops.{inside}
use Rattle.nest_loop.proofs.Heads.{head_of}
use Rattle.nest.specs.Nests.{ExprHas, CondHas, SourceHas, PartsHave, Has, Have, StaysBelow, AllStay, lengths_of, StaysInside}
use Rattle.flow.proofs.PrivateLemmas.{among_both}
use Rattle.law_commute.specs.Targets.{scalar, targets, targets_among}
use Rattle.law_commute.specs.Steady.{IsFixedExpr, IsFixedCond, IsFixedSource, AreFixed, IsSteadyExpr, IsSteadyCond, IsSteadySource, AreSteadyParts, IsSteadyTarget, IsSteady, AreSteady}
use Rattle.law_independence.proofs.Numbering.{declared_from}
use Rattle.law_independence.proofs.Fixed.{form_fixed, own_fixed, step_fixed}
use Rattle.law_independence.proofs.Naming.{NamesCounters, counters_inside}
use Rattle.law_independence.proofs.Targeted.{no_target}

-- a variable with subscripts
abbrev pub IsArray : List Declaration → Variable → Type 0
IsArray ds x = lengths_of (slice_get ds x) ≡ [] → ⊥

array_there : (ds : List Declaration) (box : List Side) (x : ℕ) (i : Expr) (is : Exprs) → StaysInside ds box x (more_exprs i is) → IsArray ds x
array_there ds box x i is h none = subst (λ ns. AllStay box ns (more_exprs i is)) none h

-- is one of the file
pub array_below : (ds : List Declaration) (x : ℕ) → IsArray ds x → x < length ds
array_below ds x array = go (slice_get ds x) refl array
  where
    go : (o : Option Declaration) → slice_get ds x ≡ o → (lengths_of o ≡ [] → ⊥) → x < length ds
    go None e q = absurd (q refl)
    go (Some d) e q = slice_get_within ds x d e

-- ---- expressions

module _ (ds : List Declaration) (box : List Side) (fixed : Variable → Bool) (counters : NamesCounters fixed box) where
  subscript_fixed : (e : Expr) (n : ℕ) → StaysBelow box n (form_of box e) → IsFixedExpr fixed e
  subscript_fixed e n h = go (form_of box e) refl h
    where
      go : (o : Option Affine) → form_of box e ≡ o → StaysBelow box n o → IsFixedExpr fixed e
      go None is q = absurd q
      go (Some f) is q = form_fixed box fixed counters e f is

  subscripts_fixed : (ns : List ℕ) (is : Exprs) → AllStay box ns is → AreFixed fixed is
  subscripts_fixed [] no_exprs h = tt
  subscripts_fixed [] (more_exprs e es) h = absurd h
  subscripts_fixed (n ∷ ns) no_exprs h = absurd h
  subscripts_fixed (n ∷ ns) (more_exprs e es) h = (subscript_fixed e n h.0, subscripts_fixed ns es h.1)

  object_fixed : (x : Variable) (is : Exprs) → StaysInside ds box x is → AreFixed fixed is
  object_fixed x is h = subscripts_fixed (lengths_of (slice_get ds x)) is h

  mutual
    expr_steady : (e : Expr) → ExprHas (StaysInside ds) box e → IsSteadyExpr fixed e
    expr_steady (Literal n suffix) h = tt
    expr_steady (Constant name n) h = tt
    expr_steady (Object x is) h = object_fixed x is h
    expr_steady (Unary op a) h = expr_steady a h
    expr_steady (Binary op a b) h = (expr_steady a h.0, expr_steady b h.1)
    expr_steady (Conditional c a b) h = (cond_steady c h.0, expr_steady a h.1, expr_steady b h.2)

    cond_steady : (c : Cond) → CondHas (StaysInside ds) box c → IsSteadyCond fixed c
    cond_steady (NotZero a) h = expr_steady a h
    cond_steady (Compare op a b) h = (expr_steady a h.0, expr_steady b h.1)
    cond_steady (Not c) h = cond_steady c h
    cond_steady (LogicalAnd c d) h = (cond_steady c h.0, cond_steady d h.1)
    cond_steady (LogicalOr c d) h = (cond_steady c h.0, cond_steady d h.1)

  source_steady : (e : Source) → SourceHas (StaysInside ds) box e → IsSteadySource fixed e
  source_steady (Number a) h = expr_steady a h
  source_steady (Truth c) h = cond_steady c h

  parts_steady : (ps : List PrintPart) → PartsHave (StaysInside ds) box ps → AreSteadyParts fixed ps
  parts_steady [] h = tt
  parts_steady (Characters bs ∷ ps) h = parts_steady ps h
  parts_steady (Decimal e ∷ ps) h = (expr_steady e h.0, parts_steady ps h.1)

-- ---- statements

-- what is fixed in a statement: the variables of the loops round it and arrays, and none that it declares or assigns
pub record IsFixing (ds : List Declaration) (box : List Side) (fixed : Variable → Bool) (declared assigned : List Variable) : Type 0 where
  pub counters : NamesCounters fixed box
  pub arrays : (y : Variable) → IsArray ds y → fixed y ≡ true
  pub fresh : (y : Variable) → is_among declared y ≡ true → fixed y ≡ false
  pub scalars : (y : Variable) → is_among assigned y ≡ true → fixed y ≡ false

module _ (ds : List Declaration) where
  abbrev Fixing : List Side → (Variable → Bool) → Stmt → Type 0
  Fixing box fixed a = IsFixing ds box fixed (declared_in a) (targets a)

  abbrev AllFixing : List Side → (Variable → Bool) → Items → Type 0
  AllFixing box fixed items = IsFixing ds box fixed (declared_among items) (targets_among items)

  -- the first of two lists, and the second
  left_fixing : (box : List Side) (fixed : Variable → Bool) (xs ys zs ws : List Variable) → IsFixing ds box fixed (xs ++ ys) (zs ++ ws) → IsFixing ds box fixed xs zs
  left_fixing box fixed xs ys zs ws is =
      record {
        counters = is.counters;
        arrays = is.arrays;
        fresh = λ y h. is.fresh y (among_both xs ys y ∙ or_left (is_among xs y) (is_among ys y) h);
        scalars = λ y h. is.scalars y (among_both zs ws y ∙ or_left (is_among zs y) (is_among ws y) h);
      }

  right_fixing : (box : List Side) (fixed : Variable → Bool) (xs ys zs ws : List Variable) → IsFixing ds box fixed (xs ++ ys) (zs ++ ws) → IsFixing ds box fixed ys ws
  right_fixing box fixed xs ys zs ws is =
      record {
        counters = is.counters;
        arrays = is.arrays;
        fresh = λ y h. is.fresh y (among_both xs ys y ∙ or_right (is_among xs y) (is_among ys y) h);
        scalars = λ y h. is.scalars y (among_both zs ws y ∙ or_right (is_among zs y) (is_among ws y) h);
      }

  -- the others behind a local
  later_fixing : (box : List Side) (fixed : Variable → Bool) (x : Variable) (xs zs : List Variable) → IsFixing ds box fixed (x ∷ xs) zs → IsFixing ds box fixed xs zs
  later_fixing box fixed x xs zs is =
      record { counters = is.counters; arrays = is.arrays; fresh = λ y h. is.fresh y (or_right (x == y) (is_among xs y) h); scalars = is.scalars }

  first_fresh : (box : List Side) (fixed : Variable → Bool) (x : Variable) (xs zs : List Variable) → IsFixing ds box fixed (x ∷ xs) zs → fixed x ≡ false
  first_fresh box fixed x xs zs is = is.fresh x (or_left (x == x) (is_among xs x) (eq-eqb x x refl))

  -- a loop's body, where the loop's variable is fixed too
  inner_fixing : (box : List Side) (fixed : Variable → Bool) (x : Variable) (xs zs : List Variable) (i : Interval) → IsFixing ds box fixed (x ∷ xs) zs
      → ((y : Variable) → is_among xs y ≡ true → suc x ≤ y) → is_among zs x ≡ false → IsFixing ds (inside box x i) (also fixed x) xs zs
  inner_fixing box fixed x xs zs i is above kept =
      record {
        counters = counters_inside fixed box x i is.counters;
        arrays = λ y array. or_right (y == x) (fixed y) (is.arrays y array);
        fresh = λ y h. or_from (y == x) (fixed y) (apart y (λ e. let le = above y h in omega arith)) (is.fresh y (or_right (x == y) (is_among xs y) h));
        scalars = λ y h. or_from (y == x) (fixed y) (apart y (λ e. true≢false (sym h ∙ ap (is_among zs) e ∙ kept))) (is.scalars y h);
      }
    where
      apart : (y : Variable) → (y ≡ x → ⊥) → (y == x) ≡ false
      apart y other = go (y == x) refl
        where
          go : (b : Bool) → (y == x) ≡ b → b ≡ false
          go true e = absurd (other (eqb-true y x e))
          go false e = refl

  target_steady : (box : List Side) (fixed : Variable → Bool) (x : Variable) (is : Exprs) → IsFixing ds box fixed [] (scalar x is) → StaysInside ds box x is → IsSteadyTarget fixed x is
  target_steady box fixed x no_exprs fixing h = fixing.scalars x (or_left (x == x) false (eq-eqb x x refl))
  target_steady box fixed x (more_exprs i is) fixing h = (fixing.arrays x (array_there ds box x i is h), object_fixed ds box fixed fixing.counters x (more_exprs i is) h)

  mutual
    pub stmt_steady : {scope : Scope} {o next next' : ℕ} {ts : List Token} {a : Stmt} → ReadsStmt scope o next ts a next' → (box : List Side) (fixed : Variable → Bool) → Fixing box fixed a
        → Has (StaysInside ds) box a → IsSteady fixed a
    stmt_steady (assign {x = x} {is = is} {e = e} t r) box fixed fixing h =
        (target_steady box fixed x is fixing h.0, source_steady ds box fixed fixing.counters e h.1)
    stmt_steady (update {x = x} {is = is} {e = e} t sign r) box fixed fixing h =
        (target_steady box fixed x is fixing h.0, expr_steady ds box fixed fixing.counters e h.1)
    stmt_steady (if_only {c = c} {a = a} less rc ra) box fixed fixing h =
        (cond_steady ds box fixed fixing.counters c h.0, stmt_steady ra box fixed fixing h.1)
    stmt_steady (if_else {c = c} {a = a} {b = b} less rc closed ra rb) box fixed fixing h = (
      cond_steady ds box fixed fixing.counters c h.0,
      stmt_steady ra box fixed (left_fixing box fixed (declared_in a) (declared_in b) (targets a) (targets b) fixing) h.1,
      stmt_steady rb box fixed (right_fixing box fixed (declared_in a) (declared_in b) (targets a) (targets b) fixing) h.2,
    )
    stmt_steady (for_loop {next = next} {start = start} {test = test} {step = step} {body = body} less free rs rt ru r) box fixed fixing h =
        let head = head_of box next start test step h.0 h.2.form in
        let within = inner_fixing box fixed next (declared_in body) (targets body) h.1 fixing (declared_from r) (no_target next body h.2.kept) in
        let wider : NamesCounters (also fixed next) box = λ y c. or_right (y == next) (fixed y) (fixing.counters y c) in (
          first_fresh box fixed next (declared_in body) (targets body) fixing,
          subst (IsFixedSource fixed) (sym head.start_is) (form_fixed box fixed fixing.counters head.from h.0.start head.first),
          subst (IsFixedCond (also fixed next)) (sym head.test_is) (own_fixed fixed next, form_fixed box (also fixed next) wider head.to h.0.limit head.last),
          step_fixed fixed next step h.0.stride head.stride,
          stmt_steady r (inside box next h.1) (also fixed next) within h.3,
        )
    stmt_steady (block less items) box fixed fixing h = items_steady items box fixed fixing h
    stmt_steady (print {parts = parts} less f r fill) box fixed fixing h = parts_steady ds box fixed fixing.counters parts h

    items_steady : {scope : Scope} {o next next' : ℕ} {ts : List Token} {items : Items} → ReadsItems scope o next ts items next' → (box : List Side) (fixed : Variable → Bool) → AllFixing box fixed items
        → Have (StaysInside ds) box items → AreSteady fixed items
    items_steady no_more box fixed fixing h = tt
    items_steady (line r) box fixed fixing h = items_steady r box fixed fixing h
    items_steady (empty_local {next = next} {items = items} free r) box fixed fixing h = (
      first_fresh box fixed next (declared_among items) (targets_among items) fixing,
      tt,
      items_steady r box fixed (later_fixing box fixed next (declared_among items) (targets_among items) fixing) h.1,
    )
    items_steady (first_local {next = next} {e = e} {items = items} free re r) box fixed fixing h = (
      first_fresh box fixed next (declared_among items) (targets_among items) fixing,
      source_steady ds box fixed fixing.counters e h.0,
      items_steady r box fixed (later_fixing box fixed next (declared_among items) (targets_among items) fixing) h.1,
    )
    items_steady (statement {s = a} {items = items} ra r) box fixed fixing h = (
      stmt_steady ra box fixed (left_fixing box fixed (declared_in a) (declared_among items) (targets a) (targets_among items) fixing) h.0,
      items_steady r box fixed (right_fixing box fixed (declared_in a) (declared_among items) (targets a) (targets_among items) fixing) h.1,
    )
