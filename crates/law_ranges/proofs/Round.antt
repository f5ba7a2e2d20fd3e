-- Each access of a kernel stands in a box of the loops round it.
use Rattle.std.specs.Prelude.{◌≡◌, List, [], ◌∷◌, ◌++◌, Contains, Option, Some, None}
use Rattle.std.proofs.Common.{refl, sym, subst, ⊎_elim}
use Rattle.std.proofs.lemmas.List.Elements.{Contains-append_cases}
use Rattle.semantics.specs.Tree.{Variable, Expr, Literal, Constant, Object, Unary, Binary, Conditional, Exprs, no_exprs, more_exprs, Cond, NotZero, Compare, Not, LogicalAnd, LogicalOr, Source, Number, Truth, PrintPart, Characters, Decimal, Stmt, Assign, Update, If, IfElse, For, Block, Print, Items, no_items, mark, local, stmt, Declaration}
use Rattle.semantics.specs.Loops.Nest.{Loop}
use Rattle.semantics.specs.Loops.Access.{Access, Mode, Reads, Writes, named, expr_accesses, cond_accesses, source_accesses, start_accesses, part_accesses, accesses, items_accesses}
use Rattle.affine.specs.declared.interval.Interval.{Interval}
use Rattle.affine.specs.declared.interval.Side.{Side}
use Rattle.nest_loop.specs.declared.head.Canonical.{Canonical}
use Rattle.nest_loop.specs.Sides.{CannotWrap, IsSide}
use Rattle.nest_loop.specs.Loops.{inside}
use Rattle.nest.specs.Nests.{ExprHas, CondHas, SourceHas, StartHas, PartsHave, Has, Have, StaysInside}
use Rattle.nest_space.specs.Heads.{IsHeadOf}
use Rattle.law_turns.proofs.Joining.{contains_none, contains_cases}
use Rattle.law_independence.specs.Inside.{LoopsAreRead, ItemsAreRead}

-- loops of the text inside those of a box, the outermost first, and the box of all
abbrev pub AreRound : List Side → List Loop → List Side → Type 0
AreRound before [] after = before ≡ after
AreRound before (h ∷ hs) after =
    (l : Canonical) × (i : Interval) × IsHeadOf before h l × CannotWrap before l × IsSide before l i × AreRound (inside before h.variable i) hs after

pub round_join : (first second third : List Side) (hs gs : List Loop) → AreRound first hs second → AreRound second gs third → AreRound first (hs ++ gs) third
round_join first second third [] gs e r = subst (λ (b : List Side). AreRound b gs third) (sym e) r
round_join first second third (h ∷ hs) gs (l, i, is, stays, numbers, rest) r = (l, i, is, stays, numbers, round_join (inside first h.variable i) second third hs gs rest r)

-- an access stays inside its array over the box of the loops round it
pub record IsRound (ds : List Declaration) (a : Access) : Type 0 where
  pub box : List Side
  pub round : AreRound [] a.inner box
  pub stays : StaysInside ds box a.array a.subscripts

abbrev AllRound : List Declaration → List Access → Type 0
AllRound ds xs = (a : Access) → Contains xs a → IsRound ds a

none_round : (ds : List Declaration) → AllRound ds []
none_round ds a among = absurd (contains_none a among)

joined : (ds : List Declaration) (xs ys : List Access) → AllRound ds xs → AllRound ds ys → AllRound ds (xs ++ ys)
joined ds xs ys first second a among = ⊎_elim (λ (h : Contains xs a). first a h) (λ (h : Contains ys a). second a h) (Contains-append_cases xs ys a among)

three : (ds : List Declaration) (xs ys zs : List Access) → AllRound ds xs → AllRound ds ys → AllRound ds zs → AllRound ds ((xs ++ ys) ++ zs)
three ds xs ys zs first second third = joined ds (xs ++ ys) zs (joined ds xs ys first second) third

one_round : (ds : List Declaration) (b : Access) → IsRound ds b → AllRound ds (b ∷ [])
one_round ds b r a among = contains_cases b a [] (λ e. subst (IsRound ds) e r) (λ h. absurd (contains_none a h)) among

module _ (ds : List Declaration) where
  module _ (box : List Side) (hs : List Loop) (round : AreRound [] hs box) where
    named_round : (x : Variable) (es : Exprs) (m : Mode) → StaysInside ds box x es → AllRound ds (named x es m hs)
    named_round x no_exprs m stays = none_round ds
    named_round x (more_exprs e es) m stays =
        one_round ds (record { array = x; subscripts = more_exprs e es; mode = m; inner = hs }) (record { box = box; round = round; stays = stays })

    mutual
      expr_round : (e : Expr) → ExprHas (StaysInside ds) box e → AllRound ds (expr_accesses hs e)
      expr_round (Literal value suffix) h = none_round ds
      expr_round (Constant name value) h = none_round ds
      expr_round (Object x es) h = named_round x es Reads h
      expr_round (Unary op a) h = expr_round a h
      expr_round (Binary op a b) h = joined ds (expr_accesses hs a) (expr_accesses hs b) (expr_round a h.0) (expr_round b h.1)
      expr_round (Conditional c a b) h = three ds (cond_accesses hs c) (expr_accesses hs a) (expr_accesses hs b) (cond_round c h.0) (expr_round a h.1) (expr_round b h.2)

      cond_round : (c : Cond) → CondHas (StaysInside ds) box c → AllRound ds (cond_accesses hs c)
      cond_round (NotZero a) h = expr_round a h
      cond_round (Compare op a b) h = joined ds (expr_accesses hs a) (expr_accesses hs b) (expr_round a h.0) (expr_round b h.1)
      cond_round (Not c) h = cond_round c h
      cond_round (LogicalAnd c d) h = joined ds (cond_accesses hs c) (cond_accesses hs d) (cond_round c h.0) (cond_round d h.1)
      cond_round (LogicalOr c d) h = joined ds (cond_accesses hs c) (cond_accesses hs d) (cond_round c h.0) (cond_round d h.1)

    source_round : (e : Source) → SourceHas (StaysInside ds) box e → AllRound ds (source_accesses hs e)
    source_round (Number a) h = expr_round a h
    source_round (Truth c) h = cond_round c h

    start_round : (o : Option Source) → StartHas (StaysInside ds) box o → AllRound ds (start_accesses hs o)
    start_round None h = none_round ds
    start_round (Some e) h = source_round e h

    parts_round : (ps : List PrintPart) → PartsHave (StaysInside ds) box ps → AllRound ds (part_accesses hs ps)
    parts_round [] h = none_round ds
    parts_round (Characters ys ∷ ps) h = parts_round ps h
    parts_round (Decimal a ∷ ps) h = joined ds (expr_accesses hs a) (part_accesses hs ps) (expr_round a h.0) (parts_round ps h.1)

  mutual
    statement_round : (box : List Side) (hs : List Loop) (s : Stmt) → AreRound [] hs box → LoopsAreRead box s → Has (StaysInside ds) box s → AllRound ds (accesses hs s)
    statement_round box hs (Assign x es e) round read h =
        joined ds (named x es Writes hs) (source_accesses hs e) (named_round box hs round x es Writes h.0) (source_round box hs round e h.1)
    statement_round box hs (Update x es op e) round read h =
        joined ds (named x es Writes hs) (expr_accesses hs e) (named_round box hs round x es Writes h.0) (expr_round box hs round e h.1)
    statement_round box hs (If c a) round read h = joined ds (cond_accesses hs c) (accesses hs a) (cond_round box hs round c h.0) (statement_round box hs a round read h.1)
    statement_round box hs (IfElse c a b) round read h =
        three ds (cond_accesses hs c) (accesses hs a) (accesses hs b) (cond_round box hs round c h.0) (statement_round box hs a round read.0 h.1) (statement_round box hs b round read.1 h.2)
    statement_round box hs (For x name start test step body) round read (l, i, loop, h) =
        let own : Loop = record { variable = x; start = start; test = test; step = step } in
        let r = read.0 in
        statement_round (inside box x i) (hs ++ (own ∷ [])) body
        (round_join [] box (inside box x i) hs (own ∷ []) round (
          l,
          i,
          record { scope = r.scope; order = r.order; tokens = r.tokens; small = r.small; reads = r.reads; is = loop.form; other = r.other },
          loop.stays,
          loop.numbers,
          refl,
        ))
        (read.1 l i loop) h
    statement_round box hs (Block items) round read h = items_round box hs items round read h
    statement_round box hs (Print parts) round read h = parts_round box hs round parts h

    pub items_round : (box : List Side) (hs : List Loop) (items : Items) → AreRound [] hs box → ItemsAreRead box items → Have (StaysInside ds) box items → AllRound ds (items_accesses hs items)
    items_round box hs no_items round read h = none_round ds
    items_round box hs (mark line rest) round read h = items_round box hs rest round read h
    items_round box hs (local x name start rest) round read h =
        joined ds (start_accesses hs start) (items_accesses hs rest) (start_round box hs round start h.0) (items_round box hs rest round read h.1)
    items_round box hs (stmt s rest) round read h =
        joined ds (accesses hs s) (items_accesses hs rest) (statement_round box hs s round read.0 h.0) (items_round box hs rest round read.1 h.1)
