-- Statements whose loops are canonical, whose accesses stay inside, and which read what is known, have runs, also with the operands of reductions in place of their updates.
use Rattle.std.specs.Prelude.{ℕ, suc, Bool, true, false, ◌≡◌, ◌==◌, ◌<◌, ◌&&◌, ◌||◌, ℤ, List, [], ◌∷◌, Option, Some, None}
use Rattle.std.proofs.Common.{refl, sym, ap, ◌∙◌, subst, cond, arith}
use Rattle.std.proofs.lemmas.Bool.{true≢false, eqb-true, or_parts}
use Rattle.std.proofs.lemmas.Option.{same_Some, none-some, cond_some}
use Rattle.semantics.specs.Tree.{Variable, BinaryOp, Expr, Object, Binary, Exprs, no_exprs, more_exprs, Cond, NotZero, Compare, LogicalAnd, LogicalOr, Source, Number, Truth, Stmt, If, For, Items, Declaration}
use Rattle.semantics.specs.Source.Token.{Token}
use Rattle.semantics.specs.Source.Scope.{Scope, AVariable}
use Rattle.semantics.specs.Source.Statements.{ReadsSource, truth, ReadsTarget, ReadsStmt, assign, update, if_only, if_else, for_loop, block, print, ReadsItems, no_more, line, empty_local, first_local, statement}
use Rattle.semantics.specs.Meaning.State.{State, Slot, Empty, Holds, Declared, with_local}
use Rattle.semantics.specs.Meaning.Value.{value, values, holds, source_value, both_then, map_option, operate}
use Rattle.semantics.specs.Meaning.Runs.{Effect, nothing, declares, declared, assigned, updated, print_text, run, run_items}
use Rattle.semantics.specs.Meaning.Definite.{DefinitelyAssigned, known_with, may_read, may_read_all, may_test, may_take, may_print, no_privates, after_both, declared_known, definite, definite_items}
use Rattle.semantics.proofs.EraseTokenLaw.{first_of, second_of}
use Rattle.semantics.proofs.NestLaw.{local_same}
use Rattle.affine.specs.declared.interval.Interval.{Interval}
use Rattle.affine.specs.declared.interval.Side.{Side}
use Rattle.affine_expr.specs.Forms.{is_counter}
use Rattle.nest_loop.specs.Canonical.{stepped, assigns as assigns_to, assigns_among}
use Rattle.nest_loop.specs.Loops.{inside}
use Rattle.semantics.specs.Meaning.Agrees.{names_expr, names_cond, names_source, names_step}
use Rattle.semantics.specs.Loops.Operator.{ReduceOp}
use Rattle.nest.specs.Nests.{CondHas, SourceHas, Has, Have, StaysInside}
use Rattle.law_roles.specs.Updates.{operator_of, is_plain, combines, is_and_also, is_or_else, operand, sole, assigns, is_selected, is_choice, reduces, all_reduce, or_else, operand_of, operand_by, operands, all_operands}
use Rattle.law_runs.proofs.Operands.{IsRead, and_second, or_second, second_there, operand_loop}
use Rattle.law_runs.proofs.Going.{stands, is_held, Ran, later_self, ran_nothing, ran_weaker, ran_same, ran_then, ran_either, ran_write, known_less, known_with_less, local_later, local_known, assigned_known}
use Rattle.nest_loop.proofs.FormValues.{operation_is}
use Rattle.law_runs.proofs.There.{There, there_mapped}
use Rattle.law_runs.proofs.Values.{HaveShort, target_there, object_there, expr_there, cond_there, source_there, print_there}
use Rattle.nest_loop.proofs.Heads.{head_of}
use Rattle.law_runs.proofs.Assigning.{assigned_ran, still_known}
use Rattle.law_runs.proofs.Points.{rises, IsBehind, IsPoint, point_later, point_behind, turn_declared, turn_assigned, target_usable, updates_there, allowed, tested_known, branches, and_then}
use Rattle.law_runs.proofs.Growing.{loop_known_is, grows, known_below, visible_behind}
use Rattle.law_runs.proofs.Loops.{loop_ran}

-- the variables of the loops round a statement are not assigned in it
abbrev pub Keeps : List Side → Stmt → Type 0
Keeps box a = (y : Variable) → is_counter box y ≡ true → assigns_to y a ≡ false

abbrev pub AllKeep : List Side → Items → Type 0
AllKeep box items = (y : Variable) → is_counter box y ≡ true → assigns_among y items ≡ false

-- nor those of one loop more
pub keeps_inside : (box : List Side) (x : Variable) (i : Interval) (body : Stmt) → Keeps box body → assigns_to x body ≡ false → Keeps (inside box x i) body
keeps_inside box x i body kept own y c = go (x == y) refl c
  where
    go : (b : Bool) → (x == y) ≡ b → cond b true (is_counter box y) ≡ true → assigns_to y body ≡ false
    go true e h = ap (λ z. assigns_to z body) (sym (eqb-true x y e)) ∙ own
    go false e h = kept y h

-- ---- a local's declaration

module _ (ds : List Declaration) where
  -- a local that stands behind its declaration
  pub record IsDeclared (box : List Side) (w : Variable → ℤ) (k : DefinitelyAssigned) (x : Variable) (s : State) : Type 0 where
    pub behind : IsBehind ds box w k s
    pub up : stands (s.locals x) ≡ true

  declared_here : (box : List Side) (w : Variable → ℤ) {scope : Scope} {next : ℕ} (slot : Slot) (k : DefinitelyAssigned) (s : State) → stands slot ≡ true → IsPoint ds box w scope next k s
      → IsDeclared box w (known_with k next (is_held slot)) next (with_local s next slot)
  declared_here box w {next = next} slot k s up at =
      record {
        behind = record { known = local_known ds s next slot up k at.here.known; turn = turn_declared box w s next slot at.below.counters at.here.turn };
        up = ap stands (local_same s next slot) ∙ up;
      }

  -- one without a value, and one with
  pub empty_goes : (box : List Side) (w : Variable → ℤ) {scope : Scope} {next : ℕ} (k : DefinitelyAssigned) (s : State) → IsPoint ds box w scope next k s → Ran ds (IsDeclared box w (known_with k next false) next) s (declared s next None)
  empty_goes box w {next = next} k s at =
      let room = at.room in
      ran_write ds (IsDeclared box w (known_with k next false) next) s (Declared next None)
      (local_later ds s next Empty refl (λ lt e. omega arith)) (declared_here box w Empty k s refl at)

  pub value_goes : (box : List Side) (w : Variable → ℤ) {scope : Scope} {next : ℕ} (e : Source) (k : DefinitelyAssigned) (s : State) → IsPoint ds box w scope next k s → There (source_value s e)
      → Ran ds (IsDeclared box w (known_with k next true) next) s (declared s next (Some e))
  value_goes box w {next = next} e k s at v =
      let room = at.room in
      ran_same (ap (declares next) v.1)
      (ran_write ds (IsDeclared box w (known_with k next true) next) s (Declared next (Some v.0))
      (local_later ds s next (Holds v.0) refl (λ lt e. omega arith)) (declared_here box w (Holds v.0) k s refl at))

  -- what is known of a local that is declared has a number below the one behind it
  pub declared_below : {box : List Side} {w : Variable → ℤ} {scope : Scope} {next : ℕ} (b : Bool) (k : DefinitelyAssigned) (s : State) → IsPoint ds box w scope next k s → (y : Variable) → known_with k next b y ≡ true → y < suc next
  declared_below {next = next} b k s at y h = go (y == next) refl h
    where
      go : (t : Bool) → (y == next) ≡ t → cond t b (k y) ≡ true → y < suc next
      go true e h = let same = eqb-true y next e in omega arith
      go false e h = let lt = at.below.known y h in omega arith

-- ---- statements

module _ (ds : List Declaration) (short : HaveShort ds) (rs : List (Variable × ReduceOp)) where
  -- a run behind which this is known, at the same turn
  abbrev Goes : List Side → (Variable → ℤ) → DefinitelyAssigned → State → Option Effect → Type 0
  Goes box w k s o = Ran ds (IsBehind ds box w k) s o

  -- an assignment of a number
  assign_goes : (box : List Side) (w : Variable → ℤ) {scope : Scope} {o next : ℕ} {ts : List Token} {x : Variable} {is : Exprs} (e : Source) (k : DefinitelyAssigned) (s : State)
      → ReadsTarget scope o ts x is → There (source_value s e) → StaysInside ds box x is → ((y : Variable) → is_counter box y ≡ true → (x == y) ≡ false)
      → IsPoint ds box w scope next k s → Goes box w (known_with k x true) s (assigned s x (values s is) (source_value s e))
  assign_goes box w {scope} {x = x} {is = is} e k s t v stays kept at =
      let usable = target_usable ds s t at.usable in
      let js = target_there ds short scope at.small s at.good box w at.here.turn x is usable stays in
      assigned_ran ds (IsBehind ds box w (known_with k x true)) s x (values s is) (source_value s e) js.0 v.0 js.1 v.1 js.2
      (record { known = assigned_known ds s x js.0 v.0 k usable at.here.known; turn = turn_assigned box w s x js.0 v.0 kept at.here.turn })

  -- one by an operator, of what is known
  update_goes : (box : List Side) (w : Variable → ℤ) {scope : Scope} {o next : ℕ} {ts : List Token} {x : Variable} {is : Exprs} (e : Expr) (op : BinaryOp) (k : DefinitelyAssigned) (s : State)
      → ReadsTarget scope o ts x is → k x ≡ true → may_read_all k is ≡ true → ((v w : ℕ) → There (operate op v w)) → There (value s e) → StaysInside ds box x is → ((y : Variable) → is_counter box y ≡ true → (x == y) ≡ false)
      → IsPoint ds box w scope next k s → Goes box w k s (updated s x is op e)
  update_goes box w {scope} {x = x} {is = is} e op k s t known all_known all m stays kept at =
      let usable = target_usable ds s t at.usable in
      let js = target_there ds short scope at.small s at.good box w at.here.turn x is usable stays in
      let v = object_there ds short scope at.small s at.good box w at.here.turn k at.here.known x is known stays in
      let u = all v.0 m.0 in
      let result = operation_is op (value s (Object x is)) (value s e) v.0 m.0 u.0 v.1 m.1 u.1 in
      assigned_ran ds (IsBehind ds box w k) s x (values s is) (both_then (operate op) (value s (Object x is)) (value s e)) js.0 u.0 js.1 result js.2
      (record { known = still_known ds s x js.0 u.0 k usable at.here.known; turn = turn_assigned box w s x js.0 u.0 kept at.here.turn })

  -- an assignment behind which more is known than is asked for
  less_goes : {box : List Side} {w : Variable → ℤ} {s : State} {o : Option Effect} (k : DefinitelyAssigned) (x : Variable) → Goes box w (known_with k x true) s o → Goes box w k s o
  less_goes k x r = ran_weaker (λ t l h. record { known = known_less ds (known_with k x true) k t (λ y q. known_with_less k x y q) h.known; turn = h.turn }) r

  module _ (box : List Side) (w : Variable → ℤ) {scope : Scope} {next : ℕ} (k : DefinitelyAssigned) (s : State) (at : IsPoint ds box w scope next k s) where
    source_here : {o : ℕ} {ts : List Token} {e : Source} → ReadsSource scope o ts e → may_take k e ≡ true → SourceHas (StaysInside ds) box e → There (source_value s e)
    source_here r m h = source_there ds short scope at.small s at.good box w at.here.turn k at.here.known r m h

    -- a part of a condition
    part_here : {c : Cond} → IsRead scope c → may_test k c ≡ true → CondHas (StaysInside ds) box c → There (source_value s (Truth c))
    part_here {c = c} it m h = there_mapped (λ b. cond b 1 0) (holds s c) (cond_there ds short scope at.small s at.good box w at.here.turn k at.here.known it.reads m h)

    -- an operand has a value
    operand_here : {o : ℕ} {ts : List Token} (op : ReduceOp) (x : Variable) (e d : Source) → operand op x e ≡ Some d → ReadsSource scope o ts e → may_take k e ≡ true → SourceHas (StaysInside ds) box e → There (source_value s d)
    operand_here op x (Number (Binary by (Object y no_exprs) a)) d h r m q =
        subst (λ z. There (source_value s z)) (cond_some (combines op by && (y == x)) (Number a) d h).1
        (second_there by (value s (Object y no_exprs)) (value s a) (source_here r m q))
    operand_here op x (Truth (LogicalAnd (NotZero (Object y no_exprs)) c)) d h (truth t r) m q =
        subst (λ z. There (source_value s z)) (cond_some (is_and_also op && (y == x)) (Truth c) d h).1 (part_here (and_second r) (second_of (k y && true) (may_test k c) m) q.1)
    operand_here op x (Truth (LogicalOr (NotZero (Object y no_exprs)) c)) d h (truth t r) m q =
        subst (λ z. There (source_value s z)) (cond_some (is_or_else op && (y == x)) (Truth c) d h).1 (part_here (or_second r) (second_of (k y && true) (may_test k c) m) q.1)
    operand_here op x _ d h r m q = absurd (none-some d h)

    operand_of_here : {o : ℕ} {ts : List Token} (so : Option ReduceOp) (x : Variable) (e : Source) → ReadsSource scope o ts e → may_take k e ≡ true → SourceHas (StaysInside ds) box e → There (source_value s (operand_of so x e))
    operand_of_here None x e r m q = source_here r m q
    operand_of_here (Some op) x e r m q = go (operand op x e) refl
      where
        go : (o : Option Source) → operand op x e ≡ o → There (source_value s (or_else e o))
        go None h = source_here r m q
        go (Some d) h = operand_here op x e d h r m q

  -- less is known behind both branches
  left_goes : {box : List Side} {w : Variable → ℤ} {s : State} {o : Option Effect} (a b k' : DefinitelyAssigned) → (λ y. a y && b y) ≡ k' → Goes box w a s o → Goes box w k' s o
  left_goes {box} {w} {s} {o} a b k' e r =
      subst (λ q. Goes box w q s o) e (ran_weaker (λ t l h. record { known = known_less ds a (λ y. a y && b y) t (λ y q. first_of (a y) (b y) q) h.known; turn = h.turn }) r)

  right_goes : {box : List Side} {w : Variable → ℤ} {s : State} {o : Option Effect} (a b k' : DefinitelyAssigned) → (λ y. a y && b y) ≡ k' → Goes box w b s o → Goes box w k' s o
  right_goes {box} {w} {s} {o} a b k' e r =
      subst (λ q. Goes box w q s o) e (ran_weaker (λ t l h. record { known = known_less ds b (λ y. a y && b y) t (λ y q. second_of (a y) (b y) q) h.known; turn = h.turn }) r)

  -- what a choice assigns
  chosen_goes : (box : List Side) (w : Variable → ℤ) {scope : Scope} {o next next' : ℕ} {ts : List Token} {a : Stmt} → ReadsStmt scope o next ts a next' → (k k' : DefinitelyAssigned) (s : State)
      → Has (StaysInside ds) box a → Keeps box a → IsPoint ds box w scope next k s → definite no_privates a k ≡ Some k' → (z : Variable) (e : Expr) → assigns z e (sole a) ≡ true
      → Goes box w k' s (run (sole a) s)
  chosen_goes box w (assign {x = x} {is = is} {e = e} t r) k k' s h kept at d z f chosen =
      let ok = allowed (may_read_all k is && may_take k e) (known_with k x true) k' d in
      subst (λ q. Goes box w q s (assigned s x (values s is) (source_value s e))) ok.1
      (assign_goes box w e k s t (source_here box w k s at r (second_of (may_read_all k is) (may_take k e) ok.0) h.1) h.0 kept at)
  chosen_goes box w (update t sign r) k k' s h kept at d z f chosen = absurd (true≢false (sym chosen))
  chosen_goes box w (if_only less rc ra) k k' s h kept at d z f chosen = absurd (true≢false (sym chosen))
  chosen_goes box w (if_else less rc closed ra rb) k k' s h kept at d z f chosen = absurd (true≢false (sym chosen))
  chosen_goes box w (for_loop less free rs' rt ru r) k k' s h kept at d z f chosen = absurd (true≢false (sym chosen))
  chosen_goes box w (print less g r fill) k k' s h kept at d z f chosen = absurd (true≢false (sym chosen))
  chosen_goes box w (block less no_more) k k' s h kept at d z f chosen = absurd (true≢false (sym chosen))
  chosen_goes box w (block less (line r)) k k' s h kept at d z f chosen = absurd (true≢false (sym chosen))
  chosen_goes box w (block less (empty_local free r)) k k' s h kept at d z f chosen = absurd (true≢false (sym chosen))
  chosen_goes box w (block less (first_local free e r)) k k' s h kept at d z f chosen = absurd (true≢false (sym chosen))
  chosen_goes box w (block less (statement ra (line r))) k k' s h kept at d z f chosen = absurd (true≢false (sym chosen))
  chosen_goes box w (block less (statement ra (empty_local free r))) k k' s h kept at d z f chosen = absurd (true≢false (sym chosen))
  chosen_goes box w (block less (statement ra (first_local free e r))) k k' s h kept at d z f chosen = absurd (true≢false (sym chosen))
  chosen_goes box w (block less (statement ra (statement rb r))) k k' s h kept at d z f chosen = absurd (true≢false (sym chosen))
  chosen_goes box w (block less (statement {s = a} ra no_more)) k k' s h kept at d z f chosen =
      let first = and_then (λ after. Some after) (definite no_privates a k) k' d in
      chosen_goes box w ra k k' s h.0 (λ y q. (or_parts (assigns_to y a) false (kept y q)).0) at (first.1 ∙ first.2) z f chosen

  choice_goes : (box : List Side) (w : Variable → ℤ) {scope : Scope} {o next next' : ℕ} {ts : List Token} {a : Stmt} → ReadsStmt scope o next ts a next' → (k k' : DefinitelyAssigned) (s : State) (c : Cond)
      → Has (StaysInside ds) box a → Keeps box a → IsPoint ds box w scope next k s → definite no_privates a k ≡ Some k' → is_choice rs c a ≡ true → Goes box w k' s (run (sole a) s)
  choice_goes box w {a = a} ra k k' s (Compare by e (Object z no_exprs)) h kept at d chosen =
      chosen_goes box w ra k k' s h kept at d z e
      (second_of (is_selected (operator_of rs z) by) (assigns z e (sole a)) (first_of (is_selected (operator_of rs z) by && assigns z e (sole a)) (names_expr (is_plain rs) e) chosen))
  choice_goes box w ra k k' s _ h kept at d chosen = absurd (true≢false (sym chosen))

  mutual
    pub stmt_goes : (box : List Side) (w : Variable → ℤ) {scope : Scope} {o next next' : ℕ} {ts : List Token} {a : Stmt} → ReadsStmt scope o next ts a next' → (k k' : DefinitelyAssigned) (s : State)
        → Has (StaysInside ds) box a → Keeps box a → reduces rs a ≡ true → IsPoint ds box w scope next k s → definite no_privates a k ≡ Some k' → Goes box w k' s (run (operands rs a) s)
    stmt_goes box w (assign {x = x} {is = no_exprs} {e = e} t r) k k' s h kept red at d =
        let ok = allowed (may_read_all k no_exprs && may_take k e) (known_with k x true) k' d in
        subst (λ q. Goes box w q s (assigned s x (values s no_exprs) (source_value s (operand_of (operator_of rs x) x e)))) ok.1
        (assign_goes box w (operand_of (operator_of rs x) x e) k s t (operand_of_here box w k s at (operator_of rs x) x e r (second_of (may_read_all k no_exprs) (may_take k e) ok.0) h.1) h.0 kept at)
    stmt_goes box w (assign {x = x} {is = more_exprs i is} {e = e} t r) k k' s h kept red at d =
        let ok = allowed (may_read_all k (more_exprs i is) && may_take k e) (known_with k x true) k' d in
        subst (λ q. Goes box w q s (assigned s x (values s (more_exprs i is)) (source_value s e))) ok.1
        (assign_goes box w e k s t (source_here box w k s at r (second_of (may_read_all k (more_exprs i is)) (may_take k e) ok.0) h.1) h.0 kept at)
    stmt_goes box w {scope} (update {x = x} {is = no_exprs} {e = e} {op = op} t sign r) k k' s h kept red at d = subst (λ q. Goes box w q s (run (operand_by (operator_of rs x) x op e) s)) ok.1 (go (operator_of rs x))
      where
        ok : ((k x && may_read_all k no_exprs && may_read k e) ≡ true) × (k ≡ k')
        ok = allowed (k x && may_read_all k no_exprs && may_read k e) k k' d

        known : k x ≡ true
        known = first_of (k x) true (first_of (k x && true) (may_read k e) ok.0)

        m : There (value s e)
        m = expr_there ds short scope at.small s at.good box w at.here.turn k at.here.known r (second_of (k x && may_read_all k no_exprs) (may_read k e) ok.0) h.1

        go : (so : Option ReduceOp) → Goes box w k s (run (operand_by so x op e) s)
        go None = update_goes box w e op k s t known refl (updates_there sign) m h.0 kept at
        go (Some q) = less_goes k x (assign_goes box w (Number e) k s t m h.0 kept at)
    stmt_goes box w {scope} (update {x = x} {is = more_exprs i is} {e = e} {op = op} t sign r) k k' s h kept red at d =
        let ok = allowed (k x && may_read_all k (more_exprs i is) && may_read k e) k k' d in
        let have = first_of (k x && may_read_all k (more_exprs i is)) (may_read k e) ok.0 in
        let m = expr_there ds short scope at.small s at.good box w at.here.turn k at.here.known r (second_of (k x && may_read_all k (more_exprs i is)) (may_read k e) ok.0) h.1 in
        subst (λ q. Goes box w q s (updated s x (more_exprs i is) op e)) ok.1
        (update_goes box w e op k s t (first_of (k x) (may_read_all k (more_exprs i is)) have) (second_of (k x) (may_read_all k (more_exprs i is)) have) (updates_there sign) m h.0 kept at)
    stmt_goes box w {scope} (if_only {c = c} {a = a} less rc ra) k k' s h kept red at d =
        let both = tested_known (may_test k c) (after_both (definite no_privates a k) (Some k)) k' d in
        let parts = branches (definite no_privates a k) (Some k) k' both.1 in
        let test = cond_there ds short scope at.small s at.good box w at.here.turn k at.here.known rc both.0 h.0 in
        let same = same_Some k parts.right parts.second in
        go (is_choice rs c a) refl
        (λ q. left_goes parts.left parts.right k' parts.is (choice_goes box w ra k parts.left s c h.1 kept at parts.first q))
        (λ q. ran_either (holds s c) test.0 test.1
        (left_goes parts.left parts.right k' parts.is (stmt_goes box w ra k parts.left s h.1 kept q at parts.first))
        (right_goes parts.left parts.right k' parts.is (subst (λ j. Goes box w j s (Some nothing)) same (ran_nothing ds (IsBehind ds box w k) s at.here))))
      where
        go : (b : Bool) → is_choice rs c a ≡ b → (is_choice rs c a ≡ true → Goes box w k' s (run (sole a) s)) → (reduces rs a ≡ true → Goes box w k' s (run (If c (operands rs a)) s))
            → Goes box w k' s (run (cond b (sole a) (If c (operands rs a))) s)
        go true e one two = one e
        go false e one two = two (second_of (names_cond (is_plain rs) c) (reduces rs a) (sym (ap (λ b. b || (names_cond (is_plain rs) c && reduces rs a)) e) ∙ red))
    stmt_goes box w {scope} (if_else {next = next} {next' = middle} {c = c} {a = a} {b = b} less rc closed ra rb) k k' s h kept red at d =
        let both = tested_known (may_test k c) (after_both (definite no_privates a k) (definite no_privates b k)) k' d in
        let parts = branches (definite no_privates a k) (definite no_privates b k) k' both.1 in
        let test = cond_there ds short scope at.small s at.good box w at.here.turn k at.here.known rc both.0 h.0 in
        let up = rises ra in
        let later = point_later ds box w scope next middle k k s s at up (later_self ds s) (λ y q. let lt = at.below.known y q in omega arith) at.here in
        ran_either (holds s c) test.0 test.1
        (left_goes parts.left parts.right k' parts.is (stmt_goes box w ra k parts.left s h.1 (λ y q. (or_parts (assigns_to y a) (assigns_to y b) (kept y q)).0)
        (second_of (names_cond (is_plain rs) c) (reduces rs a) (first_of (names_cond (is_plain rs) c && reduces rs a) (reduces rs b) red)) at parts.first))
        (right_goes parts.left parts.right k' parts.is (stmt_goes box w rb k parts.right s h.2 (λ y q. (or_parts (assigns_to y a) (assigns_to y b) (kept y q)).1) (second_of (names_cond (is_plain rs) c && reduces rs a) (reduces rs b) red) later parts.second))
    stmt_goes box w {scope} (for_loop {next = next} {name = name} {start = start} {test = test} {step = step} {body = body} less free rs' rt ru r) k k' s h kept red at d =
        let known = loop_known_is next name start test step body k k' d in
        let l = h.0 in
        let i = h.1 in
        let loop = operand_loop rs box next start test step body l i h.2 in
        let reds = second_of (is_plain rs next && names_source (is_plain rs) start && names_cond (is_plain rs) test && names_step (is_plain rs) step) (reduces rs body) red in
        let growing = grows r (known_with k next true) known.after (visible_behind scope name next at.below.visible) known.inside in
        subst (λ q. Goes box w q s (run (For next name start test step (operands rs body)) s)) known.same
        (loop_ran ds box w scope name next start test step (operands rs body) l i loop (head_of box next start test step l loop.form) k known.after s at ru growing.more
        (λ v t at'. stmt_goes (inside box next i) v r (known_with k next true) known.after t h.3 (keeps_inside box next i body (λ y q. (or_parts (stepped step == y) (assigns_to y body) (kept y q)).1) h.2.kept) reds at' known.inside))
    stmt_goes box w (block less items) k k' s h kept red at d = items_go box w items k k' s h kept red at d
    stmt_goes box w {scope} (print {spots = spots} {es = es} {parts = parts} less f r fill) k k' s h kept red at d =
        let ok = allowed (may_print k parts) k k' d in
        let t = print_there ds short scope at.small s at.good box w at.here.turn k at.here.known spots es parts r fill ok.0 h in
        subst (λ q. Goes box w q s (map_option (λ t. record { writes = []; text = t }) (print_text s parts))) ok.1
        (record { effect = record { writes = []; text = t.0 }; is = ap (map_option (λ t. record { writes = []; text = t })) t.1; later = later_self ds s; left = at.here })

    pub items_go : (box : List Side) (w : Variable → ℤ) {scope : Scope} {o next next' : ℕ} {ts : List Token} {items : Items} → ReadsItems scope o next ts items next' → (k k' : DefinitelyAssigned) (s : State)
        → Have (StaysInside ds) box items → AllKeep box items → all_reduce rs items ≡ true → IsPoint ds box w scope next k s → definite_items no_privates [] items k ≡ Some k' → Goes box w k' s (run_items (all_operands rs items) s)
    items_go box w no_more k k' s h kept red at d = subst (λ q. Goes box w q s (Some nothing)) (same_Some k k' d) (ran_nothing ds (IsBehind ds box w k) s at.here)
    items_go box w (line r) k k' s h kept red at d = items_go box w r k k' s h kept red at d
    items_go box w {scope} (empty_local {next = next} {name = name} {items = items} free r) k k' s h kept red at d =
        ran_then (run_items (all_operands rs items)) (empty_goes ds box w k s at)
        (λ t l q. items_go box w r (known_with k next false) k' t h.1 kept (second_of (is_plain rs next && true) (all_reduce rs items) red)
        (point_behind ds box w scope name next k (known_with k next false) s t at l (declared_below ds false k s at) q.behind q.up) d)
    items_go box w {scope} (first_local {next = next} {name = name} {e = e} {items = items} free re r) k k' s h kept red at d =
        let first = and_then (definite_items no_privates [] items) (declared_known k next (Some e)) k' d in
        let ok = allowed (may_take k e) (known_with k next true) first.0 first.1 in
        let d' = ap (definite_items no_privates [] items) ok.1 ∙ first.2 in
        let v = source_there ds short ((name, AVariable next 0) ∷ scope) (tt, at.small) s at.good box w at.here.turn k at.here.known re ok.0 h.0 in
        ran_then (run_items (all_operands rs items)) (value_goes ds box w e k s at v)
        (λ t l q. items_go box w r (known_with k next true) k' t h.1 kept (second_of (is_plain rs next && names_source (is_plain rs) e) (all_reduce rs items) red)
        (point_behind ds box w scope name next k (known_with k next true) s t at l (declared_below ds true k s at) q.behind q.up) d')
    items_go box w {scope} (statement {next = next} {next' = middle} {s = a} {items = items} ra r) k k' s h kept red at d =
        let first = and_then (definite_items no_privates [] items) (definite no_privates a k) k' d in
        let up = rises ra in
        let below = known_below next middle k first.0 up at.below.known (grows ra k first.0 at.below.visible first.1) in
        ran_then (run_items (all_operands rs items)) (stmt_goes box w ra k first.0 s h.0 (λ y q. (or_parts (assigns_to y a) (assigns_among y items) (kept y q)).0) (first_of (reduces rs a) (all_reduce rs items) red) at first.1)
        (λ t l q. items_go box w r first.0 k' t h.1 (λ y q. (or_parts (assigns_to y a) (assigns_among y items) (kept y q)).1) (second_of (reduces rs a) (all_reduce rs items) red) (point_later ds box w scope next middle k first.0 s t at up l below q) first.2)
