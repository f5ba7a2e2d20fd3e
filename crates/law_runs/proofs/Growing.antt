-- What is known stays known, and has numbers that were given.
use Rattle.std.specs.Prelude.{ℕ, suc, Bool, true, false, ◌≡◌, ◌<◌, ◌≤◌, ◌⊎◌, ◌==◌, ◌&&◌, ◌++◌, List, [], ◌∷◌, Option, Some, None}
use Rattle.std.proofs.Common.{refl, sym, ap, ◌∙◌, subst, inl, inr, cond, arith, ⊎_elim}
use Rattle.std.proofs.lemmas.Bool.{eqb-true, ne_eqb, and_from}
use Rattle.std.proofs.lemmas.Option.{same_Some, none-some}
use Rattle.semantics.specs.Tree.{Name, Variable, Exprs, Cond, Source, Increment, Stmt, Assign, Update, If, IfElse, For, Block, Print, Items, no_items, mark, local, stmt}
use Rattle.semantics.specs.Source.Token.{Token}
use Rattle.semantics.specs.Source.Scope.{Scope, AVariable, count}
use Rattle.semantics.specs.Source.Statements.{ReadsTarget, target, ReadsStmt, assign, update, if_only, if_else, for_loop, block, print, ReadsItems, no_more, line, empty_local, first_local, statement}
use Rattle.semantics.specs.Meaning.Definite.{DefinitelyAssigned, known_with, may_read, may_read_all, may_test, may_take, may_step, may_print, no_privates, privates_in, privates_among, after_both, declared_known, if_stepped, loop_known, definite, definite_items}
use Rattle.semantics.proofs.EraseTokenLaw.{second_of}
use Rattle.law_runs.proofs.Going.{known_with_less}
use Rattle.nest_loop.specs.Constants.{Each}
use Rattle.nest_loop.proofs.Visible.{each_found, each_weaker}
use Rattle.law_runs.proofs.Points.{rises, rises_items, IsBelow, below_more, allowed, tested_known, branches, and_then}

-- there are no private locals
mutual
  privates_none : (a : Stmt) → privates_in no_privates a ≡ []
  privates_none (Assign x is e) = refl
  privates_none (Update x is op e) = refl
  privates_none (If c a) = privates_none a
  privates_none (IfElse c a b) = ap (λ xs. xs ++ privates_in no_privates b) (privates_none a) ∙ privates_none b
  privates_none (For x name start test step body) = privates_none body
  privates_none (Block items) = privates_among_none items
  privates_none (Print parts) = refl

  privates_among_none : (items : Items) → privates_among no_privates items ≡ []
  privates_among_none no_items = refl
  privates_among_none (mark n rest) = privates_among_none rest
  privates_among_none (local x name start rest) = privates_among_none rest
  privates_among_none (stmt a rest) = ap (λ xs. xs ++ privates_among no_privates rest) (privates_none a) ∙ privates_among_none rest

-- a loop whose body reads what is known: behind it the same is known as before
pub record LoopKnown (body : Stmt) (x : Variable) (k k' : DefinitelyAssigned) : Type 0 where
  pub after : DefinitelyAssigned
  pub inside : definite no_privates body (known_with k x true) ≡ Some after
  pub same : k ≡ k'

pub loop_known_is : (x : Variable) (name : Name) (start : Source) (test : Cond) (step : Increment) (body : Stmt) (k k' : DefinitelyAssigned) → definite no_privates (For x name start test step body) k ≡ Some k' → LoopKnown body x k k'
loop_known_is x name start test step body k k' d =
    let plain = sym (ap (λ xs. loop_known k x xs (may_take k start) (λ inside. may_test inside test) (λ after. may_step after step) (definite no_privates body)) (privates_none body)) ∙ d in
    let t = tested_known (may_take k start && may_test (known_with k x true) test) (if_stepped (λ after. may_step after step) (definite no_privates body (known_with k x true)) (Some k)) k' plain in
    go (definite no_privates body (known_with k x true)) refl t.1
  where
    go : (o : Option DefinitelyAssigned) → definite no_privates body (known_with k x true) ≡ o → if_stepped (λ after. may_step after step) o (Some k) ≡ Some k' → LoopKnown body x k k'
    go None is e = absurd (none-some k' e)
    go (Some after) is e = let t = tested_known (may_step after step) (Some k) k' e in record { after = after; inside = is; same = same_Some k k' t.1 }

-- what is known of the numbers so far stays known, and what becomes known has a number below the next
pub record Grows (next next' : ℕ) (k k' : DefinitelyAssigned) : Type 0 where
  pub more : (y : Variable) → y < next → k y ≡ true → k' y ≡ true
  pub below : (y : Variable) → k' y ≡ true → (k y ≡ true) ⊎ (y < next')

grows_same : (next : ℕ) (k k' : DefinitelyAssigned) → k ≡ k' → Grows next next k k'
grows_same next k k' e = subst (Grows next next k) e (record { more = λ y lt h. h; below = λ y h. inl h })

grows_with : (next : ℕ) (k : DefinitelyAssigned) (x : Variable) → x < next → Grows next next k (known_with k x true)
grows_with next k x lt = record { more = λ y less h. known_with_less k x y h; below = λ y h. go y (y == x) refl h }
  where
    go : (y : Variable) (b : Bool) → (y == x) ≡ b → cond b true (k y) ≡ true → (k y ≡ true) ⊎ (y < next)
    go y true e h = let same = eqb-true y x e in inr (omega arith)
    go y false e h = inl h

-- a local is declared
grows_declared : (next next' : ℕ) (k k' : DefinitelyAssigned) (b : Bool) → suc next ≤ next' → Grows (suc next) next' (known_with k next b) k' → Grows next next' k k'
grows_declared next next' k k' b up g =
    record {
      more = λ y lt h. g.more y (omega arith) (ap (λ t. cond t b (k y)) (ne_eqb y next (λ e. omega arith)) ∙ h);
      below = λ y h. ⊎_elim (λ q. go y (y == next) refl q) (λ lt. inr lt) (g.below y h);
    }
  where
    go : (y : Variable) (t : Bool) → (y == next) ≡ t → cond t b (k y) ≡ true → (k y ≡ true) ⊎ (y < next')
    go y true e h = let same = eqb-true y next e in inr (omega arith)
    go y false e h = inl h

-- one and then another
grows_then : (next middle next' : ℕ) (k j k' : DefinitelyAssigned) → next ≤ middle → middle ≤ next' → Grows next middle k j → Grows middle next' j k' → Grows next next' k k'
grows_then next middle next' k j k' up higher a b =
    record {
      more = λ y lt h. b.more y (omega arith) (a.more y lt h);
      below = λ y h. ⊎_elim (λ q. ⊎_elim (λ p. inl p) (λ lt. inr (omega arith)) (a.below y q)) (λ lt. inr lt) (b.below y h);
    }

-- behind both branches
grows_both : (next middle next' : ℕ) (k a b k' : DefinitelyAssigned) → next ≤ middle → middle ≤ next' → Grows next middle k a → Grows middle next' k b → (λ y. a y && b y) ≡ k' → Grows next next' k k'
grows_both next middle next' k a b k' up higher f g e =
    subst (Grows next next' k) e (record {
      more = λ y lt h. and_from (a y) (b y) (f.more y lt h) (g.more y (omega arith) h);
      below = λ y h. g.below y (second_of (a y) (b y) h);
    })

-- a target has a number that was given
target_below : {scope : Scope} {o : ℕ} {ts : List Token} {x : Variable} {is : Exprs} (next : ℕ) → ReadsTarget scope o ts x is → Each (IsBelow next) scope → x < next
target_below {scope = scope} next (target {name = name} {x = x} {is = is} f r) h = each_found (IsBelow next) scope name (AVariable x (count is)) h f

-- what is visible behind a local, and further on
pub visible_behind : (scope : Scope) (name : Name) (next : ℕ) → Each (IsBelow next) scope → Each (IsBelow (suc next)) ((name, AVariable next 0) ∷ scope)
visible_behind scope name next h = let less : next < suc next = omega arith in (less, each_weaker (IsBelow next) (IsBelow (suc next)) (below_more next (suc next) (omega arith)) scope h)

pub visible_later : (scope : Scope) (next next' : ℕ) → next ≤ next' → Each (IsBelow next) scope → Each (IsBelow next') scope
visible_later scope next next' up h = each_weaker (IsBelow next) (IsBelow next') (below_more next next' up) scope h

-- a statement makes known what it assigns, and forgets only its own locals
mutual
  pub grows : {scope : Scope} {o next next' : ℕ} {ts : List Token} {a : Stmt} → ReadsStmt scope o next ts a next' → (k k' : DefinitelyAssigned) → Each (IsBelow next) scope → definite no_privates a k ≡ Some k' → Grows next next' k k'
  grows (assign {next = next} {x = x} {is = is} {e = e} t r) k k' v d =
      let ok = allowed (may_read_all k is && may_take k e) (known_with k x true) k' d in
      subst (Grows next next k) ok.1 (grows_with next k x (target_below next t v))
  grows (update {next = next} {x = x} {is = is} {e = e} t sign r) k k' v d = grows_same next k k' (allowed (k x && may_read_all k is && may_read k e) k k' d).1
  grows (if_only {next = next} {next' = next'} {c = c} {a = a} less rc ra) k k' v d =
      let t = tested_known (may_test k c) (after_both (definite no_privates a k) (Some k)) k' d in
      let parts = branches (definite no_privates a k) (Some k) k' t.1 in
      grows_both next next' next' k parts.left parts.right k' (rises ra) (omega arith) (grows ra k parts.left v parts.first) (grows_same next' k parts.right (same_Some k parts.right parts.second)) parts.is
  grows {scope = scope} (if_else {next = next} {next' = middle} {next'' = next''} {c = c} {a = a} {b = b} less rc closed ra rb) k k' v d =
      let t = tested_known (may_test k c) (after_both (definite no_privates a k) (definite no_privates b k)) k' d in
      let parts = branches (definite no_privates a k) (definite no_privates b k) k' t.1 in
      grows_both next middle next'' k parts.left parts.right k' (rises ra) (rises rb) (grows ra k parts.left v parts.first) (grows rb k parts.right (visible_later scope next middle (rises ra) v) parts.second) parts.is
  grows (for_loop {next = next} {next' = next'} {name = name} {start = start} {test = test} {step = step} {body = body} less free rs rt ru r) k k' v d =
      let same = (loop_known_is next name start test step body k k' d).same in
      let up = rises r in
      subst (Grows next next' k) same (record { more = λ y lt h. h; below = λ y h. inl h })
  grows (block less items) k k' v d = grows_items items k k' v d
  grows (print {next = next} {parts = parts} less f r fill) k k' v d = grows_same next k k' (allowed (may_print k parts) k k' d).1

  pub grows_items : {scope : Scope} {o next next' : ℕ} {ts : List Token} {items : Items} → ReadsItems scope o next ts items next' → (k k' : DefinitelyAssigned) → Each (IsBelow next) scope → definite_items no_privates [] items k ≡ Some k' → Grows next next' k k'
  grows_items (no_more {next = next}) k k' v d = grows_same next k k' (same_Some k k' d)
  grows_items (line r) k k' v d = grows_items r k k' v d
  grows_items {scope = scope} (empty_local {next = next} {next' = next'} {name = name} free r) k k' v d =
      grows_declared next next' k k' false (rises_items r) (grows_items r (known_with k next false) k' (visible_behind scope name next v) d)
  grows_items {scope = scope} (first_local {next = next} {next' = next'} {name = name} {e = e} {items = items} free re r) k k' v d =
      let first = and_then (definite_items no_privates [] items) (declared_known k next (Some e)) k' d in
      let ok = allowed (may_take k e) (known_with k next true) first.0 first.1 in
      grows_declared next next' k k' true (rises_items r) (grows_items r (known_with k next true) k' (visible_behind scope name next v) (ap (definite_items no_privates [] items) ok.1 ∙ first.2))
  grows_items {scope = scope} (statement {next = next} {next' = middle} {next'' = next''} {s = a} {items = items} ra r) k k' v d =
      let first = and_then (definite_items no_privates [] items) (definite no_privates a k) k' d in
      grows_then next middle next'' k first.0 k' (rises ra) (rises_items r) (grows ra k first.0 v first.1) (grows_items r first.0 k' (visible_later scope next middle (rises ra) v) first.2)

-- what is known has numbers below the next one
pub known_below : (next next' : ℕ) (k k' : DefinitelyAssigned) → next ≤ next' → ((y : Variable) → k y ≡ true → y < next) → Grows next next' k k' → (y : Variable) → k' y ≡ true → y < next'
known_below next next' k k' up below g y h = ⊎_elim (λ q. let lt = below y q in omega arith) (λ lt. lt) (g.below y h)
