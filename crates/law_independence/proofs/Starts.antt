-- No initialiser names its own variable, where no local is read before it is assigned. (C11 6.2.1, 7 and 6.7.9, 10)
use Rattle.std.specs.Prelude.{ℕ, suc, Bool, true, false, ◌≡◌, ◌<◌, ◌≤◌, ◌==◌, List, [], Option, Some, None}
use Rattle.std.proofs.Common.{refl, ap, ◌∙◌, cond, arith}
use Rattle.std.proofs.lemmas.Bool.{eqb-true}
use Rattle.semantics.specs.Tree.{Variable, Source, Stmt, Assign, Update, If, IfElse, For, Block, Print, Items, no_items, mark, local, stmt}
use Rattle.semantics.specs.Source.Token.{Token}
use Rattle.semantics.specs.Source.Scope.{Scope}
use Rattle.semantics.specs.Source.Statements.{ReadsStmt, assign, update, if_only, if_else, for_loop, block, print, ReadsItems, no_more, line, empty_local, first_local, statement}
use Rattle.semantics.specs.Meaning.Definite.{DefinitelyAssigned, known_with, may_take, may_test, no_privates, after_both, declared_known, definite, definite_items}
use Rattle.nest_loop.specs.Constants.{Each}
use Rattle.law_runs.proofs.Points.{rises, IsBelow, allowed, tested_known, branches, and_then}
use Rattle.law_runs.proofs.Growing.{loop_known_is, grows, known_below, visible_behind, visible_later}

-- all that it names is known, and the variable is not
abbrev pub NamesOthers : Variable → Option Source → Type 0
NamesOthers x None = Unit {0}
NamesOthers x (Some e) = (k : DefinitelyAssigned) × (may_take k e ≡ true) × (k x ≡ false)

abbrev mutual
  -- so each initialiser of a statement
  pub StartsNameOthers : Stmt → Type 0
  StartsNameOthers (Assign x is e) = Unit {0}
  StartsNameOthers (Update x is op e) = Unit {0}
  StartsNameOthers (If c a) = StartsNameOthers a
  StartsNameOthers (IfElse c a b) = StartsNameOthers a × StartsNameOthers b
  StartsNameOthers (For x name start test step body) = StartsNameOthers body
  StartsNameOthers (Block items) = AllNameOthers items
  StartsNameOthers (Print parts) = Unit {0}

  -- of a block's items
  pub AllNameOthers : Items → Type 0
  AllNameOthers no_items = Unit {0}
  AllNameOthers (mark n rest) = AllNameOthers rest
  AllNameOthers (local x name start rest) = NamesOthers x start × AllNameOthers rest
  AllNameOthers (stmt s rest) = StartsNameOthers s × AllNameOthers rest

-- what is known has numbers below the next one
abbrev pub AreBelow : DefinitelyAssigned → ℕ → Type 0
AreBelow k next = (y : Variable) → k y ≡ true → y < next

pub below_later : (k : DefinitelyAssigned) (next next' : ℕ) → next ≤ next' → AreBelow k next → AreBelow k next'
below_later k next next' up below y h = let less = below y h in omega arith

pub below_with : (k : DefinitelyAssigned) (next : ℕ) (b : Bool) → AreBelow k next → AreBelow (known_with k next b) (suc next)
below_with k next b below y h = go (y == next) refl h
  where
    go : (t : Bool) → (y == next) ≡ t → cond t b (k y) ≡ true → y < suc next
    go true e q = let same = eqb-true y next e in omega arith
    go false e q = let less = below y q in omega arith

pub next_unknown : (k : DefinitelyAssigned) (next : ℕ) → AreBelow k next → k next ≡ false
next_unknown k next below = go (k next) refl
  where
    go : (b : Bool) → k next ≡ b → b ≡ false
    go true e = let less = below next e in absurd (omega arith)
    go false e = refl

mutual
  starts : {scope : Scope} {o next next' : ℕ} {ts : List Token} {a : Stmt} → ReadsStmt scope o next ts a next' → (k k' : DefinitelyAssigned) → Each (IsBelow next) scope → AreBelow k next
      → definite no_privates a k ≡ Some k' → StartsNameOthers a
  starts (assign t e) k k' v below d = tt
  starts (update t u e) k k' v below d = tt
  starts (if_only {c = c} {a = a} less rc ra) k k' v below d =
      let tested = tested_known (may_test k c) (after_both (definite no_privates a k) (Some k)) k' d in
      let parts = branches (definite no_privates a k) (Some k) k' tested.1 in
      starts ra k parts.left v below parts.first
  starts {scope} (if_else {next = next} {next' = middle} {c = c} {a = a} {b = b} less rc closed ra rb) k k' v below d =
      let tested = tested_known (may_test k c) (after_both (definite no_privates a k) (definite no_privates b k)) k' d in
      let parts = branches (definite no_privates a k) (definite no_privates b k) k' tested.1 in
      (starts ra k parts.left v below parts.first, starts rb k parts.right (visible_later scope next middle (rises ra) v) (below_later k next middle (rises ra) below) parts.second)
  starts {scope} (for_loop {next = next} {name = name} {start = start} {test = test} {step = step} {body = body} less free rs rt ru r) k k' v below d =
      let known = loop_known_is next name start test step body k k' d in
      starts r (known_with k next true) known.after (visible_behind scope name next v) (below_with k next true below) known.inside
  starts (block less items) k k' v below d = all_start items k k' v below d
  starts (print less f r fill) k k' v below d = tt

  pub all_start : {scope : Scope} {o next next' : ℕ} {ts : List Token} {items : Items} → ReadsItems scope o next ts items next' → (k k' : DefinitelyAssigned) → Each (IsBelow next) scope → AreBelow k next
      → definite_items no_privates [] items k ≡ Some k' → AllNameOthers items
  all_start no_more k k' v below d = tt
  all_start (line r) k k' v below d = all_start r k k' v below d
  all_start {scope} (empty_local {next = next} {name = name} free r) k k' v below d =
      (tt, all_start r (known_with k next false) k' (visible_behind scope name next v) (below_with k next false below) d)
  all_start {scope} (first_local {next = next} {name = name} {e = e} {items = items} free re r) k k' v below d =
      let first = and_then (definite_items no_privates [] items) (declared_known k next (Some e)) k' d in
      let ok = allowed (may_take k e) (known_with k next true) first.0 first.1 in (
        (k, ok.0, next_unknown k next below),
        all_start r (known_with k next true) k' (visible_behind scope name next v) (below_with k next true below) (ap (definite_items no_privates [] items) ok.1 ∙ first.2),
      )
  all_start {scope} (statement {next = next} {next' = middle} {s = a} {items = items} ra r) k k' v below d =
      let first = and_then (definite_items no_privates [] items) (definite no_privates a k) k' d in (
        starts ra k first.0 v below first.1,
        all_start r first.0 k' (visible_later scope next middle (rises ra) v) (known_below next middle k first.0 (rises ra) below (grows ra k first.0 v first.1)) first.2,
      )
