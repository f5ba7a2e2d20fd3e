-- A point of a kernel's run: what is visible, how many variables there are, what is known, and the state.
use Rattle.std.specs.Prelude.{ℕ, ℤ, ◌<◌, ◌==◌, suc, Bool, true, false, ◌≡◌, ◌≤◌, ◌&&◌, List, ◌∷◌, length, Option, Some, None, option_and_then}
use Rattle.std.proofs.Common.{refl, inr, ◌∙◌, cond, arith}
use Rattle.std.proofs.lemmas.Bool.{ne_eqb}
use Rattle.std.proofs.lemmas.Option.{same_Some, none-some}
use Rattle.semantics.specs.Tree.{Name, Variable, BinaryOp, Exprs, Stmt, Items, Declaration}
use Rattle.semantics.specs.Source.Token.{Token}
use Rattle.semantics.specs.Source.Scope.{Scope, Entity, AVariable, AConstant, count}
use Rattle.semantics.specs.Source.Expressions.{ReadsSubscripts, UpdateSign, plus, minus, times, and, or, xor}
use Rattle.semantics.specs.Source.Statements.{ReadsTarget, target, ReadsStmt, assign, update, if_only, if_else, for_loop, block, print, ReadsItems, no_more, line, empty_local, first_local, statement}
use Rattle.semantics.specs.Meaning.State.{State, Slot, Assigned, with_local, written}
use Rattle.semantics.specs.Meaning.Value.{operate}
use Rattle.semantics.specs.Meaning.Definite.{DefinitelyAssigned, where_ok, after_both}
use Rattle.affine.specs.declared.interval.Side.{Side}
use Rattle.affine_expr.specs.Forms.{is_counter}
use Rattle.law_runs.proofs.Going.{stands, Later, HoldsKnown, IsUsable, usable_later}
use Rattle.nest_loop.specs.Constants.{Each, IsSmall}
use Rattle.nest_loop.proofs.Visible.{each_found, each_weaker}
use Rattle.law_runs.proofs.There.{There}
use Rattle.law_runs.proofs.Values.{IsGood}
use Rattle.law_runs.proofs.Assigning.{good_later, swapped, other_local, other_assigned}
use Rattle.nest_loop.specs.Turn.{AtTurn}

-- a statement numbers its locals upwards
mutual
  pub rises : {scope : Scope} {o next next' : ℕ} {ts : List Token} {a : Stmt} → ReadsStmt scope o next ts a next' → next ≤ next'
  rises (assign t e) = omega arith
  rises (update t u e) = omega arith
  rises (if_only less c a) = rises a
  rises (if_else less c closed a b) = let p = rises a in let q = rises b in omega arith
  rises (for_loop less free start test step body) = let p = rises body in omega arith
  rises (block less items) = rises_items items
  rises (print less f r fill) = omega arith

  pub rises_items : {scope : Scope} {o next next' : ℕ} {ts : List Token} {items : Items} → ReadsItems scope o next ts items next' → next ≤ next'
  rises_items no_more = omega arith
  rises_items (line r) = rises_items r
  rises_items (empty_local free r) = let p = rises_items r in omega arith
  rises_items (first_local free e r) = let p = rises_items r in omega arith
  rises_items (statement r q) = let p = rises r in let p' = rises_items q in omega arith

-- a visible variable can be assigned
abbrev pub CanBeSet : List Declaration → State → Entity → Type 0
CanBeSet ds s (AVariable x n) = IsUsable ds s x
CanBeSet ds s (AConstant n) = Unit {0}

pub set_later : (ds : List Declaration) (s t : State) → Later ds s t → (e : Entity) → CanBeSet ds s e → CanBeSet ds t e
set_later ds s t l (AVariable x n) u = usable_later ds s t x l u
set_later ds s t l (AConstant n) u = tt

-- a variable's number is below
abbrev pub IsBelow : ℕ → Entity → Type 0
IsBelow m (AVariable x n) = x < m
IsBelow m (AConstant n) = Unit {0}

pub below_more : (m n : ℕ) → m ≤ n → (e : Entity) → IsBelow m e → IsBelow n e
below_more m n le (AVariable x d) h = omega arith
below_more m n le (AConstant c) h = tt

-- what is known, and the loops' variables, have numbers below
pub record AreBelow (box : List Side) (scope : Scope) (next : ℕ) (k : DefinitelyAssigned) : Type 0 where
  pub visible : Each (IsBelow next) scope
  pub known : (y : Variable) → k y ≡ true → y < next
  pub counters : (y : Variable) → is_counter box y ≡ true → y < next

-- what holds behind a statement: what is known holds a number, and the loops round it stand at their turn
pub record IsBehind (ds : List Declaration) (box : List Side) (values : Variable → ℤ) (k : DefinitelyAssigned) (s : State) : Type 0 where
  pub known : HoldsKnown ds k s
  pub turn : AtTurn box values s

-- what is visible is small, can be set and has a number below the next, and the state is good
pub record IsPoint (ds : List Declaration) (box : List Side) (values : Variable → ℤ) (scope : Scope) (next : ℕ) (k : DefinitelyAssigned) (s : State) : Type 0 where
  pub small : Each IsSmall scope
  pub usable : Each (CanBeSet ds s) scope
  pub room : length ds ≤ next
  pub good : IsGood ds s
  pub below : AreBelow box scope next k
  pub here : IsBehind ds box values k s

-- a turn lasts while its variables hold their values
pub turn_lasts : (box : List Side) (values : Variable → ℤ) (s t : State) → ((y : Variable) → is_counter box y ≡ true → t.locals y ≡ s.locals y) → AtTurn box values s → AtTurn box values t
turn_lasts box values s t same turn =
    record {
      inside = turn.inside;
      counters = λ y c. let held = turn.counters y c in record { number = held.number; held = same y c ∙ held.held; is = held.is; below = held.below };
    }

-- a local with a number above theirs stands anew
pub turn_declared : (box : List Side) (values : Variable → ℤ) (s : State) (next : ℕ) (slot : Slot) → ((y : Variable) → is_counter box y ≡ true → y < next) → AtTurn box values s → AtTurn box values (with_local s next slot)
turn_declared box values s next slot below turn =
    turn_lasts box values s (with_local s next slot) (λ y c. other_local s next slot y (ne_eqb y next (λ e. let lt = below y c in absurd (omega arith)))) turn

-- another variable is assigned
pub turn_assigned : (box : List Side) (values : Variable → ℤ) (s : State) (x : Variable) (js : List ℕ) (v : ℕ) → ((y : Variable) → is_counter box y ≡ true → (x == y) ≡ false) → AtTurn box values s → AtTurn box values (written s (Assigned x js v))
turn_assigned box values s x js v kept turn =
    turn_lasts box values s (written s (Assigned x js v)) (λ y c. other_assigned s x js v y (swapped x y (kept y c))) turn

-- a point behind another, in the same block
pub point_later : (ds : List Declaration) (box : List Side) (values : Variable → ℤ) (scope : Scope) (next next' : ℕ) (k k' : DefinitelyAssigned) (s t : State) → IsPoint ds box values scope next k s → next ≤ next' → Later ds s t
    → ((y : Variable) → k' y ≡ true → y < next') → IsBehind ds box values k' t → IsPoint ds box values scope next' k' t
point_later ds box values scope next next' k k' s t p up l below here =
    let room = p.room in
    record {
      small = p.small;
      usable = each_weaker (CanBeSet ds s) (CanBeSet ds t) (set_later ds s t l) scope p.usable;
      room = omega arith;
      good = good_later ds s t l p.good;
      below = record {
        visible = each_weaker (IsBelow next) (IsBelow next') (below_more next next' up) scope p.below.visible;
        known = below;
        counters = λ y c. let lt = p.below.counters y c in omega arith;
      };
      here = here;
    }

-- a point behind a local's declaration
pub point_behind : (ds : List Declaration) (box : List Side) (values : Variable → ℤ) (scope : Scope) (name : Name) (next : ℕ) (k k' : DefinitelyAssigned) (s t : State) → IsPoint ds box values scope next k s → Later ds s t
    → ((y : Variable) → k' y ≡ true → y < suc next) → IsBehind ds box values k' t → stands (t.locals next) ≡ true → IsPoint ds box values ((name, AVariable next 0) ∷ scope) (suc next) k' t
point_behind ds box values scope name next k k' s t p l below here up =
    let rest = point_later ds box values scope next (suc next) k k' s t p (omega arith) l below here in
    let less : next < suc next = omega arith in
    record {
      small = (tt, rest.small);
      usable = (inr up, rest.usable);
      room = rest.room;
      good = rest.good;
      below = record { visible = (less, rest.below.visible); known = rest.below.known; counters = rest.below.counters };
      here = rest.here;
    }

pub target_usable : {scope : Scope} {o : ℕ} {ts : List Token} {x : Variable} {is : Exprs} (ds : List Declaration) (s : State) → ReadsTarget scope o ts x is → Each (CanBeSet ds s) scope → IsUsable ds s x
target_usable {scope = scope} ds s (target {name = name} {x = x} {is = is} f r) h = each_found (CanBeSet ds s) scope name (AVariable x (count is)) h f

-- the subscripts of a target
pub record HasSubscripts (scope : Scope) (o : ℕ) (is : Exprs) : Type 0 where
  pub tokens : List Token
  pub read : ReadsSubscripts scope o tokens is

pub target_subscripts : {scope : Scope} {o : ℕ} {ts : List Token} {x : Variable} {is : Exprs} → ReadsTarget scope o ts x is → HasSubscripts scope o is
target_subscripts (target {ts = ts} f r) = record { tokens = ts; read = r }

-- an operation of `op=` has a result for all operands
pub updates_there : {sign : _} {op : BinaryOp} → UpdateSign sign op → (v w : ℕ) → There (operate op v w)
updates_there plus v w = (_, refl)
updates_there minus v w = (_, refl)
updates_there times v w = (_, refl)
updates_there and v w = (_, refl)
updates_there or v w = (_, refl)
updates_there xor v w = (_, refl)

-- what is known behind a statement that may be
pub allowed : (b : Bool) (k k' : DefinitelyAssigned) → where_ok b k ≡ Some k' → (b ≡ true) × (k ≡ k')
allowed true k k' e = (refl, same_Some k k' e)
allowed false k k' e = absurd (none-some k' e)

pub tested_known : (b : Bool) (o : Option DefinitelyAssigned) (k' : DefinitelyAssigned) → cond b o None ≡ Some k' → (b ≡ true) × (o ≡ Some k')
tested_known true o k' e = (refl, e)
tested_known false o k' e = absurd (none-some k' e)

-- behind both branches
pub record Branches (o p : Option DefinitelyAssigned) (k' : DefinitelyAssigned) : Type 0 where
  pub left : DefinitelyAssigned
  pub right : DefinitelyAssigned
  pub first : o ≡ Some left
  pub second : p ≡ Some right
  pub is : (λ y. left y && right y) ≡ k'

pub branches : (o p : Option DefinitelyAssigned) (k' : DefinitelyAssigned) → after_both o p ≡ Some k' → Branches o p k'
branches None p k' e = absurd (none-some k' e)
branches (Some a) None k' e = absurd (none-some k' e)
branches (Some a) (Some b) k' e = record { left = a; right = b; first = refl; second = refl; is = same_Some _ k' e }

-- one statement and then others
pub and_then : (f : DefinitelyAssigned → Option DefinitelyAssigned) (o : Option DefinitelyAssigned) (k' : DefinitelyAssigned) → option_and_then f o ≡ Some k' → (k : DefinitelyAssigned) × (o ≡ Some k) × (f k ≡ Some k')
and_then f None k' e = absurd (none-some k' e)
and_then f (Some k) k' e = (k, refl, e)
