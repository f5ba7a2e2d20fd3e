-- What the grammar gives of the loops of a kernel, and of the lengths of its arrays.
use Rattle.std.specs.Prelude.{ℕ, suc, Bool, true, false, ◌≡◌, ◌<◌, ◌≤◌, ◌==◌, List, ◌∷◌, None}
use Rattle.std.proofs.Common.{refl, cond, arith}
use Rattle.std.proofs.lemmas.Bool.{eqb-true}
use Rattle.semantics.specs.Tree.{Name, Variable, Stmt, Items, Declaration}
use Rattle.semantics.specs.Source.Token.{Token}
use Rattle.semantics.specs.Source.Scope.{Scope, AVariable, with_constants}
use Rattle.semantics.specs.Source.Statements.{ReadsStmt, assign, update, if_only, if_else, for_loop, block, print, ReadsItems, no_more, line, empty_local, first_local, statement}
use Rattle.semantics.specs.Source.Grammar.{ReadsLengths, no_lengths, dimension, ReadsConstants, only, further, ReadsDecls, no_decls, enum, object}
use Rattle.semantics.specs.Meaning.State.{State, Outside}
use Rattle.affine.specs.declared.interval.Interval.{Interval}
use Rattle.affine.specs.declared.interval.Side.{Side}
use Rattle.affine_expr.specs.Forms.{is_counter}
use Rattle.nest_loop.specs.Constants.{Each, IsSmall}
use Rattle.nest_loop.specs.Loops.{inside}
use Rattle.nest_loop.proofs.Visible.{constant_there}
use Rattle.law_independence.specs.Inside.{LoopsAreRead, ItemsAreRead, AreShort, HaveShort}

-- a state, to read constants in
nothing_there : State
nothing_there = record { cells = λ x is. None; locals = λ x. Outside }

-- ---- declarations

constants_small : {scope : Scope} {ts : List Token} {cs : List (Name × ℕ)} → ReadsConstants scope ts cs → Each IsSmall scope → Each IsSmall (with_constants cs scope)
constants_small (only {n = n} free r e) h = ((constant_there nothing_there n h r e).1, h)
constants_small (further {n = n} free r e q) h = constants_small q ((constant_there nothing_there n h r e).1, h)

pub decls_small : {scope scope' : Scope} {next : ℕ} {ts : List Token} {cs : List (Name × ℕ)} {ds : List Declaration} → ReadsDecls scope next ts cs ds scope' → Each IsSmall scope → Each IsSmall scope'
decls_small no_decls h = h
decls_small (enum c r) h = decls_small r (constants_small c h)
decls_small (object free few ls r) h = decls_small r (tt, h)

lengths_short : {scope : Scope} {ts : List Token} {ns : List ℕ} → ReadsLengths scope ts ns → Each IsSmall scope → AreShort ns
lengths_short no_lengths h = tt
lengths_short (dimension {n = n} r e ls) h = let less = (constant_there nothing_there (suc n) h r e).1 in (omega arith, lengths_short ls h)

pub decls_short : {scope scope' : Scope} {next : ℕ} {ts : List Token} {cs : List (Name × ℕ)} {ds : List Declaration} → ReadsDecls scope next ts cs ds scope' → Each IsSmall scope → HaveShort ds
decls_short no_decls h = tt
decls_short (enum c r) h = decls_short r (constants_small c h)
decls_short (object free few ls r) h = (lengths_short ls h, decls_short r (tt, h))

-- ---- loops

-- a statement numbers its locals upwards
mutual
  rises : {scope : Scope} {o next next' : ℕ} {ts : List Token} {a : Stmt} → ReadsStmt scope o next ts a next' → next ≤ next'
  rises (assign t e) = omega arith
  rises (update t u e) = omega arith
  rises (if_only less c a) = rises a
  rises (if_else less c closed a b) = let p = rises a in let q = rises b in omega arith
  rises (for_loop less free start test step body) = let p = rises body in omega arith
  rises (block less items) = rises_items items
  rises (print less f r fill) = omega arith

  rises_items : {scope : Scope} {o next next' : ℕ} {ts : List Token} {items : Items} → ReadsItems scope o next ts items next' → next ≤ next'
  rises_items no_more = omega arith
  rises_items (line r) = rises_items r
  rises_items (empty_local free r) = let p = rises_items r in omega arith
  rises_items (first_local free e r) = let p = rises_items r in omega arith
  rises_items (statement r q) = let p = rises r in let p' = rises_items q in omega arith

-- the variables of the loops of a box have numbers below
abbrev AreBelow : List Side → ℕ → Type 0
AreBelow box next = (y : Variable) → is_counter box y ≡ true → y < next

below_later : (box : List Side) (next next' : ℕ) → next ≤ next' → AreBelow box next → AreBelow box next'
below_later box next next' le below y c = let lt = below y c in omega arith

below_inside : (box : List Side) (x : ℕ) (i : Interval) → AreBelow box x → AreBelow (inside box x i) (suc x)
below_inside box x i below y c = go (x == y) refl c
  where
    go : (b : Bool) → (x == y) ≡ b → cond b true (is_counter box y) ≡ true → y < suc x
    go true e h = let same = eqb-true x y e in omega arith
    go false e h = let lt = below y h in omega arith

-- a variable with the next number is none of theirs
none_of : (box : List Side) (x : ℕ) → AreBelow box x → is_counter box x ≡ false
none_of box x below = go (is_counter box x) refl
  where
    go : (b : Bool) → is_counter box x ≡ b → b ≡ false
    go true e = let lt = below x e in absurd (omega arith)
    go false e = refl

mutual
  loops_read : (box : List Side) {scope : Scope} {o next next' : ℕ} {ts : List Token} {a : Stmt} → ReadsStmt scope o next ts a next' → Each IsSmall scope → AreBelow box next → LoopsAreRead box a
  loops_read box (assign t e) small below = tt
  loops_read box (update t u e) small below = tt
  loops_read box (if_only less c a) small below = loops_read box a small below
  loops_read box (if_else {next = next} {next' = middle} less c closed a b) small below =
      (loops_read box a small below, loops_read box b small (below_later box next middle (rises a) below))
  loops_read box {scope} (for_loop {open' = open'} {next = next} {name = name} {vs = vs} less free start test step body) small below = (
    record { scope = (name, AVariable next 0) ∷ scope; order = suc (suc open'); tokens = vs; small = (tt, small); reads = step; other = none_of box next below },
    λ l i loop. loops_read (inside box next i) body (tt, small) (below_inside box next i below),
  )
  loops_read box (block less items) small below = items_read box items small below
  loops_read box (print less f r fill) small below = tt

  pub items_read : (box : List Side) {scope : Scope} {o next next' : ℕ} {ts : List Token} {items : Items} → ReadsItems scope o next ts items next' → Each IsSmall scope → AreBelow box next → ItemsAreRead box items
  items_read box no_more small below = tt
  items_read box (line r) small below = items_read box r small below
  items_read box (empty_local {next = next} free r) small below = items_read box r (tt, small) (below_later box next (suc next) (omega arith) below)
  items_read box (first_local {next = next} free e r) small below = items_read box r (tt, small) (below_later box next (suc next) (omega arith) below)
  items_read box (statement {next = next} {next' = middle} r q) small below = (loops_read box r small below, items_read box q small (below_later box next middle (rises r) below))
