-- A statement declares variables with numbers from the next one on, so that no visible one is declared anew.
use Rattle.std.specs.Prelude.{ℕ, suc, Bool, true, false, ◌≡◌, ◌<◌, ◌≤◌, ◌==◌, ◌||◌, ◌++◌, List, ◌∷◌, length}
use Rattle.std.proofs.Common.{refl, sym, ◌∙◌, cond, arith, ⊎_elim}
use Rattle.std.proofs.lemmas.Bool.{eqb-true, or_cases, false_from_ne_true}
use Rattle.semantics.specs.Tree.{Name, Variable, Stmt, Items, Declaration}
use Rattle.semantics.specs.Source.Token.{Token}
use Rattle.semantics.specs.Source.Scope.{Scope, AVariable}
use Rattle.semantics.specs.Source.Statements.{ReadsStmt, assign, update, if_only, if_else, for_loop, block, print, ReadsItems, no_more, line, empty_local, first_local, statement}
use Rattle.semantics.specs.Meaning.Agrees.{is_among, declared_in, declared_among}
use Rattle.affine.specs.declared.interval.Interval.{Interval}
use Rattle.affine.specs.declared.interval.Side.{Side}
use Rattle.affine_expr.specs.Forms.{is_counter}
use Rattle.nest_loop.specs.Constants.{Each}
use Rattle.nest_loop.specs.Loops.{inside}
use Rattle.flow.proofs.PrivateLemmas.{among_both}
use Rattle.law_runs.proofs.Points.{rises, IsBelow}
use Rattle.law_runs.proofs.Growing.{visible_behind as also_visible, visible_later}

-- ---- what is declared

first_or : (x y : ℕ) (rest : Bool) → ((x == y) || rest) ≡ true → (rest ≡ true → suc x ≤ y) → x ≤ y
first_or x y rest h later = go (x == y) refl h
  where
    go : (b : Bool) → (x == y) ≡ b → (b || rest) ≡ true → x ≤ y
    go true e q = let same = eqb-true x y e in omega arith
    go false e q = let le = later q in omega arith

either_list : (m y : ℕ) (xs ys : List Variable) → is_among (xs ++ ys) y ≡ true → (is_among xs y ≡ true → m ≤ y) → (is_among ys y ≡ true → m ≤ y) → m ≤ y
either_list m y xs ys h first second = ⊎_elim first second (or_cases (is_among xs y) (is_among ys y) (sym (among_both xs ys y) ∙ h))

mutual
  pub declared_from : {scope : Scope} {o next next' : ℕ} {ts : List Token} {a : Stmt} → ReadsStmt scope o next ts a next' → (y : Variable) → is_among (declared_in a) y ≡ true → next ≤ y
  declared_from (assign t e) y h = absurd (cc h)
  declared_from (update t u e) y h = absurd (cc h)
  declared_from (if_only less c a) y h = declared_from a y h
  declared_from (if_else {next = next} {a = a} {b = b} less c closed ra rb) y h =
      let up = rises ra in
      either_list next y (declared_in a) (declared_in b) h (declared_from ra y) (λ q. let le = declared_from rb y q in omega arith)
  declared_from (for_loop {next = next} {body = body} less free start test step r) y h = first_or next y (is_among (declared_in body) y) h (declared_from r y)
  declared_from (block less items) y h = declared_among_from items y h
  declared_from (print less f r fill) y h = absurd (cc h)

  pub declared_among_from : {scope : Scope} {o next next' : ℕ} {ts : List Token} {items : Items} → ReadsItems scope o next ts items next' → (y : Variable) → is_among (declared_among items) y ≡ true → next ≤ y
  declared_among_from no_more y h = absurd (cc h)
  declared_among_from (line r) y h = declared_among_from r y h
  declared_among_from (empty_local {next = next} {items = items} free r) y h = first_or next y (is_among (declared_among items) y) h (declared_among_from r y)
  declared_among_from (first_local {next = next} {items = items} free e r) y h = first_or next y (is_among (declared_among items) y) h (declared_among_from r y)
  declared_among_from (statement {next = next} {s = a} {items = items} ra r) y h =
      let up = rises ra in
      either_list next y (declared_in a) (declared_among items) h (declared_from ra y) (λ q. let le = declared_among_from r y q in omega arith)

-- so it declares none with a number before
pub undeclared : {scope : Scope} {o next next' : ℕ} {ts : List Token} {a : Stmt} → ReadsStmt scope o next ts a next' → (y : Variable) → y < next → is_among (declared_in a) y ≡ false
undeclared {a = a} r y lt = false_from_ne_true (is_among (declared_in a) y) (λ h. let le = declared_from r y h in absurd (omega arith))

-- ---- places

-- a place of a kernel with these declarations, inside the loops of a box: what is visible, and the loops' variables, have numbers below the next one
pub record IsPlace (ds : List Declaration) (box : List Side) (scope : Scope) (next : ℕ) : Type 0 where
  pub visible : Each (IsBelow next) scope
  pub counters : (y : Variable) → is_counter box y ≡ true → y < next
  pub room : length ds ≤ next

-- further on in the same block
pub place_later : (ds : List Declaration) (box : List Side) (scope : Scope) (next next' : ℕ) → next ≤ next' → IsPlace ds box scope next → IsPlace ds box scope next'
place_later ds box scope next next' up at =
    let room = at.room in
    record { visible = visible_later scope next next' up at.visible; counters = λ y c. let less = at.counters y c in omega arith; room = omega arith }

-- behind a local's declaration
pub place_behind : (ds : List Declaration) (box : List Side) (scope : Scope) (name : Name) (next : ℕ) → IsPlace ds box scope next → IsPlace ds box ((name, AVariable next 0) ∷ scope) (suc next)
place_behind ds box scope name next at =
    let room = at.room in
    record { visible = also_visible scope name next at.visible; counters = λ y c. let less = at.counters y c in omega arith; room = omega arith }

-- inside a loop
pub place_inside : (ds : List Declaration) (box : List Side) (scope : Scope) (name : Name) (next : ℕ) (i : Interval) → IsPlace ds box scope next → IsPlace ds (inside box next i) ((name, AVariable next 0) ∷ scope) (suc next)
place_inside ds box scope name next i at =
    let room = at.room in
    record { visible = also_visible scope name next at.visible; counters = λ y c. go y (next == y) refl c; room = omega arith }
  where
    go : (y : Variable) (b : Bool) → (next == y) ≡ b → cond b true (is_counter box y) ≡ true → y < suc next
    go y true e h = let same = eqb-true next y e in omega arith
    go y false e h = let less = at.counters y h in omega arith
