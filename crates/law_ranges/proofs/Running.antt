-- Right nests run at each turn of the loops round them.
use Rattle.std.specs.Prelude.{ℕ, Bool, true, false, ◌≡◌, ◌==◌, ◌++◌, ◌*◌, ◌≤◌, ◌^◌, ℤ, pos, ◌+ℤ◌, ◌≤ℤ◌, List, [], ◌∷◌, map, Contains, Some}
use Rattle.std.proofs.Common.{refl, sym, ap, ◌∙◌, subst, cond, arith}
use Rattle.std.proofs.lemmas.Bool.{eqb-true, eqb-false, eq-eqb}
use Rattle.std.proofs.lemmas.Int.{ints}
use Rattle.std.proofs.lemmas.Option.{same_Some}
use Rattle.semantics.specs.Tree.{Variable, Stmt, Assign, Update, If, IfElse, For, Block, Print, Items, no_items, mark, local, stmt}
use Rattle.semantics.specs.Meaning.State.{State, Slot, Holds}
use Rattle.semantics.specs.Loops.Nest.{Loop, Vector, at_value, at_vector, iterations}
use Rattle.law_lines.proofs.Kept.{kept_lines_are_read}
use Rattle.affine.specs.declared.interval.Interval.{Interval}
use Rattle.affine.specs.declared.interval.Side.{Side}
use Rattle.affine.specs.Affine.{term_sum, value, with_value}
use Rattle.affine.proofs.Values.{with_value-same, with_value-other}
use Rattle.affine_expr.specs.Forms.{is_counter}
use Rattle.nest_loop.specs.declared.stride.Direction.{Direction}
use Rattle.nest_loop.specs.declared.stride.Direction.TheVariants.{Rising, Falling}
use Rattle.nest_loop.specs.declared.stride.Bound.{Bound}
use Rattle.nest_loop.specs.declared.stride.Bound.TheVariants.{Strict, Inclusive, Unequal}
use Rattle.nest_loop.specs.Sides.{after_steps, end_shift}
use Rattle.nest_loop.specs.Most.{way}
use Rattle.nest_loop.specs.Loops.{inside}
use Rattle.nest_loop.specs.Turn.{AtTurn, HoldsValue}
use Rattle.nest.specs.Perfect.{IsRightNest, RightNestFirst, Nests, ItemsNest, HasProduct}
use Rattle.nest_space.specs.Space.{values_of}
use Rattle.nest_space.proofs.Counted.{found_at}
use Rattle.pragma.specs.Parallel.{associated, FirstHas}
use Rattle.flow.specs.Roles.{LoopsHaveBy, ItemsHaveBy}
use Rattle.law_turns.proofs.OneLoop.{run_within, run_value}
use Rattle.law_turns.proofs.Joining.{contains_none, contains_cases, member}
use Rattle.law_turns.proofs.Iterating.{iterations_by}
use Rattle.law_independence.specs.Inside.{LoopsAreRead, ItemsAreRead}
use Rattle.law_independence.proofs.Backward.{same_number}
use Rattle.law_independence.proofs.Grammar.{decls_small, items_read}
use Rattle.law_ranges.specs.Spaces.{RunsFewAtTurns, RightNestsRunFew}
use Rattle.law_ranges.proofs.Round.{AreRound, round_join}
use Rattle.law_ranges.proofs.Turning.{at_start, run, values_are_these, turn_at}
use Rattle.law_independence.proofs.Few.{run_within_most, counted_more}

-- ---- the numbers of the loops' variables

-- a number between the bounds of a loop
near : (d : Direction) (bound : Bound) (by k x : ℕ) (start c sum : ℤ) → start ≤ℤ pos (2 ^ 32) → (c +ℤ sum) ≤ℤ pos (2 ^ 32)
    → pos (by * k) ≤ℤ way d start ((c +ℤ end_shift d bound) +ℤ sum) → pos x ≡ after_steps (record { direction = d; by = by }) start k → pos x ≤ℤ pos (2 ^ 33)
near Rising Strict by k x start c sum s l within is = omega (arith, ints)
near Rising Inclusive by k x start c sum s l within is = omega (arith, ints)
near Rising Unequal by k x start c sum s l within is = omega (arith, ints)
near Falling Strict by k x start c sum s l within is = omega (arith, ints)
near Falling Inclusive by k x start c sum s l within is = omega (arith, ints)
near Falling Unequal by k x start c sum s l within is = omega (arith, ints)

-- of each variable of a box at most 2^33
abbrev AreSmall : List Side → (Variable → ℤ) → Type 0
AreSmall box values = (x : Variable) → is_counter box x ≡ true → values x ≤ℤ pos (2 ^ 33)

small_more : (box : List Side) (values : Variable → ℤ) (x : Variable) (i : Interval) (z : ℤ) → AreSmall box values → z ≤ℤ pos (2 ^ 33) → AreSmall (inside box x i) (with_value values x z)
small_more box values x i z all one y c = by (x == y) refl c
  where
    by : (b : Bool) → (x == y) ≡ b → cond b true (is_counter box y) ≡ true → with_value values x z y ≤ℤ pos (2 ^ 33)
    by true e d = subst (λ n. n ≤ℤ pos (2 ^ 33)) (sym (with_value-same values x z y (sym (eqb-true x y e)))) one
    by false e d = subst (λ n. n ≤ℤ pos (2 ^ 33)) (sym (with_value-other values x z y (λ q. eqb-false x y e (sym q)))) (all y d)

-- a state at a turn of the loops of a box, whose variables hold small numbers
record AtSmallTurn (box : List Side) (s : State) : Type 0 where
  values : Variable → ℤ
  turn : AtTurn box values s
  small : AreSmall box values

small_turn : (hs : List Loop) (before after : List Side) (values : Variable → ℤ) (s : State) (us : List Vector) (u : Vector) → AreRound before hs after → AtTurn before values s → AreSmall before values
    → iterations hs s ≡ Some us → Contains us u → AtSmallTurn after (at_vector hs u s)
small_turn [] before after values s us u round turn small e among =
    subst (λ (b : List Side). AtSmallTurn b s) round (record { values = values; turn = turn; small = small })
small_turn (h ∷ hs) before after values s us u (l, i, is, stays, numbers, rest) turn small e among =
    let these = values_are_these before values s turn h l i is stays numbers in
    let own = run before values s turn h l i is stays numbers in
    let vs = values_of own.0 in
    let b = member (λ x. iterations hs (at_value s h.variable x)) vs us u (sym (iterations_by h hs s vs these) ∙ e) among in
    let at = found_at own.0 b.place b.value b.at in
    let reached = run_value l values own.0 b.place b.value own.1 at.turn at.is in
    let one : pos b.value ≤ℤ pos (2 ^ 33) =
    near l.stride.direction l.bound l.stride.by b.place b.value (value l.start values) l.limit.constant (term_sum l.limit.terms values)
    own.1.stays.start.below own.1.stays.limit.below (run_within l values own.0 b.place own.1 at.turn) reached.is in
    subst (λ (z : Vector). AtSmallTurn after (at_vector (h ∷ hs) z s)) (sym b.is)
    (small_turn hs (inside before h.variable i) after (with_value values h.variable (pos b.value)) (at_value s h.variable b.value) b.vectors b.rest rest
    (turn_at before values s turn h l i is stays numbers b.place b.value b.at) (small_more before values h.variable i (pos b.value) small one) b.are b.among)

-- ---- the variables of the box

counted_still : (hs : List Loop) (before after : List Side) → AreRound before hs after → (x : Variable) → is_counter before x ≡ true → is_counter after x ≡ true
counted_still [] before after round x c = subst (λ (b : List Side). is_counter b x ≡ true) round c
counted_still (h ∷ hs) before after (l, i, is, stays, numbers, rest) x c = counted_still hs (inside before h.variable i) after rest x (counted_more before h.variable i x c)

counted_round : (hs : List Loop) (before after : List Side) → AreRound before hs after → (x : Variable) → Contains (map (λ h. h.variable) hs) x → is_counter after x ≡ true
counted_round [] before after round x among = absurd (contains_none x among)
counted_round (h ∷ hs) before after (l, i, is, stays, numbers, rest) x among =
    contains_cases h.variable x (map (λ g. g.variable) hs)
    (λ e. counted_still hs (inside before h.variable i) after rest x (ap (λ (b : Bool). cond b true (is_counter before x)) (eq-eqb h.variable x e)))
    (λ c. counted_round hs (inside before h.variable i) after rest x c) among

-- ---- a nest

small_number : (slot : Slot) (z : ℤ) (n : ℕ) → HoldsValue slot z → slot ≡ Holds n → z ≤ℤ pos (2 ^ 33) → n ≤ 2 ^ 33
small_number slot z n h e le =
    let same : Holds h.number ≡ Holds n = sym h.held ∙ e in
    let numbers : h.number ≡ n = cc in
    let is = h.is in
    omega (arith, ints)

nest_runs : (box : List Side) (serial : List Loop) (n : ℕ) (s : Stmt) → AreRound [] serial box → IsRightNest box n s → RunsFewAtTurns serial n s
nest_runs box serial n s round (hs, b, is, (forms, (k, all, few))) loops body outer nest turn =
    let same : hs ≡ loops = ap (λ (p : List Loop × Stmt). p.0) (same_Some (hs, b) (loops, body) (sym is ∙ nest)) in
    let there : AtSmallTurn box outer =
    subst (AtSmallTurn box) (sym turn.is) (small_turn serial [] box (λ x. pos 0) outer turn.turns turn.turn round (at_start outer) (λ x c. absurd (cc c)) turn.are turn.among) in
    record {
      small = λ x m among held.
          let c = counted_round serial [] box round x among in
          small_number (outer.locals x) (there.values x) m (there.turn.counters x c) held (there.small x c);
      runs = λ other values ls around counters heads.
          let r = run_within_most other values loops ls box there.values k heads (subst (λ (gs : List Loop). HasProduct box gs k) same all) there.turn.inside
          (λ x c. counted_round serial [] box round x (around x c))
          (λ x c. same_number (outer.locals x) (there.values x) (values x) (there.turn.counters x (counted_round serial [] box round x (around x c))) (counters x c)) in
          let less = r.few in
          record { turns = r.turns; runs = r.runs; few = omega arith };
    }

-- ---- the walk

first_runs : (box : List Side) (serial : List Loop) (n : ℕ) (items : Items) → AreRound [] serial box → RightNestFirst box n items → FirstHas RunsFewAtTurns serial n items
first_runs box serial n no_items round h = h
first_runs box serial n (mark line rest) round h = h
first_runs box serial n (local x name start rest) round h = h
first_runs box serial n (stmt s rest) round h = nest_runs box serial n s round h

module _ (text : List ℕ) where
  mutual
    statement_runs : (box : List Side) (serial : List Loop) (s : Stmt) → AreRound [] serial box → LoopsAreRead box s → Nests text box s → LoopsHaveBy text (λ line. RunsFewAtTurns) serial s
    statement_runs box serial (Assign x es e) round read h = tt
    statement_runs box serial (Update x es op e) round read h = tt
    statement_runs box serial (If c a) round read h = statement_runs box serial a round read h
    statement_runs box serial (IfElse c a b) round read h = (statement_runs box serial a round read.0 h.0, statement_runs box serial b round read.1 h.1)
    statement_runs box serial (For x name start test step body) round read (l, i, loop, h) =
        let own : Loop = record { variable = x; start = start; test = test; step = step } in
        let r = read.0 in
        statement_runs (inside box x i) (serial ++ (own ∷ [])) body
        (round_join [] box (inside box x i) serial (own ∷ []) round (
          l,
          i,
          record { scope = r.scope; order = r.order; tokens = r.tokens; small = r.small; reads = r.reads; is = loop.form; other = r.other },
          loop.stays,
          loop.numbers,
          refl,
        ))
        (read.1 l i loop) h
    statement_runs box serial (Block items) round read h = items_run box serial items round read h
    statement_runs box serial (Print parts) round read h = tt

    items_run : (box : List Side) (serial : List Loop) (items : Items) → AreRound [] serial box → ItemsAreRead box items → ItemsNest text box items → ItemsHaveBy text (λ line. RunsFewAtTurns) serial items
    items_run box serial no_items round read h = tt
    items_run box serial (mark line rest) round read ((k, c, reads, nest), others, doacross) =
        ((k, c, reads, first_runs box serial (associated c) rest round nest), items_run box serial rest round read others)
    items_run box serial (local x name start rest) round read h = items_run box serial rest round read h
    items_run box serial (stmt s rest) round read h = (statement_runs box serial s round read.0 h.0, items_run box serial rest round read.1 h.1)

pub right_nests_run_few : RightNestsRunFew
right_nests_run_few text k reads nested =
    let read = (kept_lines_are_read text k reads).reads in
    items_run text [] [] k.body refl (items_read [] read.items (decls_small read.declared tt) (λ y c. absurd cc)) nested
