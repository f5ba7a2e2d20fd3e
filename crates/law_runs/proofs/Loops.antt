-- A canonical loop has a run, where its body has one at each turn.
use Rattle.std.specs.Prelude.{ℕ, suc, Bool, true, false, ◌≡◌, ◌==◌, ◌≤◌, ◌<◌, ◌^◌, ◌≤ℤ◌, ℤ, pos, unsigned_abs, List, [], ◌∷◌, Some}
use Rattle.std.proofs.Common.{refl, sym, inr, ap, ◌∙◌, subst, cond, arith}
use Rattle.std.proofs.lemmas.Bool.{eqb-true, ne_eqb}
use Rattle.std.proofs.lemmas.Int.{ints}
use Rattle.std.proofs.lemmas.Option.{same_Some}
use Rattle.semantics.specs.Tree.{Name, Variable, Expr, Cond, Source, Increment, Stmt, For, Declaration}
use Rattle.semantics.specs.Source.Token.{Token}
use Rattle.semantics.specs.Source.Scope.{Scope, AVariable}
use Rattle.semantics.specs.Source.Statements.{ReadsIncrement}
use Rattle.semantics.specs.Meaning.State.{State, Holds, Declared, Assigned, with_local, assign_at, written, look_in, is_object_in}
use Rattle.semantics.specs.Meaning.Value.{value, holds, both, compare}
use Rattle.semantics.specs.Meaning.Runs.{then_from, declares, declared, incremented, turns, greatest_trip_count, run}
use Rattle.semantics.specs.Meaning.Definite.{DefinitelyAssigned, known_with}
use Rattle.semantics.proofs.NestLaw.{local_same}
use Rattle.affine.specs.declared.interval.Interval.{Interval}
use Rattle.affine.specs.declared.interval.Side.{Side}
use Rattle.affine.specs.Affine.{value as form_value, with_value}
use Rattle.affine_expr.specs.Forms.{is_counter, form_of}
use Rattle.nest_loop.specs.declared.stride.Direction.{Direction}
use Rattle.nest_loop.specs.declared.stride.Direction.TheVariants.{Rising, Falling}
use Rattle.nest_loop.specs.declared.head.Canonical.{Canonical}
use Rattle.nest_loop.specs.Sides.{Room, Stays, IsModest}
use Rattle.nest_loop.specs.Loops.{inside, IsLoop}
use Rattle.law_runs.proofs.Going.{stands, Ran, ran_weaker, ran_same, ran_then, ran_write, known_less, known_with_less, local_later, local_known, assigned_later}
use Rattle.nest_loop.specs.Constants.{Each, IsSmall}
use Rattle.nest_loop.proofs.Visible.{each_weaker}
use Rattle.law_runs.proofs.Values.{IsGood}
use Rattle.nest_loop.specs.Turn.{AtTurn}
use Rattle.nest_loop.proofs.FormValues.{form_number}
use Rattle.nest_loop.proofs.Ways.{stepped, left_over, IsOn, GoesOn, IsFit, starts, goes_on}
use Rattle.law_runs.proofs.SideValues.{side_holds}
use Rattle.nest_loop.proofs.Heads.{IsHead}
use Rattle.nest_loop.proofs.Increments.{steps_to}
use Rattle.law_runs.proofs.Assigning.{good_later, assigned_ran, still_known}
use Rattle.law_runs.proofs.Points.{CanBeSet, set_later, IsBehind, IsPoint, turn_declared, turn_assigned}
use Rattle.law_runs.proofs.Growing.{visible_behind}
use Rattle.law_runs.proofs.Turning.{turns_ran}
use Rattle.law_runs.proofs.Inside.{turn_inside, turn_outside, own_value}

-- the measure at the start is far below the greatest number of turns
left_small : (d : Direction) (v : ℕ) → v ≤ 2 ^ 32 → left_over d v ≤ 2 ^ 34
left_small Rising v h = omega arith
left_small Falling v h = omega arith

-- a loop at a point of a run; after: what is known behind its body
module _ (ds : List Declaration) (box : List Side) (values : Variable → ℤ) (scope : Scope) (name : Name) (x : Variable) (start : Source) (test : Cond) (step : Increment) (body : Stmt) (l : Canonical) (i : Interval)
    (loop : IsLoop box x start test step body l i) (head : IsHead box x start test step l) (k after : DefinitelyAssigned) (s : State) (point : IsPoint ds box values scope x k s) where
  abbrev here : Scope
  here = (name, AVariable x 0) ∷ scope

  abbrev known : DefinitelyAssigned
  known = known_with k x true

  here_small : Each IsSmall here
  here_small = (tt, point.small)

  -- the bounds as numbers
  abbrev first : ℕ
  first = unsigned_abs (form_value l.start values)

  abbrev limit : ℕ
  limit = unsigned_abs (form_value l.limit values)

  stays : Stays l values
  stays = loop.stays values point.here.turn.inside

  natural : (z : ℤ) → pos 0 ≤ℤ z → z ≡ pos (unsigned_abs z)
  natural z low = omega (arith, ints)

  first_is : form_value l.start values ≡ pos first
  first_is = natural (form_value l.start values) stays.start.above

  limit_is : form_value l.limit values ≡ pos limit
  limit_is = natural (form_value l.limit values) stays.limit.above

  -- an expression whose form is modest
  bound_value : (t : State) (e : Expr) (f : _) → form_of box e ≡ Some f → IsModest (form_value f values) → AtTurn box values t → value t e ≡ Some (unsigned_abs (form_value f values))
  bound_value t e f is modest turn =
      let low = modest.above in
      let high = modest.below in
      let n = form_number box values t turn.counters e f is low (omega (arith, ints)) in
      n.1 ∙ ap (λ (z : ℤ). Some (unsigned_abs z)) (sym n.2)

  small_bound : (z : ℤ) → IsModest z → unsigned_abs z ≤ 2 ^ 32
  small_bound z m = let low = m.above in let high = m.below in omega (arith, ints)

  abbrev next : ℕ → ℕ
  next v = stepped l.stride.direction l.stride.by v

  -- a state in which the variable has this value
  record IsThere (v : ℕ) (t : State) : Type 0 where
    good : IsGood ds t
    usable : Each (CanBeSet ds t) here
    behind : IsBehind ds box values known t
    held : t.locals x ≡ Holds v

  -- before a turn, and behind its body
  abbrev At : ℕ → State → Type 0
  At v t = IsThere v t × IsOn l.stride.direction l.bound l.stride.by first limit v

  abbrev Turned : ℕ → State → Type 0
  Turned v t = IsThere v t × GoesOn l.stride.direction l.bound l.stride.by first limit v

  -- the test compares the variable's value with the limit's
  tested : (v : ℕ) (t : State) → IsThere v t → holds t test ≡ Some (compare head.op v limit)
  tested v t at =
      ap (holds t) head.test_is
      ∙ ap (λ slot. both (compare head.op) (look_in slot t x []) (value t head.to)) at.held
      ∙ ap (λ o. both (compare head.op) (Some v) o) (bound_value t head.to l.limit head.last stays.limit at.behind.turn)

  -- behind the loop
  ends : (v : ℕ) (t : State) → At v t → IsBehind ds box values k t
  ends v t at = record { known = known_less ds known k t (known_with_less k x) at.0.behind.known; turn = at.0.behind.turn }

  module _ {o : ℕ} {ts : List Token} (reads : ReadsIncrement here o ts step) where
    -- the step gives the variable its next value
    steps : (v : ℕ) (t : State) → Turned v t → Ran ds (At (next v)) t (incremented t step)
    steps v t at =
        let there = at.0 in
        let to = steps_to here here_small t x v there.held l.stride reads head.stride in
        let up : stands (t.locals x) ≡ true = ap stands there.held in
        let later = assigned_later ds t x [] (next v) in
        let u = written t (Assigned x [] (next v)) in
        let on : IsThere (next v) u = record {
          good = good_later ds t u later there.good;
          usable = each_weaker (CanBeSet ds t) (CanBeSet ds u) (set_later ds t u later) here there.usable;
          behind = record {
            known = still_known ds t x [] (next v) known (inr up) there.behind.known;
            turn = turn_assigned box values t x [] (next v) (λ y c. let lt = point.below.counters y c in ne_eqb x y (λ e. omega arith)) there.behind.turn;
          };
          held = ap (λ slot. (assign_at slot t x [] (next v)).locals x) there.held ∙ local_same t x (Holds (next v));
        } in
        ran_same to.assigns
        (assigned_ran ds (At (next v)) t x (Some []) to.number [] (next v) refl to.next.is
        (ap (λ slot. is_object_in slot t x []) there.held) (on, at.1.next))

    abbrev first_state : State
    first_state = with_local s x (Holds first)

    -- the step and the bounds are small
    fit : IsFit l.stride.by first limit
    fit =
        let to = steps_to here here_small first_state x first (local_same s x (Holds first)) l.stride reads head.stride in
        record { least = to.next.least; short = to.next.short; first_within = small_bound (form_value l.start values) stays.start; limit_within = small_bound (form_value l.limit values) stays.limit }

    room : Room l.stride.direction l.bound l.stride.by (pos first) (pos limit)
    room = subst (λ z. Room l.stride.direction l.bound l.stride.by z (pos limit)) first_is (subst (λ z. Room l.stride.direction l.bound l.stride.by (form_value l.start values) z) limit_is stays.room)

    module _ (more : (y : Variable) → y < suc x → known y ≡ true → after y ≡ true)
        (body_goes : (w : Variable → ℤ) (t : State) → IsPoint ds (inside box x i) w here (suc x) known t → Ran ds (IsBehind ds (inside box x i) w after) t (run body t)) where
      known_below : (y : Variable) → known y ≡ true → y < suc x
      known_below y h = go (y == x) refl h
        where
          go : (b : Bool) → (y == x) ≡ b → cond b true (k y) ≡ true → y < suc x
          go true e h = let same = eqb-true y x e in omega arith
          go false e h = let lt = point.below.known y h in omega arith

      counters_below : (y : Variable) → is_counter (inside box x i) y ≡ true → y < suc x
      counters_below y h = go (x == y) refl h
        where
          go : (b : Bool) → (x == y) ≡ b → cond b true (is_counter box y) ≡ true → y < suc x
          go true e h = let same = eqb-true x y e in omega arith
          go false e h = let lt = point.below.counters y h in omega arith

      -- where the test holds the value is one of the variable's interval, and the body runs
      goes : (v : ℕ) (t : State) → At v t → holds t test ≡ Some true → (left_over l.stride.direction (next v) < left_over l.stride.direction v) × Ran ds (Turned v) t (run body t)
      goes v t at turned =
          let there = at.0 in
          let holds_so = same_Some (compare head.op v limit) true (sym (tested v t there) ∙ turned) in
          let on = goes_on head.op l.stride.direction l.bound l.stride.by first limit v head.bound fit room at.1 holds_so in
          let within = side_holds box values l i first limit v loop.numbers there.behind.turn.inside first_is limit_is at.1 on.before in
          let small = at.1.small in
          let w = with_value values x (pos v) in
          let turn = turn_inside box values x i t v there.behind.turn there.held (omega arith) within in
          let size = point.room in
          let point' : IsPoint ds (inside box x i) w here (suc x) known t = record {
            small = here_small;
            usable = there.usable;
            room = omega arith;
            good = there.good;
            below = record { visible = visible_behind scope name x point.below.visible; known = known_below; counters = counters_below };
            here = record { known = there.behind.known; turn = turn };
          } in (
            on.less,
            ran_weaker (λ u later behind. (
              record {
                good = good_later ds t u later there.good;
                usable = each_weaker (CanBeSet ds t) (CanBeSet ds u) (set_later ds t u later) here there.usable;
                behind = record {
                  known = λ y le h. behind.known y le (more y (known_below y h) h);
                  turn = turn_outside box values x i u (pos v) there.behind.turn.inside point.below.counters behind.turn;
                };
                held = own_value box values x i u v behind.turn;
              },
              on,
            )) (body_goes w t point'),
          )

      -- the loop runs, and behind it what was known is known
      pub loop_ran : Ran ds (IsBehind ds box values k) s (run (For x name start test step body) s)
      unfolding greatest_trip_count
      loop_ran =
          let t = first_state in
          let size = point.room in
          let later = local_later ds s x (Holds first) refl (λ lt e. omega arith) in
          let all = turns greatest_trip_count (λ t. holds t test) (run body) (λ t. incremented t step) in
          let begins : declared s x (Some start) ≡ declares x (Some first) =
          ap (λ e. declared s x (Some e)) head.start_is ∙ ap (declares x) (bound_value s head.from l.start head.first stays.start point.here.turn) in
          let there : IsThere first t = record {
            good = good_later ds s t later point.good;
            usable = (inr (ap stands (local_same s x (Holds first))), each_weaker (CanBeSet ds s) (CanBeSet ds t) (set_later ds s t later) scope point.usable);
            behind = record {
              known = local_known ds s x (Holds first) refl k point.here.known;
              turn = turn_declared box values s x (Holds first) point.below.counters point.here.turn;
            };
            held = local_same s x (Holds first);
          } in
          let most = left_small l.stride.direction first fit.first_within in
          ran_same (ap (λ o. then_from s o all) begins)
          (ran_then all
          (ran_write ds (At first) s (Declared x (Some first)) later (there, starts l.stride.direction l.bound l.stride.by first limit fit room))
          (λ u later' at. turns_ran ds (λ t. holds t test) (run body) (λ t. incremented t step) next (left_over l.stride.direction) At Turned (IsBehind ds box values k)
          (λ v t at. (compare head.op v limit, tested v t at.0)) ends goes steps greatest_trip_count first u (omega arith) at))
