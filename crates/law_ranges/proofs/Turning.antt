-- At each iteration of loops inside each other their variables have values of the box.
use Rattle.std.specs.Prelude.{ℕ, Bool, true, false, ◌≡◌, ◌==◌, ℤ, pos, List, [], ◌∷◌, Contains, Some, slice_get}
use Rattle.std.proofs.Common.{refl, sym, ap, ◌∙◌, subst, cond, arith}
use Rattle.std.proofs.lemmas.Bool.{eqb-true, eq-eqb}
use Rattle.std.proofs.lemmas.Int.{ints}
use Rattle.semantics.specs.Tree.{Variable}
use Rattle.semantics.specs.Meaning.State.{State, Holds}
use Rattle.semantics.specs.Loops.Nest.{Loop, Vector, at_value, at_vector, iterations, loop_values}
use Rattle.affine.specs.declared.interval.Interval.{Interval}
use Rattle.affine.specs.declared.interval.Side.{Side}
use Rattle.affine.specs.Affine.{with_value}
use Rattle.affine.specs.Box.{Holds as IsHeld}
use Rattle.affine_expr.specs.Forms.{is_counter}
use Rattle.nest_loop.specs.declared.head.Canonical.{Canonical}
use Rattle.nest_loop.specs.Sides.{CannotWrap, IsSide}
use Rattle.nest_loop.specs.Loops.{inside}
use Rattle.nest_loop.specs.Turn.{AtTurn, HoldsValue}
use Rattle.nest_loop.proofs.Laws.{canonical_well}
use Rattle.nest_space.specs.Space.{Turns, values_of}
use Rattle.nest_space.specs.Nests.{IsRunOf}
use Rattle.nest_space.specs.Heads.{IsHeadOf}
use Rattle.nest_space.proofs.Walks.{values_are}
use Rattle.nest_space.proofs.Counted.{found_at}
use Rattle.law_turns.proofs.OneLoop.{run_there, run_within, run_value, side_there}
use Rattle.law_turns.proofs.Joining.{member}
use Rattle.law_turns.proofs.Iterating.{iterations_by}
use Rattle.law_runs.proofs.Inside.{turn_inside}
use Rattle.law_ranges.proofs.Round.{AreRound}

-- outside of all loops
pub at_start : (s : State) → AtTurn [] (λ x. pos 0) s
at_start s = record { inside = λ x. record { above = omega (arith, ints); below = omega (arith, ints) }; counters = λ x c. absurd (cc c) }

-- the variables of other loops keep their values
other_counters : (box : List Side) (values : Variable → ℤ) (s : State) (x v : ℕ) → is_counter box x ≡ false → AtTurn box values s → AtTurn box values (at_value s x v)
other_counters box values s x v other turn = record { inside = turn.inside; counters = λ y c. by y c (y == x) refl }
  where
    clash : (y : ℕ) → is_counter box y ≡ true → y ≡ x → ⊥
    clash y c e = let same : is_counter box y ≡ is_counter box x = ap (is_counter box) e in absurd cc

    by : (y : ℕ) → is_counter box y ≡ true → (b : Bool) → (y == x) ≡ b → HoldsValue ((at_value s x v).locals y) (values y)
    by y c true e = absurd (clash y c (eqb-true y x e))
    by y c false e = subst (λ slot. HoldsValue slot (values y)) (sym (ap (λ (b : Bool). cond b (Holds v) (s.locals y)) e)) (turn.counters y c)

-- a loop inside others, at one of its values
module _ (box : List Side) (values : Variable → ℤ) (s : State) (turn : AtTurn box values s) (h : Loop) (l : Canonical) (i : Interval) (is : IsHeadOf box h l) (stays : CannotWrap box l)
    (numbers : IsSide box l i) where
  pub run : (t : Turns) × IsRunOf l values t
  run = run_there l values (stays values turn.inside) (canonical_well box h.variable h.start h.test h.step l is.is).by_one

  pub values_are_these : loop_values h s ≡ Some (values_of run.0)
  values_are_these = values_are box values s turn.counters h l is run.0 run.1

  pub turn_at : (k v : ℕ) → slice_get (values_of run.0) k ≡ Some v → AtTurn (inside box h.variable i) (with_value values h.variable (pos v)) (at_value s h.variable v)
  turn_at k v found =
      let at = found_at run.0 k v found in
      let reached = run_value l values run.0 k v run.1 at.turn at.is in
      turn_inside box values h.variable i (at_value s h.variable v) v (other_counters box values s h.variable v is.other turn)
      (ap (λ (b : Bool). cond b (Holds v) (s.locals h.variable)) (eq-eqb h.variable h.variable refl)) reached.below
      (subst (IsHeld i) (sym reached.is) (side_there box values l i k numbers turn.inside (run_within l values run.0 k run.1 at.turn)))

-- at each iteration
pub turn_of : (hs : List Loop) (before after : List Side) (values : Variable → ℤ) (s : State) (us : List Vector) (u : Vector) → AreRound before hs after → AtTurn before values s
    → iterations hs s ≡ Some us → Contains us u → (w : Variable → ℤ) × AtTurn after w (at_vector hs u s)
turn_of [] before after values s us u round turn e among = (values, subst (λ (b : List Side). AtTurn b values s) round turn)
turn_of (h ∷ hs) before after values s us u (l, i, is, stays, numbers, rest) turn e among =
    let these = values_are_these before values s turn h l i is stays numbers in
    let vs = values_of (run before values s turn h l i is stays numbers).0 in
    let b = member (λ x. iterations hs (at_value s h.variable x)) vs us u (sym (iterations_by h hs s vs these) ∙ e) among in
    let found = turn_of hs (inside before h.variable i) after (with_value values h.variable (pos b.value)) (at_value s h.variable b.value) b.vectors b.rest rest
    (turn_at before values s turn h l i is stays numbers b.place b.value b.at) b.are b.among in
    (found.0, subst (λ (z : Vector). AtTurn after found.0 (at_vector (h ∷ hs) z s)) (sym b.is) found.1)
