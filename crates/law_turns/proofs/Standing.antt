-- Turns of loops inside each other: the values of their variables are in the box, and one loop more is entered.
use Rattle.std.specs.Prelude.{ℕ, Bool, true, false, ◌≡◌, ◌<◌, ◌≤◌, ◌==◌, ◌*◌, ℤ, pos, ◌+ℤ◌, ◌*ℤ◌, ◌≤ℤ◌, unsigned_abs, List, [], ◌∷◌, length}
use Rattle.std.proofs.Common.{refl, sym, ap, ◌∙◌, subst, cond, arith}
use Rattle.std.proofs.lemmas.Bool.{eqb-true, eqb-false, eq-eqb}
use Rattle.std.proofs.lemmas.Int.{ints}
use Rattle.semantics.specs.Tree.{Variable}
use Rattle.semantics.specs.Meaning.State.{State, Holds}
use Rattle.semantics.specs.Loops.Nest.{Loop, at_value}
use Rattle.semantics.proofs.NestLaw.{local_same}
use Rattle.affine.specs.declared.interval.Interval.{Interval}
use Rattle.affine.specs.declared.interval.Side.{Side}
use Rattle.affine.specs.Affine.{value, with_value}
use Rattle.affine.specs.Box.{Holds as IsHeld, IsInside, interval_at, side}
use Rattle.affine.proofs.Values.{with_value-same, with_value-other}
use Rattle.affine_expr.specs.Forms.{is_counter}
use Rattle.nest_loop.specs.Sides.{after_steps}
use Rattle.nest_loop.specs.Most.{distance}
use Rattle.nest_loop.specs.Turn.{HoldsValue, HoldCounters, AtTurn}
use Rattle.pairtest_counter.specs.declared.level.EnclosingLoop.{EnclosingLoop}
use Rattle.pairtest_counter.specs.Counters.{step_by}
use Rattle.pairtest_counter.specs.Levels.{IsLevel, AreLevels, IsTurn, values_at}
use Rattle.pairtest_counter.proofs.Chains.{canonical_named}
use Rattle.nest_space.specs.Space.{Turns, moved}
use Rattle.nest_space.specs.Nests.{IsRunOf}
use Rattle.nest_space.specs.Heads.{IsHeadOf}
use Rattle.nest_space.proofs.Walks.{counters_at}
use Rattle.law_turns.specs.Turns.{EachInside, IsWithin, IsTurnInside, IsCounter, AreCounters}
use Rattle.law_turns.proofs.OneLoop.{by_steps, natural, side_there, most_there, run_within, run_value}

-- ---- only the counters of the loops themselves are looked at

abbrev pub Agree : ℕ → (ℕ → ℤ) → (ℕ → ℤ) → Type 0
Agree n a b = (j : ℕ) → j < n → a j ≡ b j

outer_agree : (v : EnclosingLoop) (vs : List EnclosingLoop) (a b : ℕ → ℤ) → Agree (length (v ∷ vs)) a b → Agree (length vs) a b
outer_agree v vs a b same j lt = same j (omega arith)

pub values_same : (levels : List EnclosingLoop) (a b : ℕ → ℤ) → Agree (length levels) a b → values_at levels a ≡ values_at levels b
values_same [] a b same = refl
values_same (v ∷ vs) a b same =
    let by = step_by v.canonical.stride.direction v.canonical.stride.by in
    ap (λ (f : Variable → ℤ). with_value f v.canonical.variable.0 (value v.canonical.start f +ℤ by *ℤ a (length vs))) (values_same vs a b (outer_agree v vs a b same))
    ∙ ap (λ (z : ℤ). with_value (values_at vs b) v.canonical.variable.0 (value v.canonical.start (values_at vs b) +ℤ by *ℤ z)) (same (length vs) (omega arith))

within_same : (v : EnclosingLoop) (vs : List EnclosingLoop) (a b : ℕ → ℤ) → Agree (length (v ∷ vs)) a b → IsWithin a v vs → IsWithin b v vs
within_same v vs a b same within =
    let own : a (length vs) ≡ b (length vs) = same (length vs) (omega arith) in (
      subst (λ (z : ℤ). pos 0 ≤ℤ z) own within.0,
      subst (λ (z : ℤ). (pos v.canonical.stride.by *ℤ z) ≤ℤ distance v.canonical (values_at vs b)) own
          (subst (λ (f : Variable → ℤ). (pos v.canonical.stride.by *ℤ a (length vs)) ≤ℤ distance v.canonical f) (values_same vs a b (outer_agree v vs a b same)) within.1),
    )

pub whole_same : (levels : List EnclosingLoop) (a b : ℕ → ℤ) → Agree (length levels) a b → IsTurn levels a → IsTurn levels b
whole_same [] a b same turn = tt
whole_same (v ∷ vs) a b same turn =
    let own = within_same v vs a b same (turn.0, turn.1) in
    (own.0, own.1, whole_same vs a b (outer_agree v vs a b same) turn.2)

pub turn_same : (n : ℕ) (levels : List EnclosingLoop) (a b : ℕ → ℤ) → Agree (length levels) a b → IsTurnInside n levels a → IsTurnInside n levels b
turn_same n [] a b same turn = tt
turn_same n (v ∷ vs) a b same turn = (λ le. within_same v vs a b same (turn.0 le), turn_same n vs a b (outer_agree v vs a b same) turn.1)

pub few_same : (n : ℕ) (levels : List EnclosingLoop) (a b : ℕ → ℤ) → Agree (length levels) a b → AreCounters n levels a → AreCounters n levels b
few_same n [] a b same few = tt
few_same n (v ∷ vs) a b same few =
    let own : a (length vs) ≡ b (length vs) = same (length vs) (omega arith) in
    (λ le. subst (IsCounter v.most) own (few.0 le), few_same n vs a b (outer_agree v vs a b same) few.1)

-- no loop lies inside all of them
pub none_inside : (P : EnclosingLoop → List EnclosingLoop → Type 0) (n : ℕ) (levels : List EnclosingLoop) → length levels ≤ n → EachInside P n levels
none_inside P n [] le = tt
none_inside P n (v ∷ vs) le = (λ more. absurd (omega arith), none_inside P n vs (omega arith))

-- ---- the values are in the box

-- the value of a loop's variable after so many steps
abbrev pub place_at : EnclosingLoop → List EnclosingLoop → (ℕ → ℤ) → ℤ
place_at v vs steps = value v.canonical.start (values_at vs steps) +ℤ step_by v.canonical.stride.direction v.canonical.stride.by *ℤ steps (length vs)

-- a number of steps that stays within the distance
pub record IsStep (v : EnclosingLoop) (vs : List EnclosingLoop) (steps : ℕ → ℤ) : Type 0 where
  pub number : ℕ
  pub is : steps (length vs) ≡ pos number
  pub within : pos (v.canonical.stride.by * number) ≤ℤ distance v.canonical (values_at vs steps)
  pub place : place_at v vs steps ≡ after_steps v.canonical.stride (value v.canonical.start (values_at vs steps)) number

pub step_of : (v : EnclosingLoop) (vs : List EnclosingLoop) (steps : ℕ → ℤ) → IsWithin steps v vs → IsStep v vs steps
step_of v vs steps turn =
    let n = unsigned_abs (steps (length vs)) in
    let is = natural (steps (length vs)) turn.0 in
    let by = step_by v.canonical.stride.direction v.canonical.stride.by in
    let start = value v.canonical.start (values_at vs steps) in
    record {
      number = n;
      is = is;
      within = subst (λ (z : ℤ). (pos v.canonical.stride.by *ℤ z) ≤ℤ distance v.canonical (values_at vs steps)) is turn.1;
      place = ap (λ (z : ℤ). start +ℤ by *ℤ z) is ∙ by_steps v.canonical.stride.direction v.canonical.stride.by n start;
    }

-- a box and one side more
side_inside : (box : List Side) (values : Variable → ℤ) (x : Variable) (i : Interval) (z : ℤ) → IsInside box values → IsHeld i z → IsInside (side x i.least i.greatest ∷ box) (with_value values x z)
side_inside box values x i z inside held y = at (x == y) refl
  where
    at : (b : Bool) → (x == y) ≡ b → IsHeld (cond (x == y) (record { least = i.least; greatest = i.greatest }) (interval_at box y)) (with_value values x z y)
    at true e =
        subst (λ b. IsHeld (cond b (record { least = i.least; greatest = i.greatest }) (interval_at box y)) (with_value values x z y)) (sym e)
        (subst (IsHeld i) (sym (with_value-same values x z y (sym (eqb-true x y e)))) held)
    at false e =
        subst (λ b. IsHeld (cond b (record { least = i.least; greatest = i.greatest }) (interval_at box y)) (with_value values x z y)) (sym e)
        (subst (IsHeld (interval_at box y)) (sym (with_value-other values x z y (λ q. eqb-false x y e (sym q)))) (inside y))

pub nothing_inside : IsInside [] (λ x. pos 0)
nothing_inside x = record { above = omega (arith, ints); below = omega (arith, ints) }

-- one loop more, after so many steps
pub level_inside : (box : List Side) (levels : List EnclosingLoop) (steps : ℕ → ℤ) (s : Side) (v : EnclosingLoop) → IsLevel box levels s v → IsInside box (values_at levels steps) → IsWithin steps v levels
    → IsInside (s ∷ box) (values_at (v ∷ levels) steps)
level_inside box levels steps s v level inside within =
    let step = step_of v levels steps within in
    subst (λ (t : Side). IsInside (t ∷ box) (values_at (v ∷ levels) steps)) (sym level.is)
    (side_inside box (values_at levels steps) v.canonical.variable.0 level.numbers (place_at v levels steps) inside
    (subst (IsHeld level.numbers) (sym step.place) (side_there box (values_at levels steps) v.canonical level.numbers step.number level.are inside step.within)))

pub level_few : (box : List Side) (levels : List EnclosingLoop) (steps : ℕ → ℤ) (s : Side) (v : EnclosingLoop) → IsLevel box levels s v → IsInside box (values_at levels steps) → IsWithin steps v levels
    → IsCounter v.most (steps (length levels))
level_few box levels steps s v level inside within =
    let step = step_of v levels steps within in
    (step.number, step.is, most_there box (values_at levels steps) v.canonical v.most step.number level.most inside level.by_one step.within)

-- the values at a turn are in the box
pub turn_inside : (box : List Side) (levels : List EnclosingLoop) (steps : ℕ → ℤ) → AreLevels box levels → IsTurn levels steps → IsInside box (values_at levels steps)
turn_inside [] [] steps are turn = nothing_inside
turn_inside [] (v ∷ vs) steps are turn = absurd are
turn_inside (s ∷ ss) [] steps are turn = absurd are
turn_inside (s ∷ ss) (v ∷ vs) steps are turn = level_inside ss vs steps s v are.0 (turn_inside ss vs steps are.1 turn.2) (turn.0, turn.1)

-- each counter is below the most
pub turn_few : (box : List Side) (levels : List EnclosingLoop) (steps : ℕ → ℤ) → AreLevels box levels → IsTurn levels steps → AreCounters 0 levels steps
turn_few [] [] steps are turn = tt
turn_few [] (v ∷ vs) steps are turn = absurd are
turn_few (s ∷ ss) [] steps are turn = absurd are
turn_few (s ∷ ss) (v ∷ vs) steps are turn =
    (λ le. level_few ss vs steps s v are.0 (turn_inside ss vs steps are.1 turn.2) (turn.0, turn.1), turn_few ss vs steps are.1 turn.2)

-- ---- one loop more

-- the loops inside the outermost n are at a turn, and the variables of all have its values
pub record Standing (n : ℕ) (box : List Side) (levels : List EnclosingLoop) (steps : ℕ → ℤ) (s : State) : Type 0 where
  pub turn : IsTurnInside n levels steps
  pub few : AreCounters n levels steps
  pub at : AtTurn box (values_at levels steps) s

module _ (n : ℕ) (box : List Side) (levels : List EnclosingLoop) (steps : ℕ → ℤ) (s : State) (stands : Standing n box levels steps s)
    (h : Loop) (sd : Side) (v : EnclosingLoop) (is : IsHeadOf box h v.canonical) (level : IsLevel box levels sd v) where
  abbrev outer : Variable → ℤ
  outer = values_at levels steps

  -- so many steps of the loop
  abbrev pub with_steps : ℕ → ℕ → ℤ
  with_steps k = with_value steps (length levels) (pos k)

  pub steps_agree : (k : ℕ) → Agree (length levels) (with_steps k) steps
  steps_agree k j lt = with_value-other steps (length levels) (pos k) j (λ e. omega arith)

  pub steps_own : (k : ℕ) → with_steps k (length levels) ≡ pos k
  steps_own k = with_value-same steps (length levels) (pos k) (length levels) refl

  outer_same : (k : ℕ) → values_at levels (with_steps k) ≡ outer
  outer_same k = values_same levels (with_steps k) steps (steps_agree k)

  named : h.variable ≡ v.canonical.variable.0
  named = canonical_named box h.variable h.start h.test h.step v.canonical is.is

  side_named : sd.variable.0 ≡ h.variable
  side_named = ap (λ (t : Side). t.variable.0) level.is ∙ sym named

  module _ (t : Turns) (run : IsRunOf v.canonical outer t) (k x : ℕ) (lt : k < t.count) (value_is : x ≡ moved t.stride.direction t.first (t.stride.by * k)) where
    abbrev inner : List EnclosingLoop
    inner = v ∷ levels

    own_within : IsWithin (with_steps k) v levels
    own_within = (
      subst (λ (z : ℤ). pos 0 ≤ℤ z) (sym (steps_own k)) (omega (arith, ints)),
      subst (λ (z : ℤ). (pos v.canonical.stride.by *ℤ z) ≤ℤ distance v.canonical (values_at levels (with_steps k))) (sym (steps_own k))
          (subst (λ (f : Variable → ℤ). (pos v.canonical.stride.by *ℤ pos k) ≤ℤ distance v.canonical f) (sym (outer_same k)) (run_within v.canonical outer t k run lt)),
    )

    outer_inside : IsInside box (values_at levels (with_steps k))
    outer_inside = subst (IsInside box) (sym (outer_same k)) stands.at.inside

    back : Agree (length levels) steps (with_steps k)
    back j less = sym (steps_agree k j less)

    place_is : place_at v levels (with_steps k) ≡ pos x
    place_is =
        let by = step_by v.canonical.stride.direction v.canonical.stride.by in
        ap (λ (f : Variable → ℤ). value v.canonical.start f +ℤ by *ℤ with_steps k (length levels)) (outer_same k)
        ∙ ap (λ (z : ℤ). value v.canonical.start outer +ℤ by *ℤ z) (steps_own k)
        ∙ by_steps v.canonical.stride.direction v.canonical.stride.by k (value v.canonical.start outer)
        ∙ sym (run_value v.canonical outer t k x run lt value_is).is

    -- the value of the loop's own variable
    pub own_value : values_at inner (with_steps k) h.variable ≡ pos x
    own_value = with_value-same (values_at levels (with_steps k)) v.canonical.variable.0 (place_at v levels (with_steps k)) h.variable named ∙ place_is

    inner_counters : HoldCounters (sd ∷ box) (values_at inner (with_steps k)) (at_value s h.variable x)
    inner_counters y c = by (sd.variable.0 == y) refl
      where
        by : (b : Bool) → (sd.variable.0 == y) ≡ b → HoldsValue ((at_value s h.variable x).locals y) (values_at inner (with_steps k) y)
        by true e =
            let same : h.variable ≡ y = sym side_named ∙ eqb-true sd.variable.0 y e in
            subst (λ z. HoldsValue ((at_value s h.variable x).locals z) (values_at inner (with_steps k) z)) same
            (record { number = x; held = local_same s h.variable (Holds x); is = own_value; below = (run_value v.canonical outer t k x run lt value_is).below })
        by false e =
            let counts : is_counter box y ≡ true = subst (λ b. cond b true (is_counter box y) ≡ true) e c in
            let other : y ≡ v.canonical.variable.0 → ⊥ = λ q. eqb-false sd.variable.0 y e (side_named ∙ named ∙ sym q) in
            subst (HoldsValue ((at_value s h.variable x).locals y))
            (ap (λ (f : Variable → ℤ). f y) (sym (outer_same k)) ∙ sym (with_value-other (values_at levels (with_steps k)) v.canonical.variable.0 (place_at v levels (with_steps k)) y other))
            (counters_at box outer s stands.at.counters h v.canonical is t run x y counts)

    -- a turn of one loop more
    pub inner_stands : Standing n (sd ∷ box) inner (with_steps k) (at_value s h.variable x)
    inner_stands =
        record {
          turn = (λ le. own_within, turn_same n levels steps (with_steps k) back stands.turn);
          few = (λ le. level_few box levels (with_steps k) sd v level outer_inside own_within, few_same n levels steps (with_steps k) back stands.few);
          at = record { inside = level_inside box levels (with_steps k) sd v level outer_inside own_within; counters = inner_counters };
        }

    -- the loop's variable is one of the counters now
    pub own_counts : is_counter (sd ∷ box) h.variable ≡ true
    own_counts = ap (λ b. cond b true (is_counter box h.variable)) (eq-eqb sd.variable.0 h.variable side_named)
