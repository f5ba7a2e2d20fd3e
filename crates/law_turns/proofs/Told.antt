-- An iteration tells the steps of its loops.
use Rattle.std.specs.Prelude.{ℕ, true, ◌≡◌, ◌≤◌, ℤ, pos, List, [], ◌∷◌, length, map}
use Rattle.std.proofs.Common.{sym, ap, ◌∙◌, subst, arith, cond}
use Rattle.std.proofs.lemmas.Bool.{eq-eqb}
use Rattle.semantics.specs.Tree.{Variable}
use Rattle.semantics.specs.Meaning.State.{State}
use Rattle.semantics.specs.Loops.Nest.{Loop, Vector}
use Rattle.affine.specs.Affine.{value}
use Rattle.nest_loop.specs.Sides.{after_steps}
use Rattle.affine.specs.declared.interval.Side.{Side}
use Rattle.nest_space.specs.Heads.{IsHeadOf}
use Rattle.pairtest_counter.specs.declared.level.EnclosingLoop.{EnclosingLoop}
use Rattle.pairtest_counter.specs.Levels.{Nesting, IsLevel, values_at}
use Rattle.law_turns.specs.Turns.{AreEntered, IsWithin, IsTurnInside, IsIteration}
use Rattle.law_turns.proofs.OneLoop.{same_steps}
use Rattle.pairtest_counter.proofs.Chains.{canonical_named}
use Rattle.affine.proofs.Values.{with_value-same}
use Rattle.affine_expr.specs.Forms.{is_counter}
use Rattle.law_turns.proofs.Standing.{Agree, values_same, place_at, step_of}
use Rattle.law_turns.proofs.Iterating.{nested, values_kept}
use Rattle.law_turns.proofs.Entered.{inside_before}
use Rattle.law_turns.proofs.Turned.{agree_with}

-- the value of a loop's variable tells how many steps the loop has made
own_steps : (v : EnclosingLoop) (vs : List EnclosingLoop) (a b : ℕ → ℤ) → 1 ≤ v.canonical.stride.by → Agree (length vs) a b → IsWithin a v vs → IsWithin b v vs → place_at v vs a ≡ place_at v vs b → a (length vs) ≡ b (length vs)
own_steps v vs a b one same p q e =
    let l = v.canonical in
    let first = step_of v vs a p in
    let second = step_of v vs b q in
    let reached : after_steps l.stride (value l.start (values_at vs a)) first.number ≡ after_steps l.stride (value l.start (values_at vs a)) second.number =
    sym first.place ∙ e ∙ second.place ∙ ap (λ (f : Variable → ℤ). after_steps l.stride (value l.start f) second.number) (sym (values_same vs a b same)) in
    let number = same_steps l.stride.direction l.stride.by first.number second.number (value l.start (values_at vs a)) one reached in
    first.is ∙ ap pos number ∙ sym second.is

-- the value of a variable inside all the loops is that of its place
own_place : (v : EnclosingLoop) (n after : Nesting) (h : Loop) (hs : List Loop) (s : Side) (is : IsHeadOf n.box h v.canonical) → IsLevel n.box n.levels s v → AreEntered (nested n s v) hs after → (steps : ℕ → ℤ)
    → values_at after.levels steps h.variable ≡ place_at v n.levels steps
own_place v n after h hs s is level rest steps =
    let named = canonical_named n.box h.variable h.start h.test h.step v.canonical is.is in
    let side_named : s.variable.0 ≡ h.variable = ap (λ (t : Side). t.variable.0) level.is ∙ sym named in
    values_kept hs (nested n s v) after steps h.variable rest (ap (λ b. cond b true (is_counter n.box h.variable)) (eq-eqb s.variable.0 h.variable side_named))
    ∙ with_value-same (values_at n.levels steps) v.canonical.variable.0 (place_at v n.levels steps) h.variable named

first_same : (x y : ℤ) (xs ys : List ℤ) → x ∷ xs ≡ y ∷ ys → x ≡ y
first_same x y xs ys e = cc

rest_same : (x y : ℤ) (xs ys : List ℤ) → x ∷ xs ≡ y ∷ ys → xs ≡ ys
rest_same x y xs ys e = cc

pub told_steps : (n : ℕ) (hs : List Loop) (before after : Nesting) (a b : ℕ → ℤ) → n ≤ length before.levels → AreEntered before hs after → Agree (length before.levels) a b
    → IsTurnInside n after.levels a → IsTurnInside n after.levels b → map (λ h. values_at after.levels a h.variable) hs ≡ map (λ h. values_at after.levels b h.variable) hs → Agree (length after.levels) a b
told_steps n [] before after a b le entered same p q e = subst (λ (m : Nesting). Agree (length m.levels) a b) entered same
told_steps n (h ∷ hs) before after a b le (s, v, is, level, rest) same p q e =
    let xs = map (λ h. values_at after.levels a h.variable) hs in
    let ys = map (λ h. values_at after.levels b h.variable) hs in
    let at = own_place v before after h hs s is level rest in
    let place = sym (at a) ∙ first_same (values_at after.levels a h.variable) (values_at after.levels b h.variable) xs ys e ∙ at b in
    let own = own_steps v before.levels a b level.by_one same ((inside_before (IsWithin a) n hs (nested before s v) after rest p).0 le) ((inside_before (IsWithin b) n hs (nested before s v) after rest q).0 le) place in
    let further : n ≤ length (v ∷ before.levels) = omega arith in
    told_steps n hs (nested before s v) after a b further rest (agree_with (length before.levels) a b same own) p q
    (rest_same (values_at after.levels a h.variable) (values_at after.levels b h.variable) xs ys e)

pub one_turn : (before after : Nesting) (hs : List Loop) (outer : ℕ → ℤ) (s : State) (u : Vector) (steps others : ℕ → ℤ) → AreEntered before hs after
    → IsIteration before after hs outer s u steps → IsIteration before after hs outer s u others → Agree (length after.levels) steps others
one_turn before after hs outer s u steps others entered p q =
    told_steps (length before.levels) hs before after steps others (omega arith) entered (λ j lt. p.outer_same j lt ∙ sym (q.outer_same j lt)) p.turn q.turn (sym p.values ∙ q.values)
