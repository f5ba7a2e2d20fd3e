use Rattle.std.specs.Prelude.{ℕ, ◌≡◌, ◌+◌, ◌*◌, ◌<◌, ◌^◌, ◌∷◌, ◌-ℤ◌, ℤ, pos, drop, get_or, slice_get}
use Rattle.std.proofs.Common.{refl, rules, sym, ap, ◌∙◌, subst, arith, Some, w64, FitsSigned, to_z, of_z}
use Rattle.std.proofs.lemmas.List.{drop_more}
use Rattle.std.proofs.lemmas.Int.{to_z-of_z}
use Rattle.semantics.specs.Loops.Order.{as_number}
use Rattle.nest_space.specs.Space.{values_of, vectors}
use Rattle.nest_space.specs.Sinks.{HasNoSink}
use Rattle.nest_space.proofs.Before.{IsReached, reached_first, not_reached, not_turned, reached_more, reached_all, small_number}
use Rattle.nest_space.proofs.sinks.number_at.Goals.{After-index-loops-i}
use Rattle.nest_space.proofs.sinks.number_at.Goals as goal

-- the loop at hand, and the numbers of both vectors for it
module _ (c : After-index-loops-i) (fits : FitsSigned w64 (get_or c.args.distance.now c.loop-i.i (pos 0))) where
  abbrev i : ℕ
  i = c.loop-i.i

  abbrev v : ℕ
  v = get_or c.args.values.now i 0

  abbrev d : ℤ
  d = get_or c.args.distance.now i (pos 0)

  far : to_z w64 (of_z w64 d) ≡ d
  far = to_z-of_z w64 d fits

  loops_are : drop i c.args.loops.now ≡ c.index-loops-i.result ∷ drop (i + 1) c.args.loops.now
  loops_are = drop_more c.args.loops.now i c.index-loops-i.result c.loop-i-test.true ∙ ap (λ t. t ∷ drop (i + 1) c.args.loops.now) (sym c.index-loops-i.is)

  values_are : drop i c.args.values.now ≡ v ∷ drop (i + 1) c.args.values.now
  values_are = drop_more c.args.values.now i 0 (let lt = c.loop-i-test.true in let same = c.requires.values in omega (arith, lt, same))

  distance_is : drop i c.args.distance.now ≡ d ∷ drop (i + 1) c.args.distance.now
  distance_is = drop_more c.args.distance.now i (pos 0) (let lt = c.loop-i-test.true in let same = c.requires.distance in omega (arith, lt, same))

  unreached : ((w : ℕ) → as_number (pos v -ℤ to_z w64 (of_z w64 d)) ≡ Some w → w < 2 ^ 64 → ⊥) → HasNoSink (vectors c.args.loops.now) c.args.values.now c.args.distance.now
  unreached none =
      not_reached c.args.loops.now (drop (i + 1) c.args.loops.now) c.args.values.now (drop (i + 1) c.args.values.now) c.args.distance.now (drop (i + 1) c.args.distance.now) i c.loop-i.number
      c.index-loops-i.result v d loops_are values_are distance_is c.loop-i.invariant
      (λ w e lt. none w (ap (λ z. as_number (pos v -ℤ z)) far ∙ e) lt)

  module _ (x : ℕ) (there : as_number (pos v -ℤ to_z w64 (of_z w64 d)) ≡ Some x) where
    moved : as_number (pos v -ℤ d) ≡ Some x
    moved = ap (λ z. as_number (pos v -ℤ z)) (sym far) ∙ there

    unturned : ((k : ℕ) → slice_get (values_of c.index-loops-i.result) k ≡ Some x → ⊥) → HasNoSink (vectors c.args.loops.now) c.args.values.now c.args.distance.now
    unturned none =
        not_turned c.args.loops.now (drop (i + 1) c.args.loops.now) c.args.values.now (drop (i + 1) c.args.values.now) c.args.distance.now (drop (i + 1) c.args.distance.now) i c.loop-i.number
        c.index-loops-i.result v d loops_are values_are distance_is c.loop-i.invariant x moved none

    turned : (turn count : ℕ) → count ≡ c.index-loops-i.result.count → slice_get (values_of c.index-loops-i.result) turn ≡ Some x
        → IsReached c.args.loops.now c.args.values.now c.args.distance.now (i + 1) (c.loop-i.number * count + turn)
    turned turn count same at =
        subst (λ n. IsReached c.args.loops.now c.args.values.now c.args.distance.now (i + 1) (c.loop-i.number * n + turn)) (sym same)
        (reached_more c.args.loops.now (drop (i + 1) c.args.loops.now) c.args.values.now (drop (i + 1) c.args.values.now) c.args.distance.now (drop (i + 1) c.args.distance.now) i c.loop-i.number
        c.index-loops-i.result v d loops_are values_are distance_is c.loop-i.invariant x turn moved at refl refl refl)

    small : (turn count : ℕ) → count ≡ c.index-loops-i.result.count → slice_get (values_of c.index-loops-i.result) turn ≡ Some x → c.loop-i.number * count + turn < 2 ^ 24
    small turn count same at =
        small_number c.args.loops.now (i + 1) (c.loop-i.number * count + turn) c.args.values.now c.args.distance.now c.requires.turns c.requires.few (turned turn count same at)

pub returns-in_default : goal.returns-in_default
returns-in_default c =
    unreached (goal.at.returns-in_default c).After-index-loops-i (search rules) c.in_default.ensures

pub returns-in_default-turn : goal.returns-in_default-turn
returns-in_default-turn c = unturned (goal.at.returns-in_default-turn c).After-index-loops-i (search rules) c.in-Some.there c.in-Some.ensures c.in_default-turn.ensures

pub overflow_mul-number : goal.overflow_mul-number
overflow_mul-number c =
    let s = small (goal.at.overflow_mul-number c).After-index-loops-i (search rules) c.in-Some.there c.in-Some.ensures c.in-Some-turn.turn c.count.result c.count.ensures c.in-Some-turn.ensures in
    omega (arith, s)

pub overflow_add-number : goal.overflow_add-number
overflow_add-number c =
    let s = small (goal.at.overflow_add-number c).After-index-loops-i (search rules) c.in-Some.there c.in-Some.ensures c.in-Some-turn.turn c.count.result c.count.ensures c.in-Some-turn.ensures in
    omega (arith, s)

pub loop-i-preserved : goal.loop-i-preserved
loop-i-preserved c =
    turned (goal.at.loop-i-preserved c).After-index-loops-i (search rules) c.in-Some.there c.in-Some.ensures c.in-Some-turn.turn c.count.result c.count.ensures c.in-Some-turn.ensures

pub loop-i-init : goal.loop-i-init
loop-i-init c = reached_first c.args.loops.now c.args.values.now c.args.distance.now

pub returns : goal.returns
returns c = reached_all c.args.loops.now c.args.values.now c.args.distance.now c.loop-i.i c.loop-i.number c.requires.values c.requires.distance (omega arith) c.loop-i.invariant
