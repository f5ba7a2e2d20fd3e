use Rattle.std.specs.Prelude.{ℕ, ◌≡◌, ◌+◌, ◌-◌, ◌%◌, ◌/◌, ◌<◌, ◌∷◌, drop, set, length, slice_get}
use Rattle.std.proofs.Common.{sym, ap, ◌∙◌, subst, arith}
use Rattle.std.proofs.lemmas.List.{drop_all, drop_more, drop-set}
use Rattle.std.proofs.lemmas.Nat.{mod_below}
use Rattle.nest_space.specs.Numbers.{EachTurns}
use Rattle.nest_space.specs.Space.{values_of}
use Rattle.nest_space.proofs.Places.{each_turns}
use Rattle.nest_space.proofs.Onward.{IsPlaced, turns_from, placed_none, placed_more, placed_all}
use Rattle.nest_space.proofs.iterations.place.Goals.{After-index-loops-i}
use Rattle.nest_space.proofs.iterations.place.Goals as goal

-- the loop at hand, and those inside it
module _ (c : After-index-loops-i) where
  abbrev i : ℕ
  i = c.loop-i.i - 1

  one : c.loop-i.i ≡ i + 1
  one = let some = c.loop-i-test.true in omega (arith, some)

  within : i < length c.args.loops.now
  within = let some = c.loop-i-test.true in let most = c.loop-i.auto.i in omega (arith, some, most)

  is : drop i c.args.loops.now ≡ c.index-loops-i.result ∷ drop (i + 1) c.args.loops.now
  is = drop_more c.args.loops.now i c.index-loops-i.result within ∙ ap (λ t. t ∷ drop (i + 1) c.args.loops.now) (sym c.index-loops-i.is)

  turns : EachTurns (drop i c.args.loops.now)
  turns = turns_from c.args.loops.now i (each_turns c.args.loops.now (let below = c.requires.number in omega (arith, below)))

  some : 0 < c.index-loops-i.result.count
  some = (subst EachTurns is turns).0

  inner : IsPlaced (drop (i + 1) c.args.loops.now) (drop (i + 1) c.loop-i.values) c.args.number c.loop-i.outer
  inner = subst (λ n. IsPlaced (drop n c.args.loops.now) (drop n c.loop-i.values) c.args.number c.loop-i.outer) one c.loop-i.invariant

  as_many : i < length c.loop-i.values
  as_many = let same = c.loop-i.auto.values ∙ c.requires.values in let lt = within in omega (arith, same, lt)

pub parted_by-times-requires : goal.parted_by-times-requires
parted_by-times-requires c = subst (λ n. 0 < n) (sym c.count.ensures) (some (goal.at.parted_by-times-requires c).After-index-loops-i)

pub value-requires : goal.value-requires
value-requires c =
    let left : c.loop-i.outer % c.index-loops-i.result.count ≡ c.parted_by-times.result.left = sym (c.parted_by-times.ensures.left ∙ ap (λ n. c.loop-i.outer % n) c.count.ensures) in
    subst (λ n. n < c.index-loops-i.result.count) left (mod_below c.loop-i.outer c.index-loops-i.result.count (some (goal.at.value-requires c).After-index-loops-i))

pub loop-i-preserved : goal.loop-i-preserved
loop-i-preserved c =
    let here = (goal.at.loop-i-preserved c).After-index-loops-i in
    let t = c.index-loops-i.result in
    let left = c.parted_by-times.ensures.left ∙ ap (λ n. c.loop-i.outer % n) c.count.ensures in
    let times = c.parted_by-times.ensures.times ∙ ap (λ n. c.loop-i.outer / n) c.count.ensures in
    subst (IsPlaced (drop (i here) c.args.loops.now) (drop (i here) (set c.loop-i.values (i here) c.value.result)) c.args.number) (sym times)
    (placed_more (drop (i here + 1) c.args.loops.now) (drop (i here) c.args.loops.now) (drop (i here + 1) c.loop-i.values) (drop (i here) (set c.loop-i.values (i here) c.value.result))
    t c.value.result c.args.number c.loop-i.outer (is here) (drop-set c.loop-i.values (i here) c.value.result (as_many here)) (turns here) (inner here)
    (ap (slice_get (values_of t)) (sym left) ∙ c.value.ensures))

pub returns : goal.returns
returns c = placed_all c.args.loops.now c.loop-i.values c.args.number c.loop-i.outer c.loop-i.i c.requires.number (omega arith) c.loop-i.invariant

pub loop-i-init : goal.loop-i-init
loop-i-init c =
    placed_none (drop (length c.args.loops.now) c.args.loops.now) (drop (length c.args.loops.now) c.args.values.now) c.args.number
    (drop_all (length c.args.loops.now) c.args.loops.now (omega arith)) (drop_all (length c.args.loops.now) c.args.values.now (let same = c.requires.values in omega (arith, same)))
