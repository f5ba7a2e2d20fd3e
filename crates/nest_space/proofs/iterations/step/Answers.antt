use Rattle.std.specs.Prelude.{ℕ, ◌≡◌, ◌+◌, ◌-◌, ◌<◌, ◌∷◌, drop, length}
use Rattle.std.proofs.Common.{sym, ap, ◌∙◌, subst, arith}
use Rattle.std.proofs.lemmas.List.{drop_more}
use Rattle.nest_space.proofs.Onward.{AreThrough, first_through, more_through, stepped, none_behind}
use Rattle.nest_space.proofs.iterations.step.Goals.{After-index-loops-i}
use Rattle.nest_space.proofs.iterations.step.Goals as goal

-- the loop at hand, and what is known of those inside it
module _ (c : After-index-loops-i) where
  abbrev i : ℕ
  i = c.loop-i.i - 1

  one : c.loop-i.i ≡ i + 1
  one = let some = c.loop-i-test.true in omega (arith, some)

  within : i < length c.args.loops.now
  within = let some = c.loop-i-test.true in let most = c.loop-i.auto.i in omega (arith, some, most)

  through : AreThrough c.args.loops.now c.args.values.now c.loop-i.values (i + 1)
  through = subst (AreThrough c.args.loops.now c.args.values.now c.loop-i.values) one c.loop-i.invariant

  is : drop i c.args.loops.now ≡ c.index-loops-i.result ∷ drop (i + 1) c.args.loops.now
  is = drop_more c.args.loops.now i c.index-loops-i.result within ∙ ap (λ t. t ∷ drop (i + 1) c.args.loops.now) (sym c.index-loops-i.is)

  as_many : length c.loop-i.values ≡ length c.args.loops.now
  as_many = c.loop-i.auto.values ∙ c.requires.values

pub returns-in-Some : goal.returns-in-Some
returns-in-Some c = λ n lt at.
    let here = (goal.at.returns-in-Some c).After-index-loops-i in
    stepped c.args.loops.now c.args.values.now c.loop-i.values (i here) c.in-Some.next c.index-loops-i.result (within here) c.requires.values (as_many here) (is here) (through here)
    c.in-Some.ensures n at

pub loop-i-preserved : goal.loop-i-preserved
loop-i-preserved c =
    let here = (goal.at.loop-i-preserved c).After-index-loops-i in
    more_through c.args.loops.now c.args.values.now c.loop-i.values (i here) c.first.result c.index-loops-i.result (within here) c.requires.values (as_many here) (is here) (through here)
    c.first.ensures c.in_default.ensures

pub returns : goal.returns
returns c = λ n lt at.
    absurd (none_behind c.args.loops.now c.args.values.now c.loop-i.values c.loop-i.i (omega arith) c.loop-i.invariant n lt at)

pub loop-i-init : goal.loop-i-init
loop-i-init c = first_through c.args.loops.now c.args.values.now c.requires.values
