use Rattle.std.proofs.Common.{◌≡◌, ◌<◌, ◌^◌, length, ℤ, ◌-ℤ◌, to_z, of_z, refl, sym, subst, ◌∙◌, rules, arith}
use mir.Syntax.{w128}
use Rattle.std.proofs.lemmas.Int.{ints}
use Rattle.pairtest.specs.Equations.{IsWithin}
use Rattle.pairtest.specs.DirectionVectors.{coefficient}
use Rattle.pairtest.proofs.Summaries.{if_err_any, counters_step}
use Rattle.pairtest.proofs.CounterLists.{counter_within}
use Rattle.pairtest.proofs.reach.Reach.with_counters.Goals as goal

pub returns-in_err-reach-clause-err : goal.returns-in_err-reach-clause-err
returns-in_err-reach-clause-err c =
    let read : to_z w128 (of_z w128 c.difference.result) ≡ c.difference.result = search (rules, ints) in
    let is : to_z w128 (of_z w128 c.difference.result) ≡ coefficient c.args.earlier.now c.loop-at.at -ℤ coefficient c.args.later.now c.loop-at.at =
    read ∙ c.difference.ensures.value in
    let there : c.loop-at.at < length c.args.turns.now = omega arith in
    if_err_any c.from_residual.result
    (λ all. c.in_err-reach.ensures.err
    (subst (λ (n : ℤ). IsWithin (2 ^ 62) n) (sym is) (counter_within (2 ^ 62) c.args.earlier.now c.args.later.now c.args.turns.now c.loop-at.at there all)))

pub loop-at-preserved : goal.loop-at-preserved
loop-at-preserved c =
    let read : to_z w128 (of_z w128 c.difference.result) ≡ c.difference.result = search (rules, ints) in
    let there : c.loop-at.at < length c.args.turns.now = omega arith in
    λ us h. counters_step c.loop-at.reach c.in_ok-reach.reach us c.args.earlier.now c.args.later.now c.args.turns.now c.loop-at.at _ _ there
    (read ∙ c.difference.ensures.value) refl (c.loop-at.invariant us h) c.in_ok-reach.ensures.ok
