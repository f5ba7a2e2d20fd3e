use Rattle.std.proofs.Common.{◌^◌, ◌++◌, List}
use Rattle.std.proofs.lemmas.Result.{IfOk-weaker, IfErr-weaker}
use Rattle.pairtest.specs.declared.access.PastLimit.{PastLimit}
use Rattle.pairtest.specs.declared.reach.Reach.{Reach}
use Rattle.pairtest.specs.Equations.{Unknown, CoefficientsWithin}
use Rattle.pairtest.specs.DirectionVectors.{counters}
use Rattle.pairtest.specs.Reached.{Summarizes}
use Rattle.pairtest.proofs.Summaries.{if_err_any, counters_joined, counters_first_within, counters_last_within}
use Rattle.pairtest.proofs.reach.Reach.with_all_counters.Goals as goal

pub returns-in_err-reach-clause-err : goal.returns-in_err-reach-clause-err
returns-in_err-reach-clause-err c =
    if_err_any c.from_residual.result (λ all. c.in_err-reach.ensures.err (counters_first_within (2 ^ 62) c.args.earlier.now c.args.later.now c.args.turns.now c.args.last.now all))

pub returns-clause-ok : goal.returns-clause-ok
returns-clause-ok c =
    let e = c.coefficients_from.ensures in
    let f = c.coefficients_from-2.ensures in
    IfOk-weaker c.with_counters-2.result
    (λ (q : Reach). (us : List Unknown) → Summarizes c.in_ok-reach.reach us → Summarizes q (us ++ counters c.coefficients_from.result.now c.coefficients_from-2.result.now c.args.last.now))
    (λ (q : Reach). (us : List Unknown) → Summarizes c.args.self us → Summarizes q (us ++ counters c.args.earlier.now c.args.later.now (c.args.turns.now ++ c.args.last.now)))
    (λ q more us h. counters_joined c.in_ok-reach.reach q us c.args.earlier.now c.args.later.now _ _ c.args.turns.now c.args.last.now e f (c.in_ok-reach.ensures.ok us h) more)
    c.with_counters-2.ensures.ok

pub returns-clause-err : goal.returns-clause-err
returns-clause-err c =
    let e = c.coefficients_from.ensures in
    let f = c.coefficients_from-2.ensures in
    IfErr-weaker c.with_counters-2.result
    (λ (_ : PastLimit). ¬ (CoefficientsWithin (2 ^ 62) (counters c.coefficients_from.result.now c.coefficients_from-2.result.now c.args.last.now)))
    (λ (_ : PastLimit). ¬ (CoefficientsWithin (2 ^ 62) (counters c.args.earlier.now c.args.later.now (c.args.turns.now ++ c.args.last.now))))
    (λ _ passed all. passed (counters_last_within (2 ^ 62) c.args.earlier.now c.args.later.now _ _ c.args.turns.now c.args.last.now e f all))
    c.with_counters-2.ensures.err
