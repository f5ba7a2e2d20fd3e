use Rattle.std.proofs.Common.{◌≡◌, true, sym, ap, ◌∙◌, subst, ◌+◌, ◌%◌, ◌^◌}
use Rattle.std.specs.Prelude.{slice_index}
use Rattle.semantics.specs.Meaning.Runs.{greatest_trip_count}
use Rattle.lower_machine.specs.Machine.{Running, after}
use Rattle.lower_unroll.specs.Turns.{sets_others, turns, with_register}
use Rattle.lower_unroll.proofs.Counts.{few_turns, spun}
use Rattle.lower_unroll.proofs.counting.counted_from.Goals as goal

pub returns-clause-goes : goal.returns-clause-goes
returns-clause-goes c =
    let x = c.args.variable.at in
    let by = c.in_ok-by.by in
    let body = c.in-Loop.body.value in
    let step = c.in-Loop.step.value in
    let n = c.in_ok-turns.turns in
    let t = c.in_ok-turns.ensures in
    let leave = subst (λ b. sets_others x b ≡ true) c.deref-2.ensures (c.is_short.ensures c.if-not-is_short.false) in
    let adds = subst (λ k. (r : Running) → after k r ≡ with_register x ((slice_index r.machine.registers x + by) % 2 ^ 64) r) c.deref.ensures c.in_ok-by.ensures in
    λ r lt.
    ap (λ k. after k (with_register x c.args.first r)) c.in-Loop.is
    ∙ spun x by body step leave adds c.in-Loop.test c.in_ok-limit.limit c.in_ok-limit.ensures n greatest_trip_count c.args.first (few_turns n t.few) t.fits t.below t.ends r lt
    ∙ ap (λ b. turns b x c.args.first by n r) (sym c.deref-3.ensures)
