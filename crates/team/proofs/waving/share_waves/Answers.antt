use Rattle.std.proofs.Common.{ℕ, List, OnOk, subst}
use Rattle.std.proofs.lemmas.Result.{on_ok_weaker}
use Rattle.semantics.specs.Loops.Chunk.{Kind}
use Rattle.nest_space.specs.Space.{vectors}
use Rattle.schedule.specs.Sched.{kind_said}
use Rattle.lower.specs.Lowered.{IsSpaceOf}
use Rattle.team.specs.Waved.{AreWaved}
use Rattle.team.proofs.InWaves.{waves_in}
use Rattle.team.proofs.waving.share_waves.Goals as goal

pub run_waves-requires-clause-waves : goal.run_waves-requires-clause-waves
run_waves-requires-clause-waves g c = waves_in (vectors c.in_ok-reached.reached.space) c.args.sinks.now.distances c.in_ok-waves.waves c.in_ok-waves.ensures.ok

pub returns-clause-waved : goal.returns-clause-waved
returns-clause-waved g c =
    let l = c.args.lowered.now in
    let reached = c.in_ok-reached.reached in
    let waves = c.in_ok-waves.waves in
    let now = c.run_waves.new.store in
    let kind = kind_said l.schedule c.args.runtime in
    let by_kind = subst (λ (k : Kind). OnOk c.run_waves.result (AreWaved l waves reached.registers.items c.args.store.now now k c.args.workers)) c.sched_of-sched.ensures c.run_waves.ensures.waved in
    let waved = subst (λ (rs : List ℕ). OnOk c.run_waves.result (AreWaved l waves rs c.args.store.now now kind c.args.workers)) c.in_ok-reached.ensures.registers by_kind in
    on_ok_weaker c.run_waves.result (λ left. record {
      space = reached.space;
      of = subst (λ (rs : List ℕ). IsSpaceOf l rs reached.space) c.in_ok-reached.ensures.registers c.in_ok-reached.ensures.by.of;
      numbers = waves;
      are = c.in_ok-waves.ensures.ok;
      waved = left;
    }) waved
