use Rattle.std.proofs.Common.{List, subst}
use Rattle.std.proofs.lemmas.Result.{on_ok_weaker}
use Rattle.schedule.specs.Sched.{kind_of}
use Rattle.store.specs.Kept.{Kept}
use Rattle.store.specs.Flat.{AreFilled, values_of}
use Rattle.team_worker.specs.declared.grounds.Grounds.{Grounds}
use Rattle.team_log.specs.Applied.{AreApplied}
use Rattle.team_worker.specs.Places.{aim_of, count_taken}
use Rattle.team.specs.Waved.{AreOfWave, standing}
use Rattle.team.proofs.InWaves.{wave_split, wave_chunks, wave_together}
use Rattle.team.proofs.waving.run_wave.Goals as goal

pub lent_whole-requires-clause-split : goal.lent_whole-requires-clause-split
lent_whole-requires-clause-split g c =
    let numbers = c.args.numbers.now in
    let kind = kind_of c.args.sched.now in
    let grounds = c.set_wave.new.grounds in
    let of = subst (λ (from : Grounds). AreOfWave (standing from) numbers kind c.args.workers grounds) c.deref_mut.ensures.value c.in_ok-set_wave.ensures.wave in
    wave_split c.args.lowered.now (standing c.args.here.value) numbers kind c.args.workers grounds c.requires.by c.requires.numbers of

pub lent_whole-requires-clause-chunks : goal.lent_whole-requires-clause-chunks
lent_whole-requires-clause-chunks g c =
    let numbers = c.args.numbers.now in
    let kind = kind_of c.args.sched.now in
    let grounds = c.set_wave.new.grounds in
    let of = subst (λ (from : Grounds). AreOfWave (standing from) numbers kind c.args.workers grounds) c.deref_mut.ensures.value c.in_ok-set_wave.ensures.wave in
    wave_chunks (standing c.args.here.value) numbers kind c.args.workers grounds of

pub put_wave-requires : goal.put_wave-requires
put_wave-requires g c =
    let grounds = c.set_wave.new.grounds in
    (aim_of c.args.lowered.now grounds c.args.store.now c.in_ok-returned.returned.way c.args.workers, count_taken grounds, c.in_ok-returned.ensures.left)

pub returns-clause-waved : goal.returns-clause-waved
returns-clause-waved g c =
    let numbers = c.args.numbers.now in
    let kind = kind_of c.args.sched.now in
    let grounds = c.set_wave.new.grounds in
    let of = subst (λ (from : Grounds). AreOfWave (standing from) numbers kind c.args.workers grounds) c.deref_mut.ensures.value c.in_ok-set_wave.ensures.wave in
    let aim = aim_of c.args.lowered.now grounds c.args.store.now c.in_ok-returned.returned.way c.args.workers in
    let now = c.put_wave.new.store in
    let same = c.in_ok-returned.ensures.store in
    let filled = subst AreFilled same c.put_wave.ensures.filled in
    on_ok_weaker c.put_wave.result (λ put.
    let all = put aim (count_taken grounds) c.in_ok-returned.ensures.left in
    let applied = subst (λ (ks : List Kept). AreApplied (values_of ks) (values_of now) all.account.chunks) same all.applied in
    wave_together c.args.lowered.now (standing c.args.here.value) numbers kind c.args.workers grounds all.account c.args.store.now now c.requires.by of filled all.all applied) c.put_wave.ensures.applied
