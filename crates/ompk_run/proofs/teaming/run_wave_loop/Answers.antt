use Rattle.std.proofs.Common.{subst}
use Rattle.schedule.specs.Sched.{kind_said}
use Rattle.store.specs.Flat.{values_of}
use Rattle.lower_machine.specs.Machine.{Fits, machine}
use Rattle.team.specs.Waved.{LeavesInWaves}
use Rattle.ompk_run.proofs.Waving.{waved_so, waves_arrive}
use Rattle.ompk_run.proofs.teaming.run_wave_loop.Goals as goal

pub returns-clause-ran : goal.returns-clause-ran
returns-clause-ran g c layout mark R serial text fits s stand some =
    let l = c.args.construct.now in
    let sinks = c.args.sinks.now in
    let ks = c.args.store.now in
    let ks' = c.share_waves.new.store in
    let rs = c.args.registers.now.items in
    let kind = kind_said l.lowered.schedule c.args.team.now.sched in
    let workers = c.args.team.now.workers in
    let leaves = subst (λ r. LeavesInWaves l.lowered sinks.distances r ks ks' kind workers) c.as_slice-2.ensures.value c.in_ok-share_waves.ensures.waved in
    let words : Fits (machine rs (values_of ks)) = rw c.as_slice.ensures.value at c.confirm_words.ensures.words in
    let words' : Fits (machine rs (values_of ks')) = rw c.as_slice-3.ensures.value at c.confirm_words-2.ensures.words in
    waves_arrive layout mark s rs ks stand R serial l fits sinks.distances (waved_so layout mark R serial l fits sinks c.requires.waves) kind workers c.confirm_cut.ensures.sized c.confirm_cut.ensures.some ks' leaves c.share_waves.ensures.shape words words' c.confirm_words-2.ensures.room text some
