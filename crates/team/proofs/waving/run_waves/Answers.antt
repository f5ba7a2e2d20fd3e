use Rattle.std.proofs.Common.{◌≡◌, ℕ, List, Vec, Global, ap, sym, subst, ◌∙◌}
use Rattle.nest_space.specs.Space.{vectors}
use Rattle.schedule.specs.Sched.{kind_of}
use Rattle.store.specs.Flat.{values_of}
use Rattle.lower_machine.specs.Machine.{Fits, machine}
use Rattle.team_worker.specs.declared.grounds.Grounds.{Grounds}
use Rattle.team.specs.declared.waving.Reached.{Reached}
use Rattle.team.specs.Waved.{WaveTogether, WaveLeaves, IsReachedBy, IsWaveIn, standing}
use Rattle.team.proofs.InWaves.{next_wave}
use Rattle.team.proofs.waving.run_waves.Goals as goal

pub run_wave-requires-clause-by : goal.run_wave-requires-clause-by
run_wave-requires-clause-by g c = subst (λ (r : Reached). IsReachedBy c.args.lowered.now r) (sym c.loop-level.invariant.stands) c.requires.by

pub run_wave-requires-clause-numbers : goal.run_wave-requires-clause-numbers
run_wave-requires-clause-numbers g c =
    subst (λ (r : Reached). IsWaveIn (vectors r.space) c.wave.result.now) (sym c.loop-level.invariant.stands) (c.requires.waves c.loop-level.level c.wave.result.now c.wave.ensures)

pub loop-level-preserved : goal.loop-level-preserved
loop-level-preserved g c =
    let l = c.args.lowered.now in
    let was = c.loop-level.invariant in
    let kind = kind_of c.args.sched.now in
    let before = c.loop-level.store in
    let between = c.run_wave.new.store in
    let numbers = c.wave.result.now in
    let here = c.in_ok-here-2.here in
    let stands : standing here.value ≡ c.args.reached = c.in_ok-here-2.ensures.stands ∙ was.stands in
    let registers : here.value.registers ≡ c.args.reached.registers = ap (λ (r : Reached). r.registers) stands in
    let one : WaveLeaves l numbers c.args.reached.registers.items before between kind c.args.workers = record {
      together = subst (λ (r : Reached). WaveTogether l numbers r.registers.items before between kind c.args.workers) was.stands c.in_ok-here-2.ensures.waved;
      shape = c.run_wave.ensures.shape;
      words = subst (λ (rs : List ℕ). Fits (machine rs (values_of between))) (c.as_slice.ensures.value ∙ (ap (λ (from : Grounds). from.registers.items) c.deref.ensures ∙ ap (λ (rs : Vec ℕ Global). rs.items) registers)) c.confirm_words.ensures.words;
      room = c.confirm_words.ensures.room;
    } in
    record {
      end = was.end;
      stands = stands;
      shape = c.run_wave.ensures.shape ∙ was.shape;
      all = λ ks others. was.all ks (next_wave l c.args.waves.now c.loop-level.level numbers c.args.reached.registers.items before between ks kind c.args.workers c.wave.ensures one others);
    }
