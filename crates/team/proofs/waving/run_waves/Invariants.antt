use Rattle.std.proofs.Common.{◌≡◌, List, length, map, drop}
use Rattle.schedule.specs.Sched.{kind_of}
use Rattle.store.specs.Kept.{Kept}
use Rattle.team.specs.Waved.{AreWaved, standing}
use Rattle.team.proofs.waving.run_waves.Given as goal

-- whatever the waves that are left leave from here, all of them leave it
abbrev pub invariant-loop-level : goal.invariant-loop-level
invariant-loop-level g l =
    record {
      end : l.level-end ≡ length l.waves;
      stands : standing l.here.value ≡ l.fn.reached;
      shape : map (λ k. k.lengths) l.store ≡ map (λ k. k.lengths) l.initial.store;
      all : (ks : List Kept) → AreWaved l.lowered (drop l.level l.waves) l.fn.reached.registers.items l.store ks (kind_of l.sched) l.workers
          → AreWaved l.lowered l.waves l.fn.reached.registers.items l.initial.store ks (kind_of l.sched) l.workers;
    }
