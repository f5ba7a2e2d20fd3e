-- Why a run ends early, and what it is refused by then.
use Rattle.std.specs.Prelude.{ℕ, ◌≡◌, ◌+◌, ◌⊎◌}
use Rattle.ktree.specs.declared.refusal.Refusal.{Refusal}
use Rattle.ktree.specs.declared.refusal.Refusal.TheVariants.{OutOfMemory, OutputFailed}
use Rattle.seqrun.specs.declared.stop.Stop.{Stop}
use Rattle.seqrun.specs.declared.stop.Stop.TheVariants.{Memory, Output}

-- what a run that ended is refused by
abbrev pub refusal_of : Stop → Refusal
refusal_of Memory = OutOfMemory
refusal_of Output = OutputFailed

-- the output failed, once, or memory was refused and the sink did not fail
abbrev pub Stops : ℕ → ℕ → Stop → Type 0
Stops failed failed' stop = ((stop ≡ Output) × (failed' ≡ failed + 1)) ⊎ ((stop ≡ Memory) × (failed' ≡ failed))
