use Rattle.std.specs.Prelude.{ℕ, List, flat_map}
use Rattle.store.specs.Kept.{Kept}
use Rattle.seqrun_io.proofs.Beginnings.{none}
use Rattle.team.specs.declared.leading.Task.{Task}
use Rattle.team.specs.declared.leading.Task.TheVariants.{Loop, Scan}
use Rattle.team.specs.Tasks.{IsBegun}
use Rattle.team.proofs.leading.run.Goals as goal

-- where nothing is put, a beginning stands behind the text from before
nothing_put : (task : Task) (registers : List ℕ) (ks : List Kept) (text : List ℕ) (workers : ℕ) → IsBegun task registers ks text text workers
nothing_put (Loop lowered runtime) registers ks text workers = record { together = λ layout mark roles loops body outer us effects reached runs. none text (flat_map (λ e. e.text) effects) }
nothing_put (Scan first second) registers ks text workers = record { together = λ layout mark roles x op loops front whole outer us firsts seconds runs. none text (flat_map (λ e. e.text) seconds) }

pub returns-in_err-crew-clause-beginning : goal.returns-in_err-crew-clause-beginning
returns-in_err-crew-clause-beginning g c = nothing_put c.args.task.now c.args.registers.now c.args.store.now (g.S.Sink.told c.args.sink.now) c.args.workers
