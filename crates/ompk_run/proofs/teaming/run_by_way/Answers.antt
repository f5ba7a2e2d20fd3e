use Rattle.std.proofs.lemmas.Result.{on_ok_weaker}
use Rattle.ompk_run.proofs.teaming.run_by_way.Goals as goal

pub returns-in-Waves-clause-ran : goal.returns-in-Waves-clause-ran
returns-in-Waves-clause-ran g c = on_ok_weaker c.run_wave_loop.result (λ ran layout mark R serial fits. ran layout mark R serial (g.S.Sink.told c.args.sink.now) fits) c.run_wave_loop.ensures.ran
