use Rattle.std.proofs.lemmas.Result.{IfOk-weaker}
use Rattle.overlay.specs.declared.beginning.Start.TheVariants.{Scan}
use Rattle.overlay.specs.declared.positions.Order.TheVariants.{Sequential}
use Rattle.overlay.specs.Chunks.{IsChunkFrom, IsLastFrom}
use Rattle.inscan.specs.Passes.{IsSecondPass, LastsOfSecondPass}
use Rattle.inscan.proofs.Passed.{second_told, lasts_told}
use Rattle.inscan.proofs.passes.second_pass.Goals as goal

pub returns-clause-leaves : goal.returns-clause-leaves
returns-clause-leaves c =
    let l = c.args.second.now in
    let registers = c.args.registers.now in
    let ks = c.args.worker.now in
    IfOk-weaker c.run_chunk.result (IsChunkFrom (Scan c.args.start) Sequential l registers ks c.args.work) (IsSecondPass c.args.start l registers ks c.args.work) (λ p leaves. second_told l registers ks c.args.work p c.args.start leaves) c.run_chunk.ensures.leaves

pub returns-clause-last : goal.returns-clause-last
returns-clause-last c =
    let l = c.args.second.now in
    let registers = c.args.registers.now in
    let ks = c.args.worker.now in
    IfOk-weaker c.run_chunk.result (IsLastFrom (Scan c.args.start) Sequential l registers ks c.args.work) (LastsOfSecondPass c.args.start l registers ks c.args.work) (λ p leaves. lasts_told l registers ks c.args.work p c.args.start leaves) c.run_chunk.ensures.last
