use Rattle.std.proofs.Common.{◌+◌, ◌≤◌, List, [], ◌∷◌, ◌++◌, length, sym, subst}
use Rattle.semantics.specs.Loops.Nest.{Vector}
use Rattle.nest_space.specs.Space.{vectors}
use Rattle.store.specs.Kept.{Kept}
use Rattle.overlay.specs.declared.worker.Work.{Work}
use Rattle.overlay.specs.Chunks.{IsChunkFrom, IsLastFrom, ChangeOnly}
use Rattle.team_log.specs.declared.piece.ChunkPiece.{ChunkPiece}
use Rattle.team_worker.specs.Ends.{IsAccountOf}
use Rattle.team_log.specs.Logged.{account_of}
use Rattle.team_worker.specs.Starts.{taken_in, start_at}
use Rattle.team_worker.proofs.Accounts.{account_one, account_both}
use Rattle.team_worker.proofs.Cutting.{chunk_within}
use Rattle.team_worker.proofs.Taking.{taken_is, numbers_are}
use Rattle.team_worker.proofs.worker.run_logged.Goals as goal

pub run_chunk-requires-clause-work : goal.run_chunk-requires-clause-work
run_chunk-requires-clause-work g c =
    let job = c.args.job in
    let us = vectors job.space.now in
    let within = chunk_within (length (taken_in job.pass.now us)) c.args.taken.chunk job.chunks.now _ c.requires.ready.cut c.at-chunk.ensures in
    subst (λ (vs : List Vector). c.at-chunk.result.first + c.at-chunk.result.count ≤ length vs) (sym (taken_is job.pass.now c.order-order.result us c.order-order.ensures)) within

pub run_chunk-requires-clause-numbers : goal.run_chunk-requires-clause-numbers
run_chunk-requires-clause-numbers g c = numbers_are c.args.job.pass.now c.order-order.result (vectors c.args.job.space.now) c.order-order.ensures c.requires.ready.from

pub returns-clause-account : goal.returns-clause-account
returns-clause-account g c = λ numbers was.
    let job = c.args.job in
    let piece = c.in_ok-piece.piece in
    let start = start_at job.pass.now c.args.taken.chunk in
    let order = c.order-order.result in
    let run : ChunkPiece = record { number = record { 0 = c.args.taken.chunk }; piece = piece } in
    let work : Work = record { chunk = record { 0 = c.args.taken.chunk }; first = c.at-chunk.result.first; count = c.at-chunk.result.count } in
    let leaves = subst (λ (ks : List Kept). IsChunkFrom start order job.lowered.now job.registers.now ks work piece) c.requires.runner (subst (λ at. IsChunkFrom at order job.lowered.now job.registers.now c.args.runner.now work piece) c.start-start.ensures c.in_ok-piece.ensures.leaves) in
    let last = subst (λ (ks : List Kept). IsLastFrom start order job.lowered.now job.registers.now ks work piece) c.requires.runner (subst (λ at. IsLastFrom at order job.lowered.now job.registers.now c.args.runner.now work piece) c.start-start.ensures c.in_ok-piece.ensures.last) in
    let only = subst (λ (ks : List Kept). ChangeOnly ks piece.changes) c.requires.runner c.in_ok-piece.ensures.only in
    let one = account_one job.lowered.now job.registers.now job.store.now job.pass.now job.chunks.now job.space.now run _ order c.order-order.ensures c.requires.ready c.at-chunk.ensures (leaves, last) only in
    subst (IsAccountOf job (numbers ++ c.args.taken.chunk ∷ [])) (sym c.in_ok-push.ensures)
    (account_both job.lowered.now job.registers.now job.store.now job.pass.now job.chunks.now numbers (c.args.taken.chunk ∷ []) c.args.log.now (account_of run) was one)
