use Rattle.std.proofs.Common.{arith, ap, ◌∙◌, flat_map}
use Rattle.semantics.specs.Loops.Chunk.{PlainStatic, Static, Guided, chunk_iterations}
use Rattle.semantics.proofs.CutLaw.{cuts_all}
use Rattle.schedule.specs.Cut.{chunks_of}
use Rattle.schedule.proofs.chunks.chunk_list.Goals as goal
use Rattle.schedule.proofs.chunks.chunk_list.Goals.{in-PlainStatic, in-Guided+in_ok-guided_chunks-in-Guided, in-Static2}

pub returns-clause-joined : goal.returns-clause-joined
returns-clause-joined c = elim c.match-sched.branch [
  | in-PlainStatic w ↦
      ap (λ k. flat_map chunk_iterations (chunks_of k)) w.cut-is
      ∙ cuts_all PlainStatic c.args.n c.get-workers.result tt (omega arith)
  | in-Static2 w ↦
      ap (λ k. flat_map chunk_iterations (chunks_of k)) w.cut-is
      ∙ cuts_all (Static w.get-in-Static.result) c.args.n 1 (omega arith) (omega arith)
  | in-Guided+in_ok-guided_chunks-in-Guided w ↦
      ap (λ k. flat_map chunk_iterations (chunks_of k)) w.cut-is
      ∙ ap (flat_map chunk_iterations) w.in_ok-guided_chunks-in-Guided.ensures
      ∙ cuts_all (Guided w.get.result) c.args.n c.get-workers.result (omega arith) (omega arith)
]
