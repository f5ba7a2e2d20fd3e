use Rattle.std.proofs.Common.{◌≡◌, ◌-◌, ◌≤◌, ◌++◌, map}
use Rattle.semantics.specs.Loops.Chunk.{Guided, cut}
use Rattle.schedule.specs.Chunk.{chunk_of}
use Rattle.schedule.proofs.Guided.{from_here}
use Rattle.schedule.proofs.chunks.guided_chunks.Given as goal

abbrev pub invariant-loop-first : goal.invariant-loop-first
invariant-loop-first l =
    record {
      within : l.first ≤ l.iterations;
      chunks : map chunk_of l.chunks.items ++ from_here l.size l.workers l.iterations l.first ≡ cut (Guided l.size) l.iterations l.workers;
    }

abbrev pub decreases-loop-first : goal.decreases-loop-first
decreases-loop-first l = l.iterations - l.first
