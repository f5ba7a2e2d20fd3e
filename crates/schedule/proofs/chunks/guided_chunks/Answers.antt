use Rattle.std.proofs.Common.{◌+◌, [], ◌∷◌, ◌++◌, map, arith, ap, ◌∙◌}
use Rattle.std.proofs.lemmas.List.{map-append}
use Rattle.schedule.specs.Chunk.{chunk_of}
use Rattle.schedule.proofs.Guided.{guided_more, from_here}
use Rattle.schedule.proofs.chunks.guided_chunks.Goals as goal

pub loop-first-preserved : goal.loop-first-preserved
loop-first-preserved c =
    record {
      within = omega arith;
      chunks =
          ap (λ l. map chunk_of l ++ from_here c.args.size c.args.workers c.args.iterations (c.loop-first.first + c.min-count.result)) c.in_ok-push.ensures.items
          ∙ ap (λ l. l ++ from_here c.args.size c.args.workers c.args.iterations (c.loop-first.first + c.min-count.result)) (map-append chunk_of c.loop-first.chunks.items (record { first = c.loop-first.first; count = c.min-count.result } ∷ []))
          ∙ guided_more c.args.size c.args.workers c.args.iterations c.loop-first.first (map chunk_of c.loop-first.chunks.items) c.requires.size c.requires.workers (omega arith) c.loop-first.invariant.chunks c.min-count.result (cc);
    }
