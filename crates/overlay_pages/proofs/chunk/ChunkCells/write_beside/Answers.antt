use Rattle.std.proofs.Common.{List, Option, ℕ, length, ap, ◌∙◌}
use Rattle.store.specs.Flat.{values_of}
use Rattle.lower_op.specs.Stretches.{written}
use Rattle.overlay_pages.specs.Over.{written_over, writes_in}
use Rattle.overlay_pages.specs.Seen.{Seen, cells_of}
use Rattle.overlay_pages.proofs.Beside.{over_beside, length_beside}
use Rattle.overlay_pages.proofs.chunk.ChunkCells.write_beside.Goals as goal

pub invariant_of-self : goal.invariant_of-self
invariant_of-self c =
    ap (λ (l : List (Option ℕ)). length l) c.write_beside.ensures
    ∙ length_beside c.self.inside.own c.args.first c.args.numbers.now
    ∙ c.self.invariant

pub returns-clause-written : goal.returns-clause-written
returns-clause-written c =
    let cells = values_of c.self.inside.store.now in
    ap (λ l. written_over (writes_in l) cells) c.write_beside.ensures
    ∙ over_beside c.self.inside.own cells c.args.first c.args.numbers.now c.self.invariant
    ∙ ap (λ (s : Seen). written c.args.first c.args.numbers.now (cells_of s)) c.self.view_is
