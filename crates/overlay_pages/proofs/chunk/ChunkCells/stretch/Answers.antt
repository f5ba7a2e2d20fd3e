use Rattle.std.proofs.Common.{ℕ, ◌+◌, ◌≤◌, List, length, sym, ap, ◌∙◌, subst, arith}
use Rattle.std.specs.Prelude.{slice_index}
use Rattle.store.specs.Flat.{values_of}
use Rattle.lower_op.proofs.Stretching.{some_weaker}
use Rattle.overlay_pages.specs.Over.{or_else, writes_in}
use Rattle.overlay_pages.specs.Seen.{Seen, cells_of}
use Rattle.overlay_pages.proofs.Overlays.{length_over, read_over}
use Rattle.overlay_pages.proofs.chunk.ChunkCells.stretch.Goals as goal

pub returns-then-are_bare : goal.returns-then-are_bare
returns-then-are_bare c =
    let cells = values_of c.self.inside.store.now in
    some_weaker c.stretch.result _ _ (λ row s. record {
      small = s.small;
      inside = subst (λ n. c.args.first + c.args.count ≤ n) (sym (length_over (writes_in c.self.inside.own) cells) ∙ ap (λ (s : Seen). length (cells_of s)) c.self.view_is) s.inside;
      long = s.long;
      each = λ k lt.
          s.each k lt
          ∙ sym (ap (λ o. or_else o (slice_index cells (c.args.first + k))) (c.are_bare.ensures c.if-are_bare.true k lt))
          ∙ sym (read_over c.self.inside.own cells (c.args.first + k) c.self.invariant)
          ∙ ap (λ (s : Seen). slice_index (cells_of s) (c.args.first + k)) c.self.view_is;
    }) c.stretch.ensures

pub returns : goal.returns
returns c =
    let cells = values_of c.self.inside.store.now in
    some_weaker c.row.result _ _ (λ row r. record {
      small = omega arith;
      inside = subst (λ n. c.args.first + c.args.count ≤ n) (ap (λ (l : List ℕ). length l) c.cells.ensures.value ∙ sym (length_over (writes_in c.self.inside.own) cells) ∙ ap (λ (s : Seen). length (cells_of s)) c.self.view_is) (omega arith);
      long = r.long;
      each = λ k lt.
          sym (ap (λ o. or_else o (slice_index cells (c.args.first + k))) (r.each k lt))
          ∙ sym (read_over c.self.inside.own cells (c.args.first + k) c.self.invariant)
          ∙ ap (λ (s : Seen). slice_index (cells_of s) (c.args.first + k)) c.self.view_is;
    }) c.row.ensures
