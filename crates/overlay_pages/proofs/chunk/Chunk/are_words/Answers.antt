use Rattle.std.proofs.Common.{ℕ, ◌<◌, ◌^◌, List, length, sym, ap, ◌∙◌, subst}
use Rattle.std.specs.Prelude.{slice_index}
use Rattle.store.specs.Flat.{values_of}
use Rattle.lower_machine.specs.Machine.{Fits, machine}
use Rattle.overlay_pages.specs.Over.{writes_in}
use Rattle.overlay_pages.specs.Seen.{Seen, cells_of}
use Rattle.overlay_pages.proofs.Overlays.{read_over, length_over, either_fits}
use Rattle.overlay_pages.proofs.chunk.Chunk.are_words.Goals as goal

pub returns-clause-words : goal.returns-clause-words
returns-clause-words c =
    let own = c.self.inside.own in
    let cells = values_of c.self.inside.store.now in
    subst (λ (s : Seen). Fits (machine c.args.registers.now (cells_of s))) c.self.view_is
    (record {
      registers = c.fit.ensures.words.registers;
      cells = λ i.
          let P : ℕ → Type 0 = λ n. n < 2 ^ 64 in
          let there : slice_index cells i < 2 ^ 64 = subst P (ap (λ (l : List ℕ). slice_index l i) c.cells.ensures.value) (c.fit.ensures.words.cells i) in
          subst P (sym (read_over own cells i c.self.invariant)) (either_fits (writes_in own i) (slice_index cells i) (c.are_words.ensures i) there);
    })

pub returns-clause-room : goal.returns-clause-room
returns-clause-room c =
    let P : ℕ → Type 0 = λ n. n < 2 ^ 64 in
    subst P
    (ap (λ (l : List ℕ). length l) c.cells.ensures.value ∙ sym (length_over (writes_in c.self.inside.own) (values_of c.self.inside.store.now)) ∙ ap (λ (s : Seen). length (cells_of s)) c.self.view_is)
    c.fit.ensures.room
