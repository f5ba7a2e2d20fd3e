use Rattle.std.proofs.Common.{◌≡◌, length, sym, subst, ◌∙◌, rules}
use Rattle.store.specs.Placing.{Lie}
use Rattle.store.proofs.Laid.{frame_count, frame_fills}
use Rattle.store.proofs.arrays.Store.into_cells.Goals as goal

pub returns-clause-cells : goal.returns-clause-cells
returns-clause-cells c =
    let cells = c.self.inside.cells.items in
    let places = c.self.inside.places.items in
    let count : c.len-count.result ≡ length cells = search rules in
    frame_fills c.len-count.result places (subst (Lie 0 places) (sym count) c.self.invariant) cells ∙ c.self.view_is

pub returns-clause-count : goal.returns-clause-count
returns-clause-count c =
    let cells = c.self.inside.cells.items in
    let places = c.self.inside.places.items in
    let count : c.len-count.result ≡ length cells = search rules in
    sym (frame_count c.len-count.result places (subst (Lie 0 places) (sym count) c.self.invariant) ∙ count)
