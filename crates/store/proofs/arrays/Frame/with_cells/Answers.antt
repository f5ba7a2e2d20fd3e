use Rattle.std.proofs.Common.{◌≡◌, List, length, sym, ap, subst, ◌∙◌}
use Rattle.store.specs.Kept.{Kept}
use Rattle.store.specs.Flat.{values_of, filled}
use Rattle.store.specs.Placing.{Lie}
use Rattle.store.proofs.Laid.{frame_count, frame_fills}
use Rattle.store.proofs.arrays.Frame.with_cells.Goals as goal

pub invariant_of-result : goal.invariant_of-result
invariant_of-result c =
    let places = c.self.inside.places.items in
    let same : length c.args.cells.items ≡ c.self.inside.count
    = c.requires ∙ ap (λ (ks : List Kept). length (values_of ks)) (sym c.self.view_is) ∙ frame_count c.self.inside.count places c.self.invariant in
    subst (Lie 0 places) (sym same) c.self.invariant

pub returns : goal.returns
returns c =
    sym (frame_fills c.self.inside.count c.self.inside.places.items c.self.invariant c.args.cells.items)
    ∙ ap (λ (ks : List Kept). filled c.args.cells.items ks) c.self.view_is
