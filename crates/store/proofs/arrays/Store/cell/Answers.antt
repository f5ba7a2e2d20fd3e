use Rattle.std.specs.Prelude.{slice_index}
use Rattle.std.proofs.Common.{sym, ap, ◌∙◌}
use Rattle.store.specs.Flat.{values_of}
use Rattle.store.proofs.Laid.{values_are}
use Rattle.store.proofs.arrays.Store.cell.Goals as goal

pub returns : goal.returns
returns c =
    c.entry.ensures
    ∙ ap (λ l. slice_index l c.args.place) (c.as_slice.ensures.value ∙ sym (values_are c.self.inside.cells.items c.self.inside.places.items c.self.invariant) ∙ ap values_of c.self.view_is)
