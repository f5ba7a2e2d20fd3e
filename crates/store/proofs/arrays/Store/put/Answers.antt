use Rattle.std.specs.Prelude.{slice_set}
use Rattle.std.proofs.Common.{ap, ◌∙◌}
use Rattle.store.specs.Flat.{values_of, filled}
use Rattle.store.proofs.Laid.{put_fills}
use Rattle.store.proofs.arrays.Store.put.Goals as goal

pub returns : goal.returns
returns c =
    put_fills c.self.inside.cells.items c.set_entry.new.cells.items c.self.inside.places.items c.args.place c.args.value c.self.invariant
    c.set_entry.ensures
    ∙ ap (λ ks. filled (slice_set (values_of ks) c.args.place c.args.value) ks) c.self.view_is
