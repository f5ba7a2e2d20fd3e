use Rattle.store.proofs.Laid.{zeros_are}
use Rattle.store.proofs.arrays.Store.zeros.Goals as goal

pub returns : goal.returns
returns c =
    zeros_are c.in_ok-places.places.items c.in_ok-places.count c.in_ok-cells.cells.items c.args.shapes.items c.in_ok-places.ensures.lie (c.in_ok-cells.ensures.items_if_clones_equal (λ y e. e)) c.in_ok-places.ensures.shapes
