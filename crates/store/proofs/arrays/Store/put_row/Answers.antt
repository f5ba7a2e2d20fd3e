use Rattle.std.proofs.Common.{◌≤◌, ◌+◌, List, length, sym, ap, subst, ◌∙◌}
use Rattle.store.specs.Kept.{Kept, overlaid}
use Rattle.store.specs.Flat.{values_of, filled}
use Rattle.store.specs.Placing.{Lie}
use Rattle.store.proofs.Writing.{length_overlaid}
use Rattle.store.proofs.Laid.{values_are, row_fills}
use Rattle.store.proofs.arrays.Store.put_row.Goals as goal

pub overwrite-requires : goal.overwrite-requires
overwrite-requires c =
    subst (λ (cs : List _). c.args.first + length c.args.values.now ≤ length cs) (ap values_of (sym c.self.view_is) ∙ values_are c.self.inside.cells.items c.self.inside.places.items c.self.invariant) c.requires

pub invariant_of-self : goal.invariant_of-self
invariant_of-self c =
    subst (Lie 0 c.self.inside.places.items)
    (sym (ap (λ (cs : List _). length cs) c.overwrite.ensures ∙ length_overlaid c.self.inside.cells.items c.args.first c.args.values.now (subst (λ (cs : List _). c.args.first + length c.args.values.now ≤ length cs) (ap values_of (sym c.self.view_is) ∙ values_are c.self.inside.cells.items c.self.inside.places.items c.self.invariant) c.requires)))
    c.self.invariant

pub returns : goal.returns
returns c =
    row_fills c.self.inside.cells.items c.overwrite.new.cells.items c.self.inside.places.items c.args.first c.args.values.now c.self.invariant c.overwrite.ensures
    ∙ ap (λ (ks : List Kept). filled (overlaid (values_of ks) c.args.first c.args.values.now) ks) c.self.view_is
