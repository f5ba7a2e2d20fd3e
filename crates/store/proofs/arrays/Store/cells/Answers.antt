use Rattle.std.proofs.Common.{sym, ap, ◌∙◌, subst}
use Rattle.store.specs.Flat.{values_of, AreFilled}
use Rattle.store.proofs.Laid.{values_are, are_filled}
use Rattle.store.proofs.arrays.Store.cells.Goals as goal

pub returns-clause-value : goal.returns-clause-value
returns-clause-value c = c.as_slice.ensures.value ∙ sym (values_are c.self.inside.cells.items c.self.inside.places.items c.self.invariant) ∙ ap values_of c.self.view_is

pub returns-clause-filled : goal.returns-clause-filled
returns-clause-filled c = subst AreFilled c.self.view_is (are_filled c.self.inside.cells.items c.self.inside.places.items c.self.invariant)
