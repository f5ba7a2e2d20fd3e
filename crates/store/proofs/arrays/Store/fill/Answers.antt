use Rattle.std.proofs.Common.{◌≡◌, ◌≤◌, ◌+◌, List, length, sym, ap, subst, ◌∙◌}
use Rattle.store.specs.Kept.{Kept, overlaid}
use Rattle.store.specs.Flat.{values_of, filled}
use Rattle.store.specs.Filling.{row_of}
use Rattle.std.specs.Vec.{with_items}
use Rattle.std.proofs.lemmas.List.{with_items_is}
use Rattle.store.proofs.Writing.{length_overlaid}
use Rattle.store.proofs.Rows.{length_row}
use Rattle.store.proofs.Laid.{values_are, row_fills}
use Rattle.store.proofs.arrays.Store.fill.Goals as goal

pub fill_cells-requires-clause-inside : goal.fill_cells-requires-clause-inside
fill_cells-requires-clause-inside g c =
    subst (λ (cs : List _). c.args.first + c.args.count ≤ length cs) (ap values_of (sym c.self.view_is) ∙ values_are c.self.inside.cells.items c.self.inside.places.items c.self.invariant ∙ sym c.deref_mut.ensures.value) c.requires.inside

pub returns : goal.returns
returns g c =
    let v = c.self.inside.cells in
    let row = row_of (g.F.Filler.number c.args.filler.now) c.args.count in
    let made : c.fill_cells.new.cells ≡ overlaid v.items c.args.first row =
    c.fill_cells.ensures ∙ ap (λ (cs : List _). overlaid cs c.args.first row) c.deref_mut.ensures.value in
    let inside : c.args.first + length row ≤ length v.items =
    subst (λ (n : _). c.args.first + n ≤ length v.items) (sym (length_row (g.F.Filler.number c.args.filler.now) c.args.count))
    (subst (λ (cs : List _). c.args.first + c.args.count ≤ length cs) (ap values_of (sym c.self.view_is) ∙ values_are v.items c.self.inside.places.items c.self.invariant) c.requires.inside) in
    let long : length c.fill_cells.new.cells ≡ v.len = ap length made ∙ length_overlaid v.items c.args.first row inside ∙ sym v.ok.0 in
    row_fills v.items (with_items v c.fill_cells.new.cells).items c.self.inside.places.items c.args.first row c.self.invariant (with_items_is v c.fill_cells.new.cells long ∙ made)
    ∙ ap (λ (ks : List Kept). filled (overlaid (values_of ks) c.args.first row) ks) c.self.view_is
