use Rattle.std.proofs.Common.{◌≡◌, ◌<◌, ℕ, length, subst, sym, ap, ◌∙◌}
use Rattle.store.specs.Kept.{overlaid}
use Rattle.store.proofs.Rows.{length_mid, put_in, row_is}
use Rattle.store.proofs.filling.fill_cells.Goals as goal

pub returns : goal.returns
returns g c =
    let a = c.args in
    let part = length_mid a.first a.count a.cells.now c.requires.inside in
    let long : length c.fill.new.row ≡ a.count = c.fill.ensures.long ∙ part in
    put_in a.first a.count a.cells.now c.fill.new.row c.requires.inside long
    ∙ ap (overlaid a.cells.now a.first) (row_is (g.F.Filler.number a.filler.now) c.fill.new.row a.count long (λ k lt. c.fill.ensures.each k (subst (λ (n : ℕ). k < n) (sym part) lt)))
