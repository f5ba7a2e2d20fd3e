use Rattle.std.proofs.Common.{ℕ, ◌/◌, ◌%◌, ◌<◌, List, [], length, ap, ◌∙◌, arith}
use Rattle.std.specs.Prelude.{slice_index}
use Rattle.std.proofs.lemmas.List.{get_or_read}
use Rattle.overlay_pages.proofs.NumberRows.{read_in, read_past}
use Rattle.overlay_pages.proofs.sparse.Sparse.get.Goals as goal

pub returns-then-at-self : goal.returns-then-at-self
returns-then-at-self c =
    let at = c.args.at in
    let rows = c.self.inside.rows.items in
    let room = c.self.invariant in
    let there : at / 8192 < length rows = (let lt = c.if-at-self.true in omega arith) in
    c.get.ensures
    ∙ ap (λ (r : List ℕ). slice_index r (at % 8192)) (get_or_read rows (at / 8192) _ there c.index.ensures [])
    ∙ read_in rows c.self.inside.count at c.if-at-self.true
    ∙ ap (λ (l : List ℕ). slice_index l at) c.self.view_is

pub returns-else-at-self : goal.returns-else-at-self
returns-else-at-self c =
    let past = c.if-at-self.false in
    read_past c.self.inside.rows.items c.self.inside.count c.args.at (omega arith)
    ∙ ap (λ (l : List ℕ). slice_index l c.args.at) c.self.view_is
