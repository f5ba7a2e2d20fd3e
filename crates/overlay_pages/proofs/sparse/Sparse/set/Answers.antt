use Rattle.std.proofs.Common.{ℕ, ◌≡◌, ◌+◌, ◌-◌, ◌/◌, ◌%◌, ◌<◌, ◌++◌, List, [], length, replicate, sym, ap, ◌∙◌, arith}
use Rattle.std.specs.Prelude.{slice_set}
use Rattle.std.proofs.lemmas.List.{get_or_read, set_past}
use Rattle.overlay_pages.specs.NumberRows.{numbers_in}
use Rattle.overlay_pages.proofs.NumberRows.{set_in, length_numbers}
use Rattle.overlay_pages.proofs.sparse.Sparse.set.Goals as goal

pub returns-then-at-self : goal.returns-then-at-self
returns-then-at-self c =
    let at = c.args.at in
    let n = c.args.n in
    let rows = c.self.inside.rows.items in
    let count = c.self.inside.count in
    let room = c.self.invariant in
    let there : at / 8192 < length rows = (let lt = c.if-at-self.true in omega arith) in
    ap (λ (r : List ℕ). numbers_in (slice_set rows (at / 8192) r) count)
    (c.set.ensures
    ∙ ap (λ (r : List ℕ). slice_set (r ++ replicate (at % 8192 + 1 - length r) 0) (at % 8192) n) (get_or_read rows (at / 8192) _ there c.index_mut.ensures.value []))
    ∙ set_in rows count at n c.if-at-self.true room
    ∙ ap (λ (l : List ℕ). slice_set l at n) c.self.view_is

pub returns-else-at-self : goal.returns-else-at-self
returns-else-at-self c =
    let long : length c.args.self.now ≡ c.self.inside.count = sym (ap (λ (l : List ℕ). length l) c.self.view_is) ∙ length_numbers c.self.inside.rows.items c.self.inside.count in
    let past = c.if-at-self.false in
    sym (set_past c.args.self.now c.args.at c.args.n (omega arith))
