use Rattle.std.proofs.Common.{ℕ, ◌≡◌, ◌++◌, ◌∷◌, [], List, length, ap, sym, ◌∙◌, arith}
use Rattle.std.proofs.lemmas.List.{length-append}
use Rattle.overlay_pages.specs.Runs.{cells_in, changes_in}
use Rattle.overlay_pages.proofs.Runs.{run_added, cells_added}
use Rattle.overlay_pages.proofs.changes.Changes.push.Goals as goal

pub invariant_of-self-2 : goal.invariant_of-self-2
invariant_of-self-2 c =
    let hs = c.self.inside.heads.items in
    let vs = c.self.inside.values.items in
    let head = c.in-Some.ensures.1 in
    let before : length vs ≡ cells_in hs = c.self.invariant in
    let added = cells_added hs c.in-Some.head in
    let long = length-append vs (c.args.change.value ∷ []) in
    ap (λ (l : List ℕ). length l) (c.push_reserved.ensures.items ∙ ap (λ l. l ++ c.args.change.value ∷ []) c.in_ok-reserve-2.ensures.items)
    ∙ omega arith
    ∙ ap cells_in (sym (c.push_reserved-2.ensures.items ∙ ap (λ l. l ++ c.in-Some.head ∷ []) c.in_ok-reserve.ensures.items))

pub returns : goal.returns
returns c =
    let hs = c.self.inside.heads.items in
    let vs = c.self.inside.values.items in
    (λ i. changes_in ((c.push_reserved-2.ensures.items ∙ ap (λ l. l ++ c.in-Some.head ∷ []) c.in_ok-reserve.ensures.items) i) ((c.push_reserved.ensures.items ∙ ap (λ l. l ++ c.args.change.value ∷ []) c.in_ok-reserve-2.ensures.items) i))
    ∙ run_added hs vs c.in-Some.head c.args.change.place (c.args.change.value ∷ []) c.self.invariant c.in-Some.ensures.0 c.in-Some.ensures.1
    ∙ ap (λ l. l ++ c.args.change ∷ []) c.self.view_is
