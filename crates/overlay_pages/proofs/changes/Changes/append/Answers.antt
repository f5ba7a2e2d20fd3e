use Rattle.std.proofs.Common.{ℕ, ◌≡◌, ◌++◌, List, length, ap, sym, ◌∙◌, arith}
use Rattle.std.proofs.lemmas.List.{length-append}
use Rattle.overlay_pages.specs.Runs.{cells_in, changes_in}
use Rattle.overlay_pages.proofs.Runs.{joined, cells_joined, none_in}
use Rattle.overlay_pages.proofs.changes.Changes.append.Goals as goal

pub returns-then-is_empty-clause-added : goal.returns-then-is_empty-clause-added
returns-then-is_empty-clause-added c =
    c.later.view_is
    ∙ sym (ap (λ l. l ++ c.args.later) (sym c.self.view_is ∙ none_in c.self.inside.heads.items c.self.inside.values.items c.self.invariant (sym c.is_empty.ensures ∙ c.if-is_empty.true)))

pub invariant_of-self-2 : goal.invariant_of-self-2
invariant_of-self-2 c =
    let hs = c.self.inside.heads.items in
    let vs = c.self.inside.values.items in
    let ks = c.later.inside.heads.items in
    let ws = c.later.inside.values.items in
    let before : length vs ≡ cells_in hs = c.self.invariant in
    let behind : length ws ≡ cells_in ks = c.later.invariant in
    let long = length-append vs ws in
    let cells = cells_joined hs ks in
    ap (λ (l : List ℕ). length l) c.in_ok-append.ensures.ok
    ∙ omega arith
    ∙ ap cells_in (sym (c.in-Ok.ensures.ok ∙ ap (λ l. l ++ ks) c.in_ok-reserve.ensures.items))

pub returns-clause-added : goal.returns-clause-added
returns-clause-added c =
    let hs = c.self.inside.heads.items in
    let vs = c.self.inside.values.items in
    let ks = c.later.inside.heads.items in
    let ws = c.later.inside.values.items in
    (λ i. changes_in ((c.in-Ok.ensures.ok ∙ ap (λ l. l ++ ks) c.in_ok-reserve.ensures.items) i) (c.in_ok-append.ensures.ok i))
    ∙ joined hs ks vs ws c.self.invariant
    ∙ (λ i. c.self.view_is i ++ c.later.view_is i)
