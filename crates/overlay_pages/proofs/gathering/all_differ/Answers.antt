use Rattle.std.proofs.Common.{ℕ, ◌≡◌, ◌+◌, ◌<◌, ◌≤◌, List, length, take, drop, sym, ap, ◌∙◌, subst, arith}
use Rattle.std.specs.Prelude.{slice_index}
use Rattle.std.proofs.lemmas.List.{get_or-take, get_or-drop}
use Rattle.store.specs.Flat.{values_of}
use Rattle.overlay_pages.proofs.Runs.{all_differ_by, differs_each}
use Rattle.overlay_pages.proofs.gathering.all_differ.Goals as goal

pub returns : goal.returns
returns c =
    let cells = values_of c.args.store.now in
    let place = c.args.place in
    let vs = c.args.values.now in
    let n = length vs in
    let held : (k : ℕ) → k < length vs → slice_index c.part.result.now k ≡ slice_index cells (place + k) =
    (λ k lt. ap (λ l. slice_index l k) (c.part.ensures ∙ ap (λ l. take n (drop place l)) c.cells-cells.ensures.value) ∙ get_or-take n (drop place cells) k 0 lt ∙ get_or-drop place cells k 0) in
    let there : place + n ≤ length cells = subst (λ (l : List ℕ). place + n ≤ length l) c.cells-cells.ensures.value (omega arith) in (
      λ all. (there, all_differ_by cells place vs (λ k lt e. c.differ.ensures.0 all k lt (e ∙ sym (held k lt)))),
      λ both. c.differ.ensures.1 (λ k lt e. differs_each cells place vs both.1 k lt (e ∙ held k lt)),
    )
