use Rattle.std.proofs.Common.{ℕ, ◌≡◌, ◌+◌, ◌/◌, ◌%◌, ◌∷◌, List, length, take, drop, get_or, ap, sym, ◌∙◌, subst, arith}
use Rattle.std.proofs.lemmas.List.{length-drop, drop_more, drop_all}
use Rattle.store.specs.Flat.{values_of, filled}
use Rattle.overlay_pages.specs.declared.changes.Change.{Change}
use Rattle.overlay_pages.specs.Over.{written_over, writes_of}
use Rattle.overlay_pages.specs.Runs.{row, cells_in, changes_in}
use Rattle.overlay_pages.proofs.Overlays.{changed_none}
use Rattle.overlay_pages.proofs.Runs.{applied_both}
use Rattle.overlay_pages.proofs.changes.Changes.apply.Goals as goal

pub loop-head-init : goal.loop-head-init
loop-head-init c =
    let same = (λ i. changes_in (c.as_slice-head-items.ensures i) (c.as_slice-values.ensures i)) ∙ c.self.view_is in
    record {
      cells = ap (λ (l : List ℕ). length l) c.as_slice-values.ensures ∙ c.self.invariant ∙ ap cells_in (sym c.as_slice-head-items.ensures);
      all = λ later e. e ∙ ap (λ (cs : List Change). filled (written_over (writes_of cs) (values_of c.args.store.now)) c.args.store.now) same;
    }

pub loop-head-preserved : goal.loop-head-preserved
loop-head-preserved c =
    let items = c.as_slice-head-items.result.now in
    let i = c.loop-head.head-index in
    let vs = c.loop-head.values.now in
    let now = c.loop-head.store in
    let next = c.apply_run.new.store in
    let h = get_or items i 0 in
    let n = h % 64 + 1 in
    let rest = drop (i + 1) items in
    let more : drop i items ≡ h ∷ rest = drop_more items i 0 c.loop-head-test.true in
    let cells : length vs ≡ n + cells_in rest = c.loop-head.invariant.cells ∙ ap cells_in more in
    record {
      cells = ap (λ (l : List ℕ). length l) c.split_at.ensures.back ∙ omega (arith, length-drop n vs);
      all = λ later e. c.loop-head.invariant.all later
          (subst (λ (hs : List ℕ). later ≡ filled (written_over (writes_of (changes_in hs vs)) (values_of now)) now) (sym more)
          (applied_both now next later (row (h / 64) (take n vs)) (changes_in rest (drop n vs))
          (c.apply_run.ensures ∙ ap (λ l. filled (written_over (writes_of (row (h / 64) l)) (values_of now)) now) c.split_at.ensures.front)
          (e ∙ ap (λ l. filled (written_over (writes_of (changes_in rest l)) (values_of next)) next) c.split_at.ensures.back)));
    }

pub returns : goal.returns
returns c =
    let items = c.as_slice-head-items.result.now in
    let now = c.loop-head.store in
    c.loop-head.invariant.all now
    (subst (λ (hs : List ℕ). now ≡ filled (written_over (writes_of (changes_in hs c.loop-head.values.now)) (values_of now)) now) (sym (drop_all c.loop-head.head-index items c.loop-head-test.false)) (changed_none now))
