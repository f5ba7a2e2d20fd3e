use Rattle.std.proofs.Common.{ℕ, ◌≡◌, ◌+◌, ◌≤◌, suc, length, ◌∷◌, [], List, drop, get_or, ap, sym, ◌∙◌, subst, arith}
use Rattle.std.proofs.lemmas.List.{drop_more, drop_all}
use Rattle.store.specs.Flat.{values_of, filled}
use Rattle.overlay_pages.specs.Over.{written_over, writes_of}
use Rattle.overlay_pages.specs.Runs.{row}
use Rattle.overlay_pages.proofs.Overlays.{changed_none}
use Rattle.overlay_pages.proofs.Runs.{applied_both, applied_one, over_row}
use Rattle.overlay_pages.proofs.changes.apply_run.Goals as goal

pub loop-k-init : goal.loop-k-init
loop-k-init c later e =
    let first : c.args.place + 0 ≡ c.args.place = omega arith in
    e ∙ ap (λ n. filled (written_over (writes_of (row n c.args.values.now)) (values_of c.args.store.now)) c.args.store.now) first

pub loop-k-preserved : goal.loop-k-preserved
loop-k-preserved c later e =
    let vs = c.args.values.now in
    let k = c.loop-k.k in
    let place = c.args.place + k in
    let value = get_or vs k 0 in
    let now = c.loop-k.store in
    let next = c.put.new.self in
    let on : c.args.place + (k + 1) ≡ suc place = omega arith in
    c.loop-k.invariant later
    (subst (λ (l : List ℕ). later ≡ filled (written_over (writes_of (row place l)) (values_of now)) now) (sym (drop_more vs k 0 c.loop-k-test.true))
    (applied_both now next later (record { place = place; value = value } ∷ []) (row (suc place) (drop (k + 1) vs)) (applied_one now next place value c.put.ensures)
    (e ∙ ap (λ n. filled (written_over (writes_of (row n (drop (k + 1) vs))) (values_of next)) next) on)))

pub returns : goal.returns
returns c =
    let vs = c.args.values.now in
    let now = c.loop-k.store in
    c.loop-k.invariant now
    (subst (λ (l : List ℕ). now ≡ filled (written_over (writes_of (row (c.args.place + c.loop-k.k) l)) (values_of now)) now) (sym (drop_all c.loop-k.k vs c.loop-k-test.false)) (changed_none now))

pub returns-then-place-values : goal.returns-then-place-values
returns-then-place-values c =
    let vs = c.args.values.now in
    let old = values_of c.args.store.now in
    let inside : c.args.place + length vs ≤ length old = subst (λ (cs : List ℕ). c.args.place + length vs ≤ length cs) c.cells.ensures.value c.if-place-values.true in
    c.put_row.ensures ∙ ap (λ l. filled l c.args.store.now) (over_row c.args.place vs old inside)
