use Rattle.std.proofs.Common.{suc, ◌≡◌, ◌+◌, ◌*◌, ◌++◌, ap, sym, ◌∙◌, subst}
use Rattle.std.specs.Prelude.{slice_index}
use Rattle.std.proofs.lemmas.List.{get_or_read}
use Rattle.std.proofs.lemmas.Result.{on_ok_weaker}
use Rattle.store.specs.Flat.{values_of}
use Rattle.overlay_pages.specs.Runs.{row}
use Rattle.overlay_pages.specs.Table.{table_of, Gathers}
use Rattle.overlay_pages.proofs.Runs.{gathers_part}
use Rattle.overlay_pages.proofs.gathering.gather_part.Goals as goal

pub returns-in-Some : goal.returns-in-Some
returns-in-Some c =
    let cells = values_of c.args.store.now in
    let t = table_of c.args.pages.now in
    let vs = c.in-Some.values.now in
    let r = c.in-Some.ensures in
    let page : c.index.result.now ≡ slice_index t.entered c.args.k = get_or_read t.entered c.args.k _ c.requires.there c.index.ensures 0 in
    on_ok_weaker c.push_row.result
    (λ e. subst (Gathers cells t (64 * suc (suc c.args.k))) (sym (e ∙ ap (λ n. c.args.changes.now ++ row (64 * n + c.in-Some.first) vs) page))
    (gathers_part cells t c.requires.sound c.args.k c.requires.there c.in-Some.first vs r.few r.mask r.values r.differ c.args.changes.now c.requires.so_far))
    c.push_row.ensures
