use Rattle.std.proofs.Common.{suc, ◌≡◌, ◌*◌, ◌++◌, ap, sym, ◌∙◌, subst, arith}
use Rattle.std.specs.Prelude.{slice_index}
use Rattle.std.proofs.lemmas.List.{get_or_read}
use Rattle.std.proofs.lemmas.Result.{on_ok_weaker}
use Rattle.store.specs.Flat.{values_of}
use Rattle.overlay_pages.specs.Runs.{row}
use Rattle.overlay_pages.specs.Table.{table_of, Gathers}
use Rattle.overlay_pages.proofs.Runs.{whole_long, gathers_row}
use Rattle.overlay_pages.proofs.gathering.gather_page.Goals as goal

pub push_row-requires-clause-few : goal.push_row-requires-clause-few
push_row-requires-clause-few c =
    let long = whole_long (values_of c.args.store.now) (table_of c.args.pages.now) c.requires.sound c.args.k c.requires.there c.in-Some.values.now c.in-Some.ensures in
    omega arith

pub push_row-requires-clause-some : goal.push_row-requires-clause-some
push_row-requires-clause-some c =
    let long = whole_long (values_of c.args.store.now) (table_of c.args.pages.now) c.requires.sound c.args.k c.requires.there c.in-Some.values.now c.in-Some.ensures in
    omega arith

pub returns-in-Some : goal.returns-in-Some
returns-in-Some c =
    let cells = values_of c.args.store.now in
    let t = table_of c.args.pages.now in
    let vs = c.in-Some.values.now in
    let page : c.index.result.now ≡ slice_index t.entered c.args.k = get_or_read t.entered c.args.k _ c.requires.there c.index.ensures 0 in
    on_ok_weaker c.push_row.result
    (λ e. subst (Gathers cells t (64 * suc (suc c.args.k))) (sym (e ∙ ap (λ n. c.args.changes.now ++ row (64 * n) vs) page))
    (gathers_row cells t c.requires.sound c.args.k c.requires.there vs c.in-Some.ensures c.args.changes.now c.requires.so_far))
    c.push_row.ensures
