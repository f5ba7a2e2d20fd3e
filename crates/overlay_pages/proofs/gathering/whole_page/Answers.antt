use Rattle.std.proofs.Common.{suc, ◌≡◌, ◌+◌, ◌-◌, ◌*◌, ◌≤◌, length, take, drop, ap, sym, ◌∙◌, subst, arith}
use Rattle.std.specs.Prelude.{slice_index}
use Rattle.std.proofs.lemmas.List.{get_or_read, length-take}
use Rattle.store.specs.Flat.{values_of}
use Rattle.overlay_pages.specs.Runs.{AllDiffer}
use Rattle.overlay_pages.specs.Table.{table_of}
use Rattle.overlay_pages.proofs.Tables.{page_there}
use Rattle.overlay_pages.proofs.gathering.whole_page.Goals as goal

pub overflow_mul-page : goal.overflow_mul-page
overflow_mul-page c =
    let p = c.args.pages.now in
    let page : c.index-page.result.now ≡ slice_index p.entered.items c.args.k = get_or_read p.entered.items c.args.k _ c.requires.there c.index-page.ensures 0 in
    let there = page_there (table_of p) c.requires.sound c.args.k c.requires.there in
    let small = c.requires.sound.small in
    omega arith

pub all_differ-requires : goal.all_differ-requires
all_differ-requires c =
    let p = c.args.pages.now in
    let page : c.index-page.result.now ≡ slice_index p.entered.items c.args.k = get_or_read p.entered.items c.args.k _ c.requires.there c.index-page.ensures 0 in
    let there = page_there (table_of p) c.requires.sound c.args.k c.requires.there in
    let small = c.requires.sound.small in
    let taken = length-take (64 * (c.args.k + 1) + 64 - 64 * (c.args.k + 1)) (drop (64 * (c.args.k + 1)) c.deref.result.now) in
    omega arith

pub returns-then-all_differ : goal.returns-then-all_differ
returns-then-all_differ c =
    let p = c.args.pages.now in
    let k = c.args.k in
    let page : c.index-page.result.now ≡ slice_index p.entered.items k = get_or_read p.entered.items k _ c.requires.there c.index-page.ensures 0 in
    let vs = take (64 * (k + 1) + 64 - 64 * (k + 1)) (drop (64 * (k + 1)) c.deref.result.now) in
    let many : 64 * (k + 1) + 64 - 64 * (k + 1) ≡ 64 = omega arith in
    let from : 64 * (k + 1) ≡ 64 * suc k = omega arith in
    let both = c.all_differ.ensures.0 c.if-all_differ.true in
    record {
      mask = ap (slice_index p.masks) (sym page) ∙ sym c.get.ensures ∙ c.if-get.false;
      values = (λ i. take (many i) (drop (from i) c.deref.result.now)) ∙ ap (λ l. take 64 (drop (64 * suc k) l)) c.deref.ensures.value;
      inside = subst (λ n. 64 * n + length vs ≤ length (values_of c.args.store.now)) page both.0;
      differ = subst (λ n. AllDiffer (values_of c.args.store.now) (64 * n) vs) page both.1;
    }
