use Rattle.std.proofs.Common.{w64, suc, ◌≡◌, ◌*◌, ◌<◌, ℕ, ◌+◌, ◌^◌, ap, ◌∙◌, arith}
use Rattle.std.specs.Prelude.{slice_index}
use Rattle.std.proofs.lemmas.List.{get_or_read}
use Rattle.std.proofs.lemmas.Nat.Bits.{bit_at-trailing_zeros}
use Rattle.store.specs.Flat.{values_of}
use Rattle.overlay_pages.specs.declared.changes.Change.{Change}
use Rattle.overlay_pages.specs.Table.{table_of}
use Rattle.overlay_pages.proofs.Tables.{page_there}
use Rattle.overlay_pages.proofs.Gathered.{gathering_from, gathering_on}
use Rattle.overlay_pages.proofs.gathering.gather_bits.Goals as goal

pub loop-turn-init : goal.loop-turn-init
loop-turn-init c =
    let p = c.args.pages.now in
    let page : c.index-page.result.now ≡ slice_index p.entered.items c.args.k = get_or_read p.entered.items c.args.k _ c.requires.there c.index-page.ensures 0 in
    gathering_from (values_of c.args.store.now) (table_of p) c.args.k c.get-rest.result c.args.changes.now
    (c.get-rest.ensures ∙ ap (slice_index p.masks) page)
    c.requires.so_far

pub overflow_mul-place : goal.overflow_mul-place
overflow_mul-place c =
    let p = c.args.pages.now in
    let page : c.index-page.result.now ≡ slice_index p.entered.items c.args.k = get_or_read p.entered.items c.args.k _ c.requires.there c.index-page.ensures 0 in
    let there = page_there (table_of p) c.requires.sound c.args.k c.requires.there in
    let small = c.requires.sound.small in
    omega arith

pub overflow_add-place : goal.overflow_add-place
overflow_add-place c =
    let p = c.args.pages.now in
    let page : c.index-page.result.now ≡ slice_index p.entered.items c.args.k = get_or_read p.entered.items c.args.k _ c.requires.there c.index-page.ensures 0 in
    let there = page_there (table_of p) c.requires.sound c.args.k c.requires.there in
    let small = c.requires.sound.small in
    let some = c.if-rest-eq0.false in
    let fits : c.loop-turn.rest < 2 ^ 64 = (let f = c.loop-turn.auto.rest-fits in omega arith) in
    let more : 0 < c.loop-turn.rest = omega arith in
    let within : c.from-bit.result < 64 = (let z = bit_at-trailing_zeros w64 c.loop-turn.rest more fits in let z0 = z.0 in let e = c.from-bit.ensures in omega arith) in
    omega arith

pub loop-turn-preserved : goal.loop-turn-preserved
loop-turn-preserved c =
    let p = c.args.pages.now in
    let page : c.index-page.result.now ≡ slice_index p.entered.items c.args.k = get_or_read p.entered.items c.args.k _ c.requires.there c.index-page.ensures 0 in
    let rest = c.loop-turn.rest in
    let at : Change = record { place = 64 * c.index-page.result.now + c.from-bit.result; value = c.index-value.result.now } in
    let some = c.if-rest-eq0.false in
    let fits : c.loop-turn.rest < 2 ^ 64 = (let f = c.loop-turn.auto.rest-fits in omega arith) in
    let more : 0 < c.loop-turn.rest = omega arith in
    let within : c.from-bit.result < 64 = (let z = bit_at-trailing_zeros w64 c.loop-turn.rest more fits in let z0 = z.0 in let e = c.from-bit.ensures in omega arith) in
    let sized = c.requires.sound.sized in
    let there = c.requires.there in
    let spot : 64 * (c.args.k + 1) + c.from-bit.result ≡ 64 * suc c.args.k + c.from-bit.result = omega arith in
    let value : c.index-value.result.now ≡ slice_index p.values.items (64 * suc c.args.k + c.from-bit.result) =
    get_or_read p.values.items (64 * (c.args.k + 1) + c.from-bit.result) _ (omega arith) c.index-value.ensures 0 ∙ ap (slice_index p.values.items) spot in
    rw c.in_ok-add.ensures
    (gathering_on (values_of c.args.store.now) (table_of p) c.requires.sound c.args.k c.requires.there c.loop-turn._turn rest c.loop-turn.changes c.loop-turn.invariant
    more fits c.from-bit.result c.from-bit.ensures at
    (ap (λ (n : ℕ). 64 * n + c.from-bit.result) page)
    value)
