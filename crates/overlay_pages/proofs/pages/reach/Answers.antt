use Rattle.std.proofs.Common.{◌≡◌, ◌/◌, ◌<◌, length, ap, sym, ◌∙◌, arith}
use Rattle.std.specs.Prelude.{slice_index}
use Rattle.overlay_pages.specs.Table.{table_of, slots}
use Rattle.overlay_pages.proofs.Tables.{slots_entering}
use Rattle.overlay_pages.proofs.pages.reach.Goals as goal

pub returns-then-get-eq0-clause-kept : goal.returns-then-get-eq0-clause-kept
returns-then-get-eq0-clause-kept c =
    let old = c.args.pages.now in
    let q = c.args.place / 64 in
    let covers = c.requires.roomy.sound.covers in
    let there : q < length old.numbers = (let less = c.requires.there in omega arith) in
    let new : slice_index old.numbers q ≡ 0 = sym c.get.ensures ∙ c.if-get-eq0.true in
    ap slots c.enter.ensures.entered ∙ slots_entering (table_of old) c.requires.roomy.sound q there new
