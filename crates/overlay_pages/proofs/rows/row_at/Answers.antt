use Rattle.std.proofs.Common.{length, take, drop, ap, ◌∙◌, arith}
use Rattle.overlay_pages.specs.Table.{table_of}
use Rattle.overlay_pages.proofs.Beside.{stand_room, row_stands}
use Rattle.overlay_pages.proofs.rows.row_at.Goals as goal

pub part-requires : goal.part-requires
part-requires c =
    let room = stand_room (table_of c.args.pages.now) c.requires.sound c.args.first c.args.count c.spot_of-start.result c.spot_of-start.ensures (c.stand_from.ensures.0 c.if-not-stand_from.false) in
    let same = ap (λ l. length l) c.deref.ensures.value in
    omega arith

pub returns : goal.returns
returns c =
    let t = table_of c.args.pages.now in
    let start = c.spot_of-start.result in
    let stand = c.stand_from.ensures.0 c.if-not-stand_from.false in
    row_stands t c.args.first c.args.count start _ stand (c.part.ensures ∙ ap (λ l. take c.args.count (drop start l)) c.deref.ensures.value)
    (stand_room t c.requires.sound c.args.first c.args.count start c.spot_of-start.ensures stand)
