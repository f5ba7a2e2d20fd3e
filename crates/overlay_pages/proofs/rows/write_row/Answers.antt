use Rattle.std.proofs.Common.{◌≡◌, ◌+◌, ◌++◌, length, sym, ap, ◌∙◌, arith}
use Rattle.std.proofs.lemmas.List.{take-append-drop}
use Rattle.overlay_pages.specs.Over.{set_beside}
use Rattle.overlay_pages.specs.Table.{table_of, slots}
use Rattle.overlay_pages.proofs.Beside.{beside_both}
use Rattle.overlay_pages.proofs.rows.write_row.Goals as goal

pub loop-rest-preserved : goal.loop-rest-preserved
loop-rest-preserved c =
    let before = slots (table_of c.loop-rest.pages) in
    let place = c.loop-rest.place in
    let front = c.split_at.result.0.now in
    let behind = c.split_at.result.1.now in
    let inv = c.loop-rest.invariant in
    let fits = inv.there in
    let size = c.write_part.ensures.size in
    let a = c.split_at.ensures.front_len in
    let b = c.split_at.ensures.back_len in
    let whole : front ++ behind ≡ c.loop-rest.rest.now = (λ i. c.split_at.ensures.front i ++ c.split_at.ensures.back i) ∙ take-append-drop c.on_page.result c.loop-rest.rest.now in
    record {
      roomy = c.write_part.ensures.roomy;
      there = omega arith;
      written =
          ap (λ l. set_beside l (place + length front) behind) c.write_part.ensures.written
          ∙ sym (beside_both before place front behind)
          ∙ ap (set_beside before place) whole
          ∙ inv.written;
    }
