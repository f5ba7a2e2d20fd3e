use Rattle.std.proofs.Common.{◌≡◌, ◌+◌, sym, ap, ◌∙◌, arith}
use Rattle.overlay_pages.specs.Table.{table_of, bit}
use Rattle.overlay_pages.proofs.Beside.{stand_on, stand_fits}
use Rattle.overlay_pages.proofs.rows.stand_from.Goals as goal

pub overflow_add-start : goal.overflow_add-start
overflow_add-start c =
    let v = c.args.pages.now.values in
    let o = v.ok.0 in
    let s = v.small in
    let fits = stand_fits (table_of c.args.pages.now) c.requires.sound c.args.first c.loop-done.done c.args.start (omega arith) (omega arith) c.loop-done.invariant.stand in
    omega arith

pub returns-then-not-are_written : goal.returns-then-not-are_written
returns-then-not-are_written c = (
  λ e k lt. absurd cc,
  λ stand. sym c.if-not-are_written.true ∙ c.are_written.ensures.1 (λ k lt.
      let place : c.args.first + c.loop-done.done + k ≡ c.args.first + (c.loop-done.done + k) = omega arith in
      ap (bit (table_of c.args.pages.now)) place ∙ (stand (c.loop-done.done + k) (omega arith)).0),
)

pub loop-done-preserved : goal.loop-done-preserved
loop-done-preserved c =
    record {
      within = omega arith;
      stand = stand_on (table_of c.args.pages.now) c.args.first c.loop-done.done c.on_page-part.result c.args.start c.loop-done.invariant.stand (omega arith) (sym c.spot_of.ensures ∙ c.if-spot_of-start.false) (c.are_written.ensures.0 c.if-not-are_written.false);
    }
