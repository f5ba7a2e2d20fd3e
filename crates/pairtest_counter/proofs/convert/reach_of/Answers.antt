use Rattle.std.specs.Prelude.{◌≡◌}
use Rattle.std.proofs.Common.{◌∙◌, ap, to_z, of_z, w64, rules}
use Rattle.std.proofs.lemmas.Int.{ints}
use Rattle.std.proofs.lemmas.Result.{err_from_is_err_and}
use Rattle.affine.specs.Arithmetic.{constant_form}
use Rattle.pairtest_counter.proofs.Converted.{way_stops, reached_made}
use Rattle.pairtest_counter.proofs.convert.reach_of.Goals as goal

pub returns-in_err-apart : goal.returns-in_err-apart
returns-in_err-apart c =
    let p = err_from_is_err_and c.from_residual.result c.from_residual.ensures.1 in
    rw (p.1, p.2) (way_stops c.args.canonical.now c.args.start.now c.args.limit.now c.args.place c.in_err-apart.field-0.0 c.in_err-apart.ensures)

pub returns : goal.returns
returns c =
    let read : to_z w64 (of_z w64 c.end_offset.result) ≡ c.end_offset.result = search (rules, ints) in
    reached_made c.args.canonical.now c.args.start.now c.args.limit.now c.in_ok-apart.apart c.constant-offset.result c.args.place c.add.result c.in_ok-apart.ensures
    (c.constant-offset.ensures ∙ ap constant_form (read ∙ c.end_offset.ensures.way c.args.canonical.now.stride.direction)) c.add.ensures.ok c.add.ensures.fits c.add.ensures.refusal
