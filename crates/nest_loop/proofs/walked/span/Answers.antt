use Rattle.std.proofs.Common.{◌≡◌, ℕ, ℤ, pos, ◌-◌, ◌%◌, ◌<◌, ◌^◌, ◌≤ℤ◌, unsigned_abs, to_z, of_z, w64, ap, ◌∙◌, arith}
use Rattle.std.proofs.lemmas.Int.{ints, to_z-of_z, to_z_pos}
use Rattle.nest_loop.proofs.Steps.{span_from}
use Rattle.nest_loop.proofs.walked.span.Goals as goal

pub returns-else-distance-lt0-clause-span : goal.returns-else-distance-lt0-clause-span
returns-else-distance-lt0-clause-span c =
    let d = c.args.distance in
    let read = to_z-of_z w64 d c.ranges.distance in
    let above : pos 0 ≤ℤ d = omega (arith, ints) in
    let taken = λ (n : ℤ) (m : ℕ). unsigned_abs n - unsigned_abs n % m in
    let same : taken (to_z w64 (of_z w64 d)) c.from-else-distance-lt0.result ≡ taken d c.args.by =
    ap (λ (n : ℤ). taken n c.from-else-distance-lt0.result) read ∙ ap (taken d) c.from-else-distance-lt0.ensures in
    let small : taken d c.args.by < 2 ^ 63 = omega (arith, c.requires.within) in
    span_from c.args.by d _ c.requires.by_one above (ap (λ (n : ℕ). to_z w64 n) same ∙ to_z_pos w64 (taken d c.args.by) small)
