use Rattle.std.proofs.Common.{◌≡◌, ℕ, ℤ, pos, ◌+◌, ◌/◌, ◌≤ℤ◌, unsigned_abs, to_z, of_z, sym, ap, ◌∙◌, subst, arith}
use mir.Syntax.{w128}
use Rattle.std.proofs.lemmas.Int.{ints, to_z-of_z}
use Rattle.nest_loop.specs.Most.{AreWithin}
use Rattle.nest_loop.proofs.Turning.{within_from}
use Rattle.nest_loop.proofs.most.trip_count_within.Goals as goal

pub returns-else-distance-lt0 : goal.returns-else-distance-lt0
returns-else-distance-lt0 c =
    let d = c.args.distance in
    let by = c.args.by in
    let read = to_z-of_z w128 d c.ranges.distance in
    let above : pos 0 ≤ℤ d = omega (arith, ints) in
    let count = λ (n : ℤ) (m : ℕ). unsigned_abs n / m + 1 in
    let same : count (to_z w128 (of_z w128 d)) c.from.result ≡ count d by = ap (λ (n : ℤ). count n c.from.result) read ∙ ap (count d) c.from.ensures in
    record { turns = subst (AreWithin by d) (sym same) (within_from by d c.requires.by_one above) }
