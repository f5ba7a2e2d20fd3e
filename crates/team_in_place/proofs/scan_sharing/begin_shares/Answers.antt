use Rattle.std.proofs.Common.{◌≡◌, ◌<◌, ◌+◌, suc, length, refl, ap, ◌∙◌, arith}
use Rattle.std.proofs.lemmas.List.{length-set}
use Rattle.team_in_place.specs.Scanning.{start_of}
use Rattle.team_in_place.proofs.Starts.{next_start, next_before, next_behind}
use Rattle.team_in_place.proofs.scan_sharing.begin_shares.Goals as goal

pub loop-at-init : goal.loop-at-init
loop-at-init c = (refl, (omega arith, (refl, ((λ k lt. absurd (omega (arith, lt))), λ k le. refl))))

pub loop-at-smaller : goal.loop-at-smaller
loop-at-smaller c =
    let same = length-set c.loop-at.sums c.loop-at.at c.loop-at.start in
    let lt : c.loop-at.at < length c.loop-at.sums = c.loop-at-test.true in
    omega (arith, same, lt)

pub loop-at-preserved : goal.loop-at-preserved
loop-at-preserved c =
    let first = c.args.first in
    let old = c.args.sums.now in
    let sums = c.loop-at.sums in
    let at = c.loop-at.at in
    let start = c.loop-at.start in
    let now = c.loop-at.invariant in
    let lt : at < length sums = c.loop-at-test.true in
    let same = length-set sums at start in
    let e : suc at ≡ at + 1 = omega arith in (
      same ∙ now.0,
      (
        omega (arith, same, lt),
        (
          next_start first old sums at start lt now.1.1.0 now.1.1.1.0 now.1.1.1.1 ∙ ap (start_of first old) e,
          ((λ k less. next_before first old sums at start lt now.1.1.0 now.1.1.1.0 now.1.1.1.1 k (omega (arith, less))), λ k more. next_behind first old sums at start lt now.1.1.0 now.1.1.1.0 now.1.1.1.1 k (omega (arith, more))),
        ),
      ),
    )

pub returns : goal.returns
returns c k lt =
    let not = c.loop-at-test.false in
    let now = c.loop-at.invariant in
    let long = now.0 in
    now.1.1.1.0 k (omega (arith, not, long, lt))
