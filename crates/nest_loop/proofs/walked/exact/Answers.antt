use Rattle.std.proofs.Common.{◌≡◌, ℤ, ◌+ℤ◌, ◌-ℤ◌, ◌≤ℤ◌, pos, to_z, of_z, w64, ◌⊎◌, ◌<◌, ◌^◌, sym, subst, rules}
use Rattle.std.proofs.lemmas.Int.{ints}
use Rattle.affine.specs.Box.{EndsFit}
use Rattle.nest_loop.specs.Whole.{IsSpan}
use Rattle.nest_loop.proofs.Boxes.{difference_read, falling_fits}
use Rattle.nest_loop.proofs.Steps.{walked_up, walked_down}
use Rattle.nest_loop.proofs.walked.exact.Goals as goal

pub returns-in-Rising-clause-walked : goal.returns-in-Rising-clause-walked
returns-in-Rising-clause-walked c =
    let first = c.args.first in
    let end = c.args.end in
    let s = c.span.result in
    let distance : to_z w64 (of_z w64 (to_z w64 (of_z w64 end) -ℤ to_z w64 (of_z w64 first))) ≡ end -ℤ first = search (rules, ints) in
    let low : to_z w64 (of_z w64 first) ≡ first = search (rules, ints) in
    let high : to_z w64 (of_z w64 (to_z w64 (of_z w64 first) +ℤ to_z w64 (of_z w64 s))) ≡ first +ℤ s = search (rules, ints) in
    walked_up c.args.stride first end s _ c.in-Rising.is (subst (λ (n : ℤ). IsSpan c.args.stride.by n s) distance c.span.ensures.span) low high

pub returns-in-Falling-clause-walked : goal.returns-in-Falling-clause-walked
returns-in-Falling-clause-walked c =
    let first = c.args.first in
    let end = c.args.end in
    let s = c.span-in-Falling.result in
    let distance : to_z w64 (of_z w64 (to_z w64 (of_z w64 first) -ℤ to_z w64 (of_z w64 end))) ≡ first -ℤ end = search (rules, ints) in
    let high : to_z w64 (of_z w64 first) ≡ first = search (rules, ints) in
    let low = difference_read first s c.requires.first c.span-in-Falling.ensures.within in
    walked_down c.args.stride first end s _ c.in-Falling.is (subst (λ (n : ℤ). IsSpan c.args.stride.by n s) distance c.span-in-Falling.ensures.span) low high

pub returns-in-Falling-clause-fits : goal.returns-in-Falling-clause-fits
returns-in-Falling-clause-fits c =
    let first = c.args.first in
    let end = c.args.end in
    let s = c.span-in-Falling.result in
    let by = c.args.stride.by in
    let small : by < 2 ^ 32 = search rules in
    let distance : to_z w64 (of_z w64 (to_z w64 (of_z w64 first) -ℤ to_z w64 (of_z w64 end))) ≡ first -ℤ end = search (rules, ints) in
    let high : to_z w64 (of_z w64 first) ≡ first = search (rules, ints) in
    let low = difference_read first s c.requires.first c.span-in-Falling.ensures.within in
    let above = subst (λ (n : ℤ). (s ≤ℤ n) ⊎ (s ≤ℤ pos 0)) distance c.span-in-Falling.ensures.greatest in
    subst (λ (n : ℤ). EndsFit n (to_z w64 (of_z w64 first))) (sym low)
    (subst (λ (n : ℤ). EndsFit (first -ℤ s) n) (sym high) (falling_fits first end s by c.requires.first c.requires.end small c.span-in-Falling.ensures.least above))
