use Rattle.std.proofs.Common.{rules, ◌≡◌, ◌+◌, ◌-◌, ◌<◌, ◌≤◌, ℕ, ℤ, pos, List, length, MatchOption, subst}
use Rattle.pairtest.specs.DirectionVectors.{coefficient}
use Rattle.pairtest_cover.specs.Along.{IsFirstFrom}
use Rattle.pairtest_cover.proofs.Written.{simple_decided}
use Rattle.pairtest_cover.proofs.uniform.is_simple.Goals as goal

pub returns-then-place-serial : goal.returns-then-place-serial
returns-then-place-serial c =
    let is : c.len-serial.result ≡ length c.args.nest.now.serial.items = search rules in
    let loops : c.len.result ≡ length c.args.nest.now.loops.items = search rules in
    let first : IsFirstFrom c.args.s.now.coefficients.items c.len-serial.result c.in-Some.place =
    subst (λ (cs : List ℤ). IsFirstFrom cs c.len-serial.result c.in-Some.place) c.deref.ensures.value c.in-Some.ensures in
    let rest = subst
    (λ (cs : List ℤ). MatchOption c.first_from-then-place-serial.result ((i : ℕ) → c.in-Some.place + 1 ≤ i → coefficient cs i ≡ pos 0) (λ q. IsFirstFrom cs (c.in-Some.place + 1) q))
    c.deref-then-place-serial.ensures.value c.first_from-then-place-serial.ensures in
    simple_decided c.args.nest.now c.args.s.now c.len-serial.result c.in-Some.place is first c.first_from-then-place-serial.result c.is_none.result c.is_none.ensures
    (subst (λ (n : ℕ). c.in-Some.place - c.len-serial.result < n) loops c.if-place-serial.true) rest
