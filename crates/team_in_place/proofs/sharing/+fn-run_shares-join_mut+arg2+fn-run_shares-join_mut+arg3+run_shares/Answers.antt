-- The shares of the first workers and those of the others are all.
use Rattle.std.proofs.Common.{◌≡◌, ◌+◌, ◌-◌, ◌*◌, ◌<◌, ◌++◌, length, ◌∙◌, ap, subst, arith, rules}
use Rattle.std.proofs.Math.Nat.{mul-add}
use Rattle.std.proofs.iter.Serving.{serving}
use Rattle.team_parts.specs.Placed.{IsPartDone}
use Rattle.team_parts.proofs.Blocks.{parts_join}
use Rattle.team_in_place.proofs.sharing.+fn-run_shares-join_mut+arg2+fn-run_shares-join_mut+arg3+run_shares.Goals as goal

pub join_mut-done-requires-after_bounds : goal.join_mut-done-requires-after_bounds
join_mut-done-requires-after_bounds g t c κs within =
    let w = c.args.team.now.shared.window.width in
    let some = c.turns_before-some.result in
    let rest = c.args.count - some in
    let all : c.args.count ≡ some + rest = omega (arith, c.turns_before-some.ensures.within) in
    let both : w * c.args.count ≡ w * some + w * rest = ap (λ n. w * n) all ∙ mul-add w some rest in
    let back : length c.split_at_mut-front.result.1.now ≡ w * rest = omega (arith, both, c.split_at_mut-front.ensures.back_len, c.requires.own, c.cells_of.ensures) in
    grind serving

pub returns : goal.returns
returns g t c =
    let s = c.args.team.now.shared in
    let from = c.args.from in
    let some = c.turns_before-some.result in
    let rest = c.args.count - some in
    let front = c.split_at_mut-front.result.0.now in
    let back = c.split_at_mut-front.result.1.now in
    let all : some + rest ≡ c.args.count = omega (arith, c.turns_before-some.ensures.within) in
    let more : 0 < rest = omega (arith, c.turns_before-some.ensures.within) in
    let long : length front ≡ s.window.width * some = search rules in
    let whole : front ++ back ≡ c.args.own.now = search rules in
    let first : IsPartDone s from some front c.front-1.given.0 c.in_ok-done.field-0.items = search rules in
    let second : IsPartDone s (from + some) rest back c.back-1.given.0 c.in_ok-registers.registers.items = search rules in
    subst (λ xs. IsPartDone s from c.args.count xs (c.front-1.given.0 ++ c.back-1.given.0) c.in_ok-registers.registers.items) whole
    (subst (λ n. IsPartDone s from n (front ++ back) (c.front-1.given.0 ++ c.back-1.given.0) c.in_ok-registers.registers.items) all
    (parts_join s from some rest front back c.front-1.given.0 c.back-1.given.0 c.in_ok-done.field-0.items c.in_ok-registers.registers.items long more first second))
