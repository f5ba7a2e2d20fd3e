-- One half behind the other is the whole.
use Rattle.std.proofs.Common.{◌≡◌, ◌+◌, ◌-◌, ◌*◌, ◌/◌, ◌<◌, ◌≤◌, length, ◌∙◌, ap, arith, rules, ◌++◌, subst}
use Rattle.std.proofs.Math.Nat.{mul-add}
use Rattle.team_parts.specs.Placed.{IsPartDone}
use Rattle.team_parts.proofs.Blocks.{parts_join}
use Rattle.team_parts.proofs.Turns.{some_at_once}
use Rattle.team_parts.proofs.block.+run_part.Goals as goal

-- src/block.rt
pub run_part-requires-2 : goal.run_part-requires-2
run_part-requires-2 t c =
    let w = c.args.shared.window.width in
    let once = some_at_once c.args.shared.turned in
    let half = c.args.count / 2 in
    let rest = c.args.count - half in
    let all : c.args.count ≡ half + rest = omega arith in
    let both : w * c.args.count ≡ w * half + w * rest = ap (λ n. w * n) all ∙ mul-add w half rest in
    let first : rest < t = omega (arith, c.decreases, once, c.most.ensures) in
    let second : c.args.from + half + rest ≤ c.args.shared.count = omega (arith, all, c.requires.within) in
    let front : length c.split_at_mut-front.result.1.now ≡ w * rest = omega (arith, both, c.split_at_mut-front.ensures.back_len, c.requires.own, c.cells_of.ensures) in
    (first, (second, front))

pub returns : goal.returns
returns t c =
    let s = c.args.shared in
    let from = c.args.from in
    let half = c.args.count / 2 in
    let rest = c.args.count - half in
    let front = c.split_at_mut-front.result.0.now in
    let back = c.split_at_mut-front.result.1.now in
    let all : half + rest ≡ c.args.count = omega arith in
    let some : 0 < rest = omega arith in
    let long : length front ≡ s.window.width * half = search rules in
    let whole : front ++ back ≡ c.args.own.now = search rules in
    let done : IsPartDone s from (half + rest) (front ++ back) (c.run_part.new.own ++ c.run_part-2.new.own) c.run_part-2.new.tools
    = parts_join s from half rest front back c.run_part.new.own c.run_part-2.new.own c.run_part.new.tools c.run_part-2.new.tools long some c.in_ok-run_part.ensures c.in_ok-run_part-2.ensures in
    subst (λ xs. IsPartDone s from c.args.count xs (c.run_part.new.own ++ c.run_part-2.new.own) c.run_part-2.new.tools) whole
    (subst (λ n. IsPartDone s from n (front ++ back) (c.run_part.new.own ++ c.run_part-2.new.own) c.run_part-2.new.tools) all done)
