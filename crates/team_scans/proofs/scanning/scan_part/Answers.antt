-- All turns but the last, and the last one behind them, are the whole.
use Rattle.std.proofs.Common.{◌≡◌, ◌+◌, ◌-◌, ◌*◌, ◌<◌, length, ◌∙◌, ap, arith, rules, ◌++◌, subst}
use Rattle.std.proofs.Math.Nat.{mul-add}
use Rattle.team_scans.specs.Placed.{IsPartDone}
use Rattle.team_scans.proofs.Blocks.{parts_join}
use Rattle.team_scans.proofs.scanning.scan_part.Goals as goal

-- src/scanning.rt
pub scan_block-requires-clause-own : goal.scan_block-requires-clause-own
scan_block-requires-clause-own c =
    let w = c.args.prefixes.window.width in
    let ahead = c.args.count - 1 in
    let all : c.args.count ≡ ahead + 1 = let some = c.if-count-eq0.false in omega (arith, some) in
    let both : w * c.args.count ≡ w * ahead + w * 1 = ap (λ n. w * n) all ∙ mul-add w ahead 1 in
    omega (arith, both, c.requires.own, c.cells_of.ensures, c.split_at_mut-front.ensures.back_len)

pub returns : goal.returns
returns c =
    let s = c.args.prefixes in
    let from = c.args.from in
    let ahead = c.args.count - 1 in
    let front = c.split_at_mut-front.result.0.now in
    let back = c.split_at_mut-front.result.1.now in
    let all : ahead + 1 ≡ c.args.count = let some = c.if-count-eq0.false in omega (arith, some) in
    let long : length front ≡ s.window.width * ahead = search rules in
    let whole : front ++ back ≡ c.args.own.now = search rules in
    let done : IsPartDone s c.args.start from (ahead + 1) (front ++ back) (c.scan_straight.new.own ++ c.scan_block.new.own) c.scan_block.new.tools
    = parts_join s c.args.start c.in-Some.carried from ahead 1 front back c.scan_straight.new.own c.scan_block.new.own c.scan_block.new.tools long (omega arith) c.in-Some.ensures.done c.in_ok-scan_block.ensures in
    subst (λ xs. IsPartDone s c.args.start from c.args.count xs (c.scan_straight.new.own ++ c.scan_block.new.own) c.scan_block.new.tools) whole
    (subst (λ n. IsPartDone s c.args.start from n (front ++ back) (c.scan_straight.new.own ++ c.scan_block.new.own) c.scan_block.new.tools) all done)
