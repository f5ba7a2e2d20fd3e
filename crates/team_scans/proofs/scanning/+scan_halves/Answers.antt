-- One half behind the other is the whole.
use Rattle.std.proofs.Common.{◌≡◌, ◌+◌, ◌-◌, ◌*◌, ◌/◌, ◌<◌, ◌≤◌, length, ◌∙◌, ap, arith, rules, ◌++◌, subst}
use Rattle.std.specs.Prelude.{slice_index}
use Rattle.std.proofs.Math.Nat.{mul-add}
use Rattle.team_scans.specs.Placed.{IsPartDone}
use Rattle.team_scans.proofs.Blocks.{cells_done, parts_join}
use Rattle.team_scans.proofs.scanning.+scan_halves.Goals as goal

-- src/scanning.rt
pub scan_halves-requires-2 : goal.scan_halves-requires-2
scan_halves-requires-2 t c =
    let w = c.args.prefixes.window.width in
    let half = c.args.count / 2 in
    let rest = c.args.count - half in
    let many = c.if-count-le16384.false in
    let all : c.args.count ≡ half + rest = omega arith in
    let both : w * c.args.count ≡ w * half + w * rest = ap (λ n. w * n) all ∙ mul-add w half rest in
    let first : rest < t = omega (arith, c.decreases, many) in
    let second : c.args.from + half + rest ≤ c.args.prefixes.count = omega (arith, all, c.requires.within) in
    let front : length c.split_at_mut-front.result.1.now ≡ w * rest = omega (arith, both, c.split_at_mut-front.ensures.back_len, c.requires.own, c.cells_of.ensures) in
    (first, (second, front))

pub returns : goal.returns
returns t c =
    let s = c.args.prefixes in
    let from = c.args.from in
    let half = c.args.count / 2 in
    let rest = c.args.count - half in
    let front = c.split_at_mut-front.result.0.now in
    let back = c.split_at_mut-front.result.1.now in
    let many = c.if-count-le16384.false in
    let all : half + rest ≡ c.args.count = omega arith in
    let ahead : 0 < half = omega (arith, many) in
    let some : 0 < rest = omega (arith, many) in
    let long : length front ≡ s.window.width * half = search rules in
    let whole : front ++ back ≡ c.args.own.now = search rules in
    let goes_on : c.register_value-carried.result ≡ slice_index c.scan_halves.new.tools s.scanned.target.at = search rules in
    let done : IsPartDone s c.args.start from (half + rest) (front ++ back) (c.scan_halves.new.own ++ c.scan_halves-2.new.own) c.scan_halves-2.new.tools
    = parts_join s c.args.start c.register_value-carried.result from half rest front back c.scan_halves.new.own c.scan_halves-2.new.own c.scan_halves-2.new.tools long some
    (cells_done s c.args.start c.register_value-carried.result from half front c.scan_halves.new.own c.scan_halves.new.tools ahead goes_on c.in_ok-scan_halves.ensures) c.in_ok-scan_halves-2.ensures in
    subst (λ xs. IsPartDone s c.args.start from c.args.count xs (c.scan_halves.new.own ++ c.scan_halves-2.new.own) c.scan_halves-2.new.tools) whole
    (subst (λ n. IsPartDone s c.args.start from n (front ++ back) (c.scan_halves.new.own ++ c.scan_halves-2.new.own) c.scan_halves-2.new.tools) all done)
