use Rattle.std.proofs.Common.{◌≡◌, unsigned_abs, rules}
use Rattle.std.proofs.lemmas.Int.{ints}
use Rattle.pairtest.proofs.Summaries.{is_multiple, is_multiple_of_0}
use Rattle.pairtest.proofs.reach.divides.Goals as goal

pub returns-then-divisor-eq0 : goal.returns-then-divisor-eq0
returns-then-divisor-eq0 c =
    let size : c.unsigned_abs-size.result ≡ unsigned_abs c.args.number = search (rules, ints) in
    is_multiple_of_0 _ _ _ c.if-divisor-eq0.true size

pub returns-else-divisor-eq0 : goal.returns-else-divisor-eq0
returns-else-divisor-eq0 c =
    let size : c.unsigned_abs-size.result ≡ unsigned_abs c.args.number = search (rules, ints) in
    is_multiple _ _ _ _ c.from.ensures size
