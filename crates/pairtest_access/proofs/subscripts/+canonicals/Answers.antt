use Rattle.std.proofs.Common.{rules}
use Rattle.pairtest_access.proofs.Copies.{first_last}
use Rattle.pairtest_access.proofs.subscripts.+canonicals.Goals as goal

pub returns-clause-ok : goal.returns-clause-ok
returns-clause-ok t c =
    let level = c.in-Some.level.now in
    first_last c.args.levels.now level c.in-Some.outer.now c.in_ok-found.found.items c.push.new.self.items c.in_ok-copy_of.field-0 (search rules) (search rules) (search rules) c.in_ok-copy_of.ensures.ok
