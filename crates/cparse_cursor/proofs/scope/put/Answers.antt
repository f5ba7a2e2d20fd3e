use Rattle.std.proofs.Common.{Some}
use Rattle.cparse_cursor.proofs.NameLemmas.{set_at}
use Rattle.cparse_cursor.proofs.scope.put.Goals as goal

pub returns-clause-ok : goal.returns-clause-ok
returns-clause-ok c = set_at c.args.latest.now c.insert.new.self (Some c.args.entity) c.args.name c.in_ok-insert.ensures.updates
