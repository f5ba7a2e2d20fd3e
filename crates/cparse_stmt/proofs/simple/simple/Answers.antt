use Rattle.std.proofs.Common.{rules}
use Rattle.ktree.specs.View.{stmt_of}
use Rattle.cparse_stmt.proofs.simple.simple.Goals as goal

pub returns-in_ok-statement : goal.returns-in_ok-statement
returns-in_ok-statement c = let ended = c.end_statement.ensures stmt_of in search rules

pub returns-in_ok-statement-2 : goal.returns-in_ok-statement-2
returns-in_ok-statement-2 c = let ended = c.end_statement-else-eq.ensures stmt_of in search rules
