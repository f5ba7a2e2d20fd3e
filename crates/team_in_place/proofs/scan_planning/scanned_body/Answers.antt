-- What the loop knows of its recurrence.
use Rattle.std.proofs.Common.{rules}
use Rattle.team_in_place.proofs.scan_planning.scanned_body.Goals as goal

pub returns-in-Scans : goal.returns-in-Scans
returns-in-Scans c = (search rules, search rules, (c.args.counted.now.recurs c.in-Some.recurrence c.in-Some.is).steady)
