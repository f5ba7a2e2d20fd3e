use Rattle.std.proofs.Common.{refl, ◌+◌}
use Rattle.listing.proofs.Printed.{fork_added}
use Rattle.listing.proofs.regions.add_fork.Goals as goal

pub returns-clause-added : goal.returns-clause-added
returns-clause-added c = fork_added c.args.before (c.args.before.regions + 1) c.args.text.now.items _ refl c.in_ok-add_line.ensures.added
