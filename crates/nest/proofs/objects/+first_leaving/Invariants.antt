use Rattle.std.proofs.Common.{length}
use Rattle.nest.proofs.objects.+first_leaving.Given as goal

abbrev pub decreases-first_leaving : goal.decreases-first_leaving
decreases-first_leaving l = length l.lengths.now
