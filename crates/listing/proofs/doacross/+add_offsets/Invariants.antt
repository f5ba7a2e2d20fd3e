use Rattle.std.proofs.Common.{length}
use Rattle.listing.proofs.doacross.+add_offsets.Given as goal

abbrev pub decreases-add_offsets : goal.decreases-add_offsets
decreases-add_offsets l = length l.offsets.now
