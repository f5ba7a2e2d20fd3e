use Rattle.pairtest.proofs.Solutions.{refuted_pairs_do_not_meet_lem}
use Rattle.pairtest.proofs.laws.refuted_pairs_do_not_meet.Goals as goal

pub returns : goal.returns
returns c = refuted_pairs_do_not_meet_lem
