use Rattle.team_in_place.proofs.scan_sharing.+fn-scan_shares-join_mut+arg2+fn-scan_shares-join_mut+arg3+scan_shares.Given as goal

abbrev pub decreases-join_mut+arg2 : goal.decreases-join_mut+arg2
decreases-join_mut+arg2 g l = l.shares

abbrev pub decreases-join_mut+arg3 : goal.decreases-join_mut+arg3
decreases-join_mut+arg3 g l = l.others

abbrev pub decreases-scan_shares : goal.decreases-scan_shares
decreases-scan_shares g l = l.number
