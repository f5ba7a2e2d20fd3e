use Rattle.team_in_place.proofs.scan_sharing.+add_shares+fn-add_shares-join_mut+arg2+fn-add_shares-join_mut+arg3.Given as goal

abbrev pub decreases-add_shares : goal.decreases-add_shares
decreases-add_shares g l = l.number

abbrev pub decreases-join_mut+arg2 : goal.decreases-join_mut+arg2
decreases-join_mut+arg2 g l = l.shares

abbrev pub decreases-join_mut+arg3 : goal.decreases-join_mut+arg3
decreases-join_mut+arg3 g l = l.others
