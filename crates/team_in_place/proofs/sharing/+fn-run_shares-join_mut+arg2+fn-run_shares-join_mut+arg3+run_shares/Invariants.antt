use Rattle.team_in_place.proofs.sharing.+fn-run_shares-join_mut+arg2+fn-run_shares-join_mut+arg3+run_shares.Given as goal

abbrev pub decreases-join_mut+arg2 : goal.decreases-join_mut+arg2
decreases-join_mut+arg2 g l = l.shares

abbrev pub decreases-join_mut+arg3 : goal.decreases-join_mut+arg3
decreases-join_mut+arg3 g l = l.others

abbrev pub decreases-run_shares : goal.decreases-run_shares
decreases-run_shares g l = l.number
