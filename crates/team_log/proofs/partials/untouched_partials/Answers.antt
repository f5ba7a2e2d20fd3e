use Rattle.std.proofs.lemmas.Result.{IfOk-weaker}
use Rattle.team_log.proofs.Combining.{all_untouched}
use Rattle.team_log.proofs.partials.untouched_partials.Goals as goal

pub returns : goal.returns
returns c = IfOk-weaker c.from_elem.result _ _ (λ v f. all_untouched v.items c.args.count (f (λ y is. is))) c.from_elem.ensures.items_if_clones_equal
