use Rattle.std.proofs.lemmas.Result.{IfOk-weaker}
use Rattle.team_log.proofs.Texts.{all_same}
use Rattle.team_log.proofs.printing.copies_of.Goals as goal

pub returns : goal.returns
returns c =
    IfOk-weaker c.from_elem.result _ _ (λ v f. all_same c.args.text v.items c.args.count (f (λ y is. is))) c.from_elem.ensures.items_if_clones_equal
