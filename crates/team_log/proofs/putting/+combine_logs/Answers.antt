use Rattle.std.proofs.Common.{◌≡◌, List, ◌∷◌, sym, ap, ◌∙◌, rules}
use Rattle.ktree.specs.DirectiveView.{operator_of}
use Rattle.semantics.specs.Loops.Operator.{combined_all}
use Rattle.team_log.specs.Logged.{Account, joined}
use Rattle.team_log.specs.Spots.{told_of}
use Rattle.team_log.proofs.Combining.{combined_more}
use Rattle.team_log.proofs.putting.+combine_logs.Goals as goal

pub returns : goal.returns
returns t c =
    let log = c.in-Some.log.now in
    let rest = c.in-Some.rest.now in
    let op = operator_of c.args.operator in
    let whole : c.args.logs.now ≡ log ∷ rest = search rules in
    c.combine_logs.ensures
    ∙ ap (λ v. combined_all op v (told_of c.args.index (joined rest).chunks)) c.combine.ensures
    ∙ combined_more op c.args.value c.args.index log rest
    ∙ ap (λ (ls : List Account). combined_all op c.args.value (told_of c.args.index (joined ls).chunks)) (sym whole)
