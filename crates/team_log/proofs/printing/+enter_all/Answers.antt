use Rattle.std.proofs.Common.{◌≡◌, ℕ, List, ◌∷◌, map, sym, ap, ◌∙◌, Bor, rules}
use Rattle.team_log.specs.Logged.{Account, joined}
use Rattle.team_log.specs.Printed.{entered}
use Rattle.team_log.specs.Logged.{Leaving}
use Rattle.team_log.proofs.Entering.{entered_both}
use Rattle.team_log.proofs.printing.+enter_all.Goals as goal

pub returns : goal.returns
returns t c =
    let log = c.in-Some.log.now in
    let rest = c.in-Some.rest.now in
    let texts = map (λ (t : Bor (List ℕ)). t.now) c.args.texts.now in
    let whole : c.args.logs.now ≡ log ∷ rest = search rules in
    c.enter_all.ensures
    ∙ ap (entered (joined rest).chunks) c.enter_texts.ensures
    ∙ sym (entered_both (λ (c : Leaving). c.text) log.chunks (joined rest).chunks texts)
    ∙ ap (λ (ls : List Account). entered (joined ls).chunks texts) (sym whole)
