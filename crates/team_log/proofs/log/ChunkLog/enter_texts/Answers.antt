use Rattle.std.proofs.Common.{ℕ, List, map, sym, ap, ◌∙◌, Bor}
use Rattle.reduce.specs.Partial.{partial_of}
use Rattle.team_log.specs.Logged.{Account}
use Rattle.team_log.specs.Printed.{entered, entered_from}
use Rattle.team_log.proofs.Texts.{logged_enter}
use Rattle.team_log.proofs.log.ChunkLog.enter_texts.Goals as goal

pub returns : goal.returns
returns c =
    let own = c.self.inside in
    let texts = map (λ (t : Bor (List ℕ)). t.now) c.args.texts.now in
    c.enter_each.ensures
    ∙ (λ i. entered_from (c.as_slice.ensures i) (c.as_slice-2.ensures.value i) texts)
    ∙ sym (logged_enter own.ended.items own.changes (map partial_of own.partials.items) own.text.items texts)
    ∙ ap (λ (a : Account). entered a.chunks texts) c.self.view_is
