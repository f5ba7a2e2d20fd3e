use Rattle.std.proofs.Common.{◌≡◌, length, map, subst, rules}
use Rattle.reduce.specs.Partial.{partial_of}
use Rattle.team_log.specs.Logged.{Account}
use Rattle.team_log.specs.Printed.{AreSilent}
use Rattle.team_log.proofs.Texts.{silent_logged}
use Rattle.team_log.proofs.log.ChunkLog.is_silent.Goals as goal

pub returns : goal.returns
returns c = λ is.
    let own = c.self.inside in
    let none : length own.text.items ≡ 0 = search rules in
    subst (λ (a : Account). AreSilent a.chunks) c.self.view_is (silent_logged own.ended.items own.changes (map partial_of own.partials.items) own.text.items none)
