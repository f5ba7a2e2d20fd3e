use Rattle.std.proofs.Common.{ℕ, List, ◌++◌, sym, ap, ◌∙◌, append-nil}
use Rattle.team_log.specs.Logged.{joined}
use Rattle.team_log.proofs.Texts.{silent_text}
use Rattle.team_log.proofs.printing.put_texts.Goals as goal

pub returns-then-are_silent-clause-all : goal.returns-then-are_silent-clause-all
returns-then-are_silent-clause-all g c =
    let told = g.S.Sink.told c.args.sink.now in
    let nothing = silent_text c.args.count (joined c.args.logs.now).chunks (c.are_silent.ensures c.if-are_silent.true) in
    sym (ap (λ (text : List ℕ). told ++ text) nothing ∙ append-nil told)
