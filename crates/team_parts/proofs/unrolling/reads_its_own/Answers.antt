use Rattle.std.proofs.Common.{◌∙◌, sym}
use Rattle.team_parts.specs.Turned.{nested_in}
use Rattle.team_parts.proofs.Onces.{own_seen}
use Rattle.team_parts.proofs.unrolling.reads_its_own.Goals as goal

-- src/unrolling.rt
pub returns : goal.returns
returns c own =
    own_seen 64 c.args.nest.now.variable.at (nested_in c.args.nest.now) c.deref.result.now (c.deref.ensures.value ∙ c.in_ok-once.ensures) (sym c.are_laned.ensures ∙ own)
