use Rattle.team_log.proofs.Texts.{put_at}
use Rattle.team_log.proofs.log.enter.Goals as goal

pub returns-then-number-texts : goal.returns-then-number-texts
returns-then-number-texts c = put_at c.args.texts.now c.args.number.0 c.args.text
