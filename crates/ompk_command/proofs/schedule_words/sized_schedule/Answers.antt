use Rattle.ompk_command.proofs.Words.{no_size}
use Rattle.ompk_command.proofs.schedule_words.sized_schedule.Goals as goal

pub returns : goal.returns
returns c = no_size c.args.word.now c.in_default.ensures c.in_default-size_behind.ensures c.in_default-size_behind-2.ensures
