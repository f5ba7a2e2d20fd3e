-- Cells that the workers of a loop overwrite.
use Rattle.std.specs.Prelude.{ℕ, List}
use Rattle.team_log.specs.Applied.{AreApplied}
use Rattle.team_worker.specs.Ends.{IsAccount, AreAll}
use Rattle.team_log.specs.Logged.{Account}
use Rattle.team_worker.specs.Places.{Aim}

-- the changes of the chunks of these numbers, of the loop that a place is made for, make the later cells of the earlier ones
pub record AreOverwrittenBy (a : Aim) (numbers before after : List ℕ) : Type 0 where
  pub account : Account
  pub of : IsAccount a.lowered a.registers a.store a.pass a.chunks numbers account
  pub applied : AreApplied before after account.chunks

-- those of all its chunks do, each once
pub record AreOverwrittenByAll (a : Aim) (before after : List ℕ) : Type 0 where
  pub account : Account
  pub all : AreAll a.lowered a.registers a.store a.pass a.chunks account
  pub applied : AreApplied before after account.chunks
