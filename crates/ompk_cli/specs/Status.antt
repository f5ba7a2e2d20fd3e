-- The exit statuses of faults.
use Rattle.std.specs.Prelude.{ℕ, ◌≡◌}
use Rattle.ktree.specs.Numbers.{number_of}
use Rattle.ompk_message.specs.Message.{status_of}
use Rattle.ompk_cli.specs.declared.fault.Fault.{Fault}
use Rattle.ompk_cli.specs.declared.fault.Fault.TheVariants.{Refused, Unread, Usage, NoText}

-- that of the refusal; 1 for a file that is not read; 2 for a command line that is no text; help ends with 0, or as its output does, and other usage with 2
abbrev pub HasStatus : Fault → ℕ → Type 0
HasStatus (Refused refusal) status = status ≡ status_of (number_of refusal)
HasStatus (Unread name) status = status ≡ 1
HasStatus (Usage error) status = Unit {0}
HasStatus NoText status = status ≡ 2
