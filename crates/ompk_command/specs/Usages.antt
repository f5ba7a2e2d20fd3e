-- Why the words of a command line are no order.
use Rattle.std.specs.Prelude.{◌≡◌}
use Rattle.clap.specs.Values.{kind_of}
use Rattle.clap.specs.declared.error.kind.ErrorKind.TheVariants as kind
use Rattle.ompk_command.specs.declared.usage.Usage.{Usage}
use Rattle.ompk_command.specs.declared.usage.Usage.TheVariants.{Told, OutOfMemory}

-- what is told is never that memory was refused
abbrev pub IsTold : Usage → Type 0
IsTold (Told e) = kind_of e ≡ kind.OutOfMemory → ⊥
IsTold OutOfMemory = Unit {0}
