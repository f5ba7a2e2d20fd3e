-- What the words of a command line ask for.
use Rattle.std.specs.Prelude.{ℕ, true, false, ◌≡◌, ◌≤◌, List, [], ◌∷◌, Some, option_map, codes, IsSomeAnd, Result, Ok, Err}
use Rattle.semantics.specs.Source.Cuts.{is_decimal, decimal_from}
use Rattle.clap.specs.Words.{App, Row, Rule, Shape, Text, fault_of, first_of, new_rule, subcommand_of}
use Rattle.clap.specs.Simple.{new_shape}
use Rattle.schedule.specs.Sched.{kind_of}
use Rattle.ompk_command.specs.Schedules.{IsNamed}
use Rattle.ompk_command.specs.declared.order.Order.{Order}
use Rattle.ompk_command.specs.declared.order.Order.TheVariants.{Check, Lower, Run, Seq}

-- `F`, which has to be given
abbrev pub file : Rule
file = record (new_rule (codes "file")) { required = true; value_names = 1 }

-- `[--input I]`
abbrev pub input : Rule
input = record (new_rule (codes "input")) { long = Some (codes "input"); value_names = 1 }

-- `[--workers N]`, without it 4
abbrev pub workers : Rule
workers = record (new_rule (codes "workers")) {
  long = Some (codes "workers");
  value_names = 1;
  defaults = codes "4" ∷ [];
}

-- `[--schedule KIND[,K]]`, without it static
abbrev pub schedule : Rule
schedule = record (new_rule (codes "schedule")) {
  long = Some (codes "schedule");
  value_names = 1;
  defaults = codes "static" ∷ [];
}

-- a command with these arguments
abbrev pub taking : Text → List Rule → Shape
taking name rules = record (new_shape name) { rules = rules }

-- `check F`, `lower F`, `run F [--input I] [--workers N] [--schedule KIND[,K]]` and `seq F [--input I]`
abbrev pub check : Shape
check = taking (codes "check") (file ∷ [])

abbrev pub lower : Shape
lower = taking (codes "lower") (file ∷ [])

abbrev pub run : Shape
run = taking (codes "run") (file ∷ input ∷ workers ∷ schedule ∷ [])

abbrev pub seq : Shape
seq = taking (codes "seq") (file ∷ input ∷ [])

-- a command with no subcommands
abbrev pub alone : Shape → App
alone shape = record { top = shape; subs = [] }

-- `ompk`, without its subcommands
abbrev pub program : App
program = alone (record (new_shape (codes "ompk")) { subcommand_required = true })

-- `ompk` with one of these
abbrev pub command_line : App
command_line = record {
  top = record (new_shape (codes "ompk")) { is_leaf = false; subcommand_required = true };
  subs = check ∷ lower ∷ run ∷ seq ∷ [];
}

-- the word is a number of workers, 1 to 64, in decimal digits without leading zeros
abbrev pub IsCount : Text → ℕ → Type 0
IsCount word count = (is_decimal word ≡ true) × (decimal_from 0 word ≡ count) × (1 ≤ count) × (count ≤ 64)

-- a subcommand, by its name and what stands under the ids of its arguments, is this order
abbrev pub IsReadFrom : Text × List Row → Order → Type 0
IsReadFrom met (Check file) = (met.0 ≡ codes "check") × (first_of (codes "file") met.1 ≡ Some file.now)
IsReadFrom met (Lower file) = (met.0 ≡ codes "lower") × (first_of (codes "file") met.1 ≡ Some file.now)
IsReadFrom met (Run file input workers sched) = (met.0 ≡ codes "run") × (first_of (codes "file") met.1 ≡ Some file.now)
    × (first_of (codes "input") met.1 ≡ option_map (λ name. name.now) input)
    × IsSomeAnd (first_of (codes "workers") met.1) (λ word. IsCount word workers)
    × IsSomeAnd (first_of (codes "schedule") met.1) (λ word. IsNamed word (kind_of sched))
IsReadFrom met (Seq file input) = (met.0 ≡ codes "seq") × (first_of (codes "file") met.1 ≡ Some file.now)
    × (first_of (codes "input") met.1 ≡ option_map (λ name. name.now) input)

-- it is so of the order, and where there is none it is so of no order
abbrev pub Decides : {E : Type 0} → (Order → Type 0) → Result Order E → Type 0
Decides IsSo (Ok order) = IsSo order
Decides IsSo (Err e) = (order : Order) → IsSo order → ⊥

-- the words, the program's own name first, have nothing wrong in them, are no call for help, and ask for this order
abbrev pub AskFor : List Text → Order → Type 0
AskFor words order = (fault_of command_line words ≡ []) × IsSomeAnd (subcommand_of command_line words) (λ met. IsReadFrom met order)
