-- What a word names.
use Rattle.std.proofs.Common.{ℕ, List, codes}
use Rattle.schedule.specs.Sched.{kind_of}
use Rattle.schedule.specs.declared.sched.Sched.{Sched}
use Rattle.schedule.specs.declared.sched.Sched.TheVariants.{PlainStatic, Static, Dynamic, Guided}
use Rattle.ompk_command.specs.Schedules.{IsNamedInFull, IsSized}

-- a word with no size behind a kind
pub no_size : (word : List ℕ) → ((size : ℕ) → IsSized (codes "static,") word size → ⊥) → ((size : ℕ) → IsSized (codes "dynamic,") word size → ⊥)
    → ((size : ℕ) → IsSized (codes "guided,") word size → ⊥) → (sched : Sched) → IsNamedInFull word (kind_of sched) → ⊥
no_size word static dynamic guided PlainStatic is = is
no_size word static dynamic guided (Static size) is = static size is
no_size word static dynamic guided (Dynamic size) is = dynamic size is
no_size word static dynamic guided (Guided size) is = guided size is
