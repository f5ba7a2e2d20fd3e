-- What a refusal of the dependence test promises. (OpenMP 5.2, 1.4.1 and 15.9.6; C11 5.1.2.4, 4)
use Rattle.std.specs.Prelude.{ℕ, ◌≡◌, ◌⊎◌, List, []}
use Rattle.semantics.specs.Tree.{Kernel}
use Rattle.ktree.specs.declared.refusal.Refusal.{Refusal}
use Rattle.ktree.specs.declared.refusal.Refusal.TheVariants.{OutOfMemory}
use Rattle.deptest_verdict.specs.Refused.{IsRefused}
use Rattle.law_independence.specs.Said.{sinks_in}
use Rattle.law_independence.specs.Parallel.{FirstItemHasBy}
use Rattle.law_doacross.specs.Covering.{OrderedBy}
use Rattle.law_doacross.specs.Telling.{ToldBy}
use Rattle.deptest.specs.Accepted.{HasPassed, inside_passed}

-- memory ran out; or K19, K20 or K21 is told of the first parallel loop that is not shown to be independent or ordered by its sinks, and those before it are so
abbrev pub TellsOfFirst : {text : List ℕ} {k : Kernel} → HasPassed text k → Refusal → Type 0
TellsOfFirst {text} {k} passed r = (r ≡ OutOfMemory) ⊎ FirstItemHasBy text (OrderedBy (inside_passed passed)) (ToldBy k.variables (inside_passed passed) r) [] k.body

-- a kernel has passed, that loop is refused by its first pair, and what is told of it is so
abbrev pub RefusesLoops : List ℕ → Kernel → Refusal → Type 0
RefusesLoops text k r = (passed : HasPassed text k) × IsRefused text (sinks_in (inside_passed passed)) k r × TellsOfFirst passed r
