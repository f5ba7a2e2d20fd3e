-- What an accepted kernel writes, and what a run is refused for.
use Rattle.std.specs.Prelude.{ℕ, ◌≡◌, ◌<◌, List}
use Rattle.semantics.specs.Tree.{Kernel}
use Rattle.semantics.specs.Meaning.Output.{Given, IsInput, Outputs}
use Rattle.ktree.specs.Numbers.{number_of}
use Rattle.ktree.specs.declared.refusal.Refusal.{Refusal}
use Rattle.ktree.specs.declared.refusal.Refusal.TheVariants.{Input}
use Rattle.seqrun_io.specs.Reading.{IsFirstFault}
use Rattle.deptest.specs.Accepted.{Program, tree_of, IsAccepted}

-- a faulty input is named by its first faulty line, and that line's first cause
abbrev pub NamesTheFault : Kernel → List ℕ → Refusal → Type 0
NamesTheFault tree input (Input f) = IsFirstFault tree.variables input f
NamesTheFault tree input _ = Unit {0}

-- where the sink failed during the call, that is told
abbrev pub NamesTheOutput : ℕ → ℕ → Refusal → Type 0
NamesTheOutput failed failed' refusal = failed < failed' → number_of refusal ≡ 24

-- from each good input an accepted text writes something, and nothing else
abbrev pub RunsOfAccepted : Type 0
RunsOfAccepted =
    (a : Program) (input : List ℕ) (given : Given) → IsAccepted a → IsInput (tree_of a).variables input given
    → (out : List ℕ) × Outputs (tree_of a) input out × ((other : List ℕ) → Outputs (tree_of a) input other → other ≡ out)
