-- The facts of a kernel's loops, in the order of the text. (OpenMP 5.2, 4.4.1 and 4.4.2)
use Rattle.std.specs.Prelude.{ℕ, zero, suc, ◌*◌, ◌≡◌, List, [], ◌∷◌, ◌++◌}
use Rattle.semantics.specs.Tree.{Kernel}
use Rattle.nest_loop.specs.declared.entered.LoopFacts.{LoopFacts}
use Rattle.nest_loop.specs.Facts.{FactsAmong}

-- the facts of each loop of a kernel
abbrev pub HasFacts : Kernel → List LoopFacts → Type 0
HasFacts k facts = FactsAmong [] k.body facts []

-- how often the first n of some loops turn at most, multiplied
abbrev pub product_of : ℕ → List LoopFacts → ℕ
product_of zero facts = 1
product_of (suc n) [] = 1
product_of (suc n) (f ∷ facts) = f.trip_count * product_of n facts

-- facts were put behind others, and stand in front of any rest
abbrev pub Pushes : (List LoopFacts → List LoopFacts → Type 0) → List LoopFacts → List LoopFacts → Type 0
Pushes Facts before after = (more : List LoopFacts) × (after ≡ before ++ more) × ((rest : List LoopFacts) → Facts (more ++ rest) rest)
