use Rattle.std.specs.Prelude.{◌≡◌, ◌++◌, drop}
use Rattle.semantics.specs.Meaning.Agrees.{declared_among}
use Rattle.ktree.specs.View.{items_of}
use Rattle.flow.specs.Parallel.{numbers}
use Rattle.flow.proofs.environment.+adding.Given as goal

-- with what is left to declare it is all
abbrev pub invariant-add_declared_among-loop-item : goal.invariant-add_declared_among-loop-item
invariant-add_declared_among-loop-item l =
    numbers l.variables.items ++ declared_among (items_of (drop l.item-index l.items)) ≡ numbers l.fn.variables.items ++ declared_among (items_of l.items)
