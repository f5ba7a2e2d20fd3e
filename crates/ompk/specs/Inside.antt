-- Accesses that stay inside their arrays at the turns of the loops round them. (C11 6.5.6, 8; OpenMP 5.2, 4.4.2)
use Rattle.std.specs.Prelude.{◌≡◌, List, [], Contains, Some}
use Rattle.semantics.specs.Tree.{Kernel}
use Rattle.semantics.specs.Meaning.State.{State}
use Rattle.semantics.specs.Loops.Nest.{Vector, iterations, at_vector}
use Rattle.semantics.specs.Loops.Access.{Access, items_accesses}
use Rattle.law_ranges.specs.Laws.{IsWithin}

-- each element access of a tree has indexes within its array's lengths at each turn of the loops round it, guards ignored, whatever the state before these loops is
abbrev pub AccessesStayWithin : Kernel → Type 0
AccessesStayWithin tree =
    (access : Access) (s : State) (turns : List Vector) (u : Vector) → Contains (items_accesses [] tree.body) access → iterations access.inner s ≡ Some turns
    → Contains turns u → IsWithin tree.variables access (at_vector access.inner u s)
