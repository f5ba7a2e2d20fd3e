-- The chunks of a second pass, each from its own start. (OpenMP 5.2, 5.6)
use Rattle.std.specs.Prelude.{List, [], ◌∷◌, Option}
use Rattle.semantics.specs.Tree.{Stmt}
use Rattle.semantics.specs.Meaning.State.{State}
use Rattle.semantics.specs.Meaning.Runs.{Effect}
use Rattle.semantics.specs.Loops.Nest.{Loop, Vector}
use Rattle.law_nests.specs.Walks.{walk}

-- chunks, each from its own state
abbrev pub walks_from : List Loop → Stmt → List State → List (List Vector) → List (Option Effect)
walks_from loops body (t ∷ starts) (us ∷ chunks) = walk loops body us t ∷ walks_from loops body starts chunks
walks_from loops body _ _ = []
