-- The parallel loops of an accepted kernel: those that are no doacross nests in chunks or in two passes, and these wave by wave at each turn of the serial loops round them. (OpenMP 5.2, 1.4.1, 5.4.3, 5.6, 11.5, 15.9.6 and 15.10.1)
use Rattle.std.specs.Prelude.{ℕ, true, ◌≡◌, List, [], Some}
use Rattle.std.specs.List.{list_all}
use Rattle.semantics.specs.Tree.{Stmt, Kernel}
use Rattle.semantics.specs.Meaning.Definite.{IsDefinite}
use Rattle.semantics.specs.Loops.Nest.{Loop, nest_of}
use Rattle.semantics.specs.Loops.Order.{Distance, is_ahead}
use Rattle.law_lines.specs.Without.{IsTreeOf}
use Rattle.nest.specs.Nests.{IsInRange}
use Rattle.flow.specs.Phases.{PhasesBy}
use Rattle.flow.specs.Roles.{LoopData, LineData, privates_by, AskedByLine, ItemsHaveBy, ItemsKeepRoles}
use Rattle.flow_doacross.specs.Nests.{counts_up}
use Rattle.deptest_verdict.specs.Shown.{AreShownLoops}
use Rattle.law_waves.specs.Silent.{is_silent}
use Rattle.law_independence.specs.Said.{LinesInside, phases_in, sinks_in}
use Rattle.law_independence.specs.OrderLaws.{SharesBy}

-- each loop of a nest rises by 1 between two numbers, it prints nothing, of its variables with a role all are private, and these sinks lie ahead
pub record SuitsWaves (sinks : List Distance) (d : LoopData) (n : ℕ) (s : Stmt) : Type 0 where
  pub loops : List Loop
  pub body : Stmt
  pub nest : nest_of n s ≡ Some (loops, body)
  pub up : list_all counts_up loops ≡ true
  pub silent : is_silent body ≡ true
  pub ahead : list_all is_ahead sinks ≡ true
  pub no_lasts : d.roles.lasts ≡ []
  pub no_reductions : d.roles.reductions ≡ []
  pub none_carried : d.carried ≡ []

-- so is each doacross nest
abbrev pub SuitBy : LineData → LinesInside → AskedByLine
SuitBy R P line serial n s = (sinks : List Distance) → (P line).sinks ≡ Some sinks → SuitsWaves sinks (R line) n s

-- each parallel loop of a kernel of the grammar shares so, where no subscript leaves its dimension, no local is read before it is assigned, parallel loops keep the roles of the scalars that they assign, and the test of pairs shows all of them to be independent, or ordered by their sinks
abbrev pub AcceptedLoopsShare : Type 0
AcceptedLoopsShare =
    (text : List ℕ) (k : Kernel) (R : LineData) (P : LinesInside) → IsTreeOf text k → IsInRange k → IsDefinite (privates_by R) k → ItemsKeepRoles text R [] k.body
    → ItemsHaveBy text (PhasesBy R (phases_in P)) [] k.body → ItemsHaveBy text (SuitBy R P) [] k.body → AreShownLoops text (sinks_in P) k
    → ItemsHaveBy text (SharesBy k.variables R P) [] k.body
