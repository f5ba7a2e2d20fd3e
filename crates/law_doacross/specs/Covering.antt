-- Doacross nests of whose pairs of accesses each is shown to be independent, or ordered by a sink. (C11 5.1.2.4, 4; OpenMP 5.2, 1.4.1 and 15.9.6)
use Rattle.std.specs.Prelude.{ℕ, ◌≡◌, true, List, [], Some, None, IsSome}
use Rattle.std.specs.List.{list_all}
use Rattle.semantics.specs.Tree.{Stmt, Declaration, Kernel}
use Rattle.semantics.specs.Loops.Nest.{Loop, nest_of}
use Rattle.semantics.specs.Loops.Order.{Distance}
use Rattle.semantics.specs.Loops.Piece.{SharedLoop}
use Rattle.semantics.specs.Theorems.{IsCovered}
use Rattle.law_lines.specs.Without.{IsTreeOf}
use Rattle.pairtest_counter.specs.Levels.{Nesting}
use Rattle.nest.specs.Nests.{Has, StaysInside, IsInRange}
use Rattle.flow.specs.Roles.{AskedByLine, ItemsHaveBy}
use Rattle.flow_doacross.specs.Nests.{counts_up}
use Rattle.deptest_verdict.specs.Shown.{IsShownLoop, no_loops, AreShownLoops}
use Rattle.law_turns.specs.Turns.{AreEntered}
use Rattle.law_independence.specs.Inside.{LoopsAreRead, HaveShort}
use Rattle.law_independence.specs.IndependenceLaws.{IsIndependentNest}
use Rattle.law_independence.specs.Said.{LinesInside, sinks_in}

-- each of the nest's loops rises by 1 between two numbers
abbrev pub CountsUpAll : ℕ → Stmt → Type 0
CountsUpAll n s = (loops : List Loop) (body : Stmt) → nest_of n s ≡ Some (loops, body) → list_all counts_up loops ≡ true

-- of two iterations of such a nest that conflict, at any turn of the serial loops round it, the sinks put one before the other
abbrev pub ShownNestsAreCovered : Type 0
ShownNestsAreCovered =
    (ds : List Declaration) (serial : List Loop) (round : Nesting) (sinks : List Distance) (n : ℕ) (s : Stmt)
    → HaveShort ds → AreEntered no_loops serial round → LoopsAreRead round.box s → Has (StaysInside ds) round.box s → IsShownLoop round sinks n s → CountsUpAll n s
    → (loop : SharedLoop) → nest_of n s ≡ Some (loop.loops, loop.body) → IsCovered serial loop sinks

-- a statement is a nest of so many loops, and of two of its iterations that conflict, at any turn of the serial loops round it, these sinks put one before the other
abbrev pub IsCoveredNest : List Distance → List Loop → ℕ → Stmt → Type 0
IsCoveredNest sinks serial n s = IsSome (nest_of n s) × ((loop : SharedLoop) → nest_of n s ≡ Some (loop.loops, loop.body) → IsCovered serial loop sinks)

-- the loops of doacross nests rise so
abbrev pub CountUpBy : LinesInside → AskedByLine
CountUpBy P line serial n s = (sinks : List Distance) → (P line).sinks ≡ Some sinks → CountsUpAll n s

-- a loop that is no doacross nest is independent, and the iterations of a doacross nest that conflict are ordered by its sinks
abbrev pub OrderedBy : LinesInside → AskedByLine
OrderedBy P line serial n s = ((P line).sinks ≡ None → IsIndependentNest serial n s) × ((sinks : List Distance) → (P line).sinks ≡ Some sinks → IsCoveredNest sinks serial n s)

-- so each parallel loop of a kernel of the grammar, where no subscript leaves its dimension and the test of pairs shows all of them to be independent, or ordered by their sinks
abbrev pub ShownKernelsAreCovered : Type 0
ShownKernelsAreCovered =
    (text : List ℕ) (k : Kernel) (P : LinesInside) → IsTreeOf text k → IsInRange k → ItemsHaveBy text (CountUpBy P) [] k.body → AreShownLoops text (sinks_in P) k
    → ItemsHaveBy text (OrderedBy P) [] k.body
