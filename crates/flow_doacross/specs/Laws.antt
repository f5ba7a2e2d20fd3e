-- What later passes may take from the rule of doacross nests. (OpenMP 5.2, 4.4.4, 15.9.6 and 15.10.2)
use Rattle.std.specs.Prelude.{ℕ, true, ◌≡◌, List, [], Some}
use Rattle.std.specs.List.{list_all}
use Rattle.semantics.specs.Tree.{Stmt, Kernel}
use Rattle.semantics.specs.Loops.Nest.{Loop, nest_of}
use Rattle.semantics.specs.Loops.Order.{Distance, is_ahead}
use Rattle.law_waves.specs.Silent.{is_silent}
use Rattle.affine.specs.declared.interval.Side.{Side}
use Rattle.nest_loop.specs.Canonical.{canonical}
use Rattle.nest_loop.specs.Sides.{HasNumbers}
use Rattle.nest_loop.specs.declared.head.Canonical.{Canonical}
use Rattle.nest_loop.specs.declared.stride.Direction.TheVariants.{Rising}
use Rattle.pragma.specs.Plain.{IsDirected}
use Rattle.pragma_named.specs.Known.{Lines}
use Rattle.pragma_region.specs.Regions.{alone}
use Rattle.flow.specs.Roles.{AskedByLine, ItemsHaveBy}
use Rattle.flow_doacross.specs.Lines.{suits_doacross}
use Rattle.flow_doacross.specs.Nests.{counts_up, doacross_rightly}
use Rattle.flow_doacross.specs.Listed.{nest_at, doacross_of}

-- ---- nests in the tree from which their lines are left out, and which the later passes judge

-- a nest of n loops behind a line with these sinks: its clauses go with `ordered(n)`, each loop rises by 1 between two numbers, it prints nothing, and each sink lies ahead
pub record HasNest (lines : Lines) (line : ℕ) (sinks : List Distance) (n : ℕ) (s : Stmt) : Type 0 where
  pub suits : list_all suits_doacross (lines line) ≡ true
  pub loops : List Loop
  pub body : Stmt
  pub nest : nest_of n s ≡ Some (loops, body)
  pub count_up : list_all counts_up loops ≡ true
  pub silent : is_silent body ≡ true
  pub ahead : list_all is_ahead sinks ≡ true

-- so is the loop behind each line of which sinks are told
abbrev pub NestThere : List ℕ → Lines → Kernel → AskedByLine
NestThere text lines k line serial n s = (sinks : List Distance) → nest_at (doacross_of text lines k) line ≡ Some sinks → HasNest lines line sinks n s

-- a kernel whose nests are right has such nests, once the lines that are left out are gone
abbrev pub NestsStandAlone : Type 0
NestsStandAlone =
    (text : List ℕ) (lines : Lines) (k : Kernel) → doacross_rightly text lines k ≡ true → IsDirected text (alone text k)
    → ItemsHaveBy text (NestThere text lines k) [] (alone text k).body

-- ---- loops between two numbers

-- a loop inside those of a box rises by 1 between two numbers
pub record CountsUp (box : List Side) (h : Loop) : Type 0 where
  pub loop : Canonical
  pub form : canonical box h.variable h.start h.test h.step ≡ Some loop
  pub numbers : HasNumbers loop
  pub rises : loop.stride.direction ≡ Rising
  pub by_one : loop.stride.by ≡ 1

-- whatever stands round it
abbrev pub LoopsCountUpAnywhere : Type 0
LoopsCountUpAnywhere = (box : List Side) (h : Loop) → counts_up h ≡ true → CountsUp box h
