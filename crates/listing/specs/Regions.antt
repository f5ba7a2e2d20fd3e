-- The regions of a kernel as they are listed, part by part. (OpenMP 5.2, 10.1, 11.5 and 17)
use Rattle.std.specs.Prelude.{ℕ, ℤ, suc, true, ◌≡◌, ◌≤◌, ◌+◌, List, [], ◌∷◌, ◌++◌, Option, Some, None, codes}
use Rattle.std.specs.Option.{unwrap_or}
use Rattle.std.specs.Fmt.{decimal}
use Rattle.semantics.specs.Tree.{Name, Kernel}
use Rattle.semantics.specs.Loops.Operator.{ReduceOp}
use Rattle.semantics.specs.Source.Grammar.{ReadsText}
use Rattle.semantics.specs.Directives.Directive.{Schedule, StaticPlain, op_text}
use Rattle.semantics.specs.Directives.Annotated.{Directives, ReadsDirectives}
use Rattle.semantics.specs.Directives.Listing.{ListedLoop, Lines, begin_lines, end_lines, with_commas, doacross_begin, doacross_calls, doacross_end, loop_lines, numbered}
use Rattle.semantics.specs.Directives.Regions.{listing_of}
use Rattle.pragma.specs.Views.{scheduled}
use Rattle.pragma.specs.declared.combined.ParallelFor.{ParallelFor}
use Rattle.pragma_region.specs.Listed.{LoopSaid}
use Rattle.deptest.specs.Accepted.{Program}
use Rattle.listing.specs.declared.regions.Listed.{Listed}

-- what a line says of its schedule, and plain static where it says nothing
abbrev pub schedule_listed : ParallelFor → Schedule
schedule_listed d = unwrap_or (scheduled d) StaticPlain

-- the loop of a scan with a schedule, as one of its passes is listed
abbrev pub scan_with : Schedule → ListedLoop
scan_with s = record { schedule = s; doacross = None; sinks = []; reductions = []; scan = true }

-- the front of a line: `R.L ` and words
abbrev pub fronted : ℕ → ℕ → List ℕ → List ℕ
fronted r l words = decimal r ++ 46 ∷ (decimal l ++ 32 ∷ words)

-- by what its line says
abbrev pub listed_loop : LoopSaid → ListedLoop
listed_loop s = record { schedule = unwrap_or s.said.0 StaticPlain; doacross = s.doacross; sinks = s.sinks; reductions = s.reductions; scan = s.scan }

-- from the begin to the end of a loop that is no scan's
abbrev pub turn_lines : ListedLoop → Lines
turn_lines l = doacross_begin l.doacross ++ begin_lines l.schedule ++ doacross_calls l.doacross l.sinks ++ end_lines l.schedule ++ doacross_end l.doacross

-- the wait for a sink with these offsets
abbrev pub wait_line : List ℤ → List ℕ
wait_line ds = codes "__kmpc_doacross_wait " ++ with_commas ds

-- a variable and its operator, as a line tells them behind a blank
abbrev pub reduction_words : Name × ReduceOp → List ℕ
reduction_words r = 32 ∷ (op_text r.1 ++ 58 ∷ r.0)

-- the lines of parts, behind so many regions and so many loops of the last of these
abbrev pub printed : ℕ → ℕ → List (Option LoopSaid) → List ℕ
printed r l [] = []
printed r l (None ∷ parts) = numbered (suc r) 0 (codes "__kmpc_fork_call" ∷ []) ++ printed (suc r) 0 parts
printed r l (Some s ∷ parts) = numbered r (suc l) (loop_lines (listed_loop s)) ++ printed r (suc l) parts

-- behind what was there stands the listing of a program's text, by the tree that it reads as and the directives on its lines
abbrev pub AddsListing : Program → List ℕ → List ℕ → Type 0
AddsListing p before after =
    (whole : Kernel) × (ds : Directives) × ReadsText p.text whole × ReadsDirectives p.text whole ds × (after ≡ before ++ listing_of whole ds)

-- a part is listed behind so many regions and loops: its lines are there, and those of any others can follow; neither number grows by more than one
pub record AddsPart (part : Option LoopSaid) (before : Listed) (text text' : List ℕ) (after : Listed) : Type 0 where
  pub lines : (rest : List (Option LoopSaid)) → text' ++ printed after.regions after.loops rest ≡ text ++ printed before.regions before.loops (part ∷ rest)
  pub regions : after.regions ≤ before.regions + 1
  pub loops : after.loops ≤ before.loops + 1
