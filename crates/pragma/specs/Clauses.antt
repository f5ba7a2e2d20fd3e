-- What a `parallel for`, or a `for` inside a `parallel`, says, of the clauses that are run. (OpenMP 5.2, 4.4.3, 4.4.4, 11.5.1 and 11.5.3)
use Rattle.std.specs.Prelude.{ℕ, ◌≡◌, max, List, [], ◌∷◌, Option, Some, None}
use Rattle.semantics.specs.Tree.{Name}
use Rattle.semantics.specs.Directives.Directive.{Schedule, Clause, DefaultShared, DefaultNone, Nowait, Ordered, Shared, Private, Firstprivate, Lastprivate, Reduction, Inscan, ScheduledBy, Collapse, OrderedLoops, Directive, ParallelFor, Worksharing}
use Rattle.semantics.specs.Directives.Clauses.{doacross_of}
use Rattle.semantics.specs.Directives.DirectiveGrammar.{ReadsLine}
use Rattle.cparse_grammar.specs.Reading.{◌>>=◌}

-- what `schedule(..)` says, and the number of associated loops, where `collapse(c)` or `ordered(n)` stands
abbrev pub Said : Type 0
Said = Option Schedule × Option ℕ

-- the greater of a number of loops and one that was there (4.4.3 and 4.4.4)
abbrev pub greater : ℕ → Option ℕ → ℕ
greater n None = n
greater n (Some m) = max n m

-- one more clause, where it is known and no other `schedule` is there; `collapse` and `ordered(n)` may both stand in a directive, each once by the grammar; a clause about variables says nothing of these two, nor does `ordered`, nor `nowait`, behind which the barrier is kept
abbrev pub with_clause : Clause Name → Said → Option Said
with_clause (ScheduledBy k) (None, c) = Some (Some k, c)
with_clause (Collapse c) (k, d) = Some (k, Some (greater c d))
with_clause (OrderedLoops n) (k, d) = Some (k, Some (greater n d))
with_clause DefaultShared said = Some said
with_clause DefaultNone said = Some said
with_clause (Shared xs) said = Some said
with_clause (Private xs) said = Some said
with_clause (Firstprivate xs) said = Some said
with_clause (Lastprivate xs) said = Some said
with_clause (Reduction op xs) said = Some said
with_clause (Inscan op x) said = Some said
with_clause Nowait said = Some said
with_clause Ordered said = Some said
with_clause _ said = None

-- all of a directive's clauses
abbrev pub said_by : List (Clause Name) → Option Said
said_by [] = Some (None, None)
said_by (c ∷ cs) = said_by cs >>= λ said. with_clause c said

-- what a directive says, where it is such a loop's
abbrev pub loop_of : Directive Name → Option Said
loop_of (ParallelFor cs) = said_by cs
loop_of (Worksharing cs) = said_by cs
loop_of _ = None

-- how many loops the doacross nest has that it makes of a loop, where it makes one (4.4.4)
abbrev pub doacross_loops : Directive Name → Option ℕ
doacross_loops (ParallelFor cs) = doacross_of cs
doacross_loops (Worksharing cs) = doacross_of cs
doacross_loops _ = None

-- the line is such a directive, and says exactly this
pub record ReadsLoop (line : List ℕ) (k : Option Schedule) (c : Option ℕ) : Type 0 where
  pub directive : Directive Name
  pub reads : ReadsLine line directive
  pub says : loop_of directive ≡ Some (k, c)
