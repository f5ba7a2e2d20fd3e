-- Worked rows of loops: a conflict, pieces, joins, and the workers' machine.
use Rattle.std.specs.Prelude.{map, filter_map, ℕ, ◌≡◌, [], ◌∷◌, List, Option, Some, None, true, false, flat_map}
use Rattle.semantics.specs.Loops.Arrangement.{EachOnceBelow}
use Rattle.semantics.specs.Tree.{Expr, Literal, Ull, Object, Binary, Plus, Minus, no_exprs, more_exprs, Exprs, Compare, Less, Greater, Number, Truth, NotZero, LogicalAnd, Stmt, Assign, Update, If, Block, no_items, stmt, Print, Characters}
use Rattle.semantics.specs.Meaning.State.{State, look}
use Rattle.semantics.specs.Meaning.Places.{below}
use Rattle.semantics.specs.Loops.Nest.{Vector}
use Rattle.semantics.specs.Loops.Access.{Conflict}
use Rattle.semantics.specs.Loops.Chunk.{Kind, Dynamic, Static, PlainStatic, cut}
use Rattle.semantics.specs.Loops.Operator.{Sum, AndAlso}
use Rattle.semantics.specs.Loops.Piece.{Roles, no_roles, SharedLoop, Piece, piece}
use Rattle.semantics.specs.Loops.Joined.{JoinedLoop, chunked, joined_state, joined_text}
use Rattle.semantics.specs.Loops.Scan.{second_pieces, scan_partials}
use Rattle.semantics.specs.Teams.Machine.{Job, Event, Draw, Arrive, Stop, Look, merged_state}
use Rattle.semantics.specs.Teams.WholeRuns.{after}
use Rattle.semantics.specs.Meaning.Output.{start}
use Rattle.semantics.specs.Rows.Numbers.{empty, var, num, from_zero}

-- A is variable 0, s or x is 1, and i is 2
abbrev pub a_at : Expr → Expr
a_at e = Object 0 (more_exprs e no_exprs)

abbrev pub at_i : Exprs
at_i = more_exprs (var 2) no_exprs

abbrev pub loop_of : Roles → Stmt → ℕ → SharedLoop
loop_of roles body n = record { loops = from_zero 2 n ∷ []; body = body; roles = roles }

-- A has these elements, and the scalar this value
abbrev pub holding : List ℕ → ℕ → ℕ → State
holding as' n s = start (record { name = 65 ∷ []; lengths = n ∷ [] } ∷ record { name = 115 ∷ []; lengths = [] } ∷ []) ((0, as') ∷ (1, s ∷ []) ∷ [])

abbrev pub zeros : ℕ → List ℕ
zeros n = map (λ i. 0) (below n)

abbrev pub vectors : ℕ → List Vector
vectors n = map (λ i. i ∷ []) (below n)

abbrev pub there : List (Option Piece) → List Piece
there ps = filter_map (λ p. p) ps

abbrev pub pieces_of : SharedLoop → State → ℕ → Kind → ℕ → List Piece
pieces_of l s n kind workers = there (map (piece l s) (chunked (vectors n) (cut kind n workers)))

-- A[i] = A[i-1]: the first iteration writes A[1], and the second reads it
abbrev pub shifting : Stmt
shifting = Assign 0 at_i (Number (a_at (Binary Minus (var 2) (num 1))))

-- if (A[i] > 9) s = s && A[i], A zero: nothing is updated, and 5 stays 5
abbrev pub guarded_and : Stmt
guarded_and = If (Compare Greater (a_at (var 2)) (num 9)) (Assign 1 no_exprs (Truth (LogicalAnd (NotZero (var 1)) (NotZero (a_at (var 2))))))

abbrev pub and_roles : Roles
and_roles = record no_roles { reductions = (1, AndAlso) ∷ [] }

-- A[i] = i; A[i] = A[i] + 1: a chunk reads its own earlier writes
abbrev pub twice : Stmt
twice = Block (stmt (Assign 0 at_i (Number (var 2))) (stmt (Assign 0 at_i (Number (Binary Plus (a_at (var 2)) (num 1)))) no_items))

-- lastprivate x, x = 3*i here as i + 9: the last chunk's, whatever arrived last
abbrev pub last_roles : Roles
last_roles = record no_roles { lasts = 1 ∷ [] }

abbrev pub setting : Stmt
setting = Assign 1 no_exprs (Number (Binary Plus (var 2) (Literal 9 Ull)))

-- lastprivate(conditional: x), if (A[i] > 6) x = i: the last iteration that set it, or nothing
abbrev pub conditional_roles : Roles
conditional_roles = record no_roles { conditionals = 1 ∷ [] }

abbrev pub over_six : Stmt
over_six = If (Compare Greater (a_at (var 2)) (num 6)) (Assign 1 no_exprs (Number (var 2)))

abbrev pub over_six_of : List ℕ → Option ℕ
over_six_of as' = look (joined_state conditional_roles (holding as' 6 99) (pieces_of (loop_of conditional_roles over_six 6) (holding as' 6 99) 6 (Dynamic 2) 2) (2 ∷ 0 ∷ 1 ∷ [])) 1 []

-- text in chunk order, whatever the order of arrival
abbrev pub speaking : Stmt
speaking = If (Compare Less (var 2) (num 1)) (Print (Characters (97 ∷ []) ∷ []))

-- a scan: s += A[i], and A[i] = s; A is 1 2 3 4 5, s is 10, and two workers
abbrev pub scan_roles : Roles
scan_roles = record no_roles { reductions = (1, Sum) ∷ [] }

abbrev pub scanning : Stmt
scanning = Block (stmt (Update 1 no_exprs Plus (a_at (var 2))) (stmt (Assign 0 at_i (Number (var 1))) no_items))

abbrev pub five : State
five = holding (1 ∷ 2 ∷ 3 ∷ 4 ∷ 5 ∷ []) 5 10

abbrev pub second_of_scan : List Piece
second_of_scan = there (second_pieces (loop_of scan_roles scanning 5) 1 Sum five (Some 6 ∷ Some 9 ∷ []) 0 (chunked (vectors 5) (cut PlainStatic 5 2)))

-- two workers draw three chunks; worker 1 hands in the first that arrives, and a third worker is none
abbrev pub a_job : Job
a_job = record { kind = Dynamic 2; workers = 2; ops = []; pieces = pieces_of (loop_of no_roles twice 5) (holding (zeros 5) 5 0) 5 (Dynamic 2) 2 }

abbrev pub some_events : List Event
some_events = Draw 0 ∷ Draw 1 ∷ Draw 2 ∷ Arrive 1 0 ∷ Draw 1 ∷ Arrive 0 0 ∷ Arrive 0 0 ∷ Draw 0 ∷ Arrive 1 0 ∷ Draw 1 ∷ []

-- own chunks share no step: worker 1 of two has the chunks 1 and 3 of four
abbrev pub own_job : Job
own_job = record { kind = Static 1; workers = 2; ops = []; pieces = pieces_of (loop_of no_roles twice 4) (holding (zeros 4) 4 0) 4 (Static 1) 2 }

-- the rows
pub record LoopRows : Type 0 where
  pub conflict : Conflict (from_zero 2 8 ∷ []) shifting empty (1 ∷ []) (2 ∷ [])
  pub no_partials : map (λ p. p.partials) (pieces_of (loop_of and_roles guarded_and 4) (holding (zeros 4) 4 5) 4 (Dynamic 3) 2) ≡ (None ∷ []) ∷ (None ∷ []) ∷ []
  pub stays : look (joined_state and_roles (holding (zeros 4) 4 5) (pieces_of (loop_of and_roles guarded_and 4) (holding (zeros 4) 4 5) 4 (Dynamic 3) 2) (1 ∷ 0 ∷ [])) 1 [] ≡ Some 5
  pub own_writes : map (λ i. look (joined_state no_roles (holding (zeros 3) 3 0) (pieces_of (loop_of no_roles twice 3) (holding (zeros 3) 3 0) 3 (Dynamic 2) 2) (1 ∷ 0 ∷ [])) 0 (i ∷ [])) (below 3) ≡ Some 1 ∷ Some 2 ∷ Some 3 ∷ []
  pub last : look (joined_state last_roles (holding (zeros 1) 1 7) (pieces_of (loop_of last_roles setting 5) (holding (zeros 1) 1 7) 5 (Dynamic 2) 3) (2 ∷ 0 ∷ 1 ∷ [])) 1 [] ≡ Some 13
  pub conditional_last : over_six_of (5 ∷ 0 ∷ 7 ∷ 0 ∷ 9 ∷ 0 ∷ []) ≡ Some 4
  pub conditional_middle : over_six_of (5 ∷ 0 ∷ 7 ∷ 0 ∷ 0 ∷ 0 ∷ []) ≡ Some 2
  pub conditional_none : over_six_of (0 ∷ 0 ∷ 0 ∷ 0 ∷ 0 ∷ 0 ∷ []) ≡ Some 99
  pub text : joined_text (pieces_of (loop_of no_roles (Block (stmt speaking (stmt (Print (Characters (98 ∷ []) ∷ [])) no_items))) 2) (holding (zeros 2) 2 0) 2 (Dynamic 1) 2) ≡ 97 ∷ 98 ∷ 98 ∷ []
  pub scan_partials : scan_partials (pieces_of (loop_of scan_roles scanning 5) five 5 PlainStatic 2) ≡ Some 6 ∷ Some 9 ∷ []
  pub scan : map (λ i. look (joined_state no_roles five second_of_scan (1 ∷ 0 ∷ [])) 0 (i ∷ [])) (below 5) ≡ Some 11 ∷ Some 13 ∷ Some 16 ∷ Some 20 ∷ Some 25 ∷ []
  pub arrivals : (after a_job some_events).merge.arrived ≡ 1 ∷ 0 ∷ 2 ∷ []
  pub ends : map (λ w. (after a_job some_events).ended w) (below 3) ≡ true ∷ true ∷ false ∷ []
  pub holds_none : flat_map (λ w. (after a_job some_events).held w) (below 3) ≡ []
  pub machine : map (λ i. look (merged_state no_roles (holding (zeros 5) 5 0) 3 (after a_job some_events).merge) 0 (i ∷ [])) (below 5) ≡ Some 1 ∷ Some 2 ∷ Some 3 ∷ Some 4 ∷ Some 5 ∷ []
  pub own_chunks : (after own_job (Draw 1 ∷ Draw 1 ∷ Draw 1 ∷ [])).held 1 ≡ 1 ∷ 3 ∷ []
  pub own_next : (after own_job (Draw 1 ∷ Draw 1 ∷ Draw 1 ∷ [])).next ≡ 0
  pub flag : (after own_job (Look 0 ∷ Stop 1 ∷ [])).seen 0 ≡ false
  pub flag_seen : (after own_job (Stop 1 ∷ Look 0 ∷ [])).seen 0 ≡ true
  -- two chunks that arrive the other way round are joined
  pub order : EachOnceBelow 2 (1 ∷ 0 ∷ [])
  pub joined : JoinedLoop (loop_of no_roles twice 3) (vectors 3) (Dynamic 2) 2 (1 ∷ 0 ∷ []) (holding (zeros 3) 3 0) (joined_state no_roles (holding (zeros 3) 3 0) (pieces_of (loop_of no_roles twice 3) (holding (zeros 3) 3 0) 3 (Dynamic 2) 2) (1 ∷ 0 ∷ [])) []
