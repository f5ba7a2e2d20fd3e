-- The listing: one line for each runtime call; the names are those of LLVM's OpenMP runtime.
use Rattle.std.specs.Prelude.{ℕ, suc, Bool, true, false, if◌then◌else◌, List, [], ◌∷◌, ◌++◌, flat_map, map, Option, Some, None, ℤ, codes}
use Rattle.std.specs.Fmt.{decimal, signed_decimal}
use Rattle.semantics.specs.Tree.{Name}
use Rattle.semantics.specs.Loops.Operator.{ReduceOp}
use Rattle.semantics.specs.Directives.Directive.{op_text, Schedule, StaticPlain, StaticSize, DynamicSize, GuidedSize, Auto, Runtime}

-- a loop of a region: its schedule, the number of its doacross loops if it is one, its sinks, its reductions without inscan, and whether it is a scan
pub record ListedLoop : Type 0 where
  pub schedule : Schedule
  pub doacross : Option ℕ
  pub sinks : List (List ℤ)
  pub reductions : List (Name × ReduceOp)
  pub scan : Bool

-- lines without their numbers
abbrev pub Lines : Type 0
Lines = List (List ℕ)

-- chunks are known from the worker alone
abbrev pub is_static : Schedule → Bool
is_static StaticPlain = true
is_static (StaticSize k) = true
is_static Auto = true
is_static (DynamicSize k) = false
is_static (GuidedSize k) = false
is_static Runtime = false

-- how a loop begins
abbrev pub begin_lines : Schedule → Lines
begin_lines StaticPlain = codes "__kmpc_for_static_init_8u static" ∷ []
begin_lines Auto = codes "__kmpc_for_static_init_8u static" ∷ []
begin_lines (StaticSize k) = (codes "__kmpc_for_static_init_8u static," ++ decimal k) ∷ []
begin_lines (DynamicSize k) = (codes "__kmpc_dispatch_init_8u dynamic," ++ decimal k) ∷ codes "__kmpc_dispatch_next_8u" ∷ []
begin_lines (GuidedSize k) = (codes "__kmpc_dispatch_init_8u guided," ++ decimal k) ∷ codes "__kmpc_dispatch_next_8u" ∷ []
begin_lines Runtime = codes "__kmpc_dispatch_init_8u runtime" ∷ codes "__kmpc_dispatch_next_8u" ∷ []

-- how a static loop ends
abbrev pub end_lines : Schedule → Lines
end_lines s = if is_static s then codes "__kmpc_for_static_fini" ∷ [] else []

-- offsets with commas between them
abbrev pub with_commas : List ℤ → List ℕ
with_commas [] = []
with_commas (d ∷ []) = signed_decimal d
with_commas (d ∷ e ∷ ds) = signed_decimal d ++ 44 ∷ with_commas (e ∷ ds)

-- the begin of a doacross nest
abbrev pub doacross_begin : Option ℕ → Lines
doacross_begin None = []
doacross_begin (Some n) = (codes "__kmpc_doacross_init " ++ decimal n) ∷ []

-- a wait for each sink, and a post
abbrev pub doacross_calls : Option ℕ → List (List ℤ) → Lines
doacross_calls None sinks = []
doacross_calls (Some n) sinks = map (λ ds. codes "__kmpc_doacross_wait " ++ with_commas ds) sinks ++ codes "__kmpc_doacross_post" ∷ []

-- its end
abbrev pub doacross_end : Option ℕ → Lines
doacross_end None = []
doacross_end (Some n) = codes "__kmpc_doacross_fini" ∷ []

-- the reductions of a loop, if it has any
abbrev pub reduce_lines : List (Name × ReduceOp) → Lines
reduce_lines [] = []
reduce_lines (r ∷ rs) = (codes "__kmpc_reduce" ++ flat_map (λ q. 32 ∷ (op_text q.1 ++ 58 ∷ q.0)) (r ∷ rs)) ∷ codes "__kmpc_end_reduce" ∷ []

-- one pass of a scan loop
abbrev pub pass_lines : ListedLoop → Lines
pass_lines l = begin_lines l.schedule ++ end_lines l.schedule ++ codes "__kmpc_barrier" ∷ []

-- the lines of a loop
abbrev pub loop_lines : ListedLoop → Lines
loop_lines l =
    if l.scan
    then pass_lines l ++ pass_lines l
    else doacross_begin l.doacross ++ begin_lines l.schedule ++ doacross_calls l.doacross l.sinks ++ end_lines l.schedule
    ++ doacross_end l.doacross ++ reduce_lines l.reductions ++ codes "__kmpc_barrier" ∷ []

-- `R.L `, the line and its end
abbrev pub numbered : ℕ → ℕ → Lines → List ℕ
numbered r l lines = flat_map (λ line. decimal r ++ 46 ∷ (decimal l ++ 32 ∷ (line ++ 10 ∷ []))) lines

-- a region's loops, numbered from 1
abbrev pub loops_text : ℕ → ℕ → List ListedLoop → List ℕ
loops_text r l [] = []
loops_text r l (x ∷ xs) = numbered r l (loop_lines x) ++ loops_text r (suc l) xs

-- regions, numbered from 1
abbrev pub regions_text : ℕ → List (List ListedLoop) → List ℕ
regions_text r [] = []
regions_text r (loops ∷ rest) = numbered r 0 (codes "__kmpc_fork_call" ∷ []) ++ loops_text r 1 loops ++ regions_text (suc r) rest

-- the listing of a text's regions, each the list of its loops
abbrev pub listing : List (List ListedLoop) → List ℕ
listing regions = regions_text 1 regions
