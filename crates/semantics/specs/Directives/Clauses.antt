-- What the clauses of a worksharing loop say of it, over resolved variables.
use Rattle.std.specs.Prelude.{ℕ, Bool, true, false, not, nat_lt, max, filter, List, [], ◌∷◌, ◌++◌, map, flat_map, length, Option, Some, None}
use Rattle.semantics.specs.Tree.{Variable, Stmt, Kernel}
use Rattle.semantics.specs.Loops.Operator.{ReduceOp}
use Rattle.semantics.specs.Meaning.Value.{map_option}
use Rattle.semantics.specs.Loops.Nest.{nest_of}
use Rattle.semantics.specs.Loops.Chunk.{Kind, PlainStatic, Static, Dynamic, Guided}
use Rattle.semantics.specs.Loops.Piece.{Roles, SharedLoop}
use Rattle.semantics.specs.Directives.Directive.{Schedule, StaticPlain, StaticSize, DynamicSize, GuidedSize, Auto, Runtime, Clause, Private, Firstprivate, Lastprivate, LastConditional, Reduction, Inscan, ScheduledBy, Collapse, OrderedLoops}
use Rattle.semantics.specs.Meaning.Definite.{Privates}
use Rattle.semantics.specs.Directives.Annotated.{Directives, clauses_at}

-- OpenMP 5.2, 5.4.3
abbrev pub private_of : {A : Type 0} → Clause A → List A
private_of (Private xs) = xs
private_of _ = []

-- OpenMP 5.2, 5.4.4
abbrev pub first_of : {A : Type 0} → Clause A → List A
first_of (Firstprivate xs) = xs
first_of _ = []

-- OpenMP 5.2, 5.4.5
abbrev pub last_of : {A : Type 0} → Clause A → List A
last_of (Lastprivate xs) = xs
last_of _ = []

-- OpenMP 5.2, 5.4.5, with the modifier conditional
abbrev pub conditional_of : {A : Type 0} → Clause A → List A
conditional_of (LastConditional xs) = xs
conditional_of _ = []

-- OpenMP 5.2, 5.5.8
abbrev pub reduction_of : {A : Type 0} → Clause A → List (A × ReduceOp)
reduction_of (Reduction op xs) = map (λ x. (x, op)) xs
reduction_of _ = []

-- OpenMP 5.2, 5.6
abbrev pub inscan_of : {A : Type 0} → Clause A → List (A × ReduceOp)
inscan_of (Inscan op x) = (x, op) ∷ []
inscan_of _ = []

-- the roles of a loop's variables, those of a clause before those of the next; a scan's variable is reduced too
abbrev pub roles_of : List (Clause Variable) → Roles
roles_of cs =
    record {
      privates = flat_map private_of cs;
      firsts = flat_map first_of cs;
      lasts = flat_map last_of cs;
      conditionals = flat_map conditional_of cs;
      reductions = flat_map (λ c. reduction_of c ++ inscan_of c) cs;
    }

-- how many loops a clause joins (OpenMP 5.2, 4.4.3 and 4.4.4)
abbrev pub loops_of : {A : Type 0} → Clause A → ℕ
loops_of (Collapse c) = c
loops_of (OrderedLoops n) = n
loops_of _ = 1

-- the number of associated loops
abbrev pub depth_of : {A : Type 0} → List (Clause A) → ℕ
depth_of [] = 1
depth_of (c ∷ cs) = max (loops_of c) (depth_of cs)

-- a worksharing loop: its statement, and the clauses of its directive and of the `parallel` round it
abbrev pub shared_loop : List (Clause Variable) → Stmt → Option SharedLoop
shared_loop cs s = map_option (λ nest. record { loops = nest.0; body = nest.1; roles = roles_of cs }) (nest_of (depth_of cs) s)

-- OpenMP 5.2, 11.5.3; no clause means plain static
abbrev pub schedule_of : {A : Type 0} → List (Clause A) → Schedule
schedule_of [] = StaticPlain
schedule_of (ScheduledBy kind ∷ cs) = kind
schedule_of (_ ∷ cs) = schedule_of cs

-- how the loop is cut; given: what stands for `runtime`
abbrev pub kind_of : Schedule → Kind → Kind
kind_of StaticPlain given = PlainStatic
kind_of (StaticSize k) given = Static k
kind_of (DynamicSize k) given = Dynamic k
kind_of (GuidedSize k) given = Guided k
kind_of Auto given = PlainStatic
kind_of Runtime given = given

-- the loops of a doacross nest, if it is one
abbrev pub doacross_of : {A : Type 0} → List (Clause A) → Option ℕ
doacross_of [] = None
doacross_of (OrderedLoops n ∷ cs) = Some n
doacross_of (_ ∷ cs) = doacross_of cs

-- a loop with an inscan reduction (OpenMP 5.2, 5.6)
abbrev pub is_scan : {A : Type 0} → List (Clause A) → Bool
is_scan [] = false
is_scan (Inscan op x ∷ cs) = true
is_scan (_ ∷ cs) = is_scan cs

-- locals alone: file-scope variables have the first numbers
abbrev pub locals_in : Kernel → Option (List (Clause Variable)) → List Variable
locals_in k None = []
locals_in k (Some cs) = filter (λ x. not (nat_lt x (length k.variables))) (flat_map private_of cs)

-- the locals in the private lists of each directive line
abbrev pub privates_of : Kernel → Directives → Privates
privates_of k ds line = locals_in k (clauses_at k ds line)
