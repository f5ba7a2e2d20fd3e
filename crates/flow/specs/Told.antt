-- What a fault of a parallel loop's data tells. (OpenMP 5.2, 5.1.1, 5.4.3 to 5.4.5 and 5.5.8)
use Rattle.std.specs.Prelude.{ℕ, Bool, false, ◌≡◌, ◌⊎◌, List, [], ◌++◌, map, Option, Some, MatchOption}
use Rattle.std.specs.List.{list_all}
use Rattle.semantics.specs.Tree.{Variable, Exprs, Stmt, Assign, Update, If, IfElse, For, Block, Print, Items, no_items, mark, local, stmt}
use Rattle.semantics.specs.Meaning.Agrees.{is_among, declared_in}
use Rattle.semantics.specs.Loops.Nest.{Loop, nest_of}
use Rattle.semantics.specs.Loops.Piece.{Roles}
use Rattle.law_roles.specs.Updates.{is_plain, reduces}
use Rattle.law_roles.specs.Sharing.{assigned_first, role_variables, are_different, AssignsAll}
use Rattle.ktree.specs.declared.refusal.Refusal.{Refusal}
use Rattle.ktree.specs.declared.refusal.Refusal.TheVariants as refusals
use Rattle.pragma.specs.Parallel.{AskedOfLoop, LineHas}
use Rattle.flow.specs.declared.fault.DataFault.{DataFault}
use Rattle.flow.specs.declared.fault.DataFault.TheVariants.{Written, Copied, Unassigned, LastUnassigned, Reduced, Directive, OutOfMemory}
use Rattle.flow.specs.Private.{is_own}
use Rattle.flow.specs.Roles.{LoopData, LineData, left_roles, ReadsAssigned, CarriesOthers}

-- no fault where it is so, and where it is not so, or memory is refused, a fault
abbrev pub Finds : Option DataFault → Type 0 → Type 0
Finds found P = MatchOption found P (λ f. (f ≡ OutOfMemory) ⊎ (P → ⊥))

-- memory was refused, or it is not so, and that is told
abbrev pub RefusesFor : Type 0 → (DataFault → Type 0) → DataFault → Type 0
RefusesFor P T f = (f ≡ OutOfMemory) ⊎ ((P → ⊥) × T f)

-- a fault tells of an assignment: it writes a scalar that is not one's own (OpenMP 5.2, 5.1.1)
abbrev pub TellsOfWrite : DataFault → (Variable → Bool) → Variable → Exprs → Type 0
TellsOfWrite (Written place) own x is = is_own own x is ≡ false
TellsOfWrite (Copied place) own x is = is_own own x is ≡ false
TellsOfWrite _ own x is = ⊥

abbrev mutual
  -- a fault tells of an assignment in a statement
  pub TellsOf : DataFault → (Variable → Bool) → Stmt → Type 0
  TellsOf f own (Assign x is e) = TellsOfWrite f own x is
  TellsOf f own (Update x is op e) = TellsOfWrite f own x is
  TellsOf f own (If c a) = TellsOf f own a
  TellsOf f own (IfElse c a b) = TellsOf f own a ⊎ TellsOf f own b
  TellsOf f own (For x name start test step body) = TellsOf f own body
  TellsOf f own (Block items) = TellsOfAny f own items
  TellsOf f own (Print parts) = ⊥

  -- or among a block's items
  pub TellsOfAny : DataFault → (Variable → Bool) → Items → Type 0
  TellsOfAny f own no_items = ⊥
  TellsOfAny f own (mark line rest) = TellsOfAny f own rest
  TellsOfAny f own (local x name start rest) = TellsOfAny f own rest
  TellsOfAny f own (stmt s rest) = TellsOf f own s ⊎ TellsOfAny f own rest

-- or in a loop's body, whose own scalars are those that it declares, and those with a role
abbrev pub TellsOfBody : DataFault → Roles → Stmt → Type 0
TellsOfBody f roles body = TellsOf f (is_among (declared_in body ++ role_variables roles)) body

-- a fault tells of a private or lastprivate scalar that a nest may read before it assigns it, or memory was refused where that was looked for (OpenMP 5.2, 5.4.3 and 5.4.5)
abbrev pub TellsOfRead : DataFault → Roles → Stmt → Type 0
TellsOfRead (Unassigned place) roles s = ReadsAssigned roles s → ⊥
TellsOfRead OutOfMemory roles s = Unit {0}
TellsOfRead _ roles s = ⊥

-- a fault tells of a lastprivate scalar that a loop's body does not assign on every path, or memory was refused where that was looked for (OpenMP 5.2, 5.4.5)
abbrev pub TellsOfLast : DataFault → Roles → Stmt → Type 0
TellsOfLast (LastUnassigned place) roles body = AssignsAll (assigned_first roles) roles.lasts body → ⊥
TellsOfLast OutOfMemory roles body = Unit {0}
TellsOfLast _ roles body = ⊥

-- a fault tells of a reduction variable with a second role, or memory was refused where that was looked for (OpenMP 5.2, 5.4)
abbrev pub TellsOfSecond : DataFault → Roles → Type 0
TellsOfSecond (Reduced place) roles = (are_different (map (λ r. r.0) roles.reductions) ≡ false) ⊎ (list_all (is_plain roles.reductions) (assigned_first roles) ≡ false)
TellsOfSecond OutOfMemory roles = Unit {0}
TellsOfSecond _ roles = ⊥

-- a fault tells of a scan's variable with a second role, or memory was refused where that was looked for (OpenMP 5.2, 5.4)
abbrev pub TellsOfCarried : DataFault → LoopData → Type 0
TellsOfCarried (Reduced place) d = CarriesOthers d → ⊥
TellsOfCarried OutOfMemory d = Unit {0}
TellsOfCarried _ d = ⊥

-- a fault tells of a reduction variable that a nest names outside its updates, or memory was refused where that was looked for (OpenMP 5.2, 5.5.8)
abbrev pub TellsOfMisuse : DataFault → Roles → Stmt → Type 0
TellsOfMisuse (Reduced place) roles s = reduces roles.reductions s ≡ false
TellsOfMisuse OutOfMemory roles s = Unit {0}
TellsOfMisuse _ roles s = ⊥

-- a fault tells of a nest with this body, by the roles of its line
abbrev pub TellsOfRoles : DataFault → LoopData → Stmt → Stmt → Type 0
TellsOfRoles f d s body = TellsOfBody f (left_roles d) body ⊎ TellsOfRead f d.roles s ⊎ TellsOfLast f d.roles body ⊎ TellsOfSecond f d.roles ⊎ TellsOfCarried f d ⊎ TellsOfMisuse f d.roles s

-- behind the directive stands a nest of so many loops
abbrev pub IsNest : AskedOfLoop
IsNest serial n s = (loops : List Loop) × (body : Stmt) × (nest_of n s ≡ Some (loops, body))

-- behind the directive stands such a nest, and a fault tells of it
abbrev pub TellsOfNest : DataFault → LoopData → AskedOfLoop
TellsOfNest f d serial n s = (loops : List Loop) × (body : Stmt) × (nest_of n s ≡ Some (loops, body)) × TellsOfRoles f d s body

-- a fault tells of a directive line that it is no `parallel for` before such a nest (OpenMP 5.2, 4.4.1 and 11.5)
abbrev pub TellsOfNoNest : DataFault → List ℕ → ℕ → Items → Type 0
TellsOfNoNest (Directive place) text line rest = LineHas text IsNest [] line rest → ⊥
TellsOfNoNest _ text line rest = ⊥

-- a fault tells of a directive line: of its nest, or that it has no nest
abbrev pub TellsOfLine : DataFault → List ℕ → LineData → ℕ → Items → Type 0
TellsOfLine f text R line rest = LineHas text (TellsOfNest f (R line)) [] line rest ⊎ TellsOfNoNest f text line rest

abbrev mutual
  -- a fault tells of a directive line in a statement
  pub TellsOfLoops : DataFault → List ℕ → LineData → Stmt → Type 0
  TellsOfLoops f text R (Assign x is e) = ⊥
  TellsOfLoops f text R (Update x is op e) = ⊥
  TellsOfLoops f text R (If c a) = TellsOfLoops f text R a
  TellsOfLoops f text R (IfElse c a b) = TellsOfLoops f text R a ⊎ TellsOfLoops f text R b
  TellsOfLoops f text R (For x name start test step body) = TellsOfLoops f text R body
  TellsOfLoops f text R (Block items) = TellsOfItems f text R items
  TellsOfLoops f text R (Print parts) = ⊥

  -- or among a block's items
  pub TellsOfItems : DataFault → List ℕ → LineData → Items → Type 0
  TellsOfItems f text R no_items = ⊥
  TellsOfItems f text R (mark line rest) = TellsOfLine f text R line rest ⊎ TellsOfItems f text R rest
  TellsOfItems f text R (local x name start rest) = TellsOfItems f text R rest
  TellsOfItems f text R (stmt s rest) = TellsOfLoops f text R s ⊎ TellsOfItems f text R rest

-- a fault tells of the first of these items as a directive line before others
abbrev pub TellsOfFirstLine : DataFault → List ℕ → LineData → Items → Items → Type 0
TellsOfFirstLine f text R (mark line items) rest = TellsOfLine f text R line rest
TellsOfFirstLine f text R _ rest = ⊥

-- and as a statement
abbrev pub TellsOfFirstLoops : DataFault → List ℕ → LineData → Items → Type 0
TellsOfFirstLoops f text R (stmt s items) = TellsOfLoops f text R s
TellsOfFirstLoops f text R _ = ⊥

-- the refusal that tells a fault
abbrev pub data_refusal_of : DataFault → Refusal
data_refusal_of (Written place) = refusals.SharedScalarWritten place
data_refusal_of (Copied place) = refusals.PrivateVariable place
data_refusal_of (Unassigned place) = refusals.PrivateVariable place
data_refusal_of (LastUnassigned place) = refusals.PrivateVariable place
data_refusal_of (Reduced place) = refusals.Reduction place
data_refusal_of (Directive place) = refusals.Directive place
data_refusal_of OutOfMemory = refusals.OutOfMemory
