-- The parallel loops of a text with their data environments. (OpenMP 5.2, 5.1.1 and 11.5)
use Rattle.std.specs.Prelude.{ℕ, ◌≡◌, List, [], ◌∷◌, ◌++◌, map, Some}
use Rattle.semantics.specs.Tree.{Variable, Stmt, Assign, Update, If, IfElse, For, Block, Print, Items, no_items, mark, local, stmt, Kernel}
use Rattle.semantics.specs.Source.Text.{line_at}
use Rattle.semantics.specs.Meaning.Agrees.{declared_in}
use Rattle.semantics.specs.Loops.Nest.{Loop, nest_of}
use Rattle.ktree.specs.declared.place.VarId.{VarId}
use Rattle.pragma.specs.Clauses.{ReadsLoop}
use Rattle.pragma.specs.Parallel.{associated}
use Rattle.pragma.specs.Views.{scheduled}
use Rattle.flow_reduction.specs.Reduced.{reduced}
use Rattle.flow.specs.Private.{first_stmt_of}
use Rattle.flow.specs.Roles.{LoopData, LineData}
use Rattle.flow.specs.declared.environment.LoopRoles.{LoopRoles}
use Rattle.flow.specs.declared.environment.ParallelLoop.{ParallelLoop}

-- the numbers of variables
abbrev pub numbers : List VarId → List Variable
numbers vs = map (λ v. v.0) vs

-- these are the reduction variables, the lastprivate ones and those that are carried, in their order
pub record AreRolesOf (d : LoopData) (l : LoopRoles) : Type 0 where
  pub reductions : reduced l.reductions.items ≡ d.roles.reductions
  pub lasts : numbers l.lasts.items ≡ d.roles.lasts
  pub carried : reduced l.carried.items ≡ d.carried

-- a `parallel for` on a line, before these items: private are the variables of its loops, and what their body declares (OpenMP 5.2, 5.1.1); of those with a role by its line the ones are kept that leave something behind it
pub record IsParallelLoop (text : List ℕ) (R : LineData) (line : ℕ) (rest : Items) (l : ParallelLoop) : Type 0 where
  pub at_line : l.line.line ≡ line
  pub reads : ReadsLoop (line_at text line) (scheduled l.directive) l.directive.collapse
  pub statement : Stmt
  pub loops : List Loop
  pub body : Stmt
  pub stands : first_stmt_of rest ≡ Some statement
  pub nest : nest_of (associated l.directive.collapse) statement ≡ Some (loops, body)
  pub privates : numbers l.private.items ≡ map (λ h. h.variable) loops ++ declared_in body
  pub roles : AreRolesOf (R line) l.roles

-- what is said of a list of parallel loops
abbrev pub OfLoops : Type 1
OfLoops = List ParallelLoop → Type 0

-- these first, and those behind them
abbrev pub Joined : OfLoops → OfLoops → OfLoops
Joined P Q ls = (first : List ParallelLoop) × (others : List ParallelLoop) × (ls ≡ first ++ others) × P first × Q others

abbrev mutual
  -- these are the parallel loops in a statement, in the order of the text
  pub LoopsAre : List ℕ → LineData → Stmt → OfLoops
  LoopsAre text R (Assign x is e) ls = ls ≡ []
  LoopsAre text R (Update x is op e) ls = ls ≡ []
  LoopsAre text R (If c a) ls = LoopsAre text R a ls
  LoopsAre text R (IfElse c a b) ls = Joined (LoopsAre text R a) (LoopsAre text R b) ls
  LoopsAre text R (For x name start test step body) ls = LoopsAre text R body ls
  LoopsAre text R (Block items) ls = ItemsAre text R items ls
  LoopsAre text R (Print parts) ls = ls ≡ []

  -- among a block's items: one for each directive line
  pub ItemsAre : List ℕ → LineData → Items → OfLoops
  ItemsAre text R no_items ls = ls ≡ []
  ItemsAre text R (mark line rest) ls =
      (l : ParallelLoop) × (others : List ParallelLoop) × (ls ≡ l ∷ others) × IsParallelLoop text R line rest l × ItemsAre text R rest others
  ItemsAre text R (local x name start rest) ls = ItemsAre text R rest ls
  ItemsAre text R (stmt s rest) ls = Joined (LoopsAre text R s) (ItemsAre text R rest) ls

-- they are those of a whole text
abbrev pub AreParallelLoops : List ℕ → LineData → Kernel → OfLoops
AreParallelLoops text R k ls = ItemsAre text R k.body ls

-- the one of a line
abbrev pub IsOfLine : List ℕ → LineData → ℕ → Items → OfLoops
IsOfLine text R line rest ls = (l : ParallelLoop) × (ls ≡ l ∷ []) × IsParallelLoop text R line rest l

-- what the first of these items has, as a directive line before others
abbrev pub FirstLineIs : List ℕ → LineData → Items → Items → OfLoops
FirstLineIs text R (mark line items) rest ls = IsOfLine text R line rest ls
FirstLineIs text R _ rest ls = ls ≡ []

-- and as a statement
abbrev pub FirstLoopsAre : List ℕ → LineData → Items → OfLoops
FirstLoopsAre text R (stmt s items) ls = LoopsAre text R s ls
FirstLoopsAre text R _ ls = ls ≡ []

-- such loops stand behind those that were there
abbrev pub Adds : OfLoops → List ParallelLoop → List ParallelLoop → Type 0
Adds P before after = (added : List ParallelLoop) × (after ≡ before ++ added) × P added
