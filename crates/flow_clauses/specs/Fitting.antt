-- Which variables the data clauses of directive lines may name (OpenMP 5.2, 5.4).
use Rattle.std.specs.Prelude.{ℕ, Bool, true, not, ◌&&◌, List, [], ◌∷◌, ◌++◌, length, nat_eq, nat_lt, Option, Some, None, slice_get}
use Rattle.std.specs.List.{list_all}
use Rattle.semantics.specs.Tree.{Variable, Declaration, Stmt, Assign, Update, If, IfElse, For, Block, Print, Items, no_items, mark, local, stmt, Kernel}
use Rattle.semantics.specs.Meaning.Agrees.{is_among}
use Rattle.semantics.specs.Directives.Directive.{Clause, Private, Firstprivate, Lastprivate, Reduction, Inscan}
use Rattle.pragma_named.specs.Known.{Lines}
use Rattle.pragma_named.specs.Lines.{Question, each_among}
use Rattle.flow_clauses.specs.declared.judging.Misuse.{Misuse}
use Rattle.flow_clauses.specs.declared.judging.Misuse.TheVariants.{Privatised, LoopVariable, Reduced}

abbrev mutual
  -- the variables of the loops in a statement (C11 6.8.5.3)
  pub loop_variables : Stmt → List Variable
  loop_variables (Assign x is e) = []
  loop_variables (Update x is op e) = []
  loop_variables (If c a) = loop_variables a
  loop_variables (IfElse c a b) = loop_variables a ++ loop_variables b
  loop_variables (For x name start test step body) = x ∷ loop_variables body
  loop_variables (Block items) = loop_variables_among items
  loop_variables (Print parts) = []

  -- those in a block's items
  pub loop_variables_among : Items → List Variable
  loop_variables_among no_items = []
  loop_variables_among (mark line rest) = loop_variables_among rest
  loop_variables_among (local x name start rest) = loop_variables_among rest
  loop_variables_among (stmt s rest) = loop_variables s ++ loop_variables_among rest

-- a local, which has no declaration at file scope, or what is declared there without lengths
abbrev pub is_scalar_there : Option Declaration → Bool
is_scalar_there None = true
is_scalar_there (Some d) = nat_eq (length d.lengths) 0

-- a scalar, by the declarations at file scope: its variables have the first numbers
abbrev pub is_scalar : List Declaration → Variable → Bool
is_scalar ds x = is_scalar_there (slice_get ds x)

-- a local that is no loop's variable
abbrev pub is_private_local : List Declaration → (Variable → Bool) → Variable → Bool
is_private_local ds loops x = not (nat_lt x (length ds)) && not (loops x)

-- a scalar that is no loop's variable
abbrev pub is_result : List Declaration → (Variable → Bool) → Variable → Bool
is_result ds loops x = is_scalar ds x && not (loops x)

-- a private list names such locals alone (OpenMP 5.2, 5.4.3), a `firstprivate` list scalars alone (5.4.4), a `lastprivate` or `reduction` list scalars that are no loop's variables (5.4.5, 5.5.8), also that of a scan (5.6)
abbrev pub fits : List Declaration → (Variable → Bool) → Clause Variable → Bool
fits ds loops (Private xs) = list_all (is_private_local ds loops) xs
fits ds loops (Firstprivate xs) = list_all (is_scalar ds) xs
fits ds loops (Lastprivate xs) = list_all (is_result ds loops) xs
fits ds loops (Reduction op xs) = list_all (is_result ds loops) xs
fits ds loops (Inscan op x) = is_result ds loops x
fits ds loops _ = true

-- each clause of a line fits, whatever statement is behind it
abbrev pub line_fits : List Declaration → (Variable → Bool) → Lines → Question
line_fits ds loops lines n s = list_all (fits ds loops) (lines n)

-- so it is of each construct of a kernel
abbrev pub fit_clauses : Lines → Kernel → Bool
fit_clauses lines k = each_among (line_fits k.variables (is_among (loop_variables_among k.body)) lines) None k.body

-- the number of what is told: K15 of private variables, K16 of reductions
abbrev pub number_told : Misuse → ℕ
number_told (Privatised place) = 15
number_told (LoopVariable place x) = 15
number_told (Reduced place) = 16
