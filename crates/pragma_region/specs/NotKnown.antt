-- Clauses that are read and not run, each by the number that refuses it. (OpenMP 5.2, 5.4.5)
use Rattle.std.specs.Prelude.{ℕ, List, [], ◌∷◌, Option, Some, None}
use Rattle.semantics.specs.Tree.{Name, Stmt, Assign, Update, If, IfElse, For, Block, Print, Items, no_items, mark, local, stmt}
use Rattle.semantics.specs.Directives.Directive.{Clause, LastConditional, Directive, ParallelFor, Worksharing}
use Rattle.pragma_attach.specs.Standing.{directive_on}
use Rattle.pragma_region.specs.declared.unknown.Unknown.{Unknown}
use Rattle.pragma_region.specs.declared.unknown.Unknown.TheVariants as unknown

-- the first of two numbers, where one is told
abbrev pub first_told : Option ℕ → Option ℕ → Option ℕ
first_told None later = later
first_told (Some n) later = Some n

-- a clause of variables: K15 for `lastprivate` of the last assignment (OpenMP 5.2, 5.4.5)
abbrev pub clause_number : Clause Name → Option ℕ
clause_number (LastConditional xs) = Some 15
clause_number _ = None

-- the first of a line's clauses that is one
abbrev pub first_number : List (Clause Name) → Option ℕ
first_number [] = None
first_number (c ∷ cs) = first_told (clause_number c) (first_number cs)

-- of a directive: it has such a clause, where it is a loop's
abbrev pub directive_number : Directive Name → Option ℕ
directive_number (ParallelFor cs) = first_number cs
directive_number (Worksharing cs) = first_number cs
directive_number _ = None

-- of a line, where it is a directive
abbrev pub number_there : Option (Directive Name) → Option ℕ
number_there None = None
number_there (Some d) = directive_number d

abbrev mutual
  -- that of the first such line in a statement
  pub unknown_in : List ℕ → Stmt → Option ℕ
  unknown_in text (Assign x is e) = None
  unknown_in text (Update x is op e) = None
  unknown_in text (If c a) = unknown_in text a
  unknown_in text (IfElse c a b) = first_told (unknown_in text a) (unknown_in text b)
  unknown_in text (For x name start test step body) = unknown_in text body
  unknown_in text (Block items) = unknown_among text items
  unknown_in text (Print parts) = None

  -- or among a block's items
  pub unknown_among : List ℕ → Items → Option ℕ
  unknown_among text no_items = None
  unknown_among text (mark n rest) = first_told (number_there (directive_on text n)) (unknown_among text rest)
  unknown_among text (local x name start rest) = unknown_among text rest
  unknown_among text (stmt s rest) = first_told (unknown_in text s) (unknown_among text rest)

-- the number of what is told
abbrev pub number_told : Unknown → ℕ
number_told (unknown.Conditional place) = 15
