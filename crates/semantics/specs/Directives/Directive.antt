-- Directives, as they are read (OpenMP 5.2). A variable stands in them by its name, or by its number where names are resolved.
use Rattle.std.specs.Prelude.{ℕ, List, ℤ, codes}
use Rattle.semantics.specs.Loops.Operator.{ReduceOp, Sum, Product, And, Or, Xor, AndAlso, OrElse, Max, Min}

-- OpenMP 5.2, 11.5.3
pub data Schedule : Type 0 where
  StaticPlain : Schedule
  StaticSize : ℕ → Schedule
  DynamicSize : ℕ → Schedule
  GuidedSize : ℕ → Schedule
  Auto Runtime : Schedule

-- data environment (OpenMP 5.2, 5.4 and 5.5.8), schedule (11.5.3), collapse and ordered (4.4.3, 4.4.4), nowait (15.6)
pub data Clause (A : Type 0) : Type 0 where
  DefaultShared DefaultNone Nowait Ordered : Clause A
  Shared Private Firstprivate Lastprivate LastConditional : List A → Clause A
  Reduction : ReduceOp → List A → Clause A
  Inscan : ReduceOp → A → Clause A
  ScheduledBy : Schedule → Clause A
  Collapse : ℕ → Clause A
  OrderedLoops : ℕ → Clause A

-- parallel for (OpenMP 5.2, 17), parallel (10.1), for (11.5.1), scan (5.6), and ordered (15.10) with its doacross clause
pub data Directive (A : Type 0) : Type 0 where
  ParallelFor Parallel Worksharing : List (Clause A) → Directive A
  ScanInclusive ScanExclusive : A → Directive A
  OrderedRegion DoacrossSource : Directive A
  DoacrossSink : List (A × ℤ) → Directive A

-- reduction identifiers (OpenMP 5.2, 5.5.1)
abbrev pub op_text : ReduceOp → List ℕ
op_text Sum = codes "+"
op_text Product = codes "*"
op_text And = codes "&"
op_text Or = codes "|"
op_text Xor = codes "^"
op_text AndAlso = codes "&&"
op_text OrElse = codes "||"
op_text Max = codes "max"
op_text Min = codes "min"
