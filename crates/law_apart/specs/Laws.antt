-- Kernels run apart leave what they leave in sequence. (C11 6.2.1 and 6.2.4; OpenMP 5.2, 11.5)
use Rattle.std.specs.Prelude.{ℕ, ◌≡◌, List, [], Option, Some, slice_get}
use Rattle.semantics.specs.Tree.{Variable, Declaration, Kernel}
use Rattle.law_lines.specs.Without.{IsTreeOf}
use Rattle.semantics.specs.Meaning.State.{State, Outside, is_there, overwritten}
use Rattle.semantics.specs.Meaning.Definite.{IsDefinite}
use Rattle.semantics.specs.Meaning.Runs.{Effect, run_items}
use Rattle.semantics.specs.Theorems.{is_declared}
use Rattle.nest.specs.Nests.{IsInRange}
use Rattle.flow.specs.Roles.{LineData, privates_by, ItemsHaveBy, ItemsKeepRoles}
use Rattle.law_independence.specs.Said.{LinesInside}
use Rattle.law_independence.specs.OrderLaws.{SharesBy}
use Rattle.law_apart.specs.Apart.{apart_items}

-- no local stands yet, and the objects of the declarations are there and no other
pub record StartsWith (ds : List Declaration) (s : State) : Type 0 where
  pub there : (x : Variable) (is : List ℕ) → is_there (s.cells x is) ≡ is_declared (slice_get ds x) is
  pub outside : (x : Variable) → s.locals x ≡ Outside

-- there is such an effect too, with the same text, which leaves the same objects at file scope
pub record LeavesTheSame (s : State) (e : Effect) (o : Option Effect) : Type 0 where
  pub effect : Effect
  pub is : o ≡ Some effect
  pub text : effect.text ≡ e.text
  pub cells : (x : Variable) (is : List ℕ) → (overwritten s effect.writes).cells x is ≡ (overwritten s e.writes).cells x is

-- so it is of each kernel of the grammar with subscripts in range, in which no local is read before it is assigned, and whose parallel loops commute and keep the roles of the scalars that they assign
abbrev pub AcceptedKernelsRunApart : Type 0
AcceptedKernelsRunApart =
    (text : List ℕ) (k : Kernel) (R : LineData) (P : LinesInside) (s : State) (e : Effect) → IsTreeOf text k → IsInRange k → IsDefinite (privates_by R) k
    → ItemsKeepRoles text R [] k.body → ItemsHaveBy text (SharesBy k.variables R P) [] k.body
    → StartsWith k.variables s → run_items k.body s ≡ Some e
    → LeavesTheSame s e (apart_items R [] k.body s)
