-- Accesses of an accepted text stay inside their arrays.
use Rattle.std.specs.Prelude.{◌≡◌, List, [], ◌∷◌, ◌++◌, Contains}
use Rattle.std.proofs.Common.{refl, ap, ◌∙◌, subst}
use Rattle.semantics.specs.Tree.{Stmt, Assign, Update, If, IfElse, For, Block, Print, Items, no_items, mark, local, stmt, strip_stmt, strip_items}
use Rattle.semantics.specs.Loops.Nest.{Loop}
use Rattle.semantics.specs.Loops.Access.{Access, cond_accesses, start_accesses, accesses, items_accesses}
use Rattle.ktree.specs.View.{kernel_of}
use Rattle.deptest.specs.Accepted.{Program, tree_of, IsAccepted}
use Rattle.law_ranges.proofs.Within.{ranges_hold_at_turns}
use Rattle.ompk.specs.Inside.{AccessesStayWithin}

mutual
  -- directive lines name no element
  stripped_in : (inner : List Loop) (s : Stmt) → accesses inner (strip_stmt s) ≡ accesses inner s
  stripped_in inner (Assign x is e) = refl
  stripped_in inner (Update x is op e) = refl
  stripped_in inner (If c a) = ap (λ found. cond_accesses inner c ++ found) (stripped_in inner a)
  stripped_in inner (IfElse c a b) =
      ap (λ found. cond_accesses inner c ++ found ++ accesses inner (strip_stmt b)) (stripped_in inner a)
      ∙ ap (λ found. cond_accesses inner c ++ accesses inner a ++ found) (stripped_in inner b)
  stripped_in inner (For x name start test step body) = stripped_in (inner ++ record { variable = x; start = start; test = test; step = step } ∷ []) body
  stripped_in inner (Block items) = stripped_among inner items
  stripped_in inner (Print parts) = refl

  stripped_among : (inner : List Loop) (items : Items) → items_accesses inner (strip_items items) ≡ items_accesses inner items
  stripped_among inner no_items = refl
  stripped_among inner (mark line rest) = stripped_among inner rest
  stripped_among inner (local x name start rest) = ap (λ found. start_accesses inner start ++ found) (stripped_among inner rest)
  stripped_among inner (stmt a rest) =
      ap (λ found. found ++ items_accesses inner (strip_items rest)) (stripped_in inner a) ∙ ap (λ found. accesses inner a ++ found) (stripped_among inner rest)

-- those of an accepted text, by the law of accesses in range
pub accesses_stay_within : (p : Program) → IsAccepted p → AccessesStayWithin (tree_of p)
accesses_stay_within p accepted access s turns u there e among =
    let passed = accepted.passed in
    let k = kernel_of p.kernel in
    ranges_hold_at_turns p.text k access s turns u passed.reads passed.in_range (subst (λ (found : List Access). Contains found access) (stripped_among [] k.body) there) e among
