-- What is known stays known where nothing declares it and no private list names it. (C11 6.7.9; OpenMP 5.2, 5.4.3)
use Rattle.std.specs.Prelude.{true, false, ◌≡◌, ◌==◌, ◌&&◌, List, [], Option, Some, None}
use Rattle.std.proofs.Common.{refl, sym, ap, ◌∙◌, cond}
use Rattle.std.proofs.lemmas.Bool.{and_from, or_parts}
use Rattle.std.proofs.lemmas.Option.{same_Some, none-some}
use Rattle.semantics.specs.Tree.{Name, Variable, Cond, Source, Increment, Stmt, Assign, Update, If, IfElse, For, Block, Print, Items, no_items, mark, local, stmt}
use Rattle.semantics.specs.Meaning.Definite.{Privates, DefinitelyAssigned, known_with, without, may_read, may_read_all, may_test, may_take, may_step, may_print, after_both, privates_in, privates_among, declared_known, if_stepped, definite, definite_items}
use Rattle.semantics.specs.Meaning.Agrees.{is_among, declared_in, declared_among}
use Rattle.semantics.specs.Loops.Nest.{Loop, as_loop}
use Rattle.law_runs.proofs.Assigning.{swapped}
use Rattle.law_runs.proofs.Going.{known_with_less}
use Rattle.law_runs.proofs.Points.{allowed, tested_known, branches, and_then}
use Rattle.law_commute.proofs.Values.{first_of, second_of}
use Rattle.law_private.specs.Known.{IsWithin}
use Rattle.law_private.proofs.Alike.{without_within}
use Rattle.law_private.proofs.More.{without_stays}
use Rattle.law_independence.proofs.Targeted.{in_neither}

-- ---- a loop

-- what is known inside it, and behind it
pub record IsLoopKnown (P : Privates) (x : Variable) (start : Source) (test : Cond) (step : Increment) (body : Stmt) (k k' : DefinitelyAssigned) : Type 0 where
  pub after : DefinitelyAssigned
  pub starts : may_take k start ≡ true
  pub tests : may_test (without (known_with k x true) (privates_in P body)) test ≡ true
  pub inside : definite P body (without (known_with k x true) (privates_in P body)) ≡ Some after
  pub steps : may_step after step ≡ true
  pub behind : without k (privates_in P body) ≡ k'

pub loop_is_known : (P : Privates) (x : Variable) (name : Name) (start : Source) (test : Cond) (step : Increment) (body : Stmt) (k k' : DefinitelyAssigned) → definite P (For x name start test step body) k ≡ Some k'
    → IsLoopKnown P x start test step body k k'
loop_is_known P x name start test step body k k' d = at (definite P body inside) refl t.1
  where
    inside : DefinitelyAssigned
    inside = without (known_with k x true) (privates_in P body)

    t : ((may_take k start && may_test inside test) ≡ true) × (if_stepped (λ after. may_step after step) (definite P body inside) (Some (without k (privates_in P body))) ≡ Some k')
    t = tested_known (may_take k start && may_test inside test) (if_stepped (λ after. may_step after step) (definite P body inside) (Some (without k (privates_in P body)))) k' d

    at : (o : Option DefinitelyAssigned) → definite P body inside ≡ o → if_stepped (λ after. may_step after step) o (Some (without k (privates_in P body))) ≡ Some k' → IsLoopKnown P x start test step body k k'
    at None e q = absurd (none-some k' q)
    at (Some after) e q =
        let stepped = tested_known (may_step after step) (Some (without k (privates_in P body))) k' q in
        record {
          after = after;
          starts = first_of (may_take k start) (may_test inside test) t.0;
          tests = second_of (may_take k start) (may_test inside test) t.0;
          inside = e;
          steps = stepped.0;
          behind = same_Some (without k (privates_in P body)) k' stepped.1;
        }

-- nothing becomes known behind a loop
pub loop_knows : (P : Privates) (s : Stmt) (l : Loop) (b : Stmt) (k k' : DefinitelyAssigned) → as_loop s ≡ Some (l, b) → definite P s k ≡ Some k' → IsWithin k' k
loop_knows P (For x name start test step body) l b k k' h d y q =
    without_within (privates_in P body) k y (ap (λ (j : DefinitelyAssigned). j y) (loop_is_known P x name start test step body k k' d).behind ∙ q)
loop_knows P (Block (stmt a no_items)) l b k k' h d y q =
    let first = and_then (λ after. definite_items P [] no_items (without after [])) (definite P a k) k' d in
    loop_knows P a l b k k' h (first.1 ∙ first.2) y q
loop_knows P _ l b k k' h d y q = absurd (none-some (l, b) h)

-- ---- statements

module _ (P : Privates) (y : Variable) where
  -- a local is declared
  declared_stays : (x : Variable) (k : DefinitelyAssigned) (start : Option Source) (k' : DefinitelyAssigned) → (x == y) ≡ false → declared_known k x start ≡ Some k' → k y ≡ true → k' y ≡ true
  declared_stays x k None k' other d known = ap (λ (j : DefinitelyAssigned). j y) (sym (same_Some (known_with k x false) k' d)) ∙ ap (λ b. cond b false (k y)) (swapped x y other) ∙ known
  declared_stays x k (Some e) k' other d known =
      ap (λ (j : DefinitelyAssigned). j y) (sym (allowed (may_take k e) (known_with k x true) k' d).1) ∙ ap (λ b. cond b true (k y)) (swapped x y other) ∙ known

  same_known : (k k' : DefinitelyAssigned) → k ≡ k' → k y ≡ true → k' y ≡ true
  same_known k k' e known = ap (λ (j : DefinitelyAssigned). j y) (sym e) ∙ known

  mutual
    pub stays : (a : Stmt) (k k' : DefinitelyAssigned) → definite P a k ≡ Some k' → is_among (declared_in a) y ≡ false → is_among (privates_in P a) y ≡ false → k y ≡ true → k' y ≡ true
    stays (Assign x is e) k k' d h p known =
        same_known (known_with k x true) k' (allowed (may_read_all k is && may_take k e) (known_with k x true) k' d).1 (known_with_less k x y known)
    stays (Update x is op e) k k' d h p known = same_known k k' (allowed (k x && may_read_all k is && may_read k e) k k' d).1 known
    stays (If c a) k k' d h p known =
        let tested = tested_known (may_test k c) (after_both (definite P a k) (Some k)) k' d in
        let parts = branches (definite P a k) (Some k) k' tested.1 in
        same_known (λ z. parts.left z && parts.right z) k' parts.is (and_from (parts.left y) (parts.right y) (stays a k parts.left parts.first h p known) (same_known k parts.right (same_Some k parts.right parts.second) known))
    stays (IfElse c a b) k k' d h p known =
        let tested = tested_known (may_test k c) (after_both (definite P a k) (definite P b k)) k' d in
        let parts = branches (definite P a k) (definite P b k) k' tested.1 in
        let own = in_neither y (declared_in a) (declared_in b) h in
        let private = in_neither y (privates_in P a) (privates_in P b) p in
        same_known (λ z. parts.left z && parts.right z) k' parts.is
        (and_from (parts.left y) (parts.right y) (stays a k parts.left parts.first own.0 private.0 known) (stays b k parts.right parts.second own.1 private.1 known))
    stays (For x name start test step body) k k' d h p known =
        same_known (without k (privates_in P body)) k' (loop_is_known P x name start test step body k k' d).behind (without_stays (privates_in P body) k y known p)
    stays (Block items) k k' d h p known = items_stay [] items k k' d refl h p known
    stays (Print parts) k k' d h p known = same_known k k' (allowed (may_print k parts) k k' d).1 known

    items_stay : (pending : List Variable) (items : Items) (k k' : DefinitelyAssigned) → definite_items P pending items k ≡ Some k' → is_among pending y ≡ false → is_among (declared_among items) y ≡ false
        → is_among (privates_among P items) y ≡ false → k y ≡ true → k' y ≡ true
    items_stay pending no_items k k' d before h p known = same_known k k' (same_Some k k' d) known
    items_stay pending (mark line rest) k k' d before h p known =
        let private = in_neither y (P line) (privates_among P rest) p in items_stay (P line) rest k k' d private.0 h private.1 known
    items_stay pending (local x name start rest) k k' d before h p known =
        let first = and_then (definite_items P [] rest) (declared_known k x start) k' d in
        let own = or_parts (x == y) (is_among (declared_among rest) y) h in
        items_stay [] rest first.0 k' first.2 refl own.1 p (declared_stays x k start first.0 own.0 first.1 known)
    items_stay pending (stmt a rest) k k' d before h p known =
        let first = and_then (λ after. definite_items P [] rest (without after pending)) (definite P a k) k' d in
        let own = in_neither y (declared_in a) (declared_among rest) h in
        let private = in_neither y (privates_in P a) (privates_among P rest) p in
        items_stay [] rest (without first.0 pending) k' first.2 refl own.1 private.1 (without_stays pending first.0 y (stays a k first.0 first.1 own.0 private.0 known) before)
