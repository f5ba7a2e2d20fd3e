-- What a statement assigns is visible round it, or declared in it.
use Rattle.std.specs.Prelude.{Bool, true, false, ◌≡◌, ◌==◌, ◌&&◌, ◌||◌, List, [], ◌∷◌}
use Rattle.std.specs.List.{list_all}
use Rattle.std.proofs.Common.{refl, sym, ap, ◌∙◌}
use Rattle.std.proofs.lemmas.Bool.{and_from, or_parts, or_left, or_right, eqb-true, eq-eqb}
use Rattle.semantics.specs.Tree.{Variable, Exprs, no_exprs, more_exprs, Stmt, Assign, Update, If, IfElse, For, Block, Print, Items, no_items, mark, local, stmt}
use Rattle.semantics.specs.Meaning.Agrees.{also, is_among, declared_in, declared_among, names_exprs, names_expr, names_cond, names_source, names_start, names_step, names_only, names_items}
use Rattle.law_runs.proofs.Assigning.{swapped}
use Rattle.law_commute.specs.Targets.{scalar, targets, targets_among}
use Rattle.law_independence.proofs.Targeted.{in_either, in_neither}
use Rattle.law_commute.proofs.Same.{also_other}
use Rattle.law_commute.proofs.Values.{first_of, second_of}

module _ (x : Variable) where
  scalar_named : (V : Variable → Bool) (y : Variable) (is : Exprs) → V y ≡ true → is_among (scalar y is) x ≡ true → V x ≡ true
  scalar_named V y no_exprs v t = at (y == x) refl t
    where
      at : (b : Bool) → (y == x) ≡ b → (b || false) ≡ true → V x ≡ true
      at true e q = ap V (sym (eqb-true y x e)) ∙ v
      at false e q = absurd (cc q)
  scalar_named V y (more_exprs i is) v t = absurd (cc t)

  mutual
    pub target_named : (a : Stmt) (V : Variable → Bool) → names_only V a ≡ true → is_among (declared_in a) x ≡ false → is_among (targets a) x ≡ true → V x ≡ true
    target_named (Assign y is e) V k h t = scalar_named V y is (first_of (V y) (names_exprs V is) (first_of (V y && names_exprs V is) (names_source V e) k)) t
    target_named (Update y is op e) V k h t = scalar_named V y is (first_of (V y) (names_exprs V is) (first_of (V y && names_exprs V is) (names_expr V e) k)) t
    target_named (If c a) V k h t = target_named a V (second_of (names_cond V c) (names_only V a) k) h t
    target_named (IfElse c a b) V k h t =
        let own = in_neither x (declared_in a) (declared_in b) h in
        in_either x (targets a) (targets b) t
        (target_named a V (second_of (names_cond V c) (names_only V a) (first_of (names_cond V c && names_only V a) (names_only V b) k)) own.0)
        (target_named b V (second_of (names_cond V c && names_only V a) (names_only V b) k) own.1)
    target_named (For y name start test step body) V k h t =
        let own = or_parts (y == x) (is_among (declared_in body) x) h in
        also_other V y x (target_named body (also V y) (second_of (names_source V start && names_cond (also V y) test && names_step (also V y) step) (names_only (also V y) body) k) own.1 t) (swapped y x own.0)
    target_named (Block items) V k h t = targets_named items V k h t
    target_named (Print parts) V k h t = absurd (cc t)

    targets_named : (items : Items) (V : Variable → Bool) → names_items V items ≡ true → is_among (declared_among items) x ≡ false → is_among (targets_among items) x ≡ true → V x ≡ true
    targets_named no_items V k h t = absurd (cc t)
    targets_named (mark line rest) V k h t = targets_named rest V k h t
    targets_named (local y name start rest) V k h t =
        let own = or_parts (y == x) (is_among (declared_among rest) x) h in
        also_other V y x (targets_named rest (also V y) (second_of (names_start V start) (names_items (also V y) rest) k) own.1 t) (swapped y x own.0)
    targets_named (stmt a rest) V k h t =
        let own = in_neither x (declared_in a) (declared_among rest) h in
        in_either x (targets a) (targets_among rest) t (target_named a V (first_of (names_only V a) (names_items V rest) k) own.0) (targets_named rest V (second_of (names_only V a) (names_items V rest) k) own.1)

-- what is so of each
pub all_among : (p : Variable → Bool) (xs : List Variable) → ((x : Variable) → is_among xs x ≡ true → p x ≡ true) → list_all p xs ≡ true
all_among p [] h = refl
all_among p (y ∷ xs) h = and_from (p y) (list_all p xs) (h y (or_left (y == y) (is_among xs y) (eq-eqb y y refl))) (all_among p xs (λ x t. h x (or_right (y == x) (is_among xs x) t)))
