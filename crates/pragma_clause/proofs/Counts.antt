-- Clauses are counted one by one.
use Rattle.std.proofs.Common.{◌≡◌, ℕ, ◌+◌, Bool, true, false, not, ◌&&◌, cond, List, [], ◌∷◌, map, count_by, nat_le, refl, sym, ap, ◌∙◌, arith}
use Rattle.std.specs.Prelude.{◌==◌}
use Rattle.std.specs.List.{list_all}
use Rattle.std.proofs.lemmas.Bool.Decides.{nat_tests}
use Rattle.std.proofs.lemmas.List.Sums.{sum_by-cons, length-filter}
use Rattle.semantics.specs.Directives.DirectiveGrammar.{at_most_one}
use Rattle.ktree.specs.declared.directive.Written.{Written}
use Rattle.ktree.specs.declared.directive.Clause.{Clause}
use Rattle.pragma_clause.specs.declared.clauses.On.{On}
use Rattle.pragma_clause.specs.declared.clauses.Single.{Single}
use Rattle.pragma_clause.specs.ClauseKinds.{may_have, is_single, is_unfit, is_counted}
use Rattle.pragma_clause.specs.Views.{written_clause}

counted_one : {X : Type 0} (p : X → Bool) (x : X) (xs : List X) → count_by p (x ∷ xs) ≡ cond (p x) 1 0 + count_by p xs
counted_one p x xs = sum_by-cons (λ x. cond (p x) 1 0) x xs

none_more : (n : ℕ) → (1 + n == 0) ≡ false
none_more n = grind (arith, nat_tests)

-- all pass a test where none fails it
all_pass : {X A : Type 0} (f : X → A) (p : A → Bool) (xs : List X) → list_all p (map f xs) ≡ (count_by (λ x. not (p (f x))) xs == 0)
all_pass f p [] = refl
all_pass f p (x ∷ xs) =
    go (p (f x)) (count_by (λ x. not (p (f x))) xs) (all_pass f p xs) ∙ ap (λ n. n == 0) (sym (counted_one (λ x. not (p (f x))) x xs))
  where
    go : (b : Bool) (k : ℕ) → list_all p (map f xs) ≡ (k == 0) → (b && list_all p (map f xs)) ≡ (cond (not b) 1 0 + k == 0)
    go true k h = let same : k ≡ 0 + k = omega arith in h ∙ ap (λ n. n == 0) same
    go false k h = sym (none_more k)

-- as many pass a test of what they are seen as
counted_map : {X A : Type 0} (f : X → A) (p : A → Bool) (xs : List X) → count_by p (map f xs) ≡ count_by (λ x. p (f x)) xs
counted_map f p [] = refl
counted_map f p (x ∷ xs) =
    counted_one p (f x) (map f xs) ∙ ap (λ n. cond (p (f x)) 1 0 + n) (counted_map f p xs) ∙ sym (counted_one (λ x. p (f x)) x xs)

pub all_fit : (on : On) (xs : List (Clause Written)) → list_all (may_have on) (map written_clause xs) ≡ (count_by (is_unfit on) xs == 0)
all_fit on xs = all_pass written_clause (may_have on) xs

pub single : (s : Single) (xs : List (Clause Written)) → at_most_one (is_single s) (map written_clause xs) ≡ nat_le (count_by (is_counted s) xs) 1
single s xs = ap (λ n. nat_le n 1) (length-filter (is_single s) (map written_clause xs) ∙ counted_map written_clause (is_single s) xs)
