-- The private variables of directive lines are locals, and where none is read unassigned, none is whatever is private.
use Rattle.std.specs.Prelude.{ℕ, Bool, true, false, not, nat_lt, ◌≡◌, ◌≤◌, ◌==◌, ◌||◌, if◌then◌else◌, List, [], ◌∷◌, filter, flat_map, length, is_some, Option, Some, None}
use Rattle.std.proofs.Common.{refl, sym, ap, subst}
use Rattle.std.proofs.lemmas.Bool.{eqb-true, ltb-false}
use Rattle.semantics.specs.Tree.{Variable, Kernel}
use Rattle.semantics.specs.Meaning.Agrees.{is_among}
use Rattle.semantics.specs.Meaning.Definite.{DefinitelyAssigned, Privates, no_privates, definite_items, known_at_start, IsDefinite}
use Rattle.semantics.specs.Directives.Annotated.{Directives}
use Rattle.semantics.specs.Directives.Clauses.{private_of}
use Rattle.law_private.proofs.More.{more_known}
use Rattle.flow_definite.specs.Judged.{is_local}
use Rattle.deptest.specs.Accepted.{HasPassed, clauses_counted, data_counted, data_passed}

-- of those that a test leaves each passes it
passes : (n : ℕ) (xs : List Variable) (x : Variable) → is_among (filter (is_local n) xs) x ≡ true → n ≤ x
passes n [] x h = absurd cc
passes n (y ∷ xs) x h = go (nat_lt y n) refl h (λ k. passes n xs x k)
  where
    rest : List Variable
    rest = filter (is_local n) xs

    here : (e : Bool) → (y == x) ≡ e → n ≤ y → (e || is_among rest x) ≡ true → (is_among rest x ≡ true → n ≤ x) → n ≤ x
    here true same le h later = subst (λ z. n ≤ z) (eqb-true y x same) le
    here false same le h later = later h

    go : (b : Bool) → nat_lt y n ≡ b → is_among (if not b then y ∷ rest else rest) x ≡ true → (is_among rest x ≡ true → n ≤ x) → n ≤ x
    go true is h later = later h
    go false is h later = here (y == x) refl (ltb-false y n is) h later

whole_locals : (text : List ℕ) (k : Kernel) (ds : Directives) (line : ℕ) (x : Variable) → is_among (data_counted text k ds line).roles.privates x ≡ true → length k.variables ≤ x
whole_locals text k ds line x h = passes (length k.variables) (flat_map private_of (clauses_counted text k ds line)) x h

-- the private variables of a kernel that has passed have numbers behind those at file scope
pub private_locals : (text : List ℕ) (k : Kernel) (p : HasPassed text k) (line : ℕ) (x : Variable) → is_among (data_passed p line).roles.privates x ≡ true → length k.variables ≤ x
private_locals text k p line x h = subst (λ (j : Kernel). length j.variables ≤ x) (sym p.reads.is) (whole_locals text p.reads.whole p.directives line x h)

-- with private locals that are unassigned behind their constructs no local is read unassigned, nor is one without them
pub plainly_definite : (P : Privates) (k : Kernel) → IsDefinite P k → IsDefinite no_privates k
plainly_definite P k h = go (definite_items P [] k.body start) refl h
  where
    start : DefinitelyAssigned
    start = known_at_start k.variables

    go : (o : Option DefinitelyAssigned) → definite_items P [] k.body start ≡ o → is_some o ≡ true → IsDefinite no_privates k
    go None e h = absurd cc
    go (Some known) e h = ap is_some (more_known.items P no_privates [] [] k.body start known start (λ line x q. absurd (cc q)) (λ x q. q) (λ x q. q) e).is
