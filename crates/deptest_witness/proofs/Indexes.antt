-- The indexes that subscripts give.
use Rattle.std.specs.Prelude.{ℕ, zero, suc, ◌≡◌, ◌<◌, ◌^◌, ◌++◌, ℤ, pos, List, [], ◌∷◌, slice_get, Some}
use Rattle.std.proofs.Common.{refl, sym, ap, ◌∙◌, arith}
use Rattle.std.proofs.lemmas.Int.{ints}
use Rattle.std.proofs.lemmas.Option.{none-some, same_Some}
use Rattle.semantics.specs.Tree.{Variable}
use Rattle.affine.specs.Affine.{Affine, value}
use Rattle.deptest_witness.specs.Touching.{AreIndexes}

-- one more subscript
pub indexes_more : (fs : List Affine) (f : Affine) (values : Variable → ℤ) (is : List ℕ) (i : ℕ) → AreIndexes fs values is → value f values ≡ pos i → i < 2 ^ 64
    → AreIndexes (fs ++ (f ∷ [])) values (is ++ (i ∷ []))
indexes_more [] f values [] i h e lt = (e, lt, tt)
indexes_more [] f values (j ∷ is) i h e lt = absurd h
indexes_more (g ∷ fs) f values [] i h e lt = absurd h
indexes_more (g ∷ fs) f values (j ∷ is) i h e lt = (h.0, h.1, indexes_more fs f values is i h.2 e lt)

-- each subscript has an index
pub index_there : (fs : List Affine) (values : Variable → ℤ) (is : List ℕ) (k : ℕ) (f : Affine) → AreIndexes fs values is → slice_get fs k ≡ Some f
    → (i : ℕ) × (value f values ≡ pos i) × (i < 2 ^ 64)
index_there [] values is k f h e = absurd (none-some f e)
index_there (g ∷ fs) values [] k f h e = absurd h
index_there (g ∷ fs) values (i ∷ is) zero f h e = (i, sym (ap (λ (a : Affine). value a values) (same_Some g f e)) ∙ h.0, h.1)
index_there (g ∷ fs) values (i ∷ is) (suc k) f h e = index_there fs values is k f h.2 e

pos_same : (a b : ℕ) → pos a ≡ pos b → a ≡ b
pos_same a b e = omega (arith, ints)

-- they have them in one way alone
pub same_indexes : (fs : List Affine) (values : Variable → ℤ) (is js : List ℕ) → AreIndexes fs values is → AreIndexes fs values js → is ≡ js
same_indexes [] values [] [] p q = refl
same_indexes [] values [] (j ∷ js) p q = absurd q
same_indexes [] values (i ∷ is) js p q = absurd p
same_indexes (f ∷ fs) values [] js p q = absurd p
same_indexes (f ∷ fs) values (i ∷ is) [] p q = absurd q
same_indexes (f ∷ fs) values (i ∷ is) (j ∷ js) p q =
    let first = pos_same i j (sym p.0 ∙ q.0) in
    let rest = same_indexes fs values is js p.2 q.2 in
    λ n. first n ∷ rest n
