-- What a program starts from is a state of its variables.
use Rattle.std.specs.Prelude.{ℕ, zero, suc, Bool, true, false, ◌≡◌, ◌==◌, ◌<◌, ◌^◌, if◌then◌else◌, List, [], ◌∷◌, length, Option, Some, None, slice_get}
use Rattle.std.proofs.Common.{refl, ap, ◌∙◌, subst, arith, All}
use Rattle.std.proofs.lemmas.Bool.{eqb-true}
use Rattle.std.proofs.lemmas.List.Elements.{All-head, All-tail}
use Rattle.semantics.specs.Tree.{Declaration}
use Rattle.semantics.specs.Meaning.State.{is_there}
use Rattle.semantics.specs.Meaning.Places.{within, place, size}
use Rattle.semantics.specs.Meaning.Output.{Given, AreGiven, values_at, first_value, first_cell, start}
use Rattle.semantics.specs.Theorems.{IsStateOf, is_declared}
use Rattle.seqrun_io.proofs.InputStore.{place_below}

-- the values of a variable that has a line: as many as its elements, each below 2^64
record AreValues (d : Declaration) (o : Option (List ℕ)) : Type 0 where
  count : (vs : List ℕ) → o ≡ Some vs → length vs ≡ size d.lengths
  small : (vs : List ℕ) → o ≡ Some vs → All (λ v. v < 2 ^ 64) vs

none_given : (d : Declaration) → AreValues d None
none_given d = record { count = λ vs e. absurd (cc e); small = λ vs e. absurd (cc e) }

some_given : (d : Declaration) (ws : List ℕ) → length ws ≡ size d.lengths → All (λ v. v < 2 ^ 64) ws → AreValues d (Some ws)
some_given d ws count small = record {
  count = λ vs e. let same : ws ≡ vs = cc in subst (λ (vs : List ℕ). length vs ≡ size d.lengths) same count;
  small = λ vs e. let same : ws ≡ vs = cc in subst (λ (vs : List ℕ). All (λ v. v < 2 ^ 64) vs) same small;
}

given_values : (ds : List Declaration) (given : Given) (x : ℕ) (d : Declaration) → AreGiven ds given → slice_get ds x ≡ Some d → AreValues d (values_at given x)
given_values ds [] x d a e = none_given d
given_values ds (g ∷ gs) x d a e = go (g.0 == x) refl (given_values ds gs x d a.2 e)
  where
    go : (t : Bool) → (g.0 == x) ≡ t → AreValues d (values_at gs x) → AreValues d (if t then Some g.1 else values_at gs x)
    go true f r =
        let there : slice_get ds x ≡ Some a.0.0 = subst (λ z. slice_get ds z ≡ Some a.0.0) (eqb-true g.0 x f) a.0.1 in
        let same : a.0.0 ≡ d = cc in
        some_given d g.1 (a.0.2 ∙ ap (λ (c : Declaration). size c.lengths) same) a.0.3
    go false f r = r

value_there : (vs : List ℕ) (i : ℕ) → i < length vs → is_there (slice_get vs i) ≡ true
value_there [] i lt = absurd (omega arith)
value_there (v ∷ vs) zero lt = refl
value_there (v ∷ vs) (suc i) lt = value_there vs i (omega arith)

value_small : (vs : List ℕ) (i v : ℕ) → All (λ v. v < 2 ^ 64) vs → slice_get vs i ≡ Some v → v < 2 ^ 64
value_small [] i v h e = absurd (cc e)
value_small (w ∷ vs) zero v h e = let same : w ≡ v = cc in subst (λ w. w < 2 ^ 64) same (All-head (λ v. v < 2 ^ 64) w vs h)
value_small (w ∷ vs) (suc i) v h e = value_small vs i v (All-tail (λ v. v < 2 ^ 64) w vs h) e

-- each element that is declared has its first value
first_there : (d : Declaration) (o : Option (List ℕ)) (is : List ℕ) → AreValues d o → is_there (first_cell (Some d) o is) ≡ within d.lengths is
first_there d o is h = go (within d.lengths is) refl o h
  where
    go : (b : Bool) → within d.lengths is ≡ b → (o : Option (List ℕ)) → AreValues d o → is_there (if b then first_value o (place d.lengths is) else None) ≡ b
    go false e o h = refl
    go true e None h = refl
    go true e (Some vs) h =
        let lt = place_below d.lengths is 0 e in
        let n = h.count vs refl in
        value_there vs (place d.lengths is) (omega arith)

first_small : (d : Declaration) (o : Option (List ℕ)) (is : List ℕ) (v : ℕ) → AreValues d o → first_cell (Some d) o is ≡ Some v → v < 2 ^ 64
first_small d o is v h e = go (within d.lengths is) o h e
  where
    go : (b : Bool) (o : Option (List ℕ)) → AreValues d o → (if b then first_value o (place d.lengths is) else None) ≡ Some v → v < 2 ^ 64
    go false o h e = absurd (cc e)
    go true None h e = let same : 0 ≡ v = cc in omega arith
    go true (Some vs) h e = value_small vs (place d.lengths is) v (h.small vs refl) e

pub start_is_state : (ds : List Declaration) (given : Given) → AreGiven ds given → IsStateOf ds (start ds given)
start_is_state ds given a = record {
  there = λ x is. there x is (slice_get ds x) refl;
  cells = λ x is v e. small x is v (slice_get ds x) refl e;
  locals = λ x v e. absurd (cc e);
}
  where
    there : (x : ℕ) (is : List ℕ) (o : Option Declaration) → slice_get ds x ≡ o → is_there (first_cell o (values_at given x) is) ≡ is_declared o is
    there x is None e = refl
    there x is (Some d) e = first_there d (values_at given x) is (given_values ds given x d a e)

    small : (x : ℕ) (is : List ℕ) (v : ℕ) (o : Option Declaration) → slice_get ds x ≡ o → first_cell o (values_at given x) is ≡ Some v → v < 2 ^ 64
    small x is v None e f = absurd (cc f)
    small x is v (Some d) e f = first_small d (values_at given x) is v (given_values ds given x d a e) f
