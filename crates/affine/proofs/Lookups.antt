-- What stands at the place of a variable in a list of terms or of sides.
use Rattle.std.proofs.Common.{◌≡◌, ℕ, pos, zero, suc, ◌<◌, ◌==◌, nat_lt, Bool, true, false, cond, List, [], ◌∷◌, length, get_or, Some, None, refl, ap, ◌∙◌, arith}
use Rattle.std.specs.Prelude.{remove, position}
use Rattle.std.specs.List.{position_or_len}
use Rattle.std.proofs.lemmas.Bool.Decides.{nat_tests}
use Rattle.std.proofs.lemmas.List.Quantifiers.{position-Some}
use Rattle.std.proofs.lemmas.List.Sums.{fails_before_first}
use Rattle.semantics.specs.Tree.{Variable}
use Rattle.affine.specs.declared.term.Term.{Term}
use Rattle.affine.specs.declared.interval.Side.{Side}
use Rattle.affine.specs.Affine.{coefficient_at}
use Rattle.affine.specs.Arithmetic.{terms_without}
use Rattle.affine.specs.Box.{interval_at, only_zero}

-- where there is no place, each element fails
pub position-None : {X : Type 0} (p : X → Bool) (xs : List X) (d : X) → position p xs ≡ None → (k : ℕ) → k < length xs → p (get_or xs k d) ≡ false
position-None p xs d none k l = by (nat_lt (position_or_len p xs) (length xs)) refl
  where
    by : (b : Bool) → nat_lt (position_or_len p xs) (length xs) ≡ b → p (get_or xs k d) ≡ false
    by true e =
        let found : position p xs ≡ Some (position_or_len p xs) = ap (λ (b : Bool). cond b (Some (position_or_len p xs)) None) e in
        absurd (cc)
    by false e = let far : k < position_or_len p xs = grind (arith, nat_tests) in fails_before_first p xs k d far

coefficient_at-found : (x : Variable) (ts : List Term) (i : ℕ) (d : Term) → i < length ts → (get_or ts i d).variable.0 == x ≡ true
    → ((k : ℕ) → k < i → (get_or ts k d).variable.0 == x ≡ false) → coefficient_at ts x ≡ (get_or ts i d).coefficient
coefficient_at-found x [] i d l e h = absurd (omega arith)
coefficient_at-found x (t ∷ ts) zero d l e h = ap (λ (b : Bool). cond b t.coefficient (coefficient_at ts x)) e
coefficient_at-found x (t ∷ ts) (suc i) d l e h =
    ap (λ (b : Bool). cond b t.coefficient (coefficient_at ts x)) (h zero (omega arith))
    ∙ coefficient_at-found x ts i d (omega arith) e (λ k m. h (suc k) (omega arith))

terms_without-found : (x : Variable) (ts : List Term) (i : ℕ) (d : Term) → i < length ts → (get_or ts i d).variable.0 == x ≡ true
    → ((k : ℕ) → k < i → (get_or ts k d).variable.0 == x ≡ false) → terms_without x ts ≡ remove ts i
terms_without-found x [] i d l e h = absurd (omega arith)
terms_without-found x (t ∷ ts) zero d l e h = ap (λ (b : Bool). cond b ts (t ∷ terms_without x ts)) e
terms_without-found x (t ∷ ts) (suc i) d l e h =
    ap (λ (b : Bool). cond b ts (t ∷ terms_without x ts)) (h zero (omega arith))
    ∙ ap (λ (us : List Term). t ∷ us) (terms_without-found x ts i d (omega arith) e (λ k m. h (suc k) (omega arith)))

coefficient_at-none : (x : Variable) (ts : List Term) (d : Term) → ((k : ℕ) → k < length ts → (get_or ts k d).variable.0 == x ≡ false) → coefficient_at ts x ≡ pos 0
coefficient_at-none x [] d h = refl
coefficient_at-none x (t ∷ ts) d h =
    ap (λ (b : Bool). cond b t.coefficient (coefficient_at ts x)) (h zero (omega arith)) ∙ coefficient_at-none x ts d (λ k m. h (suc k) (omega arith))

terms_without-none : (x : Variable) (ts : List Term) (d : Term) → ((k : ℕ) → k < length ts → (get_or ts k d).variable.0 == x ≡ false) → terms_without x ts ≡ ts
terms_without-none x [] d h = refl
terms_without-none x (t ∷ ts) d h =
    ap (λ (b : Bool). cond b ts (t ∷ terms_without x ts)) (h zero (omega arith))
    ∙ ap (λ (us : List Term). t ∷ us) (terms_without-none x ts d (λ k m. h (suc k) (omega arith)))

interval_at-found : (x : Variable) (ss : List Side) (i : ℕ) (d : Side) → i < length ss → (get_or ss i d).variable.0 == x ≡ true
    → ((k : ℕ) → k < i → (get_or ss k d).variable.0 == x ≡ false) → interval_at ss x ≡ (get_or ss i d).interval
interval_at-found x [] i d l e h = absurd (omega arith)
interval_at-found x (s ∷ ss) zero d l e h = ap (λ (b : Bool). cond b s.interval (interval_at ss x)) e
interval_at-found x (s ∷ ss) (suc i) d l e h =
    ap (λ (b : Bool). cond b s.interval (interval_at ss x)) (h zero (omega arith))
    ∙ interval_at-found x ss i d (omega arith) e (λ k m. h (suc k) (omega arith))

interval_at-none : (x : Variable) (ss : List Side) (d : Side) → ((k : ℕ) → k < length ss → (get_or ss k d).variable.0 == x ≡ false) → interval_at ss x ≡ only_zero
interval_at-none x [] d h = refl
interval_at-none x (s ∷ ss) d h =
    ap (λ (b : Bool). cond b s.interval (interval_at ss x)) (h zero (omega arith)) ∙ interval_at-none x ss d (λ k m. h (suc k) (omega arith))

-- a variable's coefficient, by the place of its term
pub coefficient_at-Some : (x : Variable) (ts : List Term) (i : ℕ) (d : Term) → position (λ t. t.variable.0 == x) ts ≡ Some i → coefficient_at ts x ≡ (get_or ts i d).coefficient
coefficient_at-Some x ts i d e = let at = position-Some (λ t. t.variable.0 == x) ts i d e in coefficient_at-found x ts i d at.0 at.1 at.2

pub terms_without-Some : (x : Variable) (ts : List Term) (i : ℕ) (d : Term) → position (λ t. t.variable.0 == x) ts ≡ Some i → terms_without x ts ≡ remove ts i
terms_without-Some x ts i d e = let at = position-Some (λ t. t.variable.0 == x) ts i d e in terms_without-found x ts i d at.0 at.1 at.2

pub coefficient_at-None : (x : Variable) (ts : List Term) (d : Term) → position (λ t. t.variable.0 == x) ts ≡ None → coefficient_at ts x ≡ pos 0
coefficient_at-None x ts d e = coefficient_at-none x ts d (position-None (λ t. t.variable.0 == x) ts d e)

pub terms_without-None : (x : Variable) (ts : List Term) (d : Term) → position (λ t. t.variable.0 == x) ts ≡ None → terms_without x ts ≡ ts
terms_without-None x ts d e = terms_without-none x ts d (position-None (λ t. t.variable.0 == x) ts d e)

-- a variable's interval, by the place of its first side
pub interval_at-Some : (x : Variable) (ss : List Side) (i : ℕ) (d : Side) → position (λ s. s.variable.0 == x) ss ≡ Some i → interval_at ss x ≡ (get_or ss i d).interval
interval_at-Some x ss i d e = let at = position-Some (λ s. s.variable.0 == x) ss i d e in interval_at-found x ss i d at.0 at.1 at.2

pub interval_at-None : (x : Variable) (ss : List Side) (d : Side) → position (λ s. s.variable.0 == x) ss ≡ None → interval_at ss x ≡ only_zero
interval_at-None x ss d e = interval_at-none x ss d (position-None (λ s. s.variable.0 == x) ss d e)
