-- The difference of two forms that are kept: it keeps the limits of forms.
use Rattle.std.specs.Prelude.{ℕ, ◌≡◌, ◌+◌, ◌*◌, ◌≤◌, ◌^◌, ℤ, negsuc, ◌+ℤ◌, ◌*ℤ◌, List, [], ◌∷◌, length, Some}
use Rattle.std.proofs.Common.{zero, suc, sym, subst, arith, ⊎_elim}
use Rattle.std.proofs.lemmas.Int.{ints}
use Rattle.std.proofs.lemmas.List.Elements.{All-cons, All-head, All-tail, All-weaker}
use Rattle.semantics.specs.Tree.{Variable}
use Rattle.ktree.specs.declared.place.Place.{Place}
use Rattle.ktree.specs.declared.refusal.Refusal.{Refusal}
use Rattle.ktree.specs.declared.refusal.Refusal.TheVariants as refusals
use Rattle.affine.specs.declared.term.Term.{Term}
use Rattle.affine.specs.Affine.{Affine}
use Rattle.affine.specs.Arithmetic.{term, term_before, with_more, with_multiple, plus_multiple}
use Rattle.affine.specs.Limits.{IsWithin, CoefficientsWithin, Fits, Refuses}
use Rattle.affine.proofs.Terms.{by_zero, by_order, term_before-zero, term_before-other, with_more-front, with_more-same, with_more-below}
use Rattle.affine.proofs.Whole.{unsigned_abs-sum}
use Rattle.affine_expr.specs.declared.faults.Fault.{Fault}
use Rattle.affine_expr.specs.declared.faults.Fault.TheVariants.{OutOfMemory}
use Rattle.affine_expr.specs.Forms.{kept}
use Rattle.affine_expr.proofs.Keeping.{kept-same}

-- so many terms at most, with coefficients within a limit
pub record AreFew (limit count : ℕ) (ts : List Term) : Type 0 where
  pub numbers : CoefficientsWithin limit ts
  pub terms : length ts ≤ count

few_more : (m n k l : ℕ) (ts : List Term) → m ≤ n → k ≤ l → AreFew m k ts → AreFew n l ts
few_more m n k l ts p q h =
    record {
      numbers = All-weaker (λ (t : Term). IsWithin m t.coefficient) (λ (t : Term). IsWithin n t.coefficient) (λ t w. omega arith) ts h.numbers;
      terms = omega (arith, h.terms);
    }

few_cons : (m k : ℕ) (t : Term) (ts : List Term) → IsWithin m t.coefficient → AreFew m k ts → AreFew m (k + 1) (t ∷ ts)
few_cons m k t ts w h = record { numbers = All-cons (λ (u : Term). IsWithin m u.coefficient) t ts w h.numbers; terms = let few = h.terms in omega arith }

few_head : (m k : ℕ) (t : Term) (ts : List Term) → AreFew m k (t ∷ ts) → IsWithin m t.coefficient
few_head m k t ts h = All-head (λ (u : Term). IsWithin m u.coefficient) t ts h.numbers

few_tail : (m k l : ℕ) (t : Term) (ts : List Term) → k ≡ l + 1 → AreFew m k (t ∷ ts) → AreFew m l ts
few_tail m k l t ts e h = record { numbers = All-tail (λ (u : Term). IsWithin m u.coefficient) t ts h.numbers; terms = let few = h.terms in omega arith }

few_before : (m k : ℕ) (x : Variable) (c : ℤ) (ts : List Term) → IsWithin m c → AreFew m k ts → AreFew m (k + 1) (term_before x c ts)
few_before m k x c ts w h =
    by_zero c (λ e. subst (AreFew m (k + 1)) (sym (term_before-zero x c ts e)) (few_more m m k (k + 1) ts (omega arith) (omega arith) h))
    (λ n. subst (AreFew m (k + 1)) (sym (term_before-other x c ts n)) (few_cons m k (term x c) ts w h))

sum_within : (m n : ℕ) (a b : ℤ) → IsWithin m a → IsWithin n b → IsWithin (m + n) (a +ℤ b)
sum_within m n a b p q = let sum = unsigned_abs-sum a b in omega arith

-- so much more of a variable
few_with_more : (m n k : ℕ) (x : Variable) (c : ℤ) (ts : List Term) → IsWithin n c → AreFew m k ts → AreFew (m + n) (k + 1) (with_more x c ts)
few_with_more m n k x c [] w h = few_before (m + n) k x c [] (omega arith) (few_more m (m + n) k k [] (omega arith) (omega arith) h)
few_with_more m n zero x c (t ∷ ts) w h = absurd (let few = h.terms in omega arith)
few_with_more m n (suc k) x c (t ∷ ts) w h =
    let wider : AreFew (m + n) (suc k) (t ∷ ts) = few_more m (m + n) (suc k) (suc k) (t ∷ ts) (omega arith) (omega arith) h in
    let rest : AreFew m k ts = few_tail m (suc k) k t ts (omega arith) h in
    let first : IsWithin m t.coefficient = few_head m (suc k) t ts h in
    by_order x t.variable.0
    (λ p. subst (AreFew (m + n) (suc k + 1)) (sym (with_more-front x c t ts p)) (few_before (m + n) (suc k) x c (t ∷ ts) (omega arith) wider))
    (λ p. subst (AreFew (m + n) (suc k + 1)) (sym (with_more-same x c t ts (sym p)))
    (few_more (m + n) (m + n) (k + 1) (suc k + 1) (term_before x (t.coefficient +ℤ c) ts) (omega arith) (omega arith)
    (few_before (m + n) k x (t.coefficient +ℤ c) ts (sum_within m n t.coefficient c first w) (few_more m (m + n) k k ts (omega arith) (omega arith) rest))))
    (λ p. subst (AreFew (m + n) (suc k + 1)) (sym (with_more-below x c t ts p))
    (few_more (m + n) (m + n) (k + 1 + 1) (suc k + 1) (t ∷ with_more x c ts) (omega arith) (omega arith)
    (few_cons (m + n) (k + 1) t (with_more x c ts) (omega arith) (few_with_more m n k x c ts w rest))))

negated_within : (n : ℕ) (c : ℤ) → IsWithin n c → IsWithin n (negsuc 0 *ℤ c)
negated_within n c w = omega (arith, ints)

-- each term of the second list adds one number and one term at most
few_without : (m n k : ℕ) (us ts : List Term) → CoefficientsWithin n us → AreFew m k ts → AreFew (m + n * length us) (k + length us) (with_multiple (negsuc 0) us ts)
few_without m n k [] ts w h = few_more m (m + n * 0) k (k + 0) ts (omega arith) (omega arith) h
few_without m n k (u ∷ us) ts w h =
    let P : Term → Type 0 = λ v. IsWithin n v.coefficient in
    let rest = with_multiple (negsuc 0) us ts in
    let c = negsuc 0 *ℤ u.coefficient in
    few_more ((m + n * length us) + n) (m + n * suc (length us)) (k + length us + 1) (k + suc (length us)) (with_more u.variable.0 c rest) (omega arith) (omega arith)
    (few_with_more (m + n * length us) n (k + length us) u.variable.0 c rest (negated_within n u.coefficient (All-head P u us w)) (few_without m n k us ts (All-tail P u us w) h))

-- the number of a difference
pub difference_near : (f g : Affine) → kept f ≡ Some f → kept g ≡ Some g → IsWithin (2 ^ 33) (plus_multiple f (negsuc 0) g).constant
difference_near f g p q =
    let a = (kept-same f f p).1.numbers.constant in
    let b = negated_within (2 ^ 32) g.constant (kept-same g g q).1.numbers.constant in
    let sum = unsigned_abs-sum f.constant (negsuc 0 *ℤ g.constant) in
    omega arith

-- the difference of two forms that are kept keeps the limits
pub difference_fits : (f g : Affine) → kept f ≡ Some f → kept g ≡ Some g → Fits (plus_multiple f (negsuc 0) g)
difference_fits f g p q =
    let a = (kept-same f f p).1 in
    let b = (kept-same g g q).1 in
    let near = difference_near f g p q in
    let few = few_without (2 ^ 32) (2 ^ 32) 32 g.terms f.terms b.numbers.coefficients (record { numbers = a.numbers.coefficients; terms = a.few }) in
    let all = few_more (2 ^ 32 + 2 ^ 32 * length g.terms) (2 ^ 62) (32 + length g.terms) 64 (with_multiple (negsuc 0) g.terms f.terms) (omega (arith, b.few)) (omega (arith, b.few)) few in
    record { constant = omega arith; terms = record { numbers = all.numbers; variables = all.terms } }

-- a form that keeps the limits is refused for want of memory alone
pub of_memory : (place : Place) (f : Affine) (r : Refusal) (fault : Fault) → Fits f → Refuses place f r → (r ≡ refusals.OutOfMemory → fault ≡ OutOfMemory) → fault ≡ OutOfMemory
of_memory place f r fault fits h memory =
    ⊎_elim (λ (e : r ≡ refusals.OutOfMemory). memory e) (λ (e : (r ≡ refusals.Limit place) × (¬ (Fits f))). absurd (e.1 fits)) h
