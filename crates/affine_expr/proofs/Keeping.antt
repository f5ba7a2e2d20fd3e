-- Forms that keep the limits of a text.
use Rattle.std.specs.Prelude.{◌≡◌, ◌≤◌, ◌^◌, Bool, true, false, ◌&&◌, nat_le, unsigned_abs, ℤ, List, [], ◌∷◌, length, Some, None}
use Rattle.std.proofs.Common.{refl, sym, ap, ◌∙◌, subst, arith, cond, inl, inr, ⊎_elim}
use Rattle.std.proofs.lemmas.Bool.{leb-true, le-leb}
use Rattle.std.proofs.lemmas.List.Elements.{All-nil, All-cons, All-head, All-tail, All-weaker}
use Rattle.ktree.specs.declared.place.Place.{Place}
use Rattle.ktree.specs.declared.refusal.Refusal.{Refusal}
use Rattle.ktree.specs.declared.refusal.Refusal.TheVariants as refusals
use Rattle.affine.specs.declared.term.Term.{Term}
use Rattle.affine.specs.Affine.{Affine}
use Rattle.affine.specs.Arithmetic.{constant_form}
use Rattle.affine.specs.Limits.{IsWithin, CoefficientsWithin, NumbersWithin, Fits, Refuses}
use Rattle.affine_expr.specs.declared.faults.Fault.{Fault}
use Rattle.affine_expr.specs.declared.faults.Fault.TheVariants.{Limit, OutOfMemory}
use Rattle.affine_expr.specs.Forms.{is_small, are_small, kept}
use Rattle.affine_expr.specs.Faults.{Refused}

both_true : (a b : Bool) → (a && b) ≡ true → (a ≡ true) × (b ≡ true)
both_true true b e = (refl, e)
both_true false b e = absurd (cc e)

and_true : (a b : Bool) → a ≡ true → b ≡ true → (a && b) ≡ true
and_true true b e f = f
and_true false b e f = e

-- numbers within 2^32, and at most 32 variables
pub record IsKept (form : Affine) : Type 0 where
  pub numbers : NumbersWithin (2 ^ 32) form
  pub few : length form.terms ≤ 32

are_small-within : (ts : List Term) → are_small ts ≡ true → CoefficientsWithin (2 ^ 32) ts
are_small-within [] e = All-nil (λ (t : Term). IsWithin (2 ^ 32) t.coefficient)
are_small-within (t ∷ ts) e =
    let p = both_true (is_small t.coefficient) (are_small ts) e in
    All-cons (λ (t : Term). IsWithin (2 ^ 32) t.coefficient) t ts (leb-true (unsigned_abs t.coefficient) (2 ^ 32) p.0) (are_small-within ts p.1)

within-are_small : (ts : List Term) → CoefficientsWithin (2 ^ 32) ts → are_small ts ≡ true
within-are_small [] h = refl
within-are_small (t ∷ ts) h =
    let P : Term → Type 0 = λ t. IsWithin (2 ^ 32) t.coefficient in
    and_true (is_small t.coefficient) (are_small ts) (le-leb (unsigned_abs t.coefficient) (2 ^ 32) (All-head P t ts h)) (within-are_small ts (All-tail P t ts h))

-- the test of the limits
abbrev test : Affine → Bool
test f = is_small f.constant && are_small f.terms && nat_le (length f.terms) 32

test-IsKept : (f : Affine) → test f ≡ true → IsKept f
test-IsKept f e =
    let p = both_true (is_small f.constant && are_small f.terms) (nat_le (length f.terms) 32) e in
    let q = both_true (is_small f.constant) (are_small f.terms) p.0 in
    record {
      numbers = record { constant = leb-true (unsigned_abs f.constant) (2 ^ 32) q.0; coefficients = are_small-within f.terms q.1 };
      few = leb-true (length f.terms) 32 p.1;
    }

IsKept-test : (f : Affine) → IsKept f → test f ≡ true
IsKept-test f h =
    and_true (is_small f.constant && are_small f.terms) (nat_le (length f.terms) 32)
    (and_true (is_small f.constant) (are_small f.terms) (le-leb (unsigned_abs f.constant) (2 ^ 32) h.numbers.constant) (within-are_small f.terms h.numbers.coefficients))
    (le-leb (length f.terms) 32 h.few)

-- a form that keeps them is kept
pub kept-is : (f : Affine) → IsKept f → kept f ≡ Some f
kept-is f h = ap (λ (b : Bool). cond b (Some f) None) (IsKept-test f h)

-- another is not
pub kept-none : (f : Affine) → ¬ (IsKept f) → kept f ≡ None
kept-none f h = by (test f) refl
  where
    by : (b : Bool) → test f ≡ b → kept f ≡ None
    by true e = absurd (h (test-IsKept f e))
    by false e = ap (λ (b : Bool). cond b (Some f) None) e

-- what is kept is the form itself, and it keeps the limits
pub kept-same : (f g : Affine) → kept f ≡ Some g → (f ≡ g) × IsKept f
kept-same f g is = by (test f) refl
  where
    by : (b : Bool) → test f ≡ b → (f ≡ g) × IsKept f
    by true e = let here : Some f ≡ Some g = sym (ap (λ (b : Bool). cond b (Some f) None) e) ∙ is in (cc, test-IsKept f e)
    by false e = let here : None ≡ Some g = sym (ap (λ (b : Bool). cond b (Some f) None) e) ∙ is in absurd (cc here)

pub kept-again : (f g : Affine) → kept f ≡ Some g → kept g ≡ Some g
kept-again f g is = let p = kept-same f g is in subst (λ (h : Affine). kept h ≡ Some h) p.0 (kept-is f p.1)

-- a form that is kept fits
pub IsKept-Fits : (f : Affine) → IsKept f → Fits f
IsKept-Fits f h =
    record {
      constant = omega (arith, h.numbers.constant);
      terms =
          record {
            numbers = All-weaker (λ (t : Term). IsWithin (2 ^ 32) t.coefficient) (λ (t : Term). IsWithin (2 ^ 62) t.coefficient) (λ t k. omega arith) f.terms h.numbers.coefficients;
            variables = omega (arith, h.few);
          };
    }

-- a test of the numbers, and of how many variables there are
pub kept-tested : (f : Affine) → NumbersWithin (2 ^ 32) f → length f.terms ≤ 32 → kept f ≡ Some f
kept-tested f h few = kept-is f (record { numbers = h; few = few })

pub kept-large : (f : Affine) → ¬ (NumbersWithin (2 ^ 32) f) → kept f ≡ None
kept-large f h = kept-none f (λ k. h k.numbers)

pub kept-many : (f : Affine) → ¬ (length f.terms ≤ 32) → kept f ≡ None
kept-many f h = kept-none f (λ k. h k.few)

-- a form that does not fit is not kept
pub refused_form : (place : Place) (f : Affine) (r : Refusal) (fault : Fault) → Refuses place f r → (r ≡ refusals.Limit place → fault ≡ Limit place)
    → (r ≡ refusals.OutOfMemory → fault ≡ OutOfMemory) → Refused place (kept f) fault
refused_form place f r fault h limit memory =
    ⊎_elim (λ (e : r ≡ refusals.OutOfMemory). inl (memory e))
    (λ (e : (r ≡ refusals.Limit place) × (¬ (Fits f))). inr (limit e.0, kept-none f (λ k. e.1 (IsKept-Fits f k)))) h

pub refused_number : (place : Place) (n : ℤ) (r : Refusal) (fault : Fault) → (r ≡ refusals.Limit place) × (¬ (IsWithin (2 ^ 62) n)) → (r ≡ refusals.Limit place → fault ≡ Limit place)
    → Refused place (kept (constant_form n)) fault
refused_number place n r fault h limit = inr (limit h.0, kept-none (constant_form n) (λ k. h.1 (omega (arith, k.numbers.constant))))
