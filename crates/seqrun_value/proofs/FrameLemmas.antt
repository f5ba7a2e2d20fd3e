-- How a frame's changes are seen.
use Rattle.std.proofs.Common.{◌≡◌, ◌≢◌, ℕ, zero, suc, ◌<◌, Bool, true, false, cond, List, [], ◌∷◌, ◌++◌, length, Option, Some, None, refl, ap, ◌∙◌, arith}
use Rattle.std.specs.Prelude.{◌==◌, slice_get, slice_set}
use Rattle.std.proofs.Math.Path.{fun_ext}
use Rattle.std.proofs.lemmas.Bool.{eqb-true, eqb-false}
use Rattle.semantics.specs.Meaning.State
use Rattle.semantics.specs.Meaning.State.{with_local}
use Rattle.seqrun_value.specs.declared.frame.Slot.{Slot}
use Rattle.seqrun_value.specs.declared.frame.Slot.TheVariants as slots
use Rattle.seqrun_value.specs.Standing.{locals_of, slot_of}

locals_pushed_at : (xs : List Slot) (x : ℕ) → locals_of (xs ++ slots.Outside ∷ []) x ≡ locals_of xs x
locals_pushed_at [] zero = refl
locals_pushed_at [] (suc x) = refl
locals_pushed_at (s ∷ xs) zero = refl
locals_pushed_at (s ∷ xs) (suc x) = locals_pushed_at xs x

-- one more slot for no local changes nothing
pub locals_pushed : (xs : List Slot) → locals_of (xs ++ slots.Outside ∷ []) ≡ locals_of xs
locals_pushed xs = fun_ext (locals_pushed_at xs)

pub slice_get_set_same : {X : Type 0} (xs : List X) (i : ℕ) (v : X) → i < length xs → slice_get (slice_set xs i v) i ≡ Some v
slice_get_set_same [] i v lt = absurd (omega arith)
slice_get_set_same (y ∷ xs) zero v lt = refl
slice_get_set_same (y ∷ xs) (suc i) v lt = slice_get_set_same xs i v (omega arith)

pub slice_get_set_other : {X : Type 0} (xs : List X) (i j : ℕ) (v : X) → j ≢ i → slice_get (slice_set xs i v) j ≡ slice_get xs j
slice_get_set_other [] i j v ne = refl
slice_get_set_other (y ∷ xs) zero zero v ne = absurd (ne refl)
slice_get_set_other (y ∷ xs) zero (suc j) v ne = refl
slice_get_set_other (y ∷ xs) (suc i) zero v ne = refl
slice_get_set_other (y ∷ xs) (suc i) (suc j) v ne = slice_get_set_other xs i j v (λ e. ne (ap suc e))

-- what stands at each place after one was set
pub set_at : {X : Type 0} (xs : List X) (i : ℕ) (v : X) → i < length xs → (j : ℕ) → slice_get (slice_set xs i v) j ≡ cond (j == i) (Some v) (slice_get xs j)
set_at xs i v lt j = go (j == i) refl
  where
    go : (b : Bool) → (j == i) ≡ b → slice_get (slice_set xs i v) j ≡ cond b (Some v) (slice_get xs j)
    go true e = ap (λ k. slice_get (slice_set xs i v) k) (eqb-true j i e) ∙ slice_get_set_same xs i v lt
    go false e = slice_get_set_other xs i j v (eqb-false j i e)

no_value : {X : Type 0} (xs : List X) (i : ℕ) → i < length xs → slice_get xs i ≡ None → ⊥
no_value [] i lt e = omega arith
no_value (x ∷ xs) zero lt e = cc
no_value (x ∷ xs) (suc i) lt e = no_value xs i (omega arith) e

slot_cond : (b : Bool) (s t : Option Slot) → slot_of (cond b s t) ≡ cond b (slot_of s) (slot_of t)
slot_cond true s t = refl
slot_cond false s t = refl

locals_set_at : (xs : List Slot) (i : ℕ) (s : Slot) → i < length xs → (x : ℕ) → locals_of (slice_set xs i s) x ≡ cond (x == i) (slot_of (Some s)) (locals_of xs x)
locals_set_at xs i s lt x = ap slot_of (set_at xs i s lt x) ∙ slot_cond (x == i) (Some s) (slice_get xs x)

-- a slot that is set is the one local that changes
pub locals_set : (xs : List Slot) (i : ℕ) (s : Slot) → i < length xs → locals_of (slice_set xs i s) ≡ (λ x. cond (x == i) (slot_of (Some s)) (locals_of xs x))
locals_set xs i s lt = fun_ext (locals_set_at xs i s lt)

abbrev pub state_with : (ℕ → List ℕ → Option ℕ) → (ℕ → State.Slot) → State.State
state_with cells locals = record { cells = cells; locals = locals }

pub state_set : (cells : ℕ → List ℕ → Option ℕ) (xs ys : List Slot) (i : ℕ) (s : Slot) → i < length xs → locals_of xs ≡ locals_of ys → state_with cells (locals_of (slice_set xs i s)) ≡ with_local (state_with cells (locals_of ys)) i (slot_of (Some s))
state_set cells xs ys i s lt e = ap (state_with cells) (locals_set xs i s lt ∙ ap (λ f x. cond (x == i) (slot_of (Some s)) (f x)) e)
