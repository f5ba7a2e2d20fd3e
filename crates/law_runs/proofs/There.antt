-- Something is there.
use Rattle.std.specs.Prelude.{ℕ, zero, suc, Bool, true, false, not as negated, ◌≡◌, ◌==◌, nat_lt, Option, Some, None}
use Rattle.std.proofs.Common.{refl, ap, ◌∙◌, cond}
use Rattle.semantics.specs.Source.Typing.{not_zero, may_shift}
use Rattle.semantics.specs.Meaning.State.{is_there}
use Rattle.semantics.specs.Meaning.Value.{map_option, by_test, if_divisor, if_count}
use Rattle.semantics.specs.Meaning.Value as meaning

-- something is there
abbrev pub There : {A : Type 0} → Option A → Type 0
There {A} o = (a : A) × (o ≡ Some a)

pub there_mapped : {A B : Type 0} (f : A → B) (o : Option A) → There o → There (map_option f o)
there_mapped f o h = (f h.0, ap (map_option f) h.1)

pub there_both : {A B C : Type 0} (f : A → B → C) (o : Option A) (p : Option B) → There o → There p → There (meaning.both f o p)
there_both f o p h g = (f h.0 g.0, ap (λ q. meaning.both f q p) h.1 ∙ ap (λ q. meaning.both f (Some h.0) q) g.1)

pub there_tested : {A : Type 0} (t : Option Bool) (o p : Option A) → There t → There o → There p → There (by_test t o p)
there_tested t o p (true, e) h g = (h.0, ap (λ q. by_test q o p) e ∙ h.1)
there_tested t o p (false, e) h g = (g.0, ap (λ q. by_test q o p) e ∙ g.1)

pub found_there : (o : Option ℕ) → is_there o ≡ true → There o
found_there None e = absurd cc
found_there (Some v) e = (v, refl)

pub not_zero_there : (o : Option ℕ) → not_zero o ≡ true → (n : ℕ) × (o ≡ Some n) × (negated (n == 0) ≡ true)
not_zero_there None e = absurd cc
not_zero_there (Some n) e = (n, refl, e)

pub shift_there : (o : Option ℕ) → may_shift o ≡ true → (n : ℕ) × (o ≡ Some n) × (nat_lt n 64 ≡ true)
shift_there None e = absurd cc
shift_there (Some n) e = (n, refl, e)

pub divides : (n m : ℕ) → negated (n == 0) ≡ true → There (if_divisor n m)
divides zero m e = absurd cc
divides (suc n) m e = (m, refl)

pub counts : (n m : ℕ) → nat_lt n 64 ≡ true → There (if_count n m)
counts n m e = (m, ap (λ b. cond b (Some m) None) e)
