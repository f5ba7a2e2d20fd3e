-- Common divisors.
use Rattle.std.proofs.Common.{ℕ, ◌≡◌, ◌↔◌, subst, sym}
use Rattle.std.specs.Int.{IsGcd}
use Prim.Native.Nat.{◌∣◌}
use Rattle.std.proofs.lemmas.Nat.Gcd.{dvd-zero, dvd_antisymm}

-- the greatest common divisor is 0 exactly where both numbers are
pub IsGcd-zero : (a b g : ℕ) → IsGcd a b g → (g ≡ 0) ↔ ((a ≡ 0) × (b ≡ 0))
IsGcd-zero a b g h = (
  λ (e : g ≡ 0). (dvd_antisymm (dvd-zero a) (subst (λ (n : ℕ). n ∣ a) e h.0), dvd_antisymm (dvd-zero b) (subst (λ (n : ℕ). n ∣ b) e h.1)),
  λ (e : (a ≡ 0) × (b ≡ 0)).
      let divides_a : 0 ∣ a = subst (λ (n : ℕ). 0 ∣ n) (sym e.0) (dvd-zero 0) in
      let divides_b : 0 ∣ b = subst (λ (n : ℕ). 0 ∣ n) (sym e.1) (dvd-zero 0) in
      dvd_antisymm (dvd-zero g) (h.2 0 divides_a divides_b),
)
