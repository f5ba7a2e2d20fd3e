-- Linear equations in unknowns that have finitely many values each, and the two tests that show that one has no solution.
use Rattle.std.specs.Prelude.{◌≡◌, ℕ, ℤ, pos, ◌-◌, ◌^◌, ◌<◌, ◌≤◌, ◌+ℤ◌, ◌*ℤ◌, ◌<ℤ◌, ◌⊎◌, unsigned_abs, List, [], ◌∷◌, All}
use Rattle.std.specs.Int.{◌∣◌, int_min, int_max}

-- an unknown of an equation: its coefficient, and how many values it may have, counted from 0
pub record Unknown : Type 0 where
  pub coefficient : ℤ
  pub values : ℕ

-- an unknown with this coefficient and so many values
abbrev pub unknown : ℤ → ℕ → Unknown
unknown c n = record { coefficient = c; values = n }

-- the sum of all unknowns, each times its coefficient, equals the right side
pub record Equation : Type 0 where
  pub unknowns : List Unknown
  pub right : ℤ

-- the equation of these unknowns with this right side
abbrev pub equation : List Unknown → ℤ → Equation
equation us right = record { unknowns = us; right = right }

-- the sum where the unknowns have these values
abbrev pub sum_at : List Unknown → List ℕ → ℤ
sum_at [] ks = pos 0
sum_at (u ∷ us) [] = pos 0
sum_at (u ∷ us) (k ∷ ks) = u.coefficient *ℤ pos k +ℤ sum_at us ks

-- there is one number for each unknown, and it is one of its values
abbrev pub AreValues : List Unknown → List ℕ → Type 0
AreValues [] [] = Unit {0}
AreValues [] (k ∷ ks) = ⊥
AreValues (u ∷ us) [] = ⊥
AreValues (u ∷ us) (k ∷ ks) = (k < u.values) × AreValues us ks

-- values of the unknowns at which both sides are equal
pub record HasSolution (e : Equation) : Type 0 where
  pub values : List ℕ
  pub allowed : AreValues e.unknowns values
  pub equal : sum_at e.unknowns values ≡ e.right

-- a number divides each coefficient; 0 divides only 0
abbrev pub DividesAll : ℕ → List Unknown → Type 0
DividesAll d us = All (λ u. d ∣ unsigned_abs u.coefficient) us

-- the greatest common divisor of the coefficients, which is 0 where there are none but 0
pub record IsGreatestDivisor (us : List Unknown) (g : ℕ) : Type 0 where
  pub divides : DividesAll g us
  pub greatest : (d : ℕ) → DividesAll d us → d ∣ g

-- the greatest common divisor of the coefficients does not divide the right side
pub record IsRefutedByGcd (e : Equation) : Type 0 where
  pub divisor : ℕ
  pub greatest : IsGreatestDivisor e.unknowns divisor
  pub remains : ¬ (divisor ∣ unsigned_abs e.right)

-- an unknown's coefficient times the last of its values; at the first of them, 0, the product is 0
abbrev pub last_product : Unknown → ℤ
last_product u = u.coefficient *ℤ pos (u.values - 1)

-- the least value of the sum: each unknown is at the end where its product is the lesser
abbrev pub least_sum : List Unknown → ℤ
least_sum [] = pos 0
least_sum (u ∷ us) = int_min (last_product u) (pos 0) +ℤ least_sum us

-- the greatest value of the sum: each unknown is at the end where its product is the greater
abbrev pub greatest_sum : List Unknown → ℤ
greatest_sum [] = pos 0
greatest_sum (u ∷ us) = int_max (last_product u) (pos 0) +ℤ greatest_sum us

-- the right side is below the least value of the sum, or above the greatest
abbrev pub IsRefutedByBounds : Equation → Type 0
IsRefutedByBounds e = (e.right <ℤ least_sum e.unknowns) ⊎ (greatest_sum e.unknowns <ℤ e.right)

-- one of the two tests shows that the equation has no solution
abbrev pub IsRefuted : Equation → Type 0
IsRefuted e = IsRefutedByGcd e ⊎ IsRefutedByBounds e

-- a number is at most so large in absolute value
abbrev pub IsWithin : ℕ → ℤ → Type 0
IsWithin limit n = unsigned_abs n ≤ limit

-- all coefficients are
abbrev pub CoefficientsWithin : ℕ → List Unknown → Type 0
CoefficientsWithin limit us = All (λ u. IsWithin limit u.coefficient) us

-- all numbers of an equation are within 2^62
pub record NumbersWithin (e : Equation) : Type 0 where
  pub coefficients : CoefficientsWithin (2 ^ 62) e.unknowns
  pub right : IsWithin (2 ^ 62) e.right

-- an equation that one of the two tests refutes has no solution
abbrev pub RefutedHaveNoSolution : Type 0
RefutedHaveNoSolution = (e : Equation) → IsRefuted e → ¬ (HasSolution e)
