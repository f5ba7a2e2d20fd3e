-- What it means that two accesses touch one element in two iterations of a nest, and what refuted cases say of it.
use Rattle.std.specs.Prelude.{◌≡◌, ◌≢◌, ℕ, ℤ, pos, ◌<◌, ◌+ℤ◌, ◌*ℤ◌, ◌↔◌, List, [], ◌∷◌, ◌++◌, drop, All}
use Rattle.pairtest.specs.declared.access.Subscript.{Subscript}
use Rattle.pairtest.specs.declared.access.Access.{Access}
use Rattle.pairtest.specs.declared.access.Nest.{Nest}
use Rattle.pairtest.specs.DirectionVectors.{coefficient, dimensions, AllRefuted}

-- a turn of the loops round an access: the counters of the serial loops, of the nest, and of the body's own
pub record Turn : Type 0 where
  pub serial : List ℕ
  pub nest : List ℕ
  pub inner : List ℕ

-- the sum of the coefficients, each times its loop's counter
abbrev pub counter_sum : List ℤ → List ℕ → ℤ
counter_sum cs [] = pos 0
counter_sum cs (k ∷ ks) = coefficient cs 0 *ℤ pos k +ℤ counter_sum (drop 1 cs) ks

-- the value of a subscript at a turn
abbrev pub value_at : Subscript → Turn → ℤ
value_at s t = s.constant +ℤ counter_sum s.coefficients.items (t.serial ++ (t.nest ++ t.inner))

-- one counter for each loop, below the number of its turns
abbrev pub AreBelow : List ℕ → List ℕ → Type 0
AreBelow [] [] = Unit {0}
AreBelow [] (n ∷ ns) = ⊥
AreBelow (k ∷ ks) [] = ⊥
AreBelow (k ∷ ks) (n ∷ ns) = (k < n) × AreBelow ks ns

-- a turn that the loops round an access may come to
pub record IsTurn (nest : Nest) (access : Access) (t : Turn) : Type 0 where
  pub serial : AreBelow t.serial nest.serial.items
  pub nest_loops : AreBelow t.nest nest.loops.items
  pub inner : AreBelow t.inner access.inner.items

-- in one run of the serial loops, the accesses touch one element in two different iterations of the nest
pub record Meet (nest : Nest) (x y : Access) (s t : Turn) : Type 0 where
  pub first : IsTurn nest x s
  pub second : IsTurn nest y t
  pub together : s.serial ≡ t.serial
  pub apart : s.nest ≢ t.nest
  pub same_element : All (λ d. value_at d.0 s ≡ value_at d.1 t) (dimensions x y)

-- accesses whose cases are all refuted meet nowhere
abbrev pub RefutedPairsDoNotMeet : Type 0
RefutedPairsDoNotMeet = (nest : Nest) (x y : Access) (s t : Turn) → AllRefuted nest x y → ¬ (Meet nest x y s t)

-- a nest of one loop of at most n turns, inside serial loops that each have a turn
pub record IsOneLoop (nest : Nest) (n : ℕ) : Type 0 where
  pub serial : All (λ m. 0 < m) nest.serial.items
  pub loops : nest.loops.items ≡ n ∷ []

-- the coefficients of a form in which the counter of a nest's loop alone counts, inside these serial loops
abbrev pub lone : List ℕ → ℤ → List ℤ
lone [] a = a ∷ []
lone (m ∷ ms) a = pos 0 ∷ lone ms a

-- an access whose only subscript is a * counter + b in the counter of the nest's loop, inside no loop of the body
pub record IsLine (nest : Nest) (access : Access) (a b : ℤ) : Type 0 where
  pub subscript : Subscript
  pub one : access.subscripts.items ≡ subscript ∷ []
  pub coefficients : subscript.coefficients.items ≡ lone nest.serial.items a
  pub constant : subscript.constant ≡ b
  pub inner : access.inner.items ≡ []

-- a * k + b and a * l + c are one number in different iterations k and l of a loop of n turns
pub record LinesMeet (n : ℕ) (a b c : ℤ) : Type 0 where
  pub k : ℕ
  pub l : ℕ
  pub k_below : k < n
  pub l_below : l < n
  pub apart : k ≢ l
  pub equal : a *ℤ pos k +ℤ b ≡ a *ℤ pos l +ℤ c

-- for one loop and one subscript with the same coefficient on both sides, all cases are refuted exactly where the accesses meet nowhere
abbrev pub OneLoopIsExact : Type 0
OneLoopIsExact =
    (nest : Nest) (x y : Access) (n : ℕ) (a b c : ℤ) → IsOneLoop nest n → IsLine nest x a b → IsLine nest y a c → AllRefuted nest x y ↔ ¬ (LinesMeet n a b c)
