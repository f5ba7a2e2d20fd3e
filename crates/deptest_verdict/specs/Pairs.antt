-- The pairs of accesses of a loop's body, and the first that is neither independent nor ordered by a sink of the loop. (OpenMP 5.2, 1.4.1 and 15.9.6)
use Rattle.std.specs.Prelude.{ℕ, ◌≡◌, ◌⊎◌, ◌+◌, ◌<◌, IsTrue, List, length, take, drop, slice_get, Some, All}
use Rattle.semantics.specs.Loops.Order.{Distance}
use Rattle.ktree.specs.declared.place.Place.{Place}
use Rattle.pairtest.specs.declared.access.Mode.TheVariants.{Writes}
use Rattle.pairtest.specs.declared.access.Access.{Access}
use Rattle.pairtest.specs.declared.access.Nest.{Nest}
use Rattle.pairtest.specs.DirectionVectors.{AllWithin}
use Rattle.pairtest_cover.specs.Covered.{IsOrdered}
use Rattle.deptest_verdict.specs.declared.pairs.Pair.{Pair}

-- two accesses of one array, of which one writes, and both are counted
abbrev pub IsPair : Access → Access → Type 0
IsPair x y = (x.array ≡ y.array) × ((x.mode ≡ Writes) ⊎ (y.mode ≡ Writes)) × IsTrue x.is_counted × IsTrue y.is_counted

-- if they are such a pair, every case of theirs is refuted, or one of these sinks of the nest orders them
abbrev pub IsShown : Nest → List Distance → Access → Access → Type 0
IsShown nest sinks x y = IsPair x y → IsOrdered nest sinks x y

-- each of the first n accesses is counted, and so with itself and with those behind it
abbrev pub AreShownBefore : Nest → List Distance → List Access → ℕ → Type 0
AreShownBefore nest sinks xs n = (k : ℕ) (x : Access) → k < n → slice_get xs k ≡ Some x → IsTrue x.is_counted × All (IsShown nest sinks x) (drop k xs)

-- every access with itself and with those behind it
abbrev pub AreShown : Nest → List Distance → List Access → Type 0
AreShown nest sinks xs = AreShownBefore nest sinks xs (length xs)

-- an access of some is the first whose pair with another is not shown
pub record IsFirstBehind (nest : Nest) (sinks : List Distance) (x : Access) (ys : List Access) (j : ℕ) : Type 0 where
  pub before : All (IsShown nest sinks x) (take j ys)
  pub access : Access
  pub there : slice_get ys j ≡ Some access
  pub not_shown : IsShown nest sinks x access → ⊥

-- the first pair that is not shown, in the order of its first access and then of its second
pub record IsFirstPair (nest : Nest) (sinks : List Distance) (xs : List Access) (i j : ℕ) : Type 0 where
  pub before : AreShownBefore nest sinks xs i
  pub access : Access
  pub there : slice_get xs i ≡ Some access
  pub behind : ℕ
  pub second : j ≡ i + behind
  pub first : IsFirstBehind nest sinks access (drop i xs) behind

-- an access of some, behind others whose pairs with x are shown, has a pair with x whose equations have a number above 2^62
pub record IsLargeBehind (nest : Nest) (sinks : List Distance) (x : Access) (ys : List Access) : Type 0 where
  pub behind : ℕ
  pub other : Access
  pub there : slice_get ys behind ≡ Some other
  pub shown : All (IsShown nest sinks x) (take behind ys)
  pub pair : IsPair x other
  pub large : AllWithin nest x other → ⊥

-- numbers in order: those of the first so many accesses that write
pub record AreWritesBefore (xs : List Access) (ns : List ℕ) (i : ℕ) : Type 0 where
  pub each : (n : ℕ) (x : Access) → n < i → slice_get xs n ≡ Some x → x.mode ≡ Writes → (k : ℕ) × (slice_get ns k ≡ Some n)
  pub within : (k n : ℕ) → slice_get ns k ≡ Some n → n < i
  pub rising : (k l m n : ℕ) → k < l → slice_get ns k ≡ Some m → slice_get ns l ≡ Some n → m < n

-- those of all that write
abbrev pub AreWrites : List Access → List ℕ → Type 0
AreWrites xs ns = AreWritesBefore xs ns (length xs)

-- a pair's array is that of the access of its first number, and its places are those of the accesses of both numbers
pub record AreNamed (xs : List Access) (pair : Pair) : Type 0 where
  pub one : Access
  pub other : Access
  pub one_is : slice_get xs pair.first ≡ Some one
  pub other_is : slice_get xs pair.second ≡ Some other
  pub array : pair.array ≡ one.array
  pub one_place : pair.first_place ≡ one.place
  pub other_place : pair.second_place ≡ other.place

-- where an access of some stands
abbrev pub StandsAt : List Access → ℕ → Place → Type 0
StandsAt xs i place = (x : Access) × (slice_get xs i ≡ Some x) × (place ≡ x.place)
