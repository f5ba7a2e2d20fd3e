-- The first two iterations at which two accesses touch one element. What an access touches is a relation of numbers of iterations and indexes of elements.
use Rattle.std.specs.Prelude.{ℕ, ◌≡◌, ◌<◌, ◌⊎◌, List}

-- the first at the iteration u and the second at v touch the element of these indexes
abbrev pub Share : (ℕ → List ℕ → Type 0) → (ℕ → List ℕ → Type 0) → ℕ → ℕ → List ℕ → Type 0
Share X Y u v indexes = X u indexes × Y v indexes

-- so they do, or else the second at u and the first at v
abbrev pub Meet : (ℕ → List ℕ → Type 0) → (ℕ → List ℕ → Type 0) → ℕ → ℕ → List ℕ → Type 0
Meet X Y u v indexes = Share X Y u v indexes ⊎ Share Y X u v indexes

-- where they meet in both ways, the element that the first touches at u is taken
abbrev pub IsTaken : (ℕ → List ℕ → Type 0) → (ℕ → List ℕ → Type 0) → ℕ → ℕ → List ℕ → Type 0
IsTaken X Y u v indexes = Share X Y u v indexes ⊎ (Share Y X u v indexes × ((others : List ℕ) → Share X Y u v others → ⊥))

-- the earlier iteration u is the least that meets the later one v
pub record IsLeastAt (X Y : ℕ → List ℕ → Type 0) (later u v : ℕ) (indexes : List ℕ) : Type 0 where
  pub is : v ≡ later
  pub order : u < later
  pub taken : IsTaken X Y u later indexes
  pub none_before : (i : ℕ) (others : List ℕ) → i < u → Meet X Y i later others → ⊥

-- of the iterations below 64, v is the least at which they meet an earlier one, and u the least that is met there
pub record IsFirst (X Y : ℕ → List ℕ → Type 0) (u v : ℕ) (indexes : List ℕ) : Type 0 where
  pub order : u < v
  pub searched : v < 64
  pub taken : IsTaken X Y u v indexes
  pub none_sooner : (i j : ℕ) (others : List ℕ) → i < j → j < v → Meet X Y i j others → ⊥
  pub none_before : (i : ℕ) (others : List ℕ) → i < u → Meet X Y i v others → ⊥

-- below 64 they meet nowhere
abbrev pub NeverMeet : (ℕ → List ℕ → Type 0) → (ℕ → List ℕ → Type 0) → Type 0
NeverMeet X Y = (u v : ℕ) (indexes : List ℕ) → u < v → v < 64 → Meet X Y u v indexes → ⊥
