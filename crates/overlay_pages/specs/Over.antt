-- Cells with writes over them.
use Rattle.std.specs.Prelude.{ℕ, suc, ◌≡◌, ◌+◌, ◌<◌, ◌==◌, if◌then◌else◌, List, [], ◌∷◌, Option, Some, None, length, slice_index, slice_index_or, slice_set}
use Rattle.overlay_pages.specs.declared.changes.Change.{Change}

-- what is written at each place, if anything
abbrev pub Writes : Type 0
Writes = ℕ → Option ℕ

-- a value, or else another
abbrev pub or_else : Option ℕ → ℕ → ℕ
or_else None n = n
or_else (Some m) n = m

-- cells with these writes over them, place by place
abbrev pub written_over : Writes → List ℕ → List ℕ
written_over w [] = []
written_over w (n ∷ ns) = or_else (w 0) n ∷ written_over (λ p. w (suc p)) ns

-- one more write
abbrev pub and_at : Writes → ℕ → ℕ → Writes
and_at w place n p = if p == place then Some n else w p

-- writes from a table with an entry for each place, and none behind its end
abbrev pub writes_in : List (Option ℕ) → Writes
writes_in slots p = slice_index_or slots p None

-- such a table with numbers written side by side, from a first place on; nothing is written outside
abbrev pub set_beside : List (Option ℕ) → ℕ → List ℕ → List (Option ℕ)
set_beside slots first [] = slots
set_beside slots first (n ∷ ns) = set_beside (slice_set slots first (Some n)) (first + 1) ns

-- these are what is written at so many places side by side, from a first one on
pub record IsRow (w : Writes) (first count : ℕ) (row : List ℕ) : Type 0 where
  pub long : length row ≡ count
  pub each : (k : ℕ) → k < count → w (first + k) ≡ Some (slice_index row k)

-- the later of two writes, if there is one
abbrev pub last_of : Option ℕ → Option ℕ → Option ℕ
last_of None o = o
last_of (Some n) o = Some n

-- what changes write one after another: at each place the last of them stays
abbrev pub writes_of : List Change → Writes
writes_of [] p = None
writes_of (c ∷ cs) p = last_of (writes_of cs p) (if p == c.place then Some c.value else None)

-- a write that tells something new of a cell: another number than the cell holds
abbrev pub unless_held : ℕ → Option ℕ → Option ℕ
unless_held held None = None
unless_held held (Some n) = if n == held then None else Some n

-- those of some writes that change these cells
abbrev pub changing : Writes → List ℕ → Writes
changing w cells p = unless_held (slice_index cells p) (w p)

-- each change is one of these cells, and makes it another number
abbrev pub ChangeCells : List ℕ → List Change → Type 0
ChangeCells cells cs = (place n : ℕ) → writes_of cs place ≡ Some n → (place < length cells) × (slice_index cells place ≡ n → ⊥)

-- each place is changed once
abbrev pub AreOnce : List Change → Type 0
AreOnce [] = Unit {0}
AreOnce (c ∷ cs) = (writes_of cs c.place ≡ None) × AreOnce cs
