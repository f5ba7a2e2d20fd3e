-- The tables of a worker: which cells are written, a mask of 64 bits for each page of 64 cells, and the values of the pages that were entered.
use Rattle.std.specs.Prelude.{ℕ, zero, suc, ◌≡◌, ◌+◌, ◌-◌, ◌*◌, ◌/◌, ◌%◌, ◌^◌, ◌<◌, ◌≤◌, ◌==◌, if◌then◌else◌, nat_lt, List, [], ◌∷◌, ◌++◌, map, take, drop, length, replicate, Option, Some, None, slice_index, slice_set, bit_or}
use Rattle.std.specs.List.{range_with_len}
use Rattle.std.specs.Int.{bit_at}
use Rattle.std.specs.Vec.{vec_capacity}
use Rattle.store.specs.Kept.{overlaid}
use Rattle.overlay_pages.specs.declared.changes.Change.{Change}
use Rattle.overlay_pages.specs.declared.pages.Pages.{Pages}
use Rattle.overlay_pages.specs.Over.{Writes, writes_of, changing, AreOnce}
use Rattle.overlay_pages.specs.Runs.{AllDiffer}

-- how many cells there are; for each page its mask, and the number of its values from 1, or 0 where it was not entered; the pages in the order in which they
-- were entered; and the values, 64 for each of them behind 64 that no cell has, and what is left behind those
pub record Table : Type 0 where
  pub size : ℕ
  pub masks : List ℕ
  pub numbers : List ℕ
  pub entered : List ℕ
  pub values : List ℕ

abbrev pub table_of : Pages → Table
table_of p = record { size = p.size; masks = p.masks; numbers = p.numbers; entered = p.entered.items; values = p.values.items }

-- the number of the page of a place
abbrev pub number_at : Table → ℕ → ℕ
number_at t place = slice_index t.numbers (place / 64)

-- whether a place is written: 1 or 0
abbrev pub bit : Table → ℕ → ℕ
bit t place = bit_at (slice_index t.masks (place / 64)) (place % 64)

-- where the value of a place stands
abbrev pub spot : Table → ℕ → ℕ
spot t place = 64 * number_at t place + place % 64

-- what is written at a place, if anything
abbrev pub slot : Table → Writes
slot t place = if bit t place == 1 then Some (slice_index t.values (spot t place)) else None

-- the same at each place
abbrev pub slots : Table → List (Option ℕ)
slots t = map (slot t) (range_with_len 0 t.size)

-- how many pages were not entered
abbrev pub absent : List ℕ → ℕ
absent [] = 0
absent (zero ∷ ns) = suc (absent ns)
absent (suc n ∷ ns) = absent ns

-- a page was entered, and is this one of those that were
pub record IsEntered (t : Table) (page : ℕ) : Type 0 where
  pub at : ℕ
  pub below : at < length t.entered
  pub number : slice_index t.numbers page ≡ suc at
  pub names : slice_index t.entered at ≡ page

-- each entered page has its own number and row of values, and no other page has one; a written cell is there, on a page that was entered
pub record IsSound (t : Table) : Type 0 where
  pub masked : length t.masks ≡ length t.numbers
  pub covers : t.size ≤ 64 * length t.numbers
  pub small : 64 * suc (length t.numbers) < 2 ^ 64
  pub counted : absent t.numbers + length t.entered ≡ length t.numbers
  pub sized : 64 * suc (length t.entered) ≤ length t.values
  pub listed : (page : ℕ) → 0 < slice_index t.numbers page → IsEntered t page
  pub known : (k : ℕ) → k < length t.entered → slice_index t.numbers (slice_index t.entered k) ≡ suc k
  pub within : (place : ℕ) → bit t place ≡ 1 → (place < t.size) × (0 < number_at t place)

-- a page is entered, none of its cells written; its row of values may be there already
abbrev pub entering : Table → ℕ → Table
entering t page =
    record {
      size = t.size;
      masks = t.masks;
      numbers = slice_set t.numbers page (suc (length t.entered));
      entered = t.entered ++ page ∷ [];
      values = t.values ++ replicate (64 * suc (suc (length t.entered)) - length t.values) 0;
    }

-- a cell of a page that was entered is written
abbrev pub setting : Table → ℕ → ℕ → Table
setting t place n =
    record {
      size = t.size;
      masks = slice_set t.masks (place / 64) (bit_or (slice_index t.masks (place / 64)) (1 * 2 ^ (place % 64) % 2 ^ 64));
      numbers = t.numbers;
      entered = t.entered;
      values = slice_set t.values (spot t place) n;
    }

-- cells side by side of a page that was entered are written
abbrev pub setting_row : Table → ℕ → List ℕ → Table
setting_row t first ns =
    record {
      size = t.size;
      masks = slice_set t.masks (first / 64) (bit_or (slice_index t.masks (first / 64)) (2 ^ (first % 64 + length ns) - 2 ^ (first % 64)));
      numbers = t.numbers;
      entered = t.entered;
      values = overlaid t.values (spot t first) ns;
    }

-- each of so many cells side by side is written, and their values stand side by side from a spot on
abbrev pub StandFrom : Table → ℕ → ℕ → ℕ → Type 0
StandFrom t first count start = (k : ℕ) → k < count → (bit t (first + k) ≡ 1) × (spot t (first + k) ≡ start + k)

-- tables, with room for all pages
pub record IsRoomy (p : Pages) : Type 0 where
  pub sound : IsSound (table_of p)
  pub entered : length p.numbers ≤ vec_capacity p.entered
  pub values : 64 * suc (length p.numbers) ≤ vec_capacity p.values

-- the values before a spot that change these cells, gathered
abbrev pub up_to : List ℕ → Table → ℕ → Writes
up_to cells t m place = if nat_lt (spot t place) m then changing (slot t) cells place else None

-- these are the changes so far, each place once
pub record Gathers (cells : List ℕ) (t : Table) (m : ℕ) (cs : List Change) : Type 0 where
  pub each : (place : ℕ) → writes_of cs place ≡ up_to cells t m place
  pub once : AreOnce cs

-- these are the values of an entered page, by its number, of which each cell is written and takes another number than it holds
pub record IsWhole (cells : List ℕ) (t : Table) (k : ℕ) (vs : List ℕ) : Type 0 where
  pub mask : slice_index t.masks (slice_index t.entered k) ≡ 2 ^ 64 - 1
  pub values : vs ≡ take 64 (drop (64 * suc k) t.values)
  pub inside : 64 * slice_index t.entered k + length vs ≤ length cells
  pub differ : AllDiffer cells (64 * slice_index t.entered k) vs
