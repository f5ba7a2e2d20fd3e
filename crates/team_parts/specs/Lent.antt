-- Cells of which a part is lent to a thread.
use Rattle.std.specs.Prelude.{ℕ, ◌==◌, ◌&&◌, if◌then◌else◌, Bool, List, [], length}
use Rattle.team_parts.specs.Parted.{Kept, cells_held, parted}
use Rattle.team_parts.specs.declared.surroundings.Surroundings.{Surroundings}

-- so many cells are its own as have their places, and memory has room for all
abbrev pub stands : Surroundings → List ℕ → Kept → Bool
stands a own w = (length own == a.count) && (w.room == a.all)

-- the cells, where that is so
abbrev pub lent_cells : Surroundings → List ℕ → Kept → List ℕ
lent_cells a own w = if stands a own w then cells_held w.items (parted a.before.now a.left own a.right a.behind.now) else []
