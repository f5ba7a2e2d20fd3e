use Rattle.std.proofs.Common.{◌≡◌, ◌+◌, ◌≤◌, length}
use Rattle.overlay_pages.specs.Over.{set_beside}
use Rattle.overlay_pages.specs.Table.{table_of, slots, IsRoomy}
use Rattle.overlay_pages.proofs.rows.write_row.Given as goal

-- whatever the numbers that are left lead to, all of them lead to
abbrev pub invariant-loop-rest : goal.invariant-loop-rest
invariant-loop-rest l =
    record {
      roomy : IsRoomy l.pages;
      there : l.place + length l.rest ≤ l.pages.size;
      written : set_beside (slots (table_of l.pages)) l.place l.rest ≡ set_beside (slots (table_of l.initial.pages)) l.first l.numbers;
    }

abbrev pub decreases-loop-rest : goal.decreases-loop-rest
decreases-loop-rest l = length l.rest
