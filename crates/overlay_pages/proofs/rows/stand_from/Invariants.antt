use Rattle.std.proofs.Common.{◌-◌, ◌≤◌}
use Rattle.overlay_pages.specs.Table.{table_of, StandFrom}
use Rattle.overlay_pages.proofs.rows.stand_from.Given as goal

-- the cells so far stand so
abbrev pub invariant-loop-done : goal.invariant-loop-done
invariant-loop-done l =
    record {
      within : l.done ≤ l.count;
      stand : StandFrom (table_of l.pages) l.first l.done l.start;
    }

abbrev pub decreases-loop-done : goal.decreases-loop-done
decreases-loop-done l = l.count - l.done
