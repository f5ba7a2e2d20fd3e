use Rattle.std.proofs.Common.{ℕ, ◌≡◌, ◌+◌, ◌-◌, ◌<◌, ◌≤◌}
use Rattle.overlay_pages.specs.Table.{table_of, bit}
use Rattle.overlay_pages.proofs.pages.are_bare.Given as goal

-- no cell so far is written
abbrev pub invariant-loop-done : goal.invariant-loop-done
invariant-loop-done l =
    record {
      within : l.done ≤ l.count;
      clear : (k : ℕ) → k < l.done → bit (table_of l.pages) (l.first + k) ≡ 0;
    }

abbrev pub decreases-loop-done : goal.decreases-loop-done
decreases-loop-done l = l.count - l.done
