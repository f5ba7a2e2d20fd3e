use Rattle.std.proofs.Common.{◌≡◌}
use Rattle.overlay_pages.specs.Table.{table_of}
use Rattle.overlay_pages.proofs.Tables.{Clearing}
use Rattle.overlay_pages.proofs.pages.clear.Given as goal

abbrev pub invariant-loop-k : goal.invariant-loop-k
invariant-loop-k l =
    record {
      size : l.pages.size ≡ l.initial.pages.size;
      entered : l.pages.entered ≡ l.initial.pages.entered;
      values : l.pages.values ≡ l.initial.pages.values;
      cleared : Clearing (table_of l.initial.pages) l.k l.pages.numbers l.pages.masks;
    }
