use Rattle.std.specs.Prelude.{◌≡◌, ◌++◌, take, map}
use Rattle.semantics.specs.Directives.Listing.{numbered}
use Rattle.pragma_region.specs.Listed.{sink_kept}
use Rattle.listing.specs.Regions.{wait_line}
use Rattle.listing.proofs.doacross.add_waits.Given as goal

-- those so far
abbrev pub invariant-loop-sink : goal.invariant-loop-sink
invariant-loop-sink l = l.text.items ≡ l.initial.text.items ++ numbered l.region l.number (map wait_line (map sink_kept (take l.sink-index l.sinks)))
