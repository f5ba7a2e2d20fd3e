use Rattle.std.specs.Prelude.{◌≡◌, ◌≤◌, ◌++◌, drop, map}
use Rattle.semantics.specs.Theorems.{Begins}
use Rattle.pragma_region.specs.Listed.{part_said}
use Rattle.listing.specs.Regions.{printed}
use Rattle.listing.proofs.regions.add_parts.Given as goal

-- the lines so far, with those of the parts that are left
abbrev pub invariant-loop-part : goal.invariant-loop-part
invariant-loop-part l =
    record {
      lines : l.text.items ++ printed l.listed.regions l.listed.loops (map part_said (drop l.part-index l.parts)) ≡ l.fn.text.items ++ printed 0 0 (map part_said l.parts);
      front : Begins l.fn.text.items l.text.items;
      regions : l.listed.regions ≤ l.part-index;
      loops : l.listed.loops ≤ l.part-index;
    }
