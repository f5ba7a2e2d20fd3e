use Rattle.std.proofs.Common.{◌≡◌, length}
use Rattle.deptest_witness.specs.Elements.{access_of, region_of, AreElements}
use Rattle.deptest_witness.proofs.elements.elements.Given as goal

abbrev pub invariant-loop-number : goal.invariant-loop-number
invariant-loop-number l = (length l.elements.items ≡ l.number) × AreElements (region_of l.region) (access_of l.touch) l.elements.items
