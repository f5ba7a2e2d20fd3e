use Rattle.std.proofs.Common.{◌≡◌, take, drop}
use Rattle.ktree.specs.View.{items_of}
use Rattle.flow_scan.specs.Parts.{cut}
use Rattle.flow_scan.proofs.CutLaw.{behind}
use Rattle.flow_scan.proofs.cutting.cut.Given as goal

-- the items that are left decide, behind those that are passed
abbrev pub invariant-loop-index : goal.invariant-loop-index
invariant-loop-index l = behind (take l.index l.items) (cut l.directives (items_of (drop l.index l.items))) ≡ cut l.directives (items_of l.items)
