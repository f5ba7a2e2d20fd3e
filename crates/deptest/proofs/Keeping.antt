-- What is kept of a kernel that has passed and whose loops are shown to be independent or ordered.
use Rattle.std.proofs.Common.{◌≡◌, ℕ, List, sym, subst}
use Rattle.ktree.specs.View.{kernel_of}
use Rattle.ktree.specs.declared.statement.Kernel as code
use Rattle.pragma_region.specs.declared.listing.RegionPart.{RegionPart}
use Rattle.flow.specs.declared.environment.ParallelLoop.{ParallelLoop}
use Rattle.flow_doacross.specs.declared.listing.DoacrossLoop.{DoacrossLoop}
use Rattle.flow_scan.specs.declared.listing.ScanLoop.{ScanLoop}
use Rattle.semantics.specs.Tree.{Kernel}
use Rattle.deptest.specs.Accepted.{AreOrderedBy, HasNests, HasLoops, AreRegions, IsKept}

-- its doacross nests, by another list of them, and its lines
pub has_nests : (text lines : List ℕ) (k : Kernel) (loops : List ParallelLoop) (scans : List ScanLoop) (nests lent : List DoacrossLoop) → lines ≡ text → lent ≡ nests → HasLoops text k loops scans nests → HasNests lines k lent
has_nests text lines k loops scans nests lent same is has =
    subst (λ t. HasNests t k lent) (sym same) (subst (λ ns. HasNests text k ns) (sym is) (record { passed = has.passed; nests_are = has.nests_are }))

pub keeps_all : (text kept lines : List ℕ) (kernel : code.Kernel) (loops : List ParallelLoop) (scans : List ScanLoop) (nests : List DoacrossLoop) (parts : List RegionPart) → lines ≡ text → kept ≡ text
    → HasLoops text (kernel_of kernel) loops scans nests → AreRegions text (kernel_of kernel) parts → AreOrderedBy lines (kernel_of kernel) nests → IsKept (record { text = kept; kernel = kernel }) loops scans nests parts
keeps_all text kept lines kernel loops scans nests parts same copied has regions ordered =
    subst (λ t. IsKept (record { text = t; kernel = kernel }) loops scans nests parts) (sym copied)
    (record {
      keeps = record {
        accepted = record { passed = has.passed; ordered = subst (λ t. AreOrderedBy t (kernel_of kernel) nests) same ordered has.passed has.nests_are };
        listed = has.listed;
      };
      scans_are = has.scans_are;
      nests_are = has.nests_are;
      regions = regions;
    })
