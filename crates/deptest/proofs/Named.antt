-- What is told of a kernel is so.
use Rattle.std.proofs.Common.{ℕ, List, subst}
use Rattle.semantics.specs.Tree.{Kernel}
use Rattle.ktree.specs.declared.refusal.Refusal.{Refusal}
use Rattle.flow_doacross.specs.declared.listing.DoacrossLoop.{DoacrossLoop}
use Rattle.deptest_verdict.specs.Sinks.{LineSinks, line_sinks}
use Rattle.deptest_verdict.specs.Refused.{IsRefused}
use Rattle.deptest_verdict.specs.Shown.{AreShownLoops}
use Rattle.law_doacross.proofs.CoveredKernels.{shown_kernels_are_covered}
use Rattle.law_doacross.proofs.WavedKernels.{accepted_loops_share}
use Rattle.law_doacross.proofs.RefusedKernels.{refusals_are_told}
use Rattle.deptest.specs.Accepted.{HasNests, AreOrderedBy, inside_passed}
use Rattle.deptest.specs.Refused.{RefusesLoops}
use Rattle.deptest.proofs.Passed.{passed_phased, passed_suit, passed_count_up, told_sinks}

pub refuses : (text : List ℕ) (k : Kernel) (r : Refusal) (nests : List DoacrossLoop) → HasNests text k nests → IsRefused text (line_sinks nests) k r → RefusesLoops text k r
refuses text k r nests has refused =
    let p = has.passed in
    let its = subst (λ (S : LineSinks). IsRefused text S k r) (told_sinks text k p nests has.nests_are) refused in
    (p, its, refusals_are_told text k r (inside_passed p) p.reads p.in_range p.nested (passed_count_up text k p) its)

pub ordered : (text : List ℕ) (k : Kernel) (nests : List DoacrossLoop) → AreShownLoops text (line_sinks nests) k → AreOrderedBy text k nests
ordered text k nests shown p are =
    let its = subst (λ (S : LineSinks). AreShownLoops text S k) (told_sinks text k p nests are) shown in
    record {
      apart = shown_kernels_are_covered text k (inside_passed p) p.reads p.in_range (passed_count_up text k p) its;
      share = accepted_loops_share text k _ (inside_passed p) p.reads p.in_range p.definite p.roles (passed_phased text k p) (passed_suit text k p) its;
    }
