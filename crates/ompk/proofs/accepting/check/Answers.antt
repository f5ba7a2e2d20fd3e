use Rattle.std.specs.Prelude.{IfOk}
use Rattle.std.proofs.Common.{rules}
use Rattle.std.proofs.lemmas.Result.{IfOk-weaker}
use Rattle.semantics.specs.Theorems.{StandsFor}
use Rattle.ktree.specs.View.{kernel_of}
use Rattle.deptest.specs.Accepted.{tree_of, IsAccepted}
use Rattle.ompk.specs.Inside.{AccessesStayWithin}
use Rattle.ompk.specs.Judged.{IsOfKernel}
use Rattle.ompk.proofs.Inside.{accesses_stay_within}
use Rattle.ompk.proofs.Judging.{stands_for}
use Rattle.ompk.proofs.accepting.check.Goals as goal

pub returns-clause-stands : goal.returns-clause-stands
returns-clause-stands c =
    let text = c.args.text.now in
    let tree = kernel_of c.in_ok-kernel.kernel in
    IfOk-weaker c.accept_kernel.result (IsOfKernel text tree) (λ p. StandsFor text (tree_of p)) (λ p is. stands_for text tree p c.in_ok-kernel.ensures.ok is) c.accept_kernel.ensures.is

pub returns-clause-inside : goal.returns-clause-inside
returns-clause-inside c =
    let sound : IfOk c.accept_kernel.result IsAccepted = search rules in
    IfOk-weaker c.accept_kernel.result IsAccepted (λ p. AccessesStayWithin (tree_of p)) accesses_stay_within sound
