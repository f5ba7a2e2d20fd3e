use Rattle.std.specs.Prelude.{◌≡◌, ◌⊎◌}
use Rattle.std.proofs.Common.{inl, inr}
use Rattle.std.proofs.lemmas.Result.{err_from_is_err_and}
use Rattle.ktree.specs.View.{kernel_of}
use Rattle.affine_expr.specs.declared.faults.Fault.{Fault}
use Rattle.affine_expr.specs.declared.faults.Fault.TheVariants.{OutOfMemory}
use Rattle.nest.proofs.FactsLaw.{whole_table}
use Rattle.nest.proofs.kernels.nests.Goals as goal

-- the second of two is not so
second_not : {P Q : Type 0} (fault : Fault) → (fault ≡ OutOfMemory) ⊎ (Q → ⊥) → (fault ≡ OutOfMemory) ⊎ (P × Q → ⊥)
second_not fault (inl m) = inl m
second_not fault (inr f) = inr (λ h. f h.1)

pub returns-in_err-judge-clause-decides : goal.returns-in_err-judge-clause-decides
returns-in_err-judge-clause-decides c =
    let k = kernel_of c.args.kernel.now in
    let p = err_from_is_err_and c.from_residual.result c.from_residual.ensures.1 in
    rw (p.1, p.2)
    (second_not c.in_err-judge.field-0.0
    (c.in_err-judge.ensures (whole_table k c.new-loops.result.items c.find.new.loops.items c.as_slice-2.result.now c.new-loops.ensures.items c.as_slice-2.ensures.value c.in-Ok.ensures.facts)))

pub returns-clause-decides : goal.returns-clause-decides
returns-clause-decides c =
    let k = kernel_of c.args.kernel.now in (
      c.in-Ok.ensures.affine,
      c.in_ok-judge.ensures (whole_table k c.new-loops.result.items c.find.new.loops.items c.as_slice-2.result.now c.new-loops.ensures.items c.as_slice-2.ensures.value c.in-Ok.ensures.facts),
    )

pub returns-clause-found : goal.returns-clause-found
returns-clause-found c =
    let k = kernel_of c.args.kernel.now in
    record { facts = whole_table k c.new-loops.result.items c.find.new.loops.items c.find.new.loops.items c.new-loops.ensures.items (λ i. c.find.new.loops.items) c.in-Ok.ensures.facts; ranges = c.in-Ok.ensures.leaves }
