-- Operands the other way round.
use Rattle.std.proofs.Common.{◌≡◌, ℕ, sym, subst}
use Rattle.ktree.specs.declared.expression.BinaryOp.{BinaryOp}
use Rattle.ktree.specs.View.{binary_of}
use Rattle.lower_machine.specs.Machine.{operate_or_zero}

-- an operator that is known gives the same of its operands the other way round where that one does
pub exchanged : (op known : BinaryOp) (x y : ℕ) → op ≡ known → operate_or_zero (binary_of known) x y ≡ operate_or_zero (binary_of known) y x → operate_or_zero (binary_of op) x y ≡ operate_or_zero (binary_of op) y x
exchanged op known x y is same = subst (λ (o : BinaryOp). operate_or_zero (binary_of o) x y ≡ operate_or_zero (binary_of o) y x) (sym is) same
