-- The remainder by a power of two, as the bits below it.
use Rattle.std.proofs.Common.{◌≡◌, ℕ, zero, suc, ◌-◌, ◌*◌, ◌%◌, ◌^◌, sym, ap, ◌∙◌, arith}
use Rattle.std.specs.Int.Bits.{bit_and}
use Rattle.std.proofs.lemmas.Nat.{and_mask, one_shl, pow_pos}
use Rattle.semantics.specs.Tree
use Rattle.lower_machine.specs.Machine.{operate_or_zero}

by_power : (a j b : ℕ) → b ≡ 2 ^ j → bit_and a (b - 1) ≡ operate_or_zero Tree.Remainder a b
by_power a j zero is = let some = pow_pos j in omega (arith, some, is)
by_power a j (suc b) is = ap (λ n. bit_and a (n - 1)) is ∙ and_mask a j ∙ ap (λ n. a % n) (sym is)

-- where one shifted by so many bits gives the divisor
pub masked : (a zeros b : ℕ) → 1 * 2 ^ (zeros % 64) % 2 ^ 64 ≡ b → bit_and a (b - 1) ≡ operate_or_zero Tree.Remainder a b
masked a zeros b is = by_power a (zeros % 64) b (sym is ∙ one_shl (zeros % 64) 64 (omega arith))
