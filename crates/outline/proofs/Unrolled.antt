-- Code whose loops are written out.
use Rattle.std.proofs.Common.{ℕ, subst}
use Rattle.lower_machine.specs.declared.term.Code.{Code}
use Rattle.lower_machine.specs.Machine.{after}
use Rattle.lower_unroll.specs.Turns.{DoesAs}
use Rattle.lower_block.specs.declared.tree.Compiled.{Compiled}
use Rattle.lower_block.specs.Emission.{Beside, Compiles, runs_compiled}

-- what is compiled of it is compiled of the code
pub compiles_as : (count : ℕ) (code unrolled : Code) (c : Compiled) → DoesAs count (after code) unrolled → Compiles unrolled count c → Compiles code count c
compiles_as count code unrolled c same compiles r r' beside =
    subst (λ k. Beside count c.registers k (runs_compiled c r')) (same r beside.base.count) (compiles r r' beside)
