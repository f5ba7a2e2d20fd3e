use Rattle.law_unrolled.proofs.Instructions.{instructions_law}
use Rattle.law_unrolled.proofs.turns_are_instructions.Goals as goal

pub returns : goal.returns
returns c = instructions_law
