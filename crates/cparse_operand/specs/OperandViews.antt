-- What the code's operands are viewed as.
use Rattle.std.specs.Prelude.{Bool}
use Rattle.semantics.specs.Tree
use Rattle.ktree.specs.View.{source_of}
use Rattle.cparse_operand.specs.declared.operand.Operand.{Operand}
use Rattle.cparse_operand.specs.declared.joining.Union.{Union}

-- an operand's tree
abbrev pub operand_of : Operand → Tree.Source
operand_of o = source_of o.source

-- what an operator made of operands, and whether it may have them
abbrev pub union_of : Union → Tree.Source × Bool
union_of j = (operand_of j.operand, j.fits)
