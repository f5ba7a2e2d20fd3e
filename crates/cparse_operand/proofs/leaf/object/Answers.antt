use Rattle.std.proofs.Common.{ap}
use Rattle.semantics.specs.Tree.{Number}
use Rattle.ktree.proofs.Trees.{object_of}
use Rattle.cparse_operand.proofs.leaf.object.Goals as goal

pub returns : goal.returns
returns c = ap Number (object_of c.args.x c.args.subscripts.exprs (record { name = c.args.place; subscripts = c.args.subscripts.places }))
