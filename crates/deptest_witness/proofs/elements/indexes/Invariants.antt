use Rattle.std.proofs.Common.{take}
use Rattle.nest_space.specs.Nests.{given}
use Rattle.deptest_witness.specs.Touching.{AreIndexes}
use Rattle.deptest_witness.proofs.elements.indexes.Given as goal

abbrev pub invariant-loop-form : goal.invariant-loop-form
invariant-loop-form l = AreIndexes (take l.form-index l.subscripts) (given l.values) l.indexes.items
