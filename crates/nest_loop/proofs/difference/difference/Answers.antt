use Rattle.std.specs.Prelude.{negsuc}
use Rattle.affine.specs.Arithmetic.{plus_multiple}
use Rattle.nest_loop.proofs.Small.{difference_fits, of_memory}
use Rattle.nest_loop.proofs.difference.difference.Goals as goal

pub returns-in-Err-clause-err : goal.returns-in-Err-clause-err
returns-in-Err-clause-err c =
    let f = c.args.greater.now in
    let g = c.args.less.now in
    of_memory c.args.place (plus_multiple f (negsuc 0) g) c.in-Err.refusal c.fault_of_refusal.result (difference_fits f g c.requires.greater c.requires.less) c.in-Err.ensures.refusal c.fault_of_refusal.ensures.memory
