use Rattle.std.specs.Prelude.{option_map}
use Rattle.std.proofs.Common.{ap}
use Rattle.ktree.specs.View.{stmt_of}
use Rattle.pragma.specs.Views.{said_of}
use Rattle.pragma_region.proofs.Regions.{loop_added}
use Rattle.pragma_region.proofs.listing.add_loop_of.Goals as goal

pub returns-in-ParallelFor : goal.returns-in-ParallelFor
returns-in-ParallelFor c =
    loop_added c.add_loop.result c.args.directives.now c.args.directive.now c.in-ParallelFor.clauses c.as_slice.result.now (stmt_of c.args.statement.now) (option_map said_of c.loop_of.result) (said_of c.in-Some.said)
    c.args.parts.now.items c.add_loop.new.parts.items c.in-ParallelFor.is c.as_slice.ensures.value (ap (option_map said_of) c.in-Some.is) c.loop_of.ensures c.add_loop.ensures
