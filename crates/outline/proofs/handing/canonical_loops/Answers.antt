use Rattle.ktree.specs.View.{stmt_of}
use Rattle.outline.proofs.Nested.{forms_of_nest}
use Rattle.outline.proofs.handing.canonical_loops.Goals as goal

pub returns-clause-few : goal.returns-clause-few
returns-clause-few c = forms_of_nest c.args.depth (stmt_of c.args.stmt.now) c.args.bounds.now c.in_ok-nest.nest.loops.items c.in_ok-nest.ensures.ok c.requires.few
