use Rattle.nest_space.specs.Nests.{given, AreModest}
use Rattle.nest_space.proofs.Runs.{too_many, space_law, loops_law, iterations_law}
use Rattle.nest_space.proofs.iterations.Space.at.Goals as goal

pub returns-then-loops-gt-ASSOCIATED_LOOPS-clause-exact : goal.returns-then-loops-gt-ASSOCIATED_LOOPS-clause-exact
returns-then-loops-gt-ASSOCIATED_LOOPS-clause-exact c = λ ts modest runs is. too_many c.args.loops.now (given c.args.values.now) ts c.if-loops-gt-ASSOCIATED_LOOPS.true runs is

pub returns-clause-exact : goal.returns-clause-exact
returns-clause-exact c =
    space_law (AreModest c.args.values.now) c.args.loops.now (given c.args.values.now) c.fill.new.turns c.new.result (c.fill.ensures.found c.if-not-fill.false) c.new.ensures

pub returns-clause-iterations : goal.returns-clause-iterations
returns-clause-iterations c =
    iterations_law c.args.loops.now (given c.args.values.now) c.fill.new.turns c.new.result (c.fill.ensures.found c.if-not-fill.false) c.new.ensures

pub returns-clause-loops : goal.returns-clause-loops
returns-clause-loops c =
    loops_law c.args.loops.now (given c.args.values.now) c.fill.new.turns c.new.result (c.fill.ensures.found c.if-not-fill.false) c.new.ensures
