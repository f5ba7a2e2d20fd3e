use Rattle.nest_space.specs.Nests.{given, AreModest}
use Rattle.nest_space.proofs.Reached.{too_many_reached, space_reached, loops_reached, iterations_reached}
use Rattle.nest_space.proofs.iterations.Space.reached_at.Goals as goal

pub returns-then-loops-gt-ASSOCIATED_LOOPS-clause-exact : goal.returns-then-loops-gt-ASSOCIATED_LOOPS-clause-exact
returns-then-loops-gt-ASSOCIATED_LOOPS-clause-exact c = λ ts modest runs is. too_many_reached c.args.loops.now (given c.args.values.now) ts c.if-loops-gt-ASSOCIATED_LOOPS.true runs is

pub returns-clause-exact : goal.returns-clause-exact
returns-clause-exact c =
    space_reached (AreModest c.args.values.now) c.args.loops.now (given c.args.values.now) c.fill_reached.new.turns c.new.result (c.fill_reached.ensures.found c.if-not-fill_reached.false) c.new.ensures

pub returns-clause-iterations : goal.returns-clause-iterations
returns-clause-iterations c =
    iterations_reached c.args.loops.now (given c.args.values.now) c.fill_reached.new.turns c.new.result (c.fill_reached.ensures.found c.if-not-fill_reached.false) c.new.ensures

pub returns-clause-loops : goal.returns-clause-loops
returns-clause-loops c =
    loops_reached c.args.loops.now (given c.args.values.now) c.fill_reached.new.turns c.new.result (c.fill_reached.ensures.found c.if-not-fill_reached.false) c.new.ensures
