use Rattle.std.proofs.Common.{◌∷◌, sym, subst, List}
use Rattle.nest_loop.specs.declared.head.Canonical.{Canonical}
use Rattle.nest_space.specs.Nests.{given, AreRunsOf}
use Rattle.nest_space.proofs.nests.+fill.Goals as goal

pub returns-clause-found : goal.returns-clause-found
returns-clause-found t c = λ filled.
    subst (λ (ls : List Canonical). AreRunsOf ls (given c.args.values.now) (c.in-Some-run_of.run' ∷ c.fill.new.turns)) (sym c.in-Some.ensures.cases.0)
    (c.in-Some-run_of.ensures, c.fill.ensures.found filled)
