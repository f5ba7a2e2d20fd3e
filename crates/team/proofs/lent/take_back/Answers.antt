use Rattle.std.proofs.Common.{◌≤◌, refl, subst, sym, ◌∙◌}
use Rattle.team.proofs.lent.take_back.Goals as goal

pub returns-clause-left : goal.returns-clause-left
returns-clause-left c =
    let lent = c.args.lent in
    record {
      way_is = refl;
      comes = lent.comes;
      some = subst (λ n. 1 ≤ n) c.get-count.ensures.value c.get-count.ensures.least;
      all = sym lent.places.ok.0 ∙ lent.all;
      made = lent.made;
    }
