use Rattle.std.proofs.Common.{ap, subst}
use Rattle.std.specs.Prelude.{is_some}
use Rattle.cparse_cursor.specs.Names.{IsTied}
use Rattle.cparse_cursor.proofs.NameLemmas.{last_stands, tied_less}
use Rattle.cparse_cursor.proofs.scope.forget_last.Goals as goal

pub put_back-requires : goal.put_back-requires
put_back-requires c =
    ap is_some (last_stands c.scope.inside.latest c.pop.new.self.items c.in-Some.field-0 (subst (IsTied c.scope.inside.latest) c.in-Some.ensures.items c.scope.invariant))

pub invariant_of-scope : goal.invariant_of-scope
invariant_of-scope c =
    tied_less c.scope.inside.latest c.put_back.new.latest c.pop.new.self.items c.in-Some.field-0 (subst (IsTied c.scope.inside.latest) c.in-Some.ensures.items c.scope.invariant) c.put_back.ensures
