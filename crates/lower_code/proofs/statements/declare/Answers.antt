use Rattle.std.proofs.Common.{refl, sym, subst}
use Rattle.ktree.specs.View.{source_of, start_of}
use Rattle.lower_machine.specs.declared.term.Code.{Nothing, Set}
use Rattle.lower_code.specs.Meaning.{MeansDeclared}
use Rattle.lower_code.proofs.Whole.{declaration_means, empty_means}
use Rattle.lower_code.proofs.statements.declare.Goals as goal

pub returns-in_ok-term-in-Some : goal.returns-in_ok-term-in-Some
returns-in_ok-term-in-Some c =
    let code = Set (record { at = c.args.variable.0 }) c.in_ok-term-in-Some.term in
    subst (λ o. MeansDeclared c.args.layout.now c.args.variable.0 (start_of o) code) (sym c.in-Some.is)
    (declaration_means c.args.layout.now c.args.variable.0 (source_of c.in-Some.source) c.in_ok-term-in-Some.term code c.in_ok-term-in-Some.ensures (λ r. refl))

pub returns-in-None : goal.returns-in-None
returns-in-None c =
    subst (λ o. MeansDeclared c.args.layout.now c.args.variable.0 (start_of o) Nothing) (sym c.in-None.is)
    (empty_means c.args.layout.now c.args.variable.0 Nothing (λ r. refl))
