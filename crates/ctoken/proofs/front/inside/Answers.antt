use Rattle.std.proofs.Common.{take, sym, ◌∙◌, ◌∷◌}
use Rattle.semantics.specs.Source.Token as meant
use Rattle.ctoken.proofs.SignLaw.{inside-letter}
use Rattle.ctoken.proofs.front.inside.Goals as goal

pub returns-then-is_letter : goal.returns-then-is_letter
returns-then-is_letter c =
    (meant.Word (c.in-Some.first.now ∷ take c.run.result c.in-Some.rest.now), inside-letter c.args.text.now c.in-Some.first.now c.in-Some.rest.now c.run.result c.in-Some.ensures.cases.0 (sym c.is_letter.ensures ∙ c.if-is_letter.true) c.run.ensures.exact, tt)
