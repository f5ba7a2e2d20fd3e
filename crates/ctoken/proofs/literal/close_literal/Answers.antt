use Rattle.std.proofs.Common.{◌+◌, ◌∙◌, Some, refl, sym, ap, length}
use Rattle.std.proofs.lemmas.Bool.{cond-true}
use Rattle.semantics.specs.Source.Token as meant
use Rattle.semantics.specs.Source.Cuts.{decimal_from}
use Rattle.ktree.specs.View.{suffix_of}
use Rattle.ctoken.specs.Front.{Took}
use Rattle.ctoken.proofs.literal.close_literal.Goals as goal

pub returns-then-may_end : goal.returns-then-may_end
returns-then-may_end c =
    let digits = c.args.digits.now in
    let token = meant.IntegerConstant (decimal_from 0 digits) (suffix_of c.args.suffix) in (
      token,
      cond-true _ _ _ (sym c.may_end.ensures ∙ c.if-may_end.true) ∙ ap (λ m. Some (Took 0 (length digits + m) token)) (sym c.suffix_length.ensures),
      (c.value.ensures, refl),
    )
