use Rattle.std.proofs.Common.{◌∙◌, refl, sym, ap, arith, length, is_none, option_map}
use Rattle.semantics.specs.Source.Token as meant
use Rattle.ctoken.specs.Meant.{number_of}
use Rattle.ctoken.proofs.FrontLaw.{blanks_and_rest}
use Rattle.ctoken.proofs.LineLaw.{hash_line-directive, hash_line-stray, hash_line-header}
use Rattle.ctoken.proofs.line.hash_line.Goals as goal

pub returns-in-None : goal.returns-in-None
returns-in-None c =
    λ n. (meant.Line n, hash_line-directive n c.args.line.now _ _ c.skip_blanks-body.ensures c.run-blanks.ensures.exact (sym c.is_directive_line.ensures ∙ c.if-is_directive_line.true) (sym c.stray.ensures.none ∙ ap is_none c.in-None.is), tt)

pub returns-in-Some : goal.returns-in-Some
returns-in-Some c =
    λ n. (
      omega (arith, blanks_and_rest c.args.line.now, ap length c.skip_blanks-body.ensures, c.run-blanks.ensures.exact, c.in-Some.ensures.within),
      hash_line-stray n c.args.line.now _ c.skip_blanks-body.ensures (sym c.is_directive_line.ensures ∙ c.if-is_directive_line.true) (sym c.stray.ensures.none ∙ ap is_none c.in-Some.is),
    )

pub returns-in-Some-header_of : goal.returns-in-Some-header_of
returns-in-Some-header_of c =
    λ n. (meant.Header (number_of c.in-Some-header_of.header), hash_line-header n c.args.line.now _ _ _ c.skip_blanks-body.ensures c.run-blanks.ensures.exact (sym c.is_directive_line.ensures ∙ c.if-is_directive_line.false) (sym c.header_of.ensures ∙ ap (option_map number_of) c.in-Some-header_of.is), refl)
