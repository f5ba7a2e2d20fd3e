use Rattle.std.proofs.Common.{subst, sym}
use Rattle.ctoken.specs.Meant.{AreTokensOf}
use Rattle.ctoken.proofs.CheckLaw.{scanned_ok, scanned_err}
use Rattle.ctoken.proofs.scanning.scan.Goals as goal

pub returns-in-None-clause-cut : goal.returns-in-None-clause-cut
returns-in-None-clause-cut c =
    let cut = c.in_ok-tokens.field-0 in
    subst (AreTokensOf c.args.text.now) (sym c.new.ensures)
    (scanned_ok c.args.text.now cut.tokens.items c.as_slice.result.now cut.fault c.first_failure.result c.earlier.result c.in_ok-tokens.ensures.cut c.as_slice.ensures.value c.first_failure.ensures c.earlier.ensures c.in-None.is)

pub returns-in-Some-clause-cut : goal.returns-in-Some-clause-cut
returns-in-Some-clause-cut c =
    let cut = c.in_ok-tokens.field-0 in
    scanned_err c.args.text.now cut.tokens.items c.as_slice.result.now cut.fault c.first_failure.result c.earlier.result c.in-Some.at c.in_ok-tokens.ensures.cut c.as_slice.ensures.value c.first_failure.ensures c.earlier.ensures c.in-Some.is
