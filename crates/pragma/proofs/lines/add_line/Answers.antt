use Rattle.std.specs.Prelude.{MatchOption}
use Rattle.std.proofs.Common.{inl, refl, subst}
use Rattle.pragma.specs.declared.reading.Reading.TheVariants.{Malformed}
use Rattle.pragma.specs.Reading.{IsReading}
use Rattle.pragma.proofs.lines.add_line.Goals as goal

pub returns-in_default-clause-ok : goal.returns-in_default-clause-ok
returns-in_default-clause-ok c =
    let line = c.args.line.now in
    inl (subst (λ o. MatchOption o (IsReading line Malformed) (IsReading line)) c.in_default.is c.in_ok-reading.ensures.ok, refl)
