use Rattle.std.specs.Prelude.{MatchOption}
use Rattle.std.proofs.Common.{subst}
use Rattle.ctoken.specs.Meant.{AreTokensOf, HasNoTokens}
use Rattle.cparse.proofs.ParseLaw.{any_stop, no_tokens}
use Rattle.cparse.proofs.parsing.parse.Goals as goal

pub returns-clause-err : goal.returns-clause-err
returns-clause-err c =
    c.refusal_by_stop.ensures c.args.text.now (any_stop c.args.text.now c.first_stop.result (no_tokens c.args.text.now
    (subst (λ fault. MatchOption fault (AreTokensOf c.args.text.now c.in_ok-tokens.field-0.tokens) (λ place. HasNoTokens c.args.text.now)) c.in-Some.is c.in_ok-tokens.ensures.cut)))
