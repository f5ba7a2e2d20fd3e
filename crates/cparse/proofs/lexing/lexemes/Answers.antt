use Rattle.std.proofs.Common.{subst}
use Rattle.cparse.specs.LexedTokens.{AreLexed}
use Rattle.cparse.proofs.WithBytes.{front_all, lexed_next}
use Rattle.cparse.proofs.lexing.lexemes.Goals as goal

pub loop-token-preserved : goal.loop-token-preserved
loop-token-preserved c =
    lexed_next c.args.text.now c.args.tokens.now c.loop-token.token-index c.loop-token.lexemes.items _ c.lexeme.result c.loop-token-test.true c.loop-token.invariant c.lexeme.ensures c.in_ok-push.ensures.items

pub returns : goal.returns
returns c = subst (λ xs. AreLexed c.args.text.now xs c.loop-token.lexemes.items) (front_all c.args.tokens.now c.loop-token.token-index c.loop-token-test.false) c.loop-token.invariant
