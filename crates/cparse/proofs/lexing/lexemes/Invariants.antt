use Rattle.std.proofs.Common.{take}
use Rattle.cparse.specs.LexedTokens.{AreLexed}
use Rattle.cparse.proofs.lexing.lexemes.Given as goal

-- those so far
abbrev pub invariant-loop-token : goal.invariant-loop-token
invariant-loop-token l = AreLexed l.text (take l.token-index l.tokens) l.lexemes.items
