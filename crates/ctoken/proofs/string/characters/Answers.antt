use Rattle.std.proofs.Common.{ap, take}
use Rattle.ctoken.proofs.StringLaw.{spelled-literal}
use Rattle.ctoken.proofs.string.characters.Goals as goal

pub returns : goal.returns
returns c =
    spelled-literal c.args.literal.now c.in-Some._quote.now c.in-Some.bytes.now c.loop-byte.characters.items _ c.loop-byte.byte-index c.loop-byte.escaped c.in-Some.ensures.cases.0 (ap (λ n. take n c.in-Some.bytes.now) c.saturating_sub.ensures) c.loop-byte-test.false c.loop-byte.invariant
