use Rattle.std.proofs.Common.{inl}
use Rattle.pairtest_cover.proofs.cover.are_ordered.Goals as goal

pub returns-then-apart-clause-ok : goal.returns-then-apart-clause-ok
returns-then-apart-clause-ok c = (λ t. inl (c.in_ok-apart.ensures.ok.0 t), λ h. c.if-apart.true)
