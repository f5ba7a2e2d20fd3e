use Rattle.cparse.proofs.Leaving.{opening_takes}
use Rattle.cparse.proofs.opening.kernel_opening.Goals as goal

pub returns-clause-fewer : goal.returns-clause-fewer
returns-clause-fewer c = opening_takes (λ rest. rest.now) c.punctuator-3.result c.args.tokens.now c.in_ok-named.named.now c.in_ok-opened.opened.now c.in_ok-inner.inner.now c.in_ok-behind.behind.now c.in_ok-closed.closed.now c.in_ok-named.ensures c.in_ok-opened.ensures c.in_ok-inner.ensures c.in_ok-behind.ensures c.in_ok-closed.ensures c.punctuator-3.ensures
