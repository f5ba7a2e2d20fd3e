use Rattle.std.proofs.Common.{[], Some, refl}
use Rattle.ctoken.proofs.check.misplaced_include.Goals as goal

pub loop-token-init : goal.loop-token-init
loop-token-init c = (Some [], (refl, refl, refl), refl)
