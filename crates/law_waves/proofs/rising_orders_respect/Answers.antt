use Rattle.law_waves.proofs.Rising.{respect as the_law}
use Rattle.law_waves.proofs.rising_orders_respect.Goals as goal

pub returns : goal.returns
returns c = the_law
