use Rattle.cparse.proofs.ParseLaw.{one_tree_each}
use Rattle.cparse.proofs.law.trees_are_unique.Goals as goal

pub returns : goal.returns
returns c = λ text a b r q. one_tree_each text a b r q
