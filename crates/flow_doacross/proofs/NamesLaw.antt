-- Items of which more than one may be a loop.
use Rattle.std.specs.Prelude.{◌≡◌, ◌≤◌, List, [], ◌∷◌, length}
use Rattle.std.proofs.Common.{refl, arith}
use Rattle.ktree.specs.View.{items_of}
use Rattle.ktree.specs.declared.statement.Item.{Item, Directive, Local, Statement'}
use Rattle.flow_doacross.specs.Bodies.{only_names}

pub two_items : (is : List Item) → 2 ≤ length is → only_names (items_of is) ≡ []
two_items [] h = absurd (omega arith)
two_items (i ∷ []) h = absurd (omega arith)
two_items (Directive place ∷ j ∷ is) h = refl
two_items (Local l ∷ j ∷ is) h = refl
two_items (Statement' p s ∷ Directive place ∷ is) h = refl
two_items (Statement' p s ∷ Local l ∷ is) h = refl
two_items (Statement' p s ∷ Statement' q t ∷ is) h = refl
