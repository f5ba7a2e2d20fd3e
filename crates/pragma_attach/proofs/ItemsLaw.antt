-- Items that are judged one after another.
use Rattle.std.specs.Prelude.{ℕ, ◌+◌, Bool, true, false, ◌≡◌, ◌<◌, ◌≤◌, List, [], ◌∷◌, length, get_or, drop}
use Rattle.std.proofs.Common.{refl, sym, ap, ◌∙◌, arith}
use Rattle.semantics.specs.Tree
use Rattle.semantics.specs.Directives.Placed.{holds_items}
use Rattle.ktree.specs.View.{items_of, with_item}
use Rattle.ktree.specs.declared.statement.Item.{Item, Directive, Local, Statement'}
use Rattle.ktree.proofs.Trees.{next_item}

module _ {S : Type 0} (judge : S → Tree.Items → Bool) (is : List Item) (i : ℕ) (e : Item) (within : i < length is) (here : e ≡ get_or is i e) (whole : Bool) where
  -- one more
  pub one_more : (s t : S) → judge s (items_of (drop i is)) ≡ whole → ((rest : Tree.Items) → judge s (with_item e rest) ≡ judge t rest) → judge t (items_of (drop (i + 1) is)) ≡ whole
  one_more s t left step = sym (step (items_of (drop (i + 1) is))) ∙ sym (ap (judge s) (next_item is i e within here)) ∙ left

  -- one that is wrong
  pub one_wrong : (s : S) → judge s (items_of (drop i is)) ≡ whole → ((rest : Tree.Items) → judge s (with_item e rest) ≡ false) → false ≡ whole
  one_wrong s left step = sym (step (items_of (drop (i + 1) is))) ∙ sym (ap (judge s) (next_item is i e within here)) ∙ left

-- items that are not none
pub some_held : (is : List Item) → 1 ≤ length is → holds_items (items_of is) ≡ true
some_held [] h = absurd (omega (arith, h))
some_held (Directive place ∷ is) h = refl
some_held (Local l ∷ is) h = refl
some_held (Statement' p s ∷ is) h = refl
