-- The items of an outline, one after another.
use Rattle.std.proofs.Common.{◌≡◌, ℕ, suc, ◌+◌, ◌<◌, List, ◌∷◌, length, get_or, drop, add-one, drop-cons, sym, ap, ◌∙◌}
use Rattle.semantics.specs.Meaning.State.{State}
use Rattle.semantics.specs.Meaning.Runs.{then_from}
use Rattle.semantics.specs.Loops.Nest.{Loop}
use Rattle.flow.specs.Roles.{LineData}
use Rattle.outline.specs.declared.shape.OutlineItem.{OutlineItem}
use Rattle.outline.specs.View.{item_performed, items_performed}

here : (is : List OutlineItem) (i : ℕ) (e : OutlineItem) → i < length is → e ≡ get_or is i e → drop i is ≡ e ∷ drop (i + 1) is
here is i e lt p = rw add-one (drop-cons is i e lt ∙ ap (λ x. x ∷ drop (suc i) is) (sym p))

-- what is left begins with its next item
pub next_on : (is : List OutlineItem) (i : ℕ) (e : OutlineItem) → i < length is → e ≡ get_or is i e → (R : LineData) (serial : List Loop) (s : State)
    → items_performed R serial (drop i is) s ≡ then_from s (item_performed R serial e s) (items_performed R serial (drop (i + 1) is))
next_on is i e lt p R serial s = ap (λ xs. items_performed R serial xs s) (here is i e lt p)
