-- What is forgotten of the private locals of directive lines, one after another.
use Rattle.std.specs.Prelude.{ℕ, Bool, false, ◌≡◌, ◌+◌, ◌<◌, suc, List, [], ◌∷◌, ◌++◌, map, filter, flat_map, length, get_or, drop}
use Rattle.std.proofs.Common.{refl, sym, ap, ◌∙◌, drop-cons, add-one}
use Rattle.std.proofs.lemmas.List.{append-nil}
use Rattle.std.proofs.lemmas.List.Elements.{filter-append}
use Rattle.semantics.specs.Tree.{Variable, Items, no_items}
use Rattle.semantics.specs.Directives.Clauses.{private_of}
use Rattle.semantics.specs.Meaning.Definite.{DefinitelyAssigned, Privates, known_with, without, privates_in, privates_among}
use Rattle.ktree.specs.declared.directive.Clause.{Clause}
use Rattle.ktree.specs.declared.statement.Item.{Item, Directive, Local, Statement'}
use Rattle.ktree.specs.View.{stmt_of, items_of, with_item}
use Rattle.pragma_named.specs.declared.named.Named.{Named}
use Rattle.pragma_named.specs.Views.{resolved_clause}

pub without_append : (k : DefinitelyAssigned) (xs ys : List Variable) → without k (xs ++ ys) ≡ without (without k xs) ys
without_append k [] ys = refl
without_append k (x ∷ xs) ys = without_append (known_with k x false) xs ys

-- the element of a place and those behind it
pub from_here : {A : Type 0} (xs : List A) (i : ℕ) (x : A) → i < length xs → x ≡ get_or xs i x → drop i xs ≡ x ∷ drop (i + 1) xs
from_here xs i x lt at = rw add-one (drop-cons xs i x lt ∙ ap (λ y. y ∷ drop (suc i) xs) (sym at))

module _ (f : Variable → Bool) (k : DefinitelyAssigned) where
  -- a clause, and those behind it
  pub clause_left : (clauses : List (Clause Named)) (i : ℕ) (c : Clause Named) → i < length clauses → c ≡ get_or clauses i c
      → without k (filter f (flat_map private_of (map resolved_clause (drop i clauses))))
      ≡ without (without k (filter f (private_of (resolved_clause c)))) (filter f (flat_map private_of (map resolved_clause (drop (i + 1) clauses))))
  clause_left clauses i c lt at =
      ap (λ cs. without k (filter f (flat_map private_of (map resolved_clause cs)))) (from_here clauses i c lt at)
      ∙ ap (without k) (filter-append f (private_of (resolved_clause c)) (flat_map private_of (map resolved_clause (drop (i + 1) clauses))))
      ∙ without_append k (filter f (private_of (resolved_clause c))) (filter f (flat_map private_of (map resolved_clause (drop (i + 1) clauses))))

module _ (P : Privates) where
  item_privates : (e : Item) (rest : Items) → privates_among P (with_item e rest) ≡ privates_among P (with_item e no_items) ++ privates_among P rest
  item_privates (Directive place) rest = ap (λ xs. xs ++ privates_among P rest) (sym (append-nil (P place.line)))
  item_privates (Local l) rest = refl
  item_privates (Statement' p a) rest = ap (λ xs. xs ++ privates_among P rest) (sym (append-nil (privates_in P (stmt_of a))))

  -- an item, and those behind it
  pub item_left : (k : DefinitelyAssigned) (items : List Item) (i : ℕ) (e : Item) → i < length items → e ≡ get_or items i e
      → without k (privates_among P (items_of (drop i items))) ≡ without (without k (privates_among P (with_item e no_items))) (privates_among P (items_of (drop (i + 1) items)))
  item_left k items i e lt at =
      ap (λ es. without k (privates_among P (items_of es))) (from_here items i e lt at)
      ∙ ap (without k) (item_privates e (items_of (drop (i + 1) items)))
      ∙ without_append k (privates_among P (with_item e no_items)) (privates_among P (items_of (drop (i + 1) items)))
