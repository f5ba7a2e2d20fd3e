-- Items in front of others, cut at a `scan` line.
use Rattle.std.specs.Prelude.{ℕ, ◌+◌, ◌<◌, ◌≡◌, List, [], ◌∷◌, ◌++◌, length, get_or, take, drop, Option, Some, None, option_map}
use Rattle.std.proofs.Common.{refl, sym, ap, ◌∙◌}
use Rattle.std.proofs.lemmas.List.{take_more}
use Rattle.semantics.specs.Tree.{Items, no_items}
use Rattle.ktree.specs.View.{with_item, items_of}
use Rattle.ktree.specs.declared.statement.Item.{Item}
use Rattle.ktree.proofs.Trees.{next_item}
use Rattle.flow_scan.specs.Lines.{ScanSaid}
use Rattle.flow_scan.specs.Parts.{Parts, behind_item, cut_here, cut}

-- these items in front of others
abbrev pub with_items : List Item → Items → Items
with_items [] rest = rest
with_items (i ∷ is) rest = with_item i (with_items is rest)

all_items : (is : List Item) → with_items is no_items ≡ items_of is
all_items [] = refl
all_items (i ∷ is) = ap (with_item i) (all_items is)

one_more : (is : List Item) (i : Item) (rest : Items) → with_items (is ++ i ∷ []) rest ≡ with_items is (with_item i rest)
one_more [] i rest = refl
one_more (j ∷ is) i rest = ap (with_item j) (one_more is i rest)

-- parts with some items in front
abbrev pub behind : List Item → Option Parts → Option Parts
behind is o = option_map (behind_item (with_items is)) o

behind_more : (is : List Item) (i : Item) (o : Option Parts) → behind (is ++ i ∷ []) o ≡ behind is (option_map (behind_item (with_item i)) o)
behind_more is i None = refl
behind_more is i (Some p) = ap (λ front. Some (record { said = p.said; front = front; back = p.back })) (one_more is i p.front)

-- what an item says
abbrev pub Says : List ℕ → Item → Option ScanSaid → Type 0
Says text item said = (rest : Items) → cut text (with_item item rest) ≡ cut_here said rest (option_map (behind_item (with_item item)) (cut text rest))

module _ (text : List ℕ) (xs : List Item) (i : ℕ) (item : Item) (all : Option Parts) (lt : i < length xs) (is : item ≡ get_or xs i item) where
  left : items_of (drop i xs) ≡ with_item item (items_of (drop (i + 1) xs))
  left = next_item xs i item lt is

  passed : take (i + 1) xs ≡ take i xs ++ item ∷ []
  passed = take_more xs i item lt ∙ ap (λ x. take i xs ++ x ∷ []) (sym is)

  -- it is no `scan` line
  pub cut_more : Says text item None → behind (take i xs) (cut text (items_of (drop i xs))) ≡ all → behind (take (i + 1) xs) (cut text (items_of (drop (i + 1) xs))) ≡ all
  cut_more says was =
      let rest = items_of (drop (i + 1) xs) in
      ap (λ ys. behind ys (cut text rest)) passed ∙ behind_more (take i xs) item (cut text rest) ∙ sym (ap (behind (take i xs)) (ap (cut text) left ∙ says rest)) ∙ was

  -- it is one
  pub cut_found : (said : ScanSaid) (fs bs : List Item) → fs ≡ take i xs → bs ≡ drop (i + 1) xs → Says text item (Some said)
      → behind (take i xs) (cut text (items_of (drop i xs))) ≡ all → Some (record { said = said; front = items_of fs; back = items_of bs }) ≡ all
  cut_found said fs bs p q says was =
      let rest = items_of (drop (i + 1) xs) in
      ap (λ ys. Some (record { said = said; front = items_of ys; back = items_of bs })) p ∙ ap (λ ys. Some (record { said = said; front = items_of (take i xs); back = items_of ys })) q
      ∙ ap (λ front. Some (record { said = said; front = front; back = rest })) (sym (all_items (take i xs))) ∙ sym (ap (behind (take i xs)) (ap (cut text) left ∙ says rest)) ∙ was
