-- Numbers below a mark.
use Rattle.std.proofs.Common.{◌≡◌, ℕ, ◌+◌, ◌<◌, ◌≤◌, List, [], ◌∷◌, ◌++◌, length, get_or, drop, append-nil, sym, subst, arith, ap, refl, ◌∙◌}
use Rattle.std.specs.Prelude.{Bool, true, false, ◌&&◌, nat_le}
use Rattle.std.proofs.lemmas.Bool.{leb-true}
use Rattle.std.proofs.lemmas.List.{drop_all}
use Rattle.std.proofs.lemmas.List.Folds.{list_all-append}
use Rattle.semantics.proofs.EraseTokenLaw.{first_of, second_of}
use Rattle.semantics.specs.Tree
use Rattle.semantics.specs.Meaning.Agrees.{declared_in, declared_among}
use Rattle.ktree.specs.View.{stmt_of, items_of, with_item}
use Rattle.ktree.specs.declared.statement.Item.{Item, Directive, Local, Statement'}
use Rattle.ktree.proofs.Trees.{next_item}
use Rattle.lower_code.specs.declared.laid.Laid.{Laid}
use Rattle.lower_code.specs.Meaning.{AreBelow, all_behind, AreBehind, AreLocals}

pub below_more : (m n : ℕ) (xs : List ℕ) → m ≤ n → AreBelow m xs → AreBelow n xs
below_more m n [] le all = tt
below_more m n (x ∷ xs) le (here, all) = (omega arith, below_more m n xs le all)

pub below_both : (n : ℕ) (xs ys : List ℕ) → AreBelow n xs → AreBelow n ys → AreBelow n (xs ++ ys)
below_both n [] ys a b = b
below_both n (x ∷ xs) ys (here, all) b = (here, below_both n xs ys all b)

below_front : (n : ℕ) (xs ys : List ℕ) → AreBelow n (xs ++ ys) → AreBelow n xs
below_front n [] ys all = tt
below_front n (x ∷ xs) ys (here, all) = (here, below_front n xs ys all)

pub statement_below : (n : ℕ) (a : Tree.Stmt) → AreBelow n (declared_in a) → AreBelow n (declared_among (Tree.stmt a Tree.no_items))
statement_below n a all = subst (AreBelow n) (sym (append-nil (declared_in a))) all

item_below : (n : ℕ) (e : Item) (rest : Tree.Items) → AreBelow n (declared_among (with_item e Tree.no_items)) → AreBelow n (declared_among rest) → AreBelow n (declared_among (with_item e rest))
item_below n (Directive place) rest a b = b
item_below n (Local l) rest (here, a) b = (here, b)
item_below n (Statement' p s) rest a b = below_both n (declared_in (stmt_of s)) (declared_among rest) (below_front n (declared_in (stmt_of s)) [] a) b

-- what is below for the items that are left is so for all of them
abbrev pub Marked : List Item → ℕ → ℕ → Type 0
Marked items i mark = (n : ℕ) → mark ≤ n → AreBelow n (declared_among (items_of (drop i items))) → AreBelow n (declared_among (items_of items))

pub marked_on : (items : List Item) (i mark here next : ℕ) (e : Item) → i < length items → e ≡ get_or items i e → Marked items i mark → AreBelow here (declared_among (with_item e Tree.no_items)) → mark ≤ next → here ≤ next → Marked items (i + 1) next
marked_on items i mark here next e lt is so_far below le le' n up all =
    so_far n (omega arith) (subst (λ xs. AreBelow n (declared_among xs)) (sym (next_item items i e lt is)) (item_below n e (items_of (drop (i + 1) items)) (below_more here n _ (omega arith) below) all))

pub marked_over : (items : List Item) (i mark : ℕ) → length items ≤ i → Marked items i mark → AreBelow mark (declared_among (items_of items))
marked_over items i mark le so_far = so_far mark (omega arith) (subst (λ xs. AreBelow mark (declared_among (items_of xs))) (sym (drop_all i items le)) tt)

-- both ends
pub locals_between : (layout : List Laid) (n mark : ℕ) (xs : List ℕ) → length layout ≡ n → AreBehind n xs → AreBelow mark xs → AreLocals layout mark xs
locals_between layout n mark [] e a b = tt
locals_between layout n mark (x ∷ xs) e a (there, b) =
    let here : n ≤ x = leb-true n x (first_of (nat_le n x) (all_behind n xs) a) in
    ((omega arith, there), locals_between layout n mark xs e (second_of (nat_le n x) (all_behind n xs) a) b)

-- of two lists
pub behind_both : (n : ℕ) (xs ys : List ℕ) → (all_behind n xs && all_behind n ys) ≡ all_behind n (xs ++ ys)
behind_both n xs ys = sym (list_all-append (λ x. nat_le n x) xs ys)
